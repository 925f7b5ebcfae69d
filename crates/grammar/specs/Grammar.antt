-- What a line of shader text says: a label or none, an instruction or none.
use Rattle.std.specs.Prelude.{◌≡◌, ℕ, ◌+◌, ◌-◌, ◌*◌, ◌<◌, ◌≤◌, true, List, [], ◌∷◌, length, Some, None, decimal, Option, MatchOption, ◌≢◌}
use Rattle.std.specs.List.{AllByRecursion}
use Rattle.std.specs.Str.{all_ascii_digits}
use Rattle.grammar.specs.declared.token.Rest.{Rest}
use Rattle.grammar.specs.declared.token.Token.{Token}
use Rattle.grammar.specs.declared.operand.Operand.{Operand}
use Rattle.grammar.specs.declared.operand.Operand.TheVariants.{Register, Number, Label}
use Rattle.grammar.specs.declared.operand.Operands.{Operands}
use Rattle.grammar.specs.declared.operand.Operands.TheVariants.{Zero, One, Two, Three}
use Rattle.grammar.specs.Tokens.{Tok, name, number, register, comma, seen, Next, Ends, Spelled}

-- the number that decimal digits write behind those of n
abbrev pub read_on : ℕ → List ℕ → ℕ
read_on n [] = n
read_on n (c ∷ cs) = read_on (n * 10 + (c - 48)) cs

-- what the digits write behind those of n, or none where it passes 65535
abbrev pub ReadsOn : ℕ → List ℕ → Option ℕ → Type 0
ReadsOn n ds r = MatchOption r (all_ascii_digits ds ≡ true → 65535 < read_on n ds) (λ v. (all_ascii_digits ds ≡ true) × (v ≡ read_on n ds) × (v ≤ 65535))

-- the digits are those of v, with no needless zero in front
abbrev pub NumberUpTo : ℕ → List ℕ → ℕ → Type 0
NumberUpTo most ds v = (v ≤ most) × (ds ≡ decimal v)

abbrev pub NotNumber : ℕ → List ℕ → Type 0
NotNumber most ds = (v : ℕ) → v ≤ most → ds ≢ decimal v

-- an operand: a register, a number or a label
pub data Opd : Type 0 where
  reg : ℕ → Opd
  num : ℕ → Opd
  lab : List ℕ → Opd

abbrev pub opd : Operand → Opd
opd (Register v) = reg v
opd (Number v) = num v
opd (Label n) = lab n.now

abbrev pub opds : Operands → List Opd
opds Zero = []
opds (One a) = opd a ∷ []
opds (Two a b) = opd a ∷ opd b ∷ []
opds (Three a b c) = opd a ∷ opd b ∷ opd c ∷ []

-- registers go to 31, numbers to 65535
abbrev pub InRange : Opd → Type 0
InRange (reg v) = v ≤ 31
InRange (num v) = v ≤ 65535
InRange (lab n) = Unit {0}

-- the token that writes an operand
abbrev pub token : Opd → Tok
token (reg v) = register (36 ∷ decimal v)
token (num v) = number (decimal v)
token (lab n) = name n

-- operands behind the first one, each with its comma
abbrev pub tailed : List Opd → List Tok
tailed [] = []
tailed (o ∷ os) = comma ∷ token o ∷ tailed os

-- operands are parted by commas
abbrev pub listed : List Opd → List Tok
listed [] = []
listed (o ∷ os) = token o ∷ tailed os

-- the operand of a token, or none
abbrev pub OperandOf : Token → Option Operand → Type 0
OperandOf t r = MatchOption r ((o : Opd) → InRange o → seen t ≢ Some (token o)) (λ x. InRange (opd x) × (seen t ≡ Some (token (opd x))))

-- an operand behind a comma with what follows it, the end of the line, or neither
abbrev pub MoreOf : List ℕ → Option (Option (Operand × Rest)) → Type 0
MoreOf bs None = (os : List Opd) → AllByRecursion InRange os → Spelled bs (tailed os) → ⊥
MoreOf bs (Some None) = Ends bs
MoreOf bs (Some (Some x)) = InRange (opd x.0) × ((mid : List ℕ) × Next bs comma mid × Next mid (token (opd x.0)) x.1.bytes.now)

-- the operands of the rest of a line, at most three, or none
abbrev pub OperandsOf : List ℕ → Option Operands → Type 0
OperandsOf bs r = MatchOption r ((os : List Opd) → length os ≤ 3 → AllByRecursion InRange os → Spelled bs (listed os) → ⊥) (λ x. AllByRecursion InRange (opds x) × Spelled bs (listed (opds x)))

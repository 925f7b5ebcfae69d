-- The instructions: how each is named, and what its operands are.
use Rattle.std.specs.Prelude.{◌≡◌, ℕ, ◌≤◌, List, [], ◌∷◌, codes, Option, MatchOption, ◌≢◌}
use Rattle.std.specs.List.{AllByRecursion}
use Rattle.operations.specs.declared.Binary.{Binary}
use Rattle.operations.specs.declared.Binary.TheVariants.{Add, Sub, Mul, Div}
use Rattle.operations.specs.declared.Unary.{Unary}
use Rattle.operations.specs.declared.Unary.TheVariants.{Floor, Abs, Sqrt}
use Rattle.grammar.specs.declared.instruction.Mnemonic.{Mnemonic}
use Rattle.grammar.specs.declared.instruction.Mnemonic.TheVariants as mnemonic
use Rattle.grammar.specs.declared.instruction.Instruction.{Instruction}
use Rattle.grammar.specs.declared.instruction.Instruction.TheVariants as instruction
use Rattle.grammar.specs.Tokens.{Spelled}
use Rattle.grammar.specs.Grammar.{Opd, reg, num, lab, opd, InRange, listed}

-- the name of an instruction
abbrev pub spelling : Mnemonic → List ℕ
spelling (mnemonic.Binary Add) = codes "add"
spelling (mnemonic.Binary Sub) = codes "sub"
spelling (mnemonic.Binary Mul) = codes "mul"
spelling (mnemonic.Binary Div) = codes "div"
spelling (mnemonic.Unary Floor) = codes "floor"
spelling (mnemonic.Unary Abs) = codes "abs"
spelling (mnemonic.Unary Sqrt) = codes "sqrt"
spelling mnemonic.Cmov = codes "cmov"
spelling mnemonic.Bltz = codes "bltz"
spelling mnemonic.Setx = codes "setx"
spelling mnemonic.Loop = codes "loop"
spelling mnemonic.Done = codes "done"
spelling mnemonic.Nop = codes "nop"

abbrev pub NamedBy : List ℕ → Option Mnemonic → Type 0
NamedBy n r = MatchOption r ((m : Mnemonic) → n ≢ spelling m) (λ m. n ≡ spelling m)

-- an instruction with its operands, the destination first
pub data Ins : Type 0 where
  binary : Binary → Opd → Opd → Opd → Ins
  unary : Unary → Opd → Opd → Ins
  cmov : Opd → Opd → Opd → Ins
  bltz : Opd → Opd → Ins
  setx : Opd → Ins
  loop : Opd → Ins
  done : Ins
  nop : Ins

abbrev pub ins : Instruction → Ins
ins (instruction.Binary op d a b) = binary op (opd d) (opd a) (opd b)
ins (instruction.Unary op d a) = unary op (opd d) (opd a)
ins (instruction.Cmov d a b) = cmov (opd d) (opd a) (opd b)
ins (instruction.Bltz a t) = bltz (opd a) (opd t)
ins (instruction.Setx v) = setx (opd v)
ins (instruction.Loop t) = loop (opd t)
ins instruction.Done = done
ins instruction.Nop = nop

abbrev pub mnemonic_of : Ins → Mnemonic
mnemonic_of (binary op d a b) = mnemonic.Binary op
mnemonic_of (unary op d a) = mnemonic.Unary op
mnemonic_of (cmov d a b) = mnemonic.Cmov
mnemonic_of (bltz a t) = mnemonic.Bltz
mnemonic_of (setx v) = mnemonic.Setx
mnemonic_of (loop t) = mnemonic.Loop
mnemonic_of done = mnemonic.Done
mnemonic_of nop = mnemonic.Nop

abbrev pub operands_of : Ins → List Opd
operands_of (binary op d a b) = d ∷ a ∷ b ∷ []
operands_of (unary op d a) = d ∷ a ∷ []
operands_of (cmov d a b) = d ∷ a ∷ b ∷ []
operands_of (bltz a t) = a ∷ t ∷ []
operands_of (setx v) = v ∷ []
operands_of (loop t) = t ∷ []
operands_of done = []
operands_of nop = []

-- a destination is $16 to $31
abbrev pub Destination : Opd → Type 0
Destination (reg v) = 16 ≤ v
Destination (num v) = ⊥
Destination (lab n) = ⊥

abbrev pub Source : Opd → Type 0
Source (reg v) = Unit {0}
Source (num v) = ⊥
Source (lab n) = ⊥

abbrev pub Count : Opd → Type 0
Count (reg v) = ⊥
Count (num v) = Unit {0}
Count (lab n) = ⊥

abbrev pub Target : Opd → Type 0
Target (reg v) = ⊥
Target (num v) = ⊥
Target (lab n) = Unit {0}

-- each operand is of the kind that its place asks for
abbrev pub Kinds : Ins → Type 0
Kinds (binary op d a b) = Destination d × Source a × Source b
Kinds (unary op d a) = Destination d × Source a
Kinds (cmov d a b) = Destination d × Source a × Source b
Kinds (bltz a t) = Source a × Target t
Kinds (setx v) = Count v
Kinds (loop t) = Target t
Kinds done = Unit {0}
Kinds nop = Unit {0}

-- an instruction of the language: kinds and ranges
pub record Formed (i : Ins) : Type 0 where
  pub kinds : Kinds i
  pub ranges : AllByRecursion InRange (operands_of i)

-- the instruction of a name and operands, or none
abbrev pub FormedBy : Mnemonic → List Opd → Option Instruction → Type 0
FormedBy m os r = MatchOption r ((i : Ins) → mnemonic_of i ≡ m → operands_of i ≡ os → Kinds i → ⊥) (λ x. (mnemonic_of (ins x) ≡ m) × (operands_of (ins x) ≡ os) × Kinds (ins x))

-- a name and the rest of a line that make an instruction
pub record Written (n : List ℕ) (rest : List ℕ) (i : Ins) : Type 0 where
  pub formed : Formed i
  pub named : n ≡ spelling (mnemonic_of i)
  pub operands : Spelled rest (listed (operands_of i))

abbrev pub CodeAt : List ℕ → List ℕ → Option Instruction → Type 0
CodeAt n rest r = MatchOption r ((i : Ins) → Written n rest i → ⊥) (λ x. Written n rest (ins x))

-- What a line says: a label or none, an instruction or none.
use Rattle.std.specs.Prelude.{◌≡◌, ℕ, List, [], ◌∷◌, ◌++◌, IfSome, Some, None, Option, MatchOption}
use Rattle.std.specs.Borrow.{Bor}
use Rattle.std.specs.Option.{option_map}
use Rattle.grammar.specs.declared.instruction.Instruction.{Instruction}
use Rattle.grammar.specs.declared.line.Line.{Line}
use Rattle.grammar.specs.declared.token.Rest.{Rest}
use Rattle.grammar.specs.Tokens.{Tok, name, colon, Next, Spelled}
use Rattle.grammar.specs.Grammar.{listed}
use Rattle.grammar.specs.Forms.{spelling, Ins, ins, mnemonic_of, operands_of, Formed}

-- a label is a name with a colon
abbrev pub label_tokens : Option (List ℕ) → List Tok
label_tokens None = []
label_tokens (Some n) = name n ∷ colon ∷ []

-- an instruction is its name with its operands
abbrev pub code_tokens : Option Ins → List Tok
code_tokens None = []
code_tokens (Some i) = name (spelling (mnemonic_of i)) ∷ listed (operands_of i)

-- the bytes of a line say this label and this instruction
pub record Says (bs : List ℕ) (label : Option (List ℕ)) (code : Option Ins) : Type 0 where
  pub formed : IfSome code Formed
  pub spelled : Spelled bs (label_tokens label ++ code_tokens code)

-- the answers of the reader
abbrev pub LabelOf : List ℕ → Option (Bor (List ℕ) × Rest) → Type 0
LabelOf bs r =
    MatchOption r ((n mid rest : List ℕ) → Next bs (name n) mid → Next mid colon rest → ⊥) (λ x. (mid : List ℕ) × Next bs (name x.0.now) mid × Next mid colon x.1.bytes.now)

abbrev pub CodeFrom : List ℕ → Option (Option Instruction) → Type 0
CodeFrom bs r = MatchOption r ((code : Option Ins) → Says bs None code → ⊥) (λ x. Says bs None (option_map ins x))

abbrev pub label_in : Line → Option (List ℕ)
label_in x = option_map (λ n. n.now) x.label

abbrev pub code_in : Line → Option Ins
code_in x = option_map ins x.code

abbrev pub Reading : List ℕ → Option Line → Type 0
Reading bs r = MatchOption r ((label : Option (List ℕ)) (code : Option Ins) → Says bs label code → ⊥) (λ x. Says bs (label_in x) (code_in x))

-- a line says one thing at most
abbrev pub OneReading : List ℕ → Type 0
OneReading bs = (l k : Option (List ℕ)) (c d : Option Ins) → Says bs l c → Says bs k d → (l ≡ k) × (c ≡ d)

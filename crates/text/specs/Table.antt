-- The labels of a text, and the addresses that they stand for.
use Rattle.std.specs.Prelude.{◌≡◌, ℕ, ◌+◌, ◌≤◌, cond, List, [], ◌∷◌, length, take, drop, IfSome, Some, None, Option, MatchOption}
use Rattle.std.specs.Option.{unwrap_or}
use Rattle.std.specs.Str.{bytes_eq}
use Rattle.text.specs.declared.table.Label.{Label}
use Rattle.grammar.specs.Grammar.{Opd, reg, num, lab}
use Rattle.grammar.specs.Forms.{Ins, binary, unary, cmov, bltz, setx, loop, done, nop}
use Rattle.text.specs.Words.{word_of}

-- the name of a label, in the text
abbrev pub name_in : List ℕ → Label → List ℕ
name_in text e = take e.length (drop e.place text)

-- the name lies in the text
abbrev pub Within : List ℕ → Label → Type 0
Within text e = e.place + e.length ≤ length text

-- the address of the label with this name
abbrev pub address_of : List ℕ → List Label → List ℕ → Option ℕ
address_of text [] n = None
address_of text (e ∷ es) n = cond (bytes_eq (name_in text e) n) (Some e.address) (address_of text es n)

-- the label that an operand or an instruction uses
abbrev pub used : Opd → Option (List ℕ)
used (reg v) = None
used (num v) = None
used (lab n) = Some n

abbrev pub label_used : Ins → Option (List ℕ)
label_used (binary op d a b) = None
label_used (unary op d a) = None
label_used (cmov d a b) = None
label_used (bltz a t) = used t
label_used (setx v) = None
label_used (loop t) = used t
label_used done = None
label_used nop = None

-- the label that is used, if any, is known and lies at most at 2,047
abbrev pub Resolved : List ℕ → List Label → Ins → Type 0
Resolved text defs i = IfSome (label_used i) (λ n. MatchOption (address_of text defs n) ⊥ (λ a. a ≤ 2047))

-- the address of the label that is used, 0 where none is
abbrev pub target_of : List ℕ → List Label → Option (List ℕ) → ℕ
target_of text defs None = 0
target_of text defs (Some n) = unwrap_or (address_of text defs n) 0

-- the word of an instruction of the text
abbrev pub word_in : List ℕ → List Label → Ins → ℕ
word_in text defs i = word_of i (target_of text defs (label_used i))

-- the word of an instruction, or none where its label is not found
abbrev pub WordFor : List ℕ → List Label → Ins → Option ℕ → Type 0
WordFor text defs i r = MatchOption r (Resolved text defs i → ⊥) (λ w. Resolved text defs i × (w ≡ word_in text defs i))

-- One plain layout of a program: each instruction on a line of its own, with its address as a label.
use Rattle.std.specs.Prelude.{◌≡◌, ℕ, suc, ◌<◌, ◌≤◌, List, [], ◌∷◌, ◌++◌, map, length, drop, Ok, decimal, Result}
use Rattle.std.specs.List.{AllByRecursion}
use Rattle.text.specs.declared.fault.Fault.{Fault}
use Rattle.operations.specs.declared.Binary.{Binary}
use Rattle.operations.specs.declared.Unary.{Unary}
use Rattle.text.specs.declared.table.Counts.{Counts}
use Rattle.text.specs.declared.table.Label.{Label}
use Rattle.grammar.specs.Grammar.{Opd, reg, num, lab}
use Rattle.grammar.specs.Forms as forms
use Rattle.grammar.specs.Forms.{Ins, spelling, mnemonic_of, operands_of}
use Rattle.text.specs.Words.{word_of}

-- an instruction by its numbers; a target is an address
pub data Plain : Type 0 where
  binary : Binary → ℕ → ℕ → ℕ → Plain
  unary : Unary → ℕ → ℕ → Plain
  cmov : ℕ → ℕ → ℕ → Plain
  bltz : ℕ → ℕ → Plain
  setx : ℕ → Plain
  loop : ℕ → Plain
  done : Plain
  nop : Plain

-- what the word formats can hold
abbrev pub Holds : Plain → Type 0
Holds (binary op d a b) = (16 ≤ d) × (d ≤ 31) × (a ≤ 31) × (b ≤ 31)
Holds (unary op d a) = (16 ≤ d) × (d ≤ 31) × (a ≤ 31)
Holds (cmov d a b) = (16 ≤ d) × (d ≤ 31) × (a ≤ 31) × (b ≤ 31)
Holds (bltz a t) = (a ≤ 31) × (t ≤ 2047)
Holds (setx v) = v ≤ 65535
Holds (loop t) = t ≤ 2047
Holds done = Unit {0}
Holds nop = Unit {0}

-- the address that an instruction goes to, 0 where it goes to none
abbrev pub target : Plain → ℕ
target (binary op d a b) = 0
target (unary op d a) = 0
target (cmov d a b) = 0
target (bltz a t) = t
target (setx v) = 0
target (loop t) = t
target done = 0
target nop = 0

-- the label of an address: the letter L and its number
abbrev pub label_name : ℕ → List ℕ
label_name k = 76 ∷ decimal k

abbrev pub written : Plain → Ins
written (binary op d a b) = forms.binary op (reg d) (reg a) (reg b)
written (unary op d a) = forms.unary op (reg d) (reg a)
written (cmov d a b) = forms.cmov (reg d) (reg a) (reg b)
written (bltz a t) = forms.bltz (reg a) (lab (label_name t))
written (setx v) = forms.setx (num v)
written (loop t) = forms.loop (lab (label_name t))
written done = forms.done
written nop = forms.nop

abbrev pub plain_word : Plain → ℕ
plain_word p = word_of (written p) (target p)

-- operands as text: a space before each, a comma between two
abbrev pub operand_text : Opd → List ℕ
operand_text (reg v) = 36 ∷ decimal v
operand_text (num v) = decimal v
operand_text (lab n) = n

abbrev pub tail_text : List Opd → List ℕ
tail_text [] = []
tail_text (o ∷ os) = 44 ∷ 32 ∷ (operand_text o ++ tail_text os)

abbrev pub list_text : List Opd → List ℕ
list_text [] = []
list_text (o ∷ os) = 32 ∷ (operand_text o ++ tail_text os)

abbrev pub code_text : Ins → List ℕ
code_text i = spelling (mnemonic_of i) ++ list_text (operands_of i)

-- the lines from an address on; the last has only the label behind the program
abbrev pub layout_from : ℕ → List Plain → List ℕ
layout_from k [] = label_name k ++ (58 ∷ [])
layout_from k (p ∷ ps) = label_name k ++ (58 ∷ 32 ∷ (code_text (written p) ++ (10 ∷ layout_from (suc k) ps)))

abbrev pub layout : List Plain → List ℕ
layout ps = layout_from 0 ps

-- a program of the word formats whose targets lie in it or just behind it
pub record Program (ps : List Plain) : Type 0 where
  pub short : length ps ≤ 2048
  pub holds : AllByRecursion Holds ps
  pub inside : AllByRecursion (λ p. target p ≤ length ps) ps

-- writing a program in the plain layout and assembling it gives back its words
abbrev pub GivesBack : List ℕ → List ℕ → List Label → Result Counts Fault → List ℕ → Type 0
GivesBack text words labels r words' =
    (ps : List Plain) → Program ps → text ≡ layout ps → length ps ≤ length words → length ps < length labels → (r ≡ Ok (record { words = length ps; labels = suc (length ps) })) × (words' ≡ map plain_word ps ++ drop (length ps) words)

-- The lines of the plain layout: each says its label and its instruction.
use Rattle.std.proofs.Common.{◌≡◌, ℕ, ◌*◌, ◌≤◌, true, List, [], ◌∷◌, ◌++◌, map, length, Some, None, decimal, Option, refl, arith, length-append}
use Rattle.std.specs.List.{AllByRecursion}
use Rattle.std.proofs.ByRecursion.{All-append, All-weaker}
use Rattle.grammar.specs.Bytes.{goes_on}
use Rattle.grammar.specs.declared.token.Run.TheVariants.{Spaces, Name, Line}
use Rattle.grammar.specs.Tokens.{Tok, name, colon, comma, Runs, Stops, IsName, Spells, Parted, Next, Ends, Spelled}
use Rattle.grammar.specs.Grammar.{Opd, reg, num, lab, InRange, token, tailed, listed}
use Rattle.grammar.specs.Forms.{Ins, spelling, mnemonic_of, operands_of, Kinds, Formed}
use Rattle.grammar.specs.Lines.{Says}
use Rattle.text.specs.Plain.{Plain, binary, unary, cmov, bltz, setx, loop, done, nop, Holds, label_name, written, operand_text, tail_text, list_text, code_text}
use Rattle.text.proofs.PlainBytes.{digits_run, digits_name, name_line, number_some, number_short, label_name_lem, label_short, spelling_name}

-- an operand that the layout writes: a number in range, or a name
abbrev Good : Opd → Type 0
Good (reg v) = v ≤ 31
Good (num v) = v ≤ 65535
Good (lab n) = IsName n

good_range : (o : Opd) → Good o → InRange o
good_range (reg v) g = g
good_range (num v) g = g
good_range (lab n) g = tt

-- what the word formats hold is written so
good_operands : (p : Plain) → Holds p → AllByRecursion Good (operands_of (written p))
good_operands (binary op d a b) (_, h, k, l) = (h, (k, (l, tt)))
good_operands (unary op d a) (_, h, k) = (h, (k, tt))
good_operands (cmov d a b) (_, h, k, l) = (h, (k, (l, tt)))
good_operands (bltz a t) (h, k) = (h, (label_name_lem t (omega arith), tt))
good_operands (setx v) h = (h, tt)
good_operands (loop t) h = (label_name_lem t (omega arith), tt)
good_operands done h = tt
good_operands nop h = tt

kinds : (p : Plain) → Holds p → Kinds (written p)
kinds (binary op d a b) h = (h.0, tt, tt)
kinds (unary op d a) h = (h.0, tt)
kinds (cmov d a b) h = (h.0, tt, tt)
kinds (bltz a t) h = (tt, tt)
kinds (setx v) h = tt
kinds (loop t) h = tt
kinds done h = tt
kinds nop h = tt

-- and makes an instruction of the language
formed : (p : Plain) → Holds p → Formed (written p)
formed p h = record { kinds = kinds p h; ranges = All-weaker Good InRange good_range _ (good_operands p h) }

-- a token behind a space or at the front
next_at : (gap w : List ℕ) (t : Tok) (rest : List ℕ) → Runs Spaces gap → Spells w t → Parted t rest → Next (gap ++ (w ++ rest)) t rest
next_at gap w t rest g s p = record { gap = gap; spelling = w; whole = refl; spaces = g; spells = s; parted = p }

spaced : (w : List ℕ) (t : Tok) (rest : List ℕ) → Spells w t → Parted t rest → Next (32 ∷ (w ++ rest)) t rest
spaced w t rest s p = next_at (32 ∷ []) w t rest (refl, tt) s p

spells_operand : (o : Opd) → Good o → Spells (operand_text o) (token o)
spells_operand (reg v) g = (refl, (decimal v, refl, digits_run v (omega arith)))
spells_operand (num v) g = (refl, number_some v g, digits_run v g)
spells_operand (lab n) g = (refl, g)

-- a comma or the end parts an operand from what follows
parted : (o : Opd) (os : List Opd) → Parted (token o) (tail_text os)
parted (reg v) [] = tt
parted (reg v) (p ∷ os) = refl
parted (num v) [] = tt
parted (num v) (p ∷ os) = refl
parted (lab n) [] = tt
parted (lab n) (p ∷ os) = refl

silence : Ends []
silence = record { gap = []; rest = []; whole = refl; spaces = tt; silent = tt }

operand_spelled : (o : Opd) (os : List Opd) → Good o → Next (32 ∷ (operand_text o ++ tail_text os)) (token o) (tail_text os)
operand_spelled o os g = spaced (operand_text o) (token o) (tail_text os) (spells_operand o g) (parted o os)

-- operands as text spell their tokens
tail_spelled : (os : List Opd) → AllByRecursion Good os → Spelled (tail_text os) (tailed os)
tail_spelled [] g = silence
tail_spelled (o ∷ os) g = (_, next_at [] (44 ∷ []) comma _ tt refl tt, (_, operand_spelled o os g.0, tail_spelled os g.1))

list_spelled : (os : List Opd) → AllByRecursion Good os → Spelled (list_text os) (listed os)
unfolding tail_spelled
list_spelled [] g = silence
list_spelled (o ∷ os) g = (tail_spelled (o ∷ os) g).2

list_stops : (os : List Opd) → Stops Name (list_text os)
list_stops [] = tt
list_stops (o ∷ os) = refl

-- a space and an instruction, or nothing
abbrev pub behind : Option Plain → List ℕ
behind None = []
behind (Some p) = 32 ∷ code_text (written p)

abbrev pub coding : Option Plain → Option Ins
coding None = None
coding (Some p) = Some (written p)

abbrev pub Held : Option Plain → Type 0
Held None = Unit {0}
Held (Some p) = Holds p

-- what stands behind the colon says the instruction
behind_says : (o : Option Plain) → Held o → Says (behind o) None (coding o)
behind_says None h = record { formed = tt; spelled = silence }
behind_says (Some p) h = record {
  formed = formed p h;
  spelled = (_, spaced (spelling (mnemonic_of (written p))) (name _) _ (refl, (spelling_name (mnemonic_of (written p))).0) (list_stops (operands_of (written p))), list_spelled _ (good_operands p h));
}

-- the bytes of one line
abbrev pub line_text : ℕ → Option Plain → List ℕ
line_text k o = label_name k ++ (58 ∷ behind o)

pub line_says : (k : ℕ) (o : Option Plain) → k ≤ 2048 → Held o → Says (line_text k o) (Some (label_name k)) (coding o)
line_says k o h g = let s = behind_says o g in record {
  formed = s.formed;
  spelled = (58 ∷ behind o, next_at [] (label_name k) (name (label_name k)) _ tt (refl, label_name_lem k h) refl, (behind o, next_at [] (58 ∷ []) colon (behind o) tt refl tt, s.spelled));
}

-- no byte of a line is byte 10
operand_line : (o : Opd) → Good o → Runs Line (operand_text o)
operand_line (reg v) g = (refl, name_line _ (digits_name _ (digits_run v (omega arith))))
operand_line (num v) g = name_line _ (digits_name _ (digits_run v g))
operand_line (lab n) g = name_line n g.all

abbrev flows : ℕ → Type 0
flows b = goes_on Line b ≡ true

tail_line : (os : List Opd) → AllByRecursion Good os → Runs Line (tail_text os)
tail_line [] g = tt
tail_line (o ∷ os) g = (refl, (refl, All-append flows _ _ (operand_line o g.0) (tail_line os g.1)))

list_line : (os : List Opd) → AllByRecursion Good os → Runs Line (list_text os)
list_line [] g = tt
list_line (o ∷ os) g = (tail_line (o ∷ os) g).1

behind_line : (o : Option Plain) → Held o → Runs Line (behind o)
behind_line None h = tt
behind_line (Some p) h = (refl, All-append flows _ _ (name_line _ (spelling_name (mnemonic_of (written p))).0.all) (list_line _ (good_operands p h)))

pub line_solid : (k : ℕ) (o : Option Plain) → k ≤ 2048 → Held o → Runs Line (line_text k o)
line_solid k o h g = All-append flows (label_name k) _ (name_line (label_name k) (label_name_lem k h).all) (refl, behind_line o g)

-- a register has at most three bytes
register_short : (v : ℕ) → v ≤ 31 → length (operand_text (reg v)) ≤ 3
register_short v h = omega (arith, number_short 2 v (omega arith) (omega arith) (omega arith))

registers_short : (vs : List ℕ) → AllByRecursion (λ v. v ≤ 31) vs → length (tail_text (map reg vs)) ≤ 5 * length vs
registers_short [] h = omega arith
registers_short (v ∷ vs) h = simp length-append (omega (arith, register_short v h.0, registers_short vs h.1))

-- the operands of an instruction have at most 14 bytes, with the spaces and commas
operands_short : (p : Plain) → Holds p → length (list_text (operands_of (written p))) ≤ 14
operands_short (binary op d a b) (_, h, k, l) = omega (arith, registers_short (d ∷ a ∷ b ∷ []) (h, (k, (l, tt))))
operands_short (unary op d a) (_, h, k) = omega (arith, registers_short (d ∷ a ∷ []) (h, (k, tt)))
operands_short (cmov d a b) (_, h, k, l) = omega (arith, registers_short (d ∷ a ∷ b ∷ []) (h, (k, (l, tt))))
operands_short (bltz a t) (h, k) = simp length-append (omega (arith, register_short a h, label_short t (omega arith)))
operands_short (setx v) h = simp length-append (omega (arith, number_short 5 v (omega arith) (omega arith) h))
operands_short (loop t) h = simp length-append (omega (arith, label_short t (omega arith)))
operands_short done h = omega arith
operands_short nop h = omega arith

-- a line with an instruction has at most 26 bytes
pub line_short : (k : ℕ) (p : Plain) → k ≤ 2048 → Holds p → length (line_text k (Some p)) ≤ 26
line_short k p h g = simp length-append (omega (arith, label_short k h, (spelling_name (mnemonic_of (written p))).1, operands_short p g))

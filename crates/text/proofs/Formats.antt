-- The fields of a word are what was put into them.
use Rattle.std.proofs.Common.{◌≡◌, ℕ, ◌+◌, ◌*◌, ◌/◌, ◌%◌, ◌^◌, ◌≤◌, arith}
use Rattle.grammar.specs.Grammar.{Opd, reg, num, lab, InRange}
use Rattle.grammar.specs.Forms.{binary, unary, cmov, bltz, setx, loop, done, nop, Destination, Source, Count, Target}
use Rattle.operations.specs.Codes.{binary_code, unary_code}
use Rattle.text.specs.Words.{value, packed, Packed, Branches, Numbered, WordFields}

packed_fields : (code d a b : ℕ) → 16 ≤ d → d ≤ 31 → a ≤ 31 → b ≤ 31 → Packed code d a b (packed code d a b)
packed_fields code d a b low high ha hb = record { code_is = omega arith; destination_is = omega arith; a_is = omega arith; b_is = omega arith; rest_is = omega arith }

destination : (target : ℕ) (o : Opd) → Destination o → InRange o → (16 ≤ value target o) × (value target o ≤ 31)
destination target (reg v) d r = (d, r)
destination target (num v) d r = absurd d
destination target (lab n) d r = absurd d

source : (target : ℕ) (o : Opd) → Source o → InRange o → value target o ≤ 31
source target (reg v) s r = r
source target (num v) s r = absurd s
source target (lab n) s r = absurd s

goal : (target : ℕ) (o : Opd) → Target o → target ≤ 2047 → value target o ≤ 2047
goal target (reg v) t h = absurd t
goal target (num v) t h = absurd t
goal target (lab n) t h = h

count : (target : ℕ) (o : Opd) → Count o → InRange o → value target o ≤ 65535
count target (reg v) c r = absurd c
count target (num v) c r = r
count target (lab n) c r = absurd c

-- a branch's word by the two parts of its target
branch_high : (a q r : ℕ) → a ≤ 31 → q ≤ 15 → r ≤ 127 → (13 * 2 ^ 16 + q * 2 ^ 12 + a * 2 ^ 7 + r) / 2 ^ 12 % 2 ^ 4 ≡ q
branch_high a q r ha hq hr = omega arith

branch_low : (a q r : ℕ) → r ≤ 127 → (13 * 2 ^ 16 + q * 2 ^ 12 + a * 2 ^ 7 + r) % 2 ^ 7 ≡ r
branch_low a q r hr = omega arith

branch_fields : (a t : ℕ) → a ≤ 31 → t ≤ 2047 → Branches a t (13 * 2 ^ 16 + (t / 2 ^ 7) * 2 ^ 12 + a * 2 ^ 7 + t % 2 ^ 7)
branch_fields a t ha ht = record { code_is = omega arith; a_is = omega arith; target_is = rw (branch_high a (t / 2 ^ 7) (t % 2 ^ 7) ha (omega arith) (omega arith), branch_low a (t / 2 ^ 7) (t % 2 ^ 7) (omega arith)) (omega arith) }

count_fields : (code v : ℕ) → v ≤ 65535 → Numbered code v (code * 2 ^ 16 + v)
count_fields code v h = record { code_is = omega arith; value_is = omega arith }

pub word_fields : WordFields
word_fields (binary op d a b) t f h =
    let (low, high) = destination t d f.kinds.0 f.ranges.0 in
    packed_fields (binary_code op) _ _ _ low high (source t a f.kinds.1 f.ranges.1.0) (source t b f.kinds.2 f.ranges.1.1.0)
word_fields (unary op d a) t f h =
    let (low, high) = destination t d f.kinds.0 f.ranges.0 in
    packed_fields (unary_code op) _ _ 0 low high (source t a f.kinds.1 f.ranges.1.0) (omega arith)
word_fields (cmov d a b) t f h =
    let (low, high) = destination t d f.kinds.0 f.ranges.0 in
    packed_fields 8 _ _ _ low high (source t a f.kinds.1 f.ranges.1.0) (source t b f.kinds.2 f.ranges.1.1.0)
word_fields (bltz a u) t f h = branch_fields _ _ (source t a f.kinds.0 f.ranges.0) (goal t u f.kinds.1 h)
word_fields (setx v) t f h = count_fields 14 _ (count t v f.kinds f.ranges.0)
word_fields (loop u) t f h = let low = goal t u f.kinds h in count_fields 15 _ (omega arith)
word_fields done t f h = count_fields 10 0 (omega arith)
word_fields nop t f h = count_fields 0 0 (omega arith)

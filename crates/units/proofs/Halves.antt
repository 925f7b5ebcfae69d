-- What the half unit's arithmetic rests on.
use Rattle.std.proofs.Common.{◌≡◌, ℕ, ◌+◌, ◌-◌, ◌*◌, ◌/◌, ◌%◌, ◌^◌, ◌<◌, ◌≤◌, Bool, true, false, cond, eqb, ◌⊎◌, sym, refl, ap, ◌∙◌, inl, inr, arith}
use Rattle.std.proofs.lemmas.Nat.{shl_whole, shl_below, mul-lt, mod_below, div-add-mod'}
use Rattle.std.proofs.lemmas.Bool.{cases_eq, ne_eqb, eq-eqb}
use Rattle.ieee.specs.Formats.{hidden, steps, infinity, quiet, signed, infinite, finite}
use Rattle.ieee.specs.Rounding.{near, round, word, none, endless}
use Rattle.ieee.specs.Operations.{unlike, product, quotient}
use Rattle.ieee.proofs.Steps.{pow_le, steps_zero}
use Rattle.ieee.proofs.Scaled.{round_over, round_jam, quarters, round_product_down, round_product_up}
use Rattle.units.specs.Patterns.{quarters_below}
use Rattle.units.proofs.Radicands.{exponent_below, steps_above}

-- the digits and the exponent of a pattern below infinity's
pub exponent_half : (m k d : ℕ) → m < 31744 → m ≡ k * hidden 11 + d → (k ≡ 0) ⊎ (hidden 11 ≤ d) → k < 30
exponent_half m k d h s l = exponent_below 11 15 m k d (omega arith) h s l

pub count_is : (m k d : ℕ) → k < 30 → d < 2 ^ 11 → steps 11 m ≡ d * 2 ^ k → (d * 2 ^ k % 2 ^ 64 ≡ steps 11 m) × (d * 2 ^ k % 2 ^ 64 < 2 ^ 40)
count_is m k d K D v =
    let w : d * 2 ^ k % 2 ^ 64 ≡ d * 2 ^ k = shl_whole d 11 k 64 D (omega arith) in
    let b : d * 2 ^ k < 2 ^ (11 + k) = shl_below d 11 k D in
    let c : 2 ^ (11 + k) ≤ 2 ^ 40 = pow_le (11 + k) 40 (omega arith) in
    (w ∙ sym v, rw w (omega arith))

-- ---- products

digits_product : (a b : ℕ) → a < 2 ^ 11 → b < 2 ^ 11 → 2 * (a * b) < 2 ^ 23
digits_product a b A B = omega (arith, mul-lt a b (2 ^ 11) (2 ^ 11) A B)

pub product_whole : (a x b y : ℕ) → a < 2 ^ 11 → b < 2 ^ 11 → x < 30 → y < 30 → 24 ≤ x + y
    → (2 * (a * b) * 2 ^ (x + y - 24) % 2 ^ 64 ≡ 2 * (a * b) * 2 ^ (x + y - 24)) × (2 * (a * b) * 2 ^ (x + y - 24) % 2 ^ 64 < 2 ^ 60)
product_whole a x b y A B X Y h =
    let d : 2 * (a * b) < 2 ^ 23 = digits_product a b A B in
    let w : 2 * (a * b) * 2 ^ (x + y - 24) % 2 ^ 64 ≡ 2 * (a * b) * 2 ^ (x + y - 24) = shl_whole (2 * (a * b)) 23 (x + y - 24) 64 d (omega arith) in
    let l : 2 * (a * b) * 2 ^ (x + y - 24) < 2 ^ (23 + (x + y - 24)) = shl_below (2 * (a * b)) 23 (x + y - 24) d in
    let c : 2 ^ (23 + (x + y - 24)) ≤ 2 ^ 60 = pow_le (23 + (x + y - 24)) 60 (omega arith) in
    (w, rw w (omega arith))

pub product_below : (m n a x b y r : ℕ) → steps 11 m ≡ a * 2 ^ x → steps 11 n ≡ b * 2 ^ y → x + y < 24 → r ≡ round 11 15 (2 * (a * b)) (2 ^ (25 - (x + y))) → r ≡ round 11 15 (steps 11 m * steps 11 n) (2 ^ 24)
product_below m n a x b y r u v h e = e ∙ (sym (round_product_down 11 15 24 a x b y h) ∙ rw (u, v) refl)

pub product_above : (m n a x b y k r : ℕ) → steps 11 m ≡ a * 2 ^ x → steps 11 n ≡ b * 2 ^ y → 24 ≤ x + y → k ≡ 2 * (a * b) * 2 ^ (x + y - 24) → r ≡ round 11 15 k 2 → r ≡ round 11 15 (steps 11 m * steps 11 n) (2 ^ 24)
product_above m n a x b y k r u v h w e = e ∙ (ap (λ (z : ℕ). round 11 15 z 2) w ∙ (sym (round_product_up 11 15 24 a x b y h) ∙ rw (u, v) refl))

-- ---- quotients

pub quotient_over : (a b r : ℕ) → 0 < b → 2 ^ 40 * b ≤ a → r ≡ 31744 → r ≡ round 11 15 a b
quotient_over a b r B h e = e ∙ sym (round_over 11 15 a b (omega arith) (omega arith) B h)

pub quotient_by : (a b j r : ℕ) → 0 < b → j ≡ 4 * (a / b) + quarters_below (a % b) b → r ≡ round 11 15 j 4 → r ≡ round 11 15 a b
quotient_by a b j r B e f =
    f ∙ sym (round_jam 11 15 a b j (omega arith) B (quarters a b (a / b) (a % b) B (div-add-mod' a b) (mod_below a b B) j e))

-- ---- the other cases

zero_test : (m : ℕ) → eqb (steps 11 m) 0 ≡ eqb m 0
zero_test m =
    elim (cases_eq m 0) [
      | inl z ↦ rw (z, steps_zero 11) refl
      | inr n ↦ steps_above 11 m (omega arith) (omega arith) ∙ sym (ne_eqb m 0 n)
    ]

endless_word : (b s : Bool) → cond b (quiet 11 15) (signed 11 15 s (infinity 11 15)) ≡ word 11 15 (cond b none (endless s))
endless_word true s = refl
endless_word false s = refl

pub product_left : (s t : Bool) (m : ℕ) → cond (eqb m 0) (quiet 11 15) (signed 11 15 (unlike s t) (infinity 11 15)) ≡ word 11 15 (product 24 (finite s (steps 11 m)) (infinite t))
product_left s t m = rw (zero_test m) (endless_word (eqb m 0) (unlike s t))

pub product_right : (s t : Bool) (n : ℕ) → cond (eqb n 0) (quiet 11 15) (signed 11 15 (unlike s t) (infinity 11 15)) ≡ word 11 15 (product 24 (infinite s) (finite t (steps 11 n)))
product_right s t n = rw (zero_test n) (endless_word (eqb n 0) (unlike s t))

pub quotient_zero : (s t : Bool) (m n : ℕ) → n ≡ 0 → cond (eqb m 0) (quiet 11 15) (signed 11 15 (unlike s t) (infinity 11 15)) ≡ word 11 15 (quotient 24 (finite s (steps 11 m)) (finite t (steps 11 n)))
quotient_zero s t m n z = rw (zero_test m, zero_test n, eq-eqb n 0 z) (endless_word (eqb m 0) (unlike s t))

pub quotient_some : (s t : Bool) (m n : ℕ) → (n ≡ 0 → ⊥) → signed 11 15 (unlike s t) (round 11 15 (steps 11 m * 2 ^ 24) (steps 11 n)) ≡ word 11 15 (quotient 24 (finite s (steps 11 m)) (finite t (steps 11 n)))
quotient_some s t m n z = rw (zero_test n, ne_eqb n 0 z) refl

pub quotient_endless : (s t : Bool) (a : ℕ) → signed 11 15 (unlike s t) 0 ≡ word 11 15 (quotient 24 (finite s a) (infinite t))
unfolding round near
quotient_endless s t a = refl

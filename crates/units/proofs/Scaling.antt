-- v / 65536 from |v| and its leading zeros.
use Rattle.std.proofs.Common.{◌≡◌, ℕ, suc, ◌+◌, ◌-◌, ◌*◌, ◌^◌, ◌<◌, ◌≤◌, true, false, ℤ, pos, negsuc, nat_abs, sym, refl, ap, ◌∙◌, mul-le-mul_right, arith, w32, SFits, to_z, of_z}
use lib.Signed.{lt_z}
use lib.Count.{count_leading_zeros}
use lib.Ieee.Nearest.{closest}
use Rattle.std.proofs.lemmas.Nat.{pow-add, shl_below, leading_top}
use Rattle.std.proofs.lemmas.Int.{to_z-of_z}
use Rattle.std.proofs.lemmas.Bool.{le-ltb}
use Rattle.ieee.specs.Formats.{signed}
use Rattle.ieee.specs.Rounding.{near, round}
use Rattle.ieee.specs.Operations.{number, number_through}
use Rattle.ieee.proofs.Numbers.{number_single, number_half, number_zero_half}

-- x shifted until its leading digit is the 32nd
pub record Shifted (x : ℕ) : Type 0 where
  pub few : count_leading_zeros 32 x ≤ 31
  pub least : 2 ^ 31 ≤ x * 2 ^ count_leading_zeros 32 x
  pub most : x * 2 ^ count_leading_zeros 32 x < 2 ^ 32

pub shifted : (x : ℕ) → (x ≡ 0 → ⊥) → x < 2 ^ 32 → Shifted x
shifted x n h = go (leading_top 32 x (omega arith) h)
  where
    go : (j : ℕ) × (count_leading_zeros 32 x + suc j ≡ 32) × (2 ^ j ≤ x) × (x < 2 ^ suc j) → Shifted x
    go (j, e, a, b) =
        let z = count_leading_zeros 32 x in
        let i : 31 ≡ j + z = omega arith in
        let p : 2 ^ 31 ≡ 2 ^ j * 2 ^ z = ap (λ (k : ℕ). 2 ^ k) i ∙ pow-add 2 j z in
        let q : 2 ^ j * 2 ^ z ≤ x * 2 ^ z = mul-le-mul_right (2 ^ z) a in
        let l : suc j + z ≡ 32 = omega arith in
        let r : 2 ^ (suc j + z) ≡ 2 ^ 32 = ap (λ (k : ℕ). 2 ^ k) l in
        record { few = omega arith; least = omega arith; most = omega (arith, shl_below x (suc j) z b) }

-- the sign and the magnitude as the code has them
back : (v : ℤ) → SFits w32 v → to_z w32 (of_z w32 v) ≡ v
back v f = to_z-of_z w32 v f

single_of : (v : ℤ) (x : ℕ) → x ≡ nat_abs v → Shifted x → signed 24 127 (lt_z v (pos 0)) ((141 - count_leading_zeros 32 x) * 2 ^ 23 + closest (x * 2 ^ count_leading_zeros 32 x) (2 ^ 8)) ≡ number 24 127 v
single_of (pos n) x e s = rw (le-ltb n 0 (omega arith), ← e) (ap (signed 24 127 false) (sym (number_single x (count_leading_zeros 32 x) s.few s.least s.most)))
single_of (negsuc n) x e s = rw (← e) (ap (signed 24 127 true) (sym (number_single x (count_leading_zeros 32 x) s.few s.least s.most)))

pub single_is : (v : ℤ) (x : ℕ) → SFits w32 v → x ≡ nat_abs (to_z w32 (of_z w32 v)) → Shifted x
    → signed 24 127 (lt_z (to_z w32 (of_z w32 v)) (pos 0)) ((141 - count_leading_zeros 32 x) * 2 ^ 23 + closest (x * 2 ^ count_leading_zeros 32 x) (2 ^ 8)) ≡ number 24 127 v
single_is v x f e s = rw (back v f) (single_of v x (e ∙ ap nat_abs (back v f)) s)

half_of : (v : ℤ) (x : ℕ) → x ≡ nat_abs v → Shifted x → signed 11 15 (lt_z v (pos 0)) (round 11 15 (closest (x * 2 ^ count_leading_zeros 32 x) (2 ^ 8) * 2 ^ 17) (2 ^ (count_leading_zeros 32 x + 1))) ≡ number_through 24 127 11 15 v
half_of (pos n) x e s = rw (le-ltb n 0 (omega arith), ← e) (sym (number_half x (count_leading_zeros 32 x) s.few s.least s.most false))
half_of (negsuc n) x e s = rw (← e) (sym (number_half x (count_leading_zeros 32 x) s.few s.least s.most true))

pub half_is : (v : ℤ) (x : ℕ) → SFits w32 v → x ≡ nat_abs (to_z w32 (of_z w32 v)) → Shifted x
    → signed 11 15 (lt_z (to_z w32 (of_z w32 v)) (pos 0)) (round 11 15 (closest (x * 2 ^ count_leading_zeros 32 x) (2 ^ 8) * 2 ^ 17) (2 ^ (count_leading_zeros 32 x + 1))) ≡ number_through 24 127 11 15 v
half_is v x f e s = rw (back v f) (half_of v x (e ∙ ap nat_abs (back v f)) s)

-- ---- zero

zero_of : (v : ℤ) → nat_abs v ≡ 0 → v ≡ pos 0
zero_of (pos n) e = ap pos e
zero_of (negsuc n) e = absurd (omega arith)

zero_from : (v : ℤ) (x : ℕ) → SFits w32 v → x ≡ nat_abs (to_z w32 (of_z w32 v)) → x ≡ 0 → v ≡ pos 0
zero_from v x f e z = zero_of v (sym (ap nat_abs (back v f)) ∙ (sym e ∙ z))

pub single_zero : (v : ℤ) (x : ℕ) → SFits w32 v → x ≡ nat_abs (to_z w32 (of_z w32 v)) → x ≡ 0 → 0 ≡ number 24 127 v
unfolding round near
single_zero v x f e z = rw (zero_from v x f e z) refl

pub half_zero : (v : ℤ) (x : ℕ) → SFits w32 v → x ≡ nat_abs (to_z w32 (of_z w32 v)) → x ≡ 0 → 0 ≡ number_through 24 127 11 15 v
half_zero v x f e z = rw (zero_from v x f e z) (sym number_zero_half)

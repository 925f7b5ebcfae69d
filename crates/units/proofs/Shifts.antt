-- Rounding by a shift.
use Rattle.std.proofs.Common.{◌≡◌, ℕ, suc, ◌+◌, ◌-◌, ◌*◌, ◌/◌, ◌%◌, ◌^◌, ◌<◌, ◌≤◌, max, ◌⊎◌, sym, ap, ◌∙◌, subst, inl, inr, suc-mul, div-add-mod', arith}
use native.Mathlib.Nat.{pow-succ'}
use lib.Count.{count_leading_zeros}
use lib.Ieee.Nearest.{closest}
use Rattle.std.proofs.lemmas.Nat.{pow_pos, pow-add, mod_below, mul-le, div-mul-add, one_shl, leading_length}
use Rattle.std.proofs.lemmas.Bool.{cases_lt}
use Rattle.ieee.proofs.Closest.{Close, closest_is, closest_upto}
use Rattle.ieee.proofs.Steps.{pow_le, near_is, steps_small, steps_large}
use Rattle.ieee.specs.Formats.{hidden, steps}
use Rattle.ieee.specs.Rounding.{near}

-- q whole parts and the rest r of n by 2 * h: half a part less one is added, and one more where q is odd
quotient_of : (h q r a : ℕ) → 0 < h → r < 2 * h → a < 2 → (((q * (2 * h) + r + (h - 1 + a)) / (2 * h) ≡ q) × (r + a ≤ h)) ⊎ (((q * (2 * h) + r + (h - 1 + a)) / (2 * h) ≡ suc q) × (h < r + a))
quotient_of h q r a H R A =
    elim (cases_lt h (r + a)) [
      | inl l ↦ inr (ap (λ (x : ℕ). x / (2 * h)) (let s : suc q * (2 * h) ≡ q * (2 * h) + 2 * h = suc-mul q (2 * h) in omega arith) ∙ div-mul-add (suc q) (2 * h) (r + a - h - 1) (omega arith), l)
      | inr g ↦ inl (ap (λ (x : ℕ). x / (2 * h)) (omega arith) ∙ div-mul-add q (2 * h) (r + (h - 1 + a)) (omega arith), g)
    ]

close_of : (h q r x : ℕ) → 0 < h → r < 2 * h → ((x ≡ q) × (r + q % 2 ≤ h)) ⊎ ((x ≡ suc q) × (h < r + q % 2)) → Close (q * (2 * h) + r) (2 * h) x
close_of h q r x H R (inl (e, g)) = rw e (record { upper = omega arith; lower = omega arith; tie_up = λ t. omega arith; tie_down = λ t. omega arith })
close_of h q r x H R (inr (e, g)) =
    let s : suc q * (2 * h) ≡ q * (2 * h) + 2 * h = suc-mul q (2 * h) in
    rw e (record { upper = omega arith; lower = omega arith; tie_up = λ t. omega arith; tie_down = λ t. omega arith })

-- the same of any n
rounded : (h q r n : ℕ) → 0 < h → r < 2 * h → q * (2 * h) + r ≡ n → (n + (h - 1 + q % 2)) / (2 * h) ≡ closest n (2 * h)
rounded h q r n H R d =
    let x = (n + (h - 1 + q % 2)) / (2 * h) in
    let k = subst (λ (m : ℕ). ((((m + (h - 1 + q % 2)) / (2 * h)) ≡ q) × (r + q % 2 ≤ h)) ⊎ ((((m + (h - 1 + q % 2)) / (2 * h)) ≡ suc q) × (h < r + q % 2))) d (quotient_of h q r (q % 2) H R (omega arith)) in
    sym (closest_is n (2 * h) x (omega arith) (subst (λ (m : ℕ). Close m (2 * h) x) d (close_of h q r x H R k)))

pub closest_shift : (n s : ℕ) → 1 ≤ s → s < 62 → (n + (1 * 2 ^ (s - 1) % 2 ^ 64 - 1 + n / 2 ^ s % 2)) / 2 ^ s ≡ closest n (2 ^ s)
closest_shift n s a b =
    let e : 2 ^ s ≡ 2 * 2 ^ (s - 1) = ap (λ (k : ℕ). 2 ^ k) (omega arith) ∙ pow-succ' 2 (s - 1) in
    rw (one_shl (s - 1) 64 (omega arith), e)
    (rounded (2 ^ (s - 1)) (n / (2 * 2 ^ (s - 1))) (n % (2 * 2 ^ (s - 1))) n (pow_pos (s - 1)) (mod_below n (2 * 2 ^ (s - 1)) (omega (arith, pow_pos (s - 1)))) (div-add-mod' n (2 * 2 ^ (s - 1))))

-- ---- how many digits are cut off

-- where more is cut than s, the leading digit stays
cut_low : (p n s z : ℕ) → 2 ≤ p → 2 ^ z ≤ 2 * n + 1 → (max (z - p) s - s ≡ 0) ⊎ (hidden p * (2 ^ s * 2 ^ (max (z - p) s - s)) ≤ n)
cut_low p n s z P h =
    elim (cases_lt s (z - p)) [
      | inl l ↦
          let e : hidden p * (2 ^ s * 2 ^ (max (z - p) s - s)) ≡ 2 ^ (z - 1) =
          ap (λ (x : ℕ). hidden p * x) (sym (pow-add 2 s (max (z - p) s - s))) ∙ (sym (pow-add 2 (p - 1) (s + (max (z - p) s - s))) ∙ ap (λ (x : ℕ). 2 ^ x) (omega arith)) in
          let d : 2 ^ z ≡ 2 * 2 ^ (z - 1) = ap (λ (x : ℕ). 2 ^ x) (omega arith) ∙ pow-succ' 2 (z - 1) in
          inr (omega arith)
      | inr g ↦ inl (omega arith)
    ]

cut_high : (p n s z : ℕ) → n < 2 ^ z → n < 2 ^ p * (2 ^ s * 2 ^ (max (z - p) s - s))
cut_high p n s z h =
    let e : 2 ^ p * (2 ^ s * 2 ^ (max (z - p) s - s)) ≡ 2 ^ (p + (s + (max (z - p) s - s))) =
    ap (λ (x : ℕ). 2 ^ p * x) (sym (pow-add 2 s (max (z - p) s - s))) ∙ sym (pow-add 2 p (s + (max (z - p) s - s))) in
    let m : 2 ^ z ≤ 2 ^ (p + (s + (max (z - p) s - s))) = pow_le z (p + (s + (max (z - p) s - s))) (omega arith) in
    omega arith

-- the pattern nearest to n / 2 ^ s, for an n of z digits
near_cut : (p n s z : ℕ) → 2 ≤ p → n < 2 ^ z → 2 ^ z ≤ 2 * n + 1 → near p n (2 ^ s) ≡ (max (z - p) s - s) * hidden p + closest n (2 ^ max (z - p) s)
near_cut p n s z P a b =
    near_is p n (2 ^ s) (max (z - p) s - s) P (pow_pos s) (cut_low p n s z P b) (cut_high p n s z a)
    ∙ ap (λ (x : ℕ). (max (z - p) s - s) * hidden p + closest n x) (sym (pow-add 2 s (max (z - p) s - s)) ∙ ap (λ (x : ℕ). 2 ^ x) (omega arith))

-- and it keeps p digits, or one more at a carry
kept_cut : (p n s z : ℕ) → 2 ≤ p → n < 2 ^ z → closest n (2 ^ max (z - p) s) ≤ 2 ^ p
kept_cut p n s z P h =
    let m : 2 ^ z ≤ 2 ^ (p + max (z - p) s) = pow_le z (p + max (z - p) s) (omega arith) in
    closest_upto n (2 ^ max (z - p) s) (2 ^ p) (pow_pos (max (z - p) s)) (omega (arith, pow-add 2 p (max (z - p) s)))

-- ---- what the code computes

-- how many digits n has, by its leading zeros
pub size_of : (n : ℕ) → n < 2 ^ 60 → (n < 2 ^ (64 - count_leading_zeros 64 n)) × (2 ^ (64 - count_leading_zeros 64 n) ≤ 2 * n + 1) × (64 - count_leading_zeros 64 n ≤ 60)
size_of n h = go (leading_length 64 n (omega arith))
  where
    go : (m : ℕ) × (count_leading_zeros 64 n + m ≡ 64) × (n < 2 ^ m) × (2 ^ m ≤ 2 * n + 1) → (n < 2 ^ (64 - count_leading_zeros 64 n)) × (2 ^ (64 - count_leading_zeros 64 n) ≤ 2 * n + 1) × (64 - count_leading_zeros 64 n ≤ 60)
    go (m, e, a, b) =
        let d : m ≡ 64 - count_leading_zeros 64 n = omega arith in (
          subst (λ (x : ℕ). n < 2 ^ x) d a,
          subst (λ (x : ℕ). 2 ^ x ≤ 2 * n + 1) d b,
          elim (cases_lt 60 (64 - count_leading_zeros 64 n)) [
            | inl l ↦ let k : 2 ^ 61 ≤ 2 ^ m = pow_le 61 m (omega arith) in omega arith
            | inr g ↦ g
          ],
        )

-- the parts by which `near` computes
pub record Cut (p n s cut h kept : ℕ) : Type 0 where
  pub cut_is : cut ≡ max (64 - count_leading_zeros 64 n - p) s
  pub hidden_is : h ≡ hidden p
  pub kept_is : kept ≡ closest n (2 ^ cut)

cut_bound : (p n s cut h kept : ℕ) → 2 ≤ p → n < 2 ^ 60 → s < 60 → Cut p n s cut h kept → cut < 60
cut_bound p n s cut h kept P N S c = omega (arith, size_of n N, c.cut_is)

hidden_bound : (p : ℕ) → p ≤ 24 → hidden p ≤ 2 ^ 23
hidden_bound p h = pow_le (p - 1) 23 (omega arith)

pub kept_bound : (p n s cut h kept : ℕ) → 2 ≤ p → p ≤ 24 → n < 2 ^ 60 → Cut p n s cut h kept → kept ≤ 2 ^ 24
kept_bound p n s cut h kept P Q N c =
    let a : kept ≤ 2 ^ p = rw (c.kept_is, c.cut_is) (kept_cut p n s (64 - count_leading_zeros 64 n) P (size_of n N).0) in
    let b : 2 ^ p ≤ 2 ^ 24 = pow_le p 24 Q in
    omega arith

pub product_bound : (p n s cut h kept : ℕ) → 2 ≤ p → p ≤ 24 → n < 2 ^ 60 → s < 60 → Cut p n s cut h kept → (cut - s) * h ≤ 60 * 2 ^ 23
product_bound p n s cut h kept P Q N S c =
    mul-le (cut - s) h 60 (2 ^ 23) (omega (arith, cut_bound p n s cut h kept P N S c)) (rw c.hidden_is (hidden_bound p Q))

pub near_is_cut : (p n s cut h kept : ℕ) → 2 ≤ p → n < 2 ^ 60 → Cut p n s cut h kept → (cut - s) * h + kept ≡ near p n (2 ^ s)
near_is_cut p n s cut h kept P N c =
    rw (c.hidden_is, c.kept_is, c.cut_is) (sym (near_cut p n s (64 - count_leading_zeros 64 n) P (size_of n N).0 (size_of n N).1))

-- ---- a pattern taken apart

pub small_steps : (p m : ℕ) → 2 ≤ p → m < hidden p → steps p m ≡ m * 1
small_steps p m P h = steps_small p m h ∙ omega arith

pub normal_steps : (p m : ℕ) → 2 ≤ p → hidden p ≤ m → steps p m ≡ (hidden p + m % hidden p) * 2 ^ (m / hidden p - 1)
normal_steps p m P g = steps_large p m g

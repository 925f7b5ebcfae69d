-- A number scaled by a power of four, so that its root has a format's digits; and the pattern of that root.
use Rattle.std.proofs.Common.{◌≡◌, ℕ, zero, suc, ◌+◌, ◌-◌, ◌*◌, ◌/◌, ◌%◌, ◌^◌, ◌<◌, ◌≤◌, Bool, true, false, eqb, ltb, ◌⊎◌, sym, refl, ap, ◌∙◌, inl, inr, mul-le-mul_right, suc-mul, add-mul, lt_of_mul-lt-mul_right, arith}
use native.Mathlib.Nat.{pow-succ'}
use lib.Ieee.{root_twice}
use Rattle.std.proofs.lemmas.Nat.{pow-add, shl_whole, shl_below}
use Rattle.std.proofs.lemmas.Bool.{cases_lt, cases_Bool, cond-true, cond-false, ne_eqb}
use Rattle.ieee.specs.Formats.{hidden, infinity, low, steps, quiet, signed, finite}
use Rattle.ieee.specs.Rounding.{near, round_root, word}
use Rattle.ieee.specs.Operations.{square_root}
use Rattle.ieee.proofs.Roots.{root_near, lt_of_squares, four_pow}
use Rattle.ieee.proofs.Steps.{pow_double, pow_le, pow_join, steps_zero, steps_less, round_near, round_zero}
use Rattle.units.specs.Patterns.{NearRoot, root_pattern}

square_pow : (j : ℕ) → 2 ^ j * 2 ^ j ≡ 2 ^ (2 * j)
square_pow j = sym (pow-add 2 j j) ∙ ap (λ (x : ℕ). 2 ^ x) (omega arith)

-- how many times 4 is taken out of d * 2 ^ s, for a d of z digits
abbrev fours : ℕ → ℕ → ℕ → ℕ
fours p z s = (z + s - (2 * p - 1)) / 2

-- d has z digits
abbrev Digits : ℕ → ℕ → Type 0
Digits d z = (d < 2 ^ z) × (2 ^ z ≤ 2 * d + 1)

digits_pos : (d z : ℕ) → 0 < d → Digits d z → 1 ≤ z
digits_pos d zero h g = omega arith
digits_pos d (suc z) h g = omega arith

digits_le : (d z p : ℕ) → d < 2 ^ p → Digits d z → z ≤ p
digits_le d z p h g = le_or (cases_lt p z)
  where
    le_or : (p < z) ⊎ (z ≤ p) → z ≤ p
    le_or (inl l) =
        let a : 2 ^ suc p ≤ 2 ^ z = pow_le (suc p) z l in
        let b : 2 ^ suc p ≡ 2 * 2 ^ p = pow-succ' 2 p in
        omega arith
    le_or (inr k) = k

pub record Scaled (p d s z : ℕ) : Type 0 where
  pub within : 2 * fours p z s ≤ s
  pub whole : d * 2 ^ (s - 2 * fours p z s) % 2 ^ 64 ≡ d * 2 ^ (s - 2 * fours p z s)
  pub value : d * 2 ^ s ≡ d * 2 ^ (s - 2 * fours p z s) * 4 ^ fours p z s
  pub least : 2 ^ (2 * p - 2) ≤ d * 2 ^ (s - 2 * fours p z s)
  pub most : d * 2 ^ (s - 2 * fours p z s) < 2 ^ (2 * p)
  pub small : 2 * fours p z s + p ≤ s + 1

pub scaled : (p d s z : ℕ) → 8 ≤ p → p ≤ 24 → 0 < d → d < 2 ^ p → 2 * p ≤ s + 2 → Digits d z → Scaled p d s z
scaled p d s z P Q D H S g =
    let a : 1 ≤ z = digits_pos d z D g in
    let b : z ≤ p = digits_le d z p H g in
    let j = fours p z s in
    let t = s - 2 * fours p z s in
    let k : 2 * fours p z s ≤ s = omega arith in
    record {
      within = k;
      whole = shl_whole d z t 64 g.0 (omega arith);
      value =
          let e : t + 2 * j ≡ s = omega arith in
          sym (ap (λ (x : ℕ). d * 2 ^ t * x) (four_pow j ∙ square_pow j) ∙ (pow_join d t (2 * j) ∙ ap (λ (x : ℕ). d * 2 ^ x) e));
      least =
          let c : 2 ^ (2 * p - 2) ≤ 2 ^ (z - 1 + t) = pow_le (2 * p - 2) (z - 1 + t) (omega arith) in
          let u : 2 ^ (z - 1 + t) ≡ 2 ^ (z - 1) * 2 ^ t = pow-add 2 (z - 1) t in
          let v : 2 ^ z ≡ 2 * 2 ^ (z - 1) = ap (λ (x : ℕ). 2 ^ x) (omega arith) ∙ pow-succ' 2 (z - 1) in
          let w : 2 ^ (z - 1) * 2 ^ t ≤ d * 2 ^ t = mul-le-mul_right (2 ^ t) (omega arith) in
          omega arith;
      most =
          let c : 2 ^ (z + t) ≤ 2 ^ (2 * p) = pow_le (z + t) (2 * p) (omega arith) in
          omega (arith, shl_below d z t g.0);
      small = omega arith;
    }

-- ---- the root's pattern

square_hidden : (p : ℕ) → hidden p * hidden p ≡ 2 ^ (2 * p - 2)
square_hidden p = square_pow (p - 1) ∙ ap (λ (x : ℕ). 2 ^ x) (omega arith)

-- the whole root of a number of 2p - 1 or 2p digits has p digits
root_digits : (p n r : ℕ) → 2 ≤ p → 2 ^ (2 * p - 2) ≤ n → n < 2 ^ (2 * p) → r * r ≤ n → n < (r + 1) * (r + 1) → (hidden p ≤ r) × (r < 2 ^ p)
root_digits p n r P a b l h = (
  omega (arith, lt_of_squares (hidden p) (r + 1) (omega (arith, square_hidden p))),
  lt_of_squares r (2 ^ p) (omega (arith, square_pow p)),
)

kept_le : (n r : ℕ) (x : NearRoot n r) → r ≤ x.whole + 1
kept_le n r x =
    elim (cases_Bool (ltb x.whole (n - x.whole * x.whole))) [
      | inl t ↦ omega (arith, x.value ∙ cond-true _ (x.whole + 1) x.whole t)
      | inr f ↦ omega (arith, x.value ∙ cond-false _ (x.whole + 1) x.whole f)
    ]

-- the pattern m = k * hidden p + d, and its root's as the code has it
pub record Root (p e m k d j n r : ℕ) : Type 0 where
  pub least : 8 ≤ p
  pub most : p ≤ 24
  pub reach : p ≤ e
  pub finite : m < infinity p e
  pub value : steps p m ≡ d * 2 ^ k
  pub parts : m ≡ k * hidden p + d
  pub leading : (k ≡ 0) ⊎ (hidden p ≤ d)
  pub scaled : d * 2 ^ (k + (e + p - 2)) ≡ n * 4 ^ j
  pub low_n : 2 ^ (2 * p - 2) ≤ n
  pub high_n : n < 2 ^ (2 * p)
  pub small : 2 * j + p ≤ k + (e + p - 2) + 1
  pub near_root : NearRoot n r

pub exponent_below : (p e m k d : ℕ) → 1 ≤ e → m < infinity p e → m ≡ k * hidden p + d → (k ≡ 0) ⊎ (hidden p ≤ d) → k < 2 * e
exponent_below p e m k d E h s (inl z) = omega arith
exponent_below p e m k d E h s (inr g) =
    let a : suc k * hidden p ≡ k * hidden p + hidden p = suc-mul k (hidden p) in
    let b : suc k < 2 * e + 1 = lt_of_mul-lt-mul_right (hidden p) (omega arith) in
    omega arith

pub root_bound : (p e m k d j n r : ℕ) → Root p e m k d j n r → j * hidden p + r ≤ infinity p e
root_bound p e m k d j n r x =
    let a : k < 2 * e = exponent_below p e m k d (omega (arith, x.least, x.reach)) x.finite x.parts x.leading in
    let b : (j + 2) * hidden p ≤ (2 * e + 1) * hidden p = mul-le-mul_right (hidden p) (omega (arith, x.small, x.least, x.reach)) in
    let c = root_digits p n x.near_root.whole (omega (arith, x.least)) x.low_n x.high_n x.near_root.low x.near_root.high in
    let d : (j + 2) * hidden p ≡ j * hidden p + 2 * hidden p = add-mul j 2 (hidden p) in
    omega (arith, kept_le n r x.near_root, c, pow_double p (omega (arith, x.least)))

pub root_is : (p e m k d j n r : ℕ) → Root p e m k d j n r → j * hidden p + r ≡ root_pattern p e m
unfolding round_root
root_is p e m k d j n r x =
    let P : 2 ≤ p = omega (arith, x.least) in
    let c = root_digits p n x.near_root.whole P x.low_n x.high_n x.near_root.low x.near_root.high in
    let s : steps p m * 2 ^ low p e ≡ n * 4 ^ j = ap (λ (y : ℕ). y * 2 ^ low p e) x.value ∙ (pow_join d k (low p e) ∙ x.scaled) in
    let v : near p (root_twice (4 * (steps p m * 2 ^ low p e))) 4 ≡ j * hidden p + r =
    root_near p (steps p m * 2 ^ low p e) n j x.near_root.whole P s c.0 c.1 x.near_root.low x.near_root.high ∙ ap (λ (y : ℕ). j * hidden p + y) (sym x.near_root.value) in
    sym (round_near p e (root_twice (4 * (steps p m * 2 ^ low p e))) 4 (j * hidden p + r) v (root_bound p e m k d j n r x))

-- ---- the square root of a finite value, by cases

pub steps_above : (p m : ℕ) → 2 ≤ p → 0 < m → eqb (steps p m) 0 ≡ false
steps_above p m P M = ne_eqb (steps p m) 0 (λ (z : steps p m ≡ 0). omega (arith, steps_less p 0 m P M))

pub root_of_zero : (p e m : ℕ) (s : Bool) → 2 ≤ p → m ≡ 0 → signed p e s 0 ≡ word p e (square_root (low p e) (finite s (steps p m)))
root_of_zero p e m s P z = rw (z, steps_zero p) (ap (signed p e s) (sym (round_zero p e P)))

pub root_of_negative : (p e m : ℕ) (s : Bool) → 2 ≤ p → 0 < m → s ≡ true → quiet p e ≡ word p e (square_root (low p e) (finite s (steps p m)))
root_of_negative p e m s P M t = rw (steps_above p m P M, t) refl

pub root_of_positive : (p e m : ℕ) (s : Bool) → 2 ≤ p → 0 < m → s ≡ false → root_pattern p e m ≡ word p e (square_root (low p e) (finite s (steps p m)))
root_of_positive p e m s P M t = rw (steps_above p m P M, t) refl

-- Rounding of fractions that are written in another way.
use Rattle.std.proofs.Common.{◌≡◌, ℕ, suc, ◌+◌, ◌-◌, ◌*◌, ◌%◌, ◌^◌, ◌<◌, ◌≤◌, min, Bool, true, false, cond, eqb, leb, ◌⊎◌, sym, refl, ap, ◌∙◌, inl, inr, mul-le-mul_right, arith}
use native.Mathlib.Nat.{pow-succ'}
use lib.Ieee.Nearest.{closest}
use Rattle.std.proofs.lemmas.Nat.{pow-add, pow_pos}
use Rattle.std.proofs.lemmas.Bool.{leb-true, leb-false, eqb-true, eqb-false}
use Rattle.ieee.specs.Formats.{low, hidden, infinity, steps}
use Rattle.ieee.specs.Rounding.{near, round}
use Rattle.ieee.proofs.Closest.{closest_close, closest_inside}
use Rattle.ieee.proofs.Steps.{dropped, infinity_pos, steps_le, steps_infinity, near_is, dropped_fits, near_same, round_same}
use Rattle.ieee.proofs.NearestLaws.{round_nearest}

-- ---- by quarters

-- j is odd and so never at an even bound: n / d is strictly on the same side of it
module _ (n d j : ℕ) (o : j % 2 ≡ 1) (l : j * d < 4 * n + d) (h : 4 * n < j * d + d) where
  odd_above : (a b : ℕ) → 2 * a ≤ j + 2 * b → 2 * (a * d) < 4 * n + 2 * (b * d)
  odd_above a b g =
      let m : (2 * a + 1) * d ≤ (j + 2 * b) * d = mul-le-mul_right d (omega arith) in
      omega arith

  odd_below : (a : ℕ) → j ≤ 2 * a → 4 * n < 2 * (a * d)
  odd_below a g =
      let m : (j + 1) * d ≤ 2 * a * d = mul-le-mul_right d (omega arith) in
      omega arith

  odd_closest : (u : ℕ) → 0 < u → closest n (d * u) ≡ closest j (4 * u)
  odd_closest u U =
      let c = closest j (4 * u) in
      let x = closest_close j (4 * u) (omega arith) in
      let a : 2 * (2 * c * u * d) < 4 * n + 2 * (u * d) = odd_above (2 * c * u) u (omega (arith, x.upper)) in
      let b : 4 * n < 2 * ((2 * c * u + u) * d) = odd_below (2 * c * u + u) (omega (arith, x.lower)) in
      closest_inside n (d * u) c (omega arith) (omega arith)

  odd_near : (p : ℕ) → 2 ≤ p → 0 < d → near p n d ≡ near p j 4
  odd_near p P D =
      let k = dropped p j 4 in
      let u = 2 ^ k in
      let f = dropped_fits p j 4 P (omega arith) in
      let low_fits : (k ≡ 0) ⊎ (hidden p * (d * u) ≤ n) = elim f.0 [
        | inl z ↦ inl z
        | inr g ↦ inr (omega (arith, odd_above (2 * (hidden p * u)) 0 (omega arith)))
      ] in
      let high_fits : n < 2 ^ p * (d * u) = omega (arith, odd_below (2 * (2 ^ p * u)) (omega arith)) in
      near_is p n d k P D low_fits high_fits
      ∙ ap (λ (x : ℕ). k * hidden p + x) (odd_closest u (pow_pos k))
      ∙ sym (near_is p j 4 k P (omega arith) f.0 f.1)

-- a number of quarters that is exact, or odd and less than a quarter off, rounds alike
near_jam : (p n d j : ℕ) → 2 ≤ p → 0 < d → (j * d ≡ 4 * n) ⊎ ((j % 2 ≡ 1) × (j * d < 4 * n + d) × (4 * n < j * d + d)) → near p n d ≡ near p j 4
near_jam p n d j P D (inl e) = near_same p n d j 4 D (omega arith) (omega arith)
near_jam p n d j P D (inr h) = odd_near n d j h.0 h.1 h.2 p P D

pub round_jam : (p e n d j : ℕ) → 2 ≤ p → 0 < d → (j * d ≡ 4 * n) ⊎ ((j % 2 ≡ 1) × (j * d < 4 * n + d) × (4 * n < j * d + d)) → round p e n d ≡ round p e j 4
unfolding round
round_jam p e n d j P D h = ap (λ (x : ℕ). min x (infinity p e)) (near_jam p n d j P D h)

-- n / d by quarters: q wholes and the rest r
pub quarters :
    (n d q r : ℕ) → 0 < d → q * d + r ≡ n → r < d → (j : ℕ) → j ≡ 4 * q + (cond (leb d (2 * r)) 2 0 + cond (eqb r 0) 0 (cond (eqb (2 * r) d) 0 1))
    → (j * d ≡ 4 * n) ⊎ ((j % 2 ≡ 1) × (j * d < 4 * n + d) × (4 * n < j * d + d))
quarters n d q r D e R j J = go _ _ _ refl refl refl J
  where
    go :
        (a b c : Bool) → leb d (2 * r) ≡ a → eqb r 0 ≡ b → eqb (2 * r) d ≡ c → j ≡ 4 * q + (cond a 2 0 + cond b 0 (cond c 0 1))
        → (j * d ≡ 4 * n) ⊎ ((j % 2 ≡ 1) × (j * d < 4 * n + d) × (4 * n < j * d + d))
    go true true c x y z s = absurd (omega (arith, leb-true _ _ x, eqb-true _ _ y))
    go true false true x y z s = inl (omega (arith, eqb-true _ _ z, ap (λ (k : ℕ). k * d) s))
    go true false false x y z s =
        let l : d < 2 * r = omega (arith, leb-true _ _ x, eqb-false _ _ z) in
        let m : j * d ≡ (4 * q + 3) * d = ap (λ (k : ℕ). k * d) s in
        inr (omega arith, omega arith, omega arith)
    go false true c x y z s = inl (omega (arith, eqb-true _ _ y, ap (λ (k : ℕ). k * d) s))
    go false false true x y z s = absurd (omega (arith, leb-false _ _ x, eqb-true _ _ z))
    go false false false x y z s =
        let l : 2 * r < d = leb-false _ _ x in
        let g : 0 < r = omega (arith, eqb-false _ _ y) in
        let m : j * d ≡ (4 * q + 1) * d = ap (λ (k : ℕ). k * d) s in
        inr (omega arith, omega arith, omega arith)

pub round_over : (p e n d : ℕ) → 2 ≤ p → 1 ≤ e → 0 < d → 2 ^ (low p e + suc e) * d ≤ n → round p e n d ≡ infinity p e
round_over p e n d P E D h =
    let i = infinity p e in
    let z : 0 < i = infinity_pos p e in
    let a : steps p i * d ≤ n = rw (steps_infinity p e P) h in
    let b : steps p (i - 1) * d ≤ steps p i * d = mul-le-mul_right d (steps_le p (i - 1) i P (omega arith)) in
    (round_nearest p e n d P E D).overflow.1 (omega arith)

-- ---- sums and products of magnitudes

-- a sum of smallest values, by halves
pub round_whole : (p e n : ℕ) → round p e n 1 ≡ round p e (2 * n) (2 ^ 1)
round_whole p e n = round_same p e n 1 (2 * n) (2 ^ 1) (omega arith) (pow_pos 1) (omega arith)

-- a product of two magnitudes; l is low
pub round_product_down : (p e l a x b y : ℕ) → x + y < l → round p e (a * 2 ^ x * (b * 2 ^ y)) (2 ^ l) ≡ round p e (2 * (a * b)) (2 ^ (l + 1 - (x + y)))
round_product_down p e l a x b y h =
    let t = l + 1 - (x + y) in
    let s : x + y + t ≡ suc l = omega arith in
    let m : 2 ^ x * 2 ^ y * 2 ^ t ≡ 2 * 2 ^ l = ap (λ (k : ℕ). k * 2 ^ t) (sym (pow-add 2 x y)) ∙ sym (pow-add 2 (x + y) t) ∙ ap (λ (k : ℕ). 2 ^ k) s ∙ pow-succ' 2 l in
    round_same p e (a * 2 ^ x * (b * 2 ^ y)) (2 ^ l) (2 * (a * b)) (2 ^ t) (pow_pos l) (pow_pos t) (omega (arith, ap (λ (k : ℕ). a * b * k) m))

pub round_product_up : (p e l a x b y : ℕ) → l ≤ x + y → round p e (a * 2 ^ x * (b * 2 ^ y)) (2 ^ l) ≡ round p e (2 * (a * b) * 2 ^ (x + y - l)) (2 ^ 1)
round_product_up p e l a x b y h =
    let t = x + y - l in
    let s : x + y ≡ t + l = omega arith in
    let m : 2 ^ x * 2 ^ y ≡ 2 ^ t * 2 ^ l = sym (pow-add 2 x y) ∙ ap (λ (k : ℕ). 2 ^ k) s ∙ pow-add 2 t l in
    round_same p e (a * 2 ^ x * (b * 2 ^ y)) (2 ^ l) (2 * (a * b) * 2 ^ t) (2 ^ 1) (pow_pos l) (pow_pos 1) (omega (arith, ap (λ (k : ℕ). a * b * k) m))

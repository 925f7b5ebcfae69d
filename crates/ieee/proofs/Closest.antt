-- The whole number nearest to n / u, a tie to the even one: what it satisfies, and that nothing else does.
use Rattle.std.proofs.Common.{◌≡◌, ℕ, zero, suc, ◌+◌, ◌*◌, ◌/◌, ◌%◌, ◌^◌, ◌<◌, ◌≤◌, not, T, eqb, refl, ap, ◌∙◌, subst, inl, inr, le_trans, mul-le-mul_right, suc-mul, div-add-mod', arith, eqb→eq, leb→le}
use Prim.Native.Nat.{compare, Ordering}
use native.Mathlib.Nat.{eq_of_mul-eq-mul_right}
use lib.Arith.{lt_of_le-ne}
use lib.Dec.{is_le, compare_is_eq, nleb→lt, eqb_refl}
use lib.Ieee.{nearest}
use lib.Ieee.Fits.{nearest-le}
use lib.Ieee.Nearest.{closest, nearest-ge}
use Rattle.std.proofs.lemmas.Bool.{cases_order}
use Rattle.std.proofs.lemmas.Nat.{pow_pos, mod_below, le-div, div_below}

-- ---- what `compare` says
abbrev Cmp : Ordering → ℕ → ℕ → Type 0
Cmp Ordering.lt a b = a < b
Cmp Ordering.eq a b = a ≡ b
Cmp Ordering.gt a b = b < a

cmp : (a b : ℕ) → Cmp (compare a b) a b
cmp a b = go (compare a b) (leb→le a b) (nleb→lt a b) (eqb→eq a b) (λ (e : a ≡ b). subst (λ (x : ℕ). T (eqb a x)) e (eqb_refl a))
  where
    go : (o : Ordering) → (T (is_le o) → a ≤ b) → (T (not (is_le o)) → b < a) → (T (compare_is_eq o) → a ≡ b) → (a ≡ b → T (compare_is_eq o)) → Cmp o a b
    go Ordering.lt h k e n = lt_of_le-ne (h tt) n
    go Ordering.eq h k e n = e tt
    go Ordering.gt h k e n = k tt

-- c is a whole number nearest to n / u, and the even one of two
pub record Close (n u c : ℕ) : Type 0 where
  pub upper : 2 * (c * u) ≤ 2 * n + u
  pub lower : 2 * n ≤ 2 * (c * u) + u
  pub tie_up : 2 * (c * u) ≡ 2 * n + u → c % 2 ≡ 0
  pub tie_down : 2 * n ≡ 2 * (c * u) + u → c % 2 ≡ 0

-- less than half away, there is no tie
inside : (n u c : ℕ) → 2 * (c * u) < 2 * n + u → 2 * n < 2 * (c * u) + u → Close n u c
inside n u c a b = record { upper = omega arith; lower = omega arith; tie_up = λ t. omega arith; tie_down = λ t. omega arith }

at_half : (n u q r b : ℕ) → q * u + r ≡ n → r < u → r * 2 ≡ u → b ≡ q % 2 → Close n u (q + b)
at_half n u q r zero e R h k =
    let m : (q + 0) * u ≡ q * u = ap (λ (x : ℕ). x * u) (omega arith) in
    record { upper = omega arith; lower = omega arith; tie_up = λ t. omega arith; tie_down = λ t. omega arith }
at_half n u q r (suc b) e R h k =
    let m : (q + suc b) * u ≡ q * u + u = ap (λ (x : ℕ). x * u) (omega arith) ∙ suc-mul q u in
    record { upper = omega arith; lower = omega arith; tie_up = λ t. omega arith; tie_down = λ t. omega arith }

by_order : (n u q r : ℕ) (o : Ordering) → Cmp o (r * 2) u → q * u + r ≡ n → r < u → Close n u (nearest q o)
by_order n u q r Ordering.lt h e R = inside n u q (omega arith) (omega arith)
by_order n u q r Ordering.eq h e R = at_half n u q r (q % 2) e R h refl
by_order n u q r Ordering.gt h e R = let m : suc q * u ≡ q * u + u = suc-mul q u in inside n u (suc q) (omega arith) (omega arith)

pub closest_close : (n u : ℕ) → 0 < u → Close n u (closest n u)
closest_close n u U = by_order n u (n / u) (n % u) (compare (n % u * 2) u) (cmp (n % u * 2) u) (div-add-mod' n u) (mod_below n u U)

-- a smaller one is too small, by one at least, and so both are at a tie and even
apart_by_one : (n u c d : ℕ) → 0 < u → Close n u c → Close n u d → c < d → ⊥
apart_by_one n u c d U x y h =
    let m : suc c * u ≤ d * u = mul-le-mul_right u h in
    let k : suc c * u ≡ c * u + u = suc-mul c u in
    let j : d * u ≡ suc c * u = omega (arith, x.lower, y.upper) in
    let e : d ≡ suc c = eq_of_mul-eq-mul_right u U d (suc c) j in
    omega (arith, x.tie_down (omega (arith, x.lower, y.upper)), y.tie_up (omega (arith, x.lower, y.upper)))

close_one : (n u c d : ℕ) → 0 < u → Close n u c → Close n u d → c ≡ d
close_one n u c d U x y =
    elim (cases_order c d) [
      | inl e ↦ e
      | inr (inl l) ↦ absurd (apart_by_one n u c d U x y l)
      | inr (inr g) ↦ absurd (apart_by_one n u d c U y x g)
    ]

pub closest_is : (n u c : ℕ) → 0 < u → Close n u c → closest n u ≡ c
closest_is n u c U x = close_one n u (closest n u) c U (closest_close n u U) x

pub closest_inside : (n u c : ℕ) → 2 * (c * u) < 2 * n + u → 2 * n < 2 * (c * u) + u → closest n u ≡ c
closest_inside n u c a b = closest_is n u c (omega arith) (inside n u c a b)

pub closest_whole : (c k : ℕ) → closest (c * 2 ^ k) (1 * 2 ^ k) ≡ c
closest_whole c k = closest_inside (c * 2 ^ k) (1 * 2 ^ k) c (omega (arith, pow_pos k)) (omega (arith, pow_pos k))

-- it does not leave the whole numbers that n / u is between
pub closest_from : (n u a : ℕ) → 0 < u → a * u ≤ n → a ≤ closest n u
closest_from n u a U h = le_trans (le-div a n u U h) (nearest-ge (n / u) (compare (n % u * 2) u))

pub closest_upto : (n u b : ℕ) → 0 < u → n < b * u → closest n u ≤ b
closest_upto n u b U h = le_trans (nearest-le (n / u) (compare (n % u * 2) u)) (div_below n u b U h)

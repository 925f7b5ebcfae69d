-- `root_twice` against twice numbers is what is under the root against their squares. So rounding it rounds the root.
use Rattle.std.proofs.Common.{◌≡◌, ℕ, zero, suc, ◌+◌, ◌-◌, ◌*◌, ◌/◌, ◌^◌, ◌<◌, ◌≤◌, Bool, true, false, cond, ltb, leb, ◌⊎◌, sym, refl, ap, ◌∙◌, inl, inr, le_trans, lt_of_lt_of_le, mul-le-mul_right, mul-le-mul, mul-lt-mul_of_pos_right, mul-pos, pow-suc, lt_of_not-le, arith, pow_pos}
use lib.Ieee.{size}
use lib.Ieee.Digits.{size-lt}
use lib.Ieee.Nearest.{closest}
use lib.Ieee.{root_twice, root_below}
use Rattle.std.proofs.lemmas.Bool.{leb-true, leb-false, eq-eqb, ne_eqb, lt-ltb, le-ltb, cases_lt, cases_eq, cases_order, cond-true, cond-false}
use Rattle.ieee.specs.Formats.{hidden, steps}
use Rattle.ieee.specs.Rounding.{near, round_root}
use Rattle.ieee.specs.Laws.{Nearest, NearestRoot, twice_midpoint}
use Rattle.ieee.proofs.Closest.{closest_inside}
use Rattle.ieee.proofs.Steps.{steps_less, near_is}
use Rattle.ieee.proofs.NearestLaws.{round_nearest, nearest_one}

-- s is the whole part of n's root
abbrev Root : ℕ → ℕ → Type 0
Root s n = (s * s ≤ n) × (n < (s + 1) * (s + 1))

digit : (r n : ℕ) (b : Bool) → Root r (n / 4) → leb ((2 * r + 1) * (2 * r + 1)) n ≡ b → Root (cond b (2 * r + 1) (2 * r)) n
digit r n true h e = (leb-true _ _ e, omega (arith, h.1))
digit r n false h e = (omega (arith, h.0), leb-false _ _ e)

below : (k n : ℕ) → n < 2 ^ k → Root (root_below k n) n
unfolding root_below
below zero n h = omega arith
below (suc k) n h = digit (root_below k (n / 4)) n _ (below k (n / 4) (omega arith)) refl

root_parts : (n : ℕ) → (t : ℕ) × (t * t ≤ n) × (n < (t + 1) * (t + 1)) × (((root_twice n ≡ 2 * t) × (t * t ≡ n)) ⊎ ((root_twice n ≡ 2 * t + 1) × (t * t < n)))
unfolding root_twice
root_parts n =
    let t = root_below (size n) n in
    let h : Root t n = below (size n) n (size-lt n) in (
      t,
      h.0,
      h.1,
      elim (cases_eq (t * t) n) [
        | inl e ↦ inl (ap (λ (b : Bool). 2 * t + cond b 0 1) (eq-eqb (t * t) n e) ∙ (omega arith), e)
        | inr u ↦ inr (ap (λ (b : Bool). 2 * t + cond b 0 1) (ne_eqb (t * t) n u), omega arith)
      ],
    )

pub lt_of_squares : (a b : ℕ) → a * a < b * b → a < b
lt_of_squares a b h = lt_of_not-le (λ (g : b ≤ a). omega (arith, mul-le-mul g g))

-- n against the square of x, and its r against twice x, in the same order
abbrev Compared : ℕ → ℕ → ℕ → Type 0
Compared n r x = ((x * x ≡ n) × (2 * x ≡ r)) ⊎ (((x * x < n) × (2 * x < r)) ⊎ ((n < x * x) × (r < 2 * x)))

compared : (n x : ℕ) → Compared n (root_twice n) x
compared n x =
    let h = root_parts n in
    let t = h.0 in
    elim (cases_order (x * x) n) [
      | inl e ↦
          let a : x < t + 1 = lt_of_squares x (t + 1) (omega arith) in
          let b : t < x + 1 = lt_of_squares t (x + 1) (omega arith) in
          let c : x ≡ t = omega arith in
          inl (e, omega (arith, ap (λ (k : ℕ). k * k) c))
      | inr (inl l) ↦
          let a : x < t + 1 = lt_of_squares x (t + 1) (omega arith) in
          let b : 2 * x < root_twice n = elim h.3 [ inl w ↦ omega (arith, lt_of_squares x t (omega arith)) | inr w ↦ omega arith ] in
          inr (inl (l, b))
      | inr (inr g) ↦
          let a : t < x = lt_of_squares t x (omega arith) in
          inr (inr (g, omega arith))
    ]

-- ---- the root of n ≡ M * u * u, from the whole part R of the root of M

pub four_pow : (j : ℕ) → 4 ^ j ≡ 2 ^ j * 2 ^ j
four_pow zero = refl
four_pow (suc j) = omega (arith, four_pow j, pow-suc 4 j, ap (λ (k : ℕ). k * k) (pow-suc 2 j))

module _ (n M R u : ℕ) (U : 0 < u) (e : n ≡ M * (u * u)) (l : R * R ≤ M) (h : M < (R + 1) * (R + 1)) where
  from : R * (4 * u) ≤ root_twice (4 * n)
  from = omega (arith, compared (4 * n) (2 * R * u), mul-le-mul_right (u * u) l)

  upto : root_twice (4 * n) < (R + 1) * (4 * u)
  upto = omega (arith, compared (4 * n) (2 * (R + 1) * u), mul-lt-mul_of_pos_right h (mul-pos U U))

  -- a tie would be at (2 * R + 1) * u, whose square is never 4 * n
  rounded : closest (root_twice (4 * n)) (4 * u) ≡ cond (ltb R (M - R * R)) (R + 1) R
  rounded =
      let c = compared (4 * n) ((2 * R + 1) * u) in
      let s = mul-pos U U in
      elim (cases_lt R (M - R * R)) [
        | inl a ↦
            let g : (R * R + R + 1) * (u * u) ≤ M * (u * u) = mul-le-mul_right (u * u) (omega arith) in
            closest_inside (root_twice (4 * n)) (4 * u) (R + 1) (omega arith) (omega (arith, upto)) ∙ sym (cond-true _ _ _ (lt-ltb R (M - R * R) a))
        | inr b ↦
            let g : M * (u * u) ≤ (R * R + R) * (u * u) = mul-le-mul_right (u * u) (omega arith) in
            closest_inside (root_twice (4 * n)) (4 * u) R (omega (arith, from)) (omega arith) ∙ sym (cond-false _ _ _ (le-ltb R (M - R * R) b))
      ]

pub root_near : (p n M j R : ℕ) → 2 ≤ p → n ≡ M * 4 ^ j → hidden p ≤ R → R < 2 ^ p → R * R ≤ M → M < (R + 1) * (R + 1)
    → near p (root_twice (4 * n)) 4 ≡ j * hidden p + cond (ltb R (M - R * R)) (R + 1) R
root_near p n M j R P e a b l h =
    let u = 2 ^ j in
    let s : n ≡ M * (u * u) = e ∙ ap (λ (k : ℕ). M * k) (four_pow j) in
    near_is p (root_twice (4 * n)) 4 j P (omega arith)
    (inr (le_trans (mul-le-mul_right (4 * u) a) (from n M R u (pow_pos j) s l h)))
    (lt_of_lt_of_le (upto n M R u (pow_pos j) s l h) (mul-le-mul_right {m = R + 1} (4 * u) (omega arith)))
    ∙ ap (λ (k : ℕ). j * hidden p + k) (rounded n M R u (pow_pos j) s l h)

-- ---- the law of the nearest root is the law of the nearest fraction, at `root_twice (4 * n) / 4`

module _ (p e n m : ℕ) (P : 2 ≤ p) where
  to_root : Nearest p e (root_twice (4 * n)) 4 m → NearestRoot p e n m
  to_root h =
      record {
        held = h.held;
        above = λ i k l. omega (arith, steps_less p k m P l, compared (4 * n) (steps p k + steps p m), h.nearest i k (omega arith));
        below = λ k l i. omega (arith, steps_less p m k P l, compared (4 * n) (steps p m + steps p k), h.nearest (omega arith) k i);
        even = λ i k j u q. h.even i k j u (omega (arith, compared (4 * n) (steps p m + steps p k)));
        overflow = (
          λ q. omega (arith, compared (4 * n) (twice_midpoint p e), h.overflow.0 q),
          λ q. h.overflow.1 (omega (arith, compared (4 * n) (twice_midpoint p e))),
        );
      }

  of_root : NearestRoot p e n m → Nearest p e (root_twice (4 * n)) 4 m
  of_root h =
      record {
        held = h.held;
        nearest = λ i k j. elim (cases_order k m) [
          | inl q ↦ omega (arith, ap (steps p) q)
          | inr (inl l) ↦ omega (arith, steps_less p k m P l, compared (4 * n) (steps p k + steps p m), h.above i k l)
          | inr (inr l) ↦ omega (arith, steps_less p m k P l, compared (4 * n) (steps p m + steps p k), h.below k l j)
        ];
        even = λ i k j u q. h.even i k j u (elim (cases_order k m) [
          | inl w ↦ absurd (u w)
          | inr (inl l) ↦ omega (arith, steps_less p k m P l, compared (4 * n) (steps p m + steps p k))
          | inr (inr l) ↦ omega (arith, steps_less p m k P l, compared (4 * n) (steps p m + steps p k))
        ]);
        overflow = (
          λ q. omega (arith, compared (4 * n) (twice_midpoint p e), h.overflow.0 q),
          λ q. h.overflow.1 (omega (arith, compared (4 * n) (twice_midpoint p e))),
        );
      }

pub root_nearest : (p e n : ℕ) → 2 ≤ p → 1 ≤ e → NearestRoot p e n (round_root p e n)
unfolding round_root
root_nearest p e n P E = to_root p e n (round_root p e n) P (round_nearest p e (root_twice (4 * n)) 4 P E (omega arith))

pub root_one : (p e n m k : ℕ) → 2 ≤ p → 1 ≤ e → NearestRoot p e n m → NearestRoot p e n k → m ≡ k
root_one p e n m k P E a b = nearest_one p e (root_twice (4 * n)) 4 m k P E (omega arith) (of_root p e n m P a) (of_root p e n k P b)

-- The least of a function's values below a bound, and their sum.
use Rattle.std.proofs.Common.{◌≡◌, ℕ, zero, suc, ◌+◌, ◌<◌, ◌≤◌, ◌⊎◌, map, sum, sym, subst, inl, inr, eq-or-lt_of_le, add-one, arith}
use Rattle.std.specs.List.{range_with_len}
use Rattle.std.proofs.lemmas.List.FromFn.{sum_by-map-range_with_len_more}
use Rattle.std.proofs.lemmas.Bool.{cases_lt}

-- the least of finitely many numbers
least_more : (g : ℕ → ℕ) (n i : ℕ) → i < suc n → ((j : ℕ) → j < suc n → g i ≤ g j) → (g i ≤ g (suc n)) ⊎ (g (suc n) < g i) → (i : ℕ) × (i < suc (suc n)) × ((j : ℕ) → j < suc (suc n) → g i ≤ g j)
least_more g n i b f (inl c) = (
  i,
  omega arith,
  λ j l. elim (eq-or-lt_of_le {n = j} {m = suc n} (omega arith)) [
    | inl e ↦ subst (λ (x : ℕ). g i ≤ g x) (sym e) c
    | inr l' ↦ f j l'
  ],
)
least_more g n i b f (inr c) = (
  suc n,
  omega arith,
  λ j l. elim (eq-or-lt_of_le {n = j} {m = suc n} (omega arith)) [
    | inl e ↦ subst (λ (x : ℕ). g (suc n) ≤ g x) (sym e) (omega arith)
    | inr l' ↦ omega (arith, f j l')
  ],
)

pub least : (g : ℕ → ℕ) (n : ℕ) → (i : ℕ) × (i < suc n) × ((j : ℕ) → j < suc n → g i ≤ g j)
least g zero = (0, omega arith, λ j l. let e : 0 ≡ j = omega arith in subst (λ (x : ℕ). g 0 ≤ g x) e (omega arith))
least g (suc n) =
    let (i, b, f) = least g n in
    least_more g n i b f (elim (cases_lt (g (suc n)) (g i)) [ inl l ↦ inr l | inr c ↦ inl c ])

-- the sum of g over the numbers below n
abbrev pub total : (ℕ → ℕ) → ℕ → ℕ
total g n = sum (map g (range_with_len 0 n))

total_more : (g : ℕ → ℕ) (n : ℕ) → total g (suc n) ≡ total g n + g n
total_more g n = subst (λ (m : ℕ). total g m ≡ total g n + g n) (add-one n) (sum_by-map-range_with_len_more (λ (x : ℕ). x) g 0 n n (omega arith))

total_le : (g h : ℕ → ℕ) (n : ℕ) → ((i : ℕ) → i < n → g i ≤ h i) → total g n ≤ total h n
total_le g h zero f = omega arith
total_le g h (suc n) f = omega (arith, total_more g n, total_more h n, total_le g h n (λ i l. f i (omega arith)), f n (omega arith))

-- one term grows and none falls
pub total_grows : (g h : ℕ → ℕ) (n i : ℕ) → ((i : ℕ) → i < n → g i ≤ h i) → i < n → g i < h i → total g n < total h n
total_grows g h zero i f l s = omega arith
total_grows g h (suc n) i f l s = elim (eq-or-lt_of_le {n = i} {m = n} (omega arith)) [
  | inl e ↦
      let s' : g n < h n = subst (λ (x : ℕ). g x < h x) e s in
      omega (arith, total_more g n, total_more h n, total_le g h n (λ i l. f i (omega arith)))
  | inr l' ↦ omega (arith, total_more g n, total_more h n, total_grows g h n i (λ i l. f i (omega arith)) l' s, f n (omega arith))
]

-- Rounding to nearest: the rounded pattern is nearest to n / d smallest values, and no other pattern is.
use Rattle.std.proofs.Common.{◌≡◌, ℕ, zero, suc, ◌+◌, ◌-◌, ◌*◌, ◌%◌, ◌^◌, ◌<◌, ◌≤◌, min, ◌⊎◌, sym, refl, ap, ◌∙◌, subst, inl, inr, mul-le-mul_right, mul_assoc, suc-mul, mul_comm, add-mul, mul-lt-mul_of_pos_right, mul-pos, pow-suc, arith}
use native.Mathlib.Nat.{mul-mod_left}
use lib.Arith.{lt_of_le-ne}
use lib.Ieee.Nearest.{closest}
use Rattle.std.proofs.lemmas.Nat.{pow_pos}
use Rattle.std.proofs.lemmas.Bool.{cases_lt, cases_eq, cases_order}
use Rattle.ieee.specs.Formats.{hidden, infinity, steps}
use Rattle.ieee.specs.Rounding.{near, round}
use Rattle.ieee.specs.Laws.{apart, twice_midpoint, Nearest}
use Rattle.ieee.proofs.Closest.{Close, closest_close}
use Rattle.ieee.proofs.Steps.{dropped, infinity_pos, steps_at, steps_less, steps_le, dropped_fits, kept_fits, round_min}

-- ---- In a list of increasing values: n is not beyond the midpoints on the two sides of the value at m, and at a midpoint m is even.

pub record Central (v : ℕ → ℕ) (n m : ℕ) : Type 0 where
  below : (j : ℕ) → j < m → v j + v m ≤ 2 * n
  above : (j : ℕ) → m < j → 2 * n ≤ v m + v j
  even : (j : ℕ) → (j ≡ m → ⊥) → v j + v m ≡ 2 * n → m % 2 ≡ 0

abbrev Increasing : (ℕ → ℕ) → Type 0
Increasing v = (i j : ℕ) → i < j → v i < v j

-- n is close to c * u, and the other values are u away or more, or n is not on their side
close_central :
    (v : ℕ → ℕ) (n m u c : ℕ) → Close n u c → v m ≡ c * u → (c % 2 ≡ 0 → m % 2 ≡ 0)
    → ((j : ℕ) → j < m → (v j + u ≤ v m) ⊎ ((v j < v m) × (v m ≤ n)))
    → ((j : ℕ) → m < j → (v m + u ≤ v j) ⊎ ((v m < v j) × (n ≤ v m)))
    → Central v n m
close_central v n m u c k e o lo hi = record { below = λ j h. below j (lo j h); above = λ j h. above j (hi j h); even = λ j f t. side j t (cases_order j m) f }
  where
    below : (j : ℕ) → (v j + u ≤ v m) ⊎ ((v j < v m) × (v m ≤ n)) → v j + v m ≤ 2 * n
    below j g = omega (arith, k.upper)

    above : (j : ℕ) → (v m + u ≤ v j) ⊎ ((v m < v j) × (n ≤ v m)) → 2 * n ≤ v m + v j
    above j g = omega (arith, k.lower)

    even_below : (j : ℕ) → v j + v m ≡ 2 * n → (v j + u ≤ v m) ⊎ ((v j < v m) × (v m ≤ n)) → m % 2 ≡ 0
    even_below j t (inl g) = o (k.tie_up (omega (arith, k.upper)))
    even_below j t (inr g) = absurd (omega arith)

    even_above : (j : ℕ) → v j + v m ≡ 2 * n → (v m + u ≤ v j) ⊎ ((v m < v j) × (n ≤ v m)) → m % 2 ≡ 0
    even_above j t (inl g) = o (k.tie_down (omega (arith, k.lower)))
    even_above j t (inr g) = absurd (omega arith)

    side : (j : ℕ) → v j + v m ≡ 2 * n → (j ≡ m) ⊎ ((j < m) ⊎ (m < j)) → (j ≡ m → ⊥) → m % 2 ≡ 0
    side j t (inl g) f = absurd (f g)
    side j t (inr (inl g)) f = even_below j t (lo j g)
    side j t (inr (inr g)) f = even_above j t (hi j g)

pub central_nearest : (v : ℕ → ℕ) → Increasing v → (n m : ℕ) → Central v n m → (j : ℕ) → apart n (v m) ≤ apart n (v j)
central_nearest v i n m c j = go (cases_order j m)
  where
    go : (j ≡ m) ⊎ ((j < m) ⊎ (m < j)) → apart n (v m) ≤ apart n (v j)
    go (inl e) = rw e (omega arith)
    go (inr (inl l)) = omega (arith, i j m l, c.below j l)
    go (inr (inr l)) = omega (arith, i m j l, c.above j l)

pub central_even : (v : ℕ → ℕ) → Increasing v → (n m : ℕ) → Central v n m → (j : ℕ) → (j ≡ m → ⊥) → apart n (v m) ≡ apart n (v j) → m % 2 ≡ 0
central_even v i n m c j f t = c.even j f (go (cases_order j m))
  where
    go : (j ≡ m) ⊎ ((j < m) ⊎ (m < j)) → v j + v m ≡ 2 * n
    go (inl e) = absurd (f e)
    go (inr (inl l)) = omega (arith, i j m l, c.below j l)
    go (inr (inr l)) = omega (arith, i m j l, c.above j l)

-- Two places that are equally near and both even have a nearer one between them.
pub none_two :
    (v : ℕ → ℕ) → Increasing v → (n m k : ℕ) → m < k
    → ((j : ℕ) → j ≤ k → apart n (v m) ≤ apart n (v j)) → apart n (v k) ≤ apart n (v m)
    → (apart n (v m) ≡ apart n (v k) → m % 2 ≡ 0) → (apart n (v k) ≡ apart n (v m) → k % 2 ≡ 0) → ⊥
none_two v i n m k l near-m near-k even-m even-k =
    let t : apart n (v m) ≡ apart n (v k) = omega (arith, near-m k (omega arith)) in
    let a : m % 2 ≡ 0 = even-m t in
    let b : k % 2 ≡ 0 = even-k (sym t) in
    let s : suc m < k = omega arith in
    let x = i m (suc m) (omega arith) in
    let y = i (suc m) k s in
    let z = near-m (suc m) (omega arith) in
    omega arith

pub whole_increasing : (d : ℕ) → 0 < d → Increasing (λ j. j * d)
whole_increasing d D i j h = mul-lt-mul_of_pos_right h D

pub closest_central : (n d : ℕ) → 0 < d → Central (λ j. j * d) n (closest n d)
closest_central n d D =
    close_central (λ j. j * d) n (closest n d) d (closest n d) (closest_close n d D) refl (λ e. e)
    (λ j h. inl (next j (closest n d) h)) (λ j h. inl (next (closest n d) j h))
  where
    next : (a b : ℕ) → a < b → a * d + d ≤ b * d
    next a b h = omega (arith, suc-mul a d, mul-le-mul_right {m = suc a} {n = b} d h)

-- ---- patterns

values_increasing : (p d : ℕ) → 2 ≤ p → 0 < d → Increasing (λ j. steps p j * d)
values_increasing p d P D i j h = mul-lt-mul_of_pos_right (steps_less p i j P h) D

hidden_even : (p x : ℕ) → 2 ≤ p → x * hidden p % 2 ≡ 0
hidden_even p x P =
    let e : p - 1 ≡ suc (p - 2) = omega arith in
    ap (λ (z : ℕ). z % 2) (ap (λ (q : ℕ). x * 2 ^ q) e ∙ ap (λ (z : ℕ). x * z) (pow-suc 2 (p - 2)) ∙ sym (mul_assoc x (2 ^ (p - 2)) 2)) ∙ mul-mod_left (x * 2 ^ (p - 2)) 2

-- the neighbours of a pattern are 2 ^ k away, but for the one below a power of two and the one above a carry
step_down : (p k c j : ℕ) → 2 ≤ p → c ≤ 2 ^ p → (k ≡ 0) ⊎ (hidden p < c) → j < k * hidden p + c → steps p j + 2 ^ k ≤ c * 2 ^ k
step_down p k zero j P h (inl e) l = absurd (omega (arith, ap (λ (z : ℕ). z * hidden p) e))
step_down p k zero j P h (inr g) l = absurd (omega arith)
step_down p k (suc c) j P h o l =
    let a : steps p (k * hidden p + c) ≡ c * 2 ^ k = steps_at p k c P (omega arith) (elim o [ inl e ↦ inl e | inr g ↦ inr (omega arith) ]) in
    omega (arith, steps_le p j (k * hidden p + c) P (omega arith), suc-mul c (2 ^ k))

step_up : (p k c j : ℕ) → 2 ≤ p → c < 2 ^ p → (k ≡ 0) ⊎ (hidden p ≤ c) → k * hidden p + c < j → c * 2 ^ k + 2 ^ k ≤ steps p j
step_up p k c j P h o l =
    let a : steps p (k * hidden p + suc c) ≡ suc c * 2 ^ k = steps_at p k (suc c) P h (elim o [ inl e ↦ inl e | inr g ↦ inr (omega arith) ]) in
    omega (arith, steps_le p (k * hidden p + suc c) j P (omega arith), suc-mul c (2 ^ k))

-- with k dropped digits and c kept
central_at :
    (p n d k c : ℕ) → 2 ≤ p → 0 < d → Close n (d * 2 ^ k) c → c ≤ 2 ^ p → (k ≡ 0) ⊎ (hidden p ≤ c) → (k ≡ 0) ⊎ (hidden p * (d * 2 ^ k) ≤ n) → n < 2 ^ p * (d * 2 ^ k)
    → Central (λ j. steps p j * d) n (k * hidden p + c)
central_at p n d k c P D close h o low high =
    close_central (λ j. steps p j * d) n m (d * 2 ^ k) c close here (λ e. omega (arith, hidden_even p k P)) (λ j l. lo j l low (cases_lt (hidden p) c)) (λ j l. hi j l (cases_lt c (2 ^ p)))
  where
    m : ℕ
    m = k * hidden p + c

    swap : c * 2 ^ k * d ≡ c * (d * 2 ^ k)
    swap = mul_assoc c (2 ^ k) d ∙ ap (λ (z : ℕ). c * z) (mul_comm (2 ^ k) d)

    here : steps p m * d ≡ c * (d * 2 ^ k)
    here = ap (λ (z : ℕ). z * d) (steps_at p k c P h o) ∙ swap

    down : (j : ℕ) → j < m → (k ≡ 0) ⊎ (hidden p < c) → steps p j * d + d * 2 ^ k ≤ steps p m * d
    down j l g = omega (arith, here, swap, mul_comm d (2 ^ k), add-mul (steps p j) (2 ^ k) d, mul-le-mul_right d (step_down p k c j P h g l))

    lo : (j : ℕ) → j < m → (k ≡ 0) ⊎ (hidden p * (d * 2 ^ k) ≤ n) → (hidden p < c) ⊎ (c ≤ hidden p) → (steps p j * d + d * 2 ^ k ≤ steps p m * d) ⊎ ((steps p j * d < steps p m * d) × (steps p m * d ≤ n))
    lo j l (inl z) g = inl (down j l (inl z))
    lo j l (inr b) (inl g) = inl (down j l (inr g))
    lo j l (inr b) (inr g) = inr (values_increasing p d P D j m l, omega (arith, here, mul-le-mul_right (d * 2 ^ k) g))

    hi : (j : ℕ) → m < j → (c < 2 ^ p) ⊎ (2 ^ p ≤ c) → (steps p m * d + d * 2 ^ k ≤ steps p j * d) ⊎ ((steps p m * d < steps p j * d) × (n ≤ steps p m * d))
    hi j l (inl g) = inl (omega (arith, here, swap, mul_comm d (2 ^ k), add-mul (c * 2 ^ k) (2 ^ k) d, mul-le-mul_right d (step_up p k c j P g o l)))
    hi j l (inr g) = inr (values_increasing p d P D m j l, omega (arith, here, mul-le-mul_right (d * 2 ^ k) g))

near_central : (p n d : ℕ) → 2 ≤ p → 0 < d → Central (λ j. steps p j * d) n (near p n d)
unfolding near
near_central p n d P D =
    let k = dropped p n d in
    let u = d * 2 ^ k in
    let kept = kept_fits p n d P D in
    let fits = dropped_fits p n d P D in
    central_at p n d k (closest n u) P D (closest_close n u (mul-pos D (pow_pos k))) kept.0 kept.1 fits.0 fits.1

-- ---- at an even place i, from which on there are no finite values

top_below : (v : ℕ → ℕ) → Increasing v → (n m i : ℕ) → Central v n m → m < i → i % 2 ≡ 0 → v (i - 1) + v i ≤ 2 * n → ⊥
top_below v inc n m i c l o h = go (cases_eq m (i - 1))
  where
    go : (m ≡ i - 1) ⊎ (m ≡ i - 1 → ⊥) → ⊥
    go (inl e) =
        let t : v i + v m ≡ 2 * n = omega (arith, c.above i l, ap v e) in
        omega (arith, c.even i (λ g. omega arith) t)
    go (inr f) = omega (arith, c.above i l, inc m (i - 1) (omega arith))

top_above : (v : ℕ → ℕ) → Increasing v → (n m i : ℕ) → Central v n m → 0 < i → i ≤ m → v (i - 1) + v i ≤ 2 * n
top_above v inc n m i c z l = go (cases_eq i m)
  where
    go : (i ≡ m) ⊎ (i ≡ m → ⊥) → v (i - 1) + v i ≤ 2 * n
    go (inl e) = omega (arith, c.below (i - 1) (omega arith), ap v e)
    go (inr f) = omega (arith, c.below (i - 1) (omega arith), inc i m (lt_of_le-ne l f))

midpoint : (p e d : ℕ) → twice_midpoint p e * d ≡ steps p (infinity p e - 1) * d + steps p (infinity p e) * d
midpoint p e d = add-mul (steps p (infinity p e - 1)) (steps p (infinity p e)) d

within : (p e n d m : ℕ) → 2 ≤ p → 0 < d → Central (λ j. steps p j * d) n m → m < infinity p e → Nearest p e n d m
within p e n d m P D c l =
    let v : ℕ → ℕ = λ j. steps p j * d in
    let i = values_increasing p d P D in
    record {
      held = omega arith;
      nearest = λ _ k _. central_nearest v i n m c k;
      even = λ _ k _. central_even v i n m c k;
      overflow = (λ g. absurd (omega arith), λ g. absurd (top_below v i n m (infinity p e) c l (hidden_even p (2 * e + 1) P) (subst (λ (z : ℕ). z ≤ 2 * n) (midpoint p e d) g)));
    }

beyond : (p e n d m : ℕ) → 2 ≤ p → 0 < d → Central (λ j. steps p j * d) n m → infinity p e ≤ m → Nearest p e n d (infinity p e)
beyond p e n d m P D c l =
    record {
      held = omega arith;
      nearest = λ g. absurd (omega arith);
      even = λ g. absurd (omega arith);
      overflow = (λ _. subst (λ (z : ℕ). z ≤ 2 * n) (sym (midpoint p e d)) (top_above (λ j. steps p j * d) (values_increasing p d P D) n m (infinity p e) c (infinity_pos p e) l), λ _. refl);
    }

pub round_nearest : (p e n d : ℕ) → 2 ≤ p → 1 ≤ e → 0 < d → Nearest p e n d (round p e n d)
round_nearest p e n d P E D = subst (Nearest p e n d) (round_min p e n d) (go (cases_lt (near p n d) (infinity p e)))
  where
    go : (near p n d < infinity p e) ⊎ (infinity p e ≤ near p n d) → Nearest p e n d (min (near p n d) (infinity p e))
    go (inl l) = subst (Nearest p e n d) (omega arith) (within p e n d (near p n d) P D (near_central p n d P D) l)
    go (inr l) = subst (Nearest p e n d) (omega arith) (beyond p e n d (near p n d) P D (near_central p n d P D) l)

-- of two finite ones neither is the smaller
nearest_not_less : (p e n d m k : ℕ) → 2 ≤ p → 0 < d → Nearest p e n d m → Nearest p e n d k → m < k → k < infinity p e → ⊥
nearest_not_less p e n d m k P D a b l h =
    let g : m < infinity p e = omega arith in
    none_two (λ j. steps p j * d) (values_increasing p d P D) n m k l
    (λ j s. a.nearest g j (omega arith)) (b.nearest h m g) (a.even g k h (λ s. omega arith)) (b.even h m g (λ s. omega arith))

infinite_one : (p e n d m k : ℕ) → Nearest p e n d m → Nearest p e n d k → infinity p e ≤ m → m ≡ k
infinite_one p e n d m k a b h =
    let g : m ≡ infinity p e = omega (arith, a.held) in
    g ∙ sym (b.overflow.1 (a.overflow.0 g))

pub nearest_one : (p e n d m k : ℕ) → 2 ≤ p → 1 ≤ e → 0 < d → Nearest p e n d m → Nearest p e n d k → m ≡ k
nearest_one p e n d m k P E D a b = go (cases_lt m (infinity p e)) (cases_lt k (infinity p e)) (cases_order m k)
  where
    go : (m < infinity p e) ⊎ (infinity p e ≤ m) → (k < infinity p e) ⊎ (infinity p e ≤ k) → (m ≡ k) ⊎ ((m < k) ⊎ (k < m)) → m ≡ k
    go (inl g) (inl h) (inl s) = s
    go (inl g) (inl h) (inr (inl s)) = absurd (nearest_not_less p e n d m k P D a b s h)
    go (inl g) (inl h) (inr (inr s)) = absurd (nearest_not_less p e n d k m P D b a s g)
    go (inl g) (inr h) s = sym (infinite_one p e n d k m b a h)
    go (inr g) h s = infinite_one p e n d m k a b g

-- Patterns and the counts of smallest values that they stand for, and what rounding keeps and drops.
use Rattle.std.proofs.Common.{◌≡◌, ℕ, zero, suc, ◌+◌, ◌-◌, ◌*◌, ◌/◌, ◌%◌, ◌^◌, ◌<◌, ◌≤◌, min, ◌⊎◌, sym, refl, ap, ◌∙◌, inl, inr, le_of_eq, lt_of_lt_of_le, le_of_lt, mul-le-mul_right, mul_assoc, suc-mul, mul_comm, div-lt_iff_lt-mul, le_antisymm, eq-or-lt_of_le, mul-lt-mul_of_pos_right, mul-pos, one-mul, div-add-mod', le-div_iff_mul-le, mul-one, mul_left_comm, arith, pow_mono}
use native.Mathlib.Nat.{pow-succ', min-eq_left}
use lib.Ieee.{size}
use lib.Ieee.Digits.{size-lt, size_reaches, size-le}
use lib.Ieee.Nearest.{closest, closest_same, div_same}
use Rattle.std.proofs.lemmas.Nat.{pow-add, pow_pos, div-mul-add, mod-mul-add, mod_below, le-div}
use Rattle.std.proofs.lemmas.Bool.{cases_lt, cond-true, cond-false, lt-ltb, le-ltb}
use Rattle.ieee.specs.Formats.{low, hidden, infinity, steps}
use Rattle.ieee.specs.Rounding.{near, round}
use Rattle.ieee.proofs.Closest.{closest_whole, closest_from, closest_upto}

-- how many digits are dropped of the whole part of n / d
abbrev pub dropped : ℕ → ℕ → ℕ → ℕ
dropped p n d = size (n / d) - p

pub pow_double : (p : ℕ) → 2 ≤ p → 2 ^ p ≡ 2 * hidden p
pow_double p P =
    let e : p ≡ suc (p - 1) = omega arith in
    ap (λ (x : ℕ). 2 ^ x) e ∙ pow-succ' 2 (p - 1)

pub pow_le : (i j : ℕ) → i ≤ j → 2 ^ i ≤ 2 ^ j
pow_le i j h = pow_mono h

pub pow_join : (c k l : ℕ) → c * 2 ^ k * 2 ^ l ≡ c * 2 ^ (k + l)
pow_join c k l = mul_assoc c (2 ^ k) (2 ^ l) ∙ ap (λ (x : ℕ). c * x) (sym (pow-add 2 k l))

-- a multiple of 2 ^ k is one of a smaller power
pub pow_cut : (c k l : ℕ) → l ≤ k → c * 2 ^ k ≡ c * 2 ^ (k - l) * 2 ^ l
pow_cut c k l h = let d : k - l + l ≡ k = omega arith in sym (pow_join c (k - l) l ∙ ap (λ (x : ℕ). c * 2 ^ x) d)

pub hidden_pos : (p : ℕ) → 0 < hidden p
hidden_pos p = pow_pos (p - 1)

pub size_is : (n k : ℕ) → 2 ^ k ≤ n → n < 2 ^ suc k → size n ≡ suc k
size_is n k a b =
    le_antisymm (size-le n (suc k) b)
    (elim (cases_lt k (size n)) [
      | inl h ↦ h
      | inr h ↦
          let x : 2 ^ size n ≤ 2 ^ k = pow_mono h in
          let y : n < 2 ^ size n = size-lt n in
          omega arith
    ])

-- a pattern with no leading digit, and one with it
pub steps_small : (p m : ℕ) → m < hidden p → steps p m ≡ m
unfolding steps
steps_small p m l = cond-true _ _ _ (lt-ltb m (hidden p) l)

pub steps_large : (p m : ℕ) → hidden p ≤ m → steps p m ≡ (hidden p + m % hidden p) * 2 ^ (m / hidden p - 1)
unfolding steps
steps_large p m g = cond-false _ _ _ (le-ltb m (hidden p) g)

pub steps_zero : (p : ℕ) → steps p 0 ≡ 0
steps_zero p = steps_small p 0 (hidden_pos p)

steps_normal : (p x t : ℕ) → t < hidden p → steps p (suc x * hidden p + t) ≡ (hidden p + t) * 2 ^ x
steps_normal p x t l =
    let m = suc x * hidden p + t in
    let a : m / hidden p ≡ suc x = div-mul-add (suc x) (hidden p) t l in
    let b : m % hidden p ≡ t = mod-mul-add (suc x) (hidden p) t l in
    let e : m / hidden p - 1 ≡ x = omega arith in
    steps_large p m (omega (arith, suc-mul x (hidden p)))
    ∙ ap (λ (z : ℕ). (hidden p + z) * 2 ^ (m / hidden p - 1)) b
    ∙ ap (λ (z : ℕ). (hidden p + t) * 2 ^ z) e

-- the kept digits are below the leading one, begin with it, or carry
at_small : (p k c : ℕ) → c < hidden p → k ≡ 0 → steps p (k * hidden p + c) ≡ c * 2 ^ k
at_small p k c l e =
    ap (λ (x : ℕ). steps p (x * hidden p + c)) e
    ∙ ap (λ (x : ℕ). steps p x) (omega arith)
    ∙ steps_small p c l
    ∙ sym (mul-one c)
    ∙ ap (λ (x : ℕ). c * 2 ^ x) (sym e)

at_normal : (p k c : ℕ) → hidden p ≤ c → c < 2 * hidden p → steps p (k * hidden p + c) ≡ c * 2 ^ k
at_normal p k c g l =
    let e : k * hidden p + c ≡ suc k * hidden p + (c - hidden p) = omega (arith, suc-mul k (hidden p)) in
    let f : hidden p + (c - hidden p) ≡ c = omega arith in
    ap (λ (x : ℕ). steps p x) e
    ∙ steps_normal p k (c - hidden p) (omega arith)
    ∙ ap (λ (x : ℕ). x * 2 ^ k) f

at_carry : (p k c : ℕ) → c ≡ 2 * hidden p → steps p (k * hidden p + c) ≡ c * 2 ^ k
at_carry p k c g =
    let e : k * hidden p + c ≡ suc (suc k) * hidden p + 0 = omega (arith, suc-mul k (hidden p), suc-mul (suc k) (hidden p)) in
    ap (λ (x : ℕ). steps p x) e
    ∙ steps_normal p (suc k) 0 (hidden_pos p)
    ∙ omega (arith, pow-succ' 2 k, mul_left_comm (hidden p) 2 (2 ^ k), mul_assoc 2 (hidden p) (2 ^ k), ap (λ (x : ℕ). x * 2 ^ k) g, ap (λ (x : ℕ). hidden p * x) (pow-succ' 2 k))

-- k dropped digits above the kept ones
pub steps_at : (p k c : ℕ) → 2 ≤ p → c ≤ 2 ^ p → (k ≡ 0) ⊎ (hidden p ≤ c) → steps p (k * hidden p + c) ≡ c * 2 ^ k
steps_at p k c P h o =
    let d : 2 ^ p ≡ 2 * hidden p = pow_double p P in
    elim (cases_lt c (hidden p)) [
      | inl l ↦ elim o [
        | inl z ↦ at_small p k c l z
        | inr g ↦ omega arith
      ]
      | inr g ↦ elim (cases_lt c (2 * hidden p)) [
        | inl l ↦ at_normal p k c g l
        | inr l ↦ at_carry p k c (omega arith)
      ]
    ]

-- a power of two
pub steps_power : (p x : ℕ) → 2 ≤ p → 1 ≤ x → steps p (x * hidden p) ≡ 2 ^ (x + p - 2)
steps_power p x P X =
    let e : x ≡ suc (x - 1) = omega arith in
    ap (steps p) (ap (λ (y : ℕ). y * hidden p) e ∙ suc-mul (x - 1) (hidden p))
    ∙ at_normal p (x - 1) (hidden p) (omega arith) (omega (arith, hidden_pos p))
    ∙ sym (pow-add 2 (p - 1) (x - 1))
    ∙ ap (λ (y : ℕ). 2 ^ y) (omega arith)

-- the pattern m by its parts: k dropped digits, and the kept ones, c
pub record Parts (p m k c : ℕ) : Type 0 where
  pub sum : m ≡ k * hidden p + c
  pub digits : c < 2 ^ p
  pub leading : (k ≡ 0) ⊎ (hidden p ≤ c)

pub parts_steps : (p m k c : ℕ) → 2 ≤ p → Parts p m k c → steps p m ≡ c * 2 ^ k
parts_steps p m k c P h = ap (λ (x : ℕ). steps p x) h.sum ∙ steps_at p k c P (omega arith) h.leading

-- a pattern from h up: one field less, and the digits with their leading one
pub normal_parts : (m h : ℕ) → 0 < h → h ≤ m → (1 ≤ m / h) × (m ≡ (m / h - 1) * h + (h + m % h)) × (h + m % h < 2 * h)
normal_parts m h H g =
    let d : m / h * h + m % h ≡ m = div-add-mod' m h in
    let r : m % h < h = mod_below m h H in
    let q : 1 ≤ m / h = le-div 1 m h H (omega arith) in
    let e : suc (m / h - 1) * h ≡ (m / h - 1) * h + h = suc-mul (m / h - 1) h in
    let f : suc (m / h - 1) * h ≡ m / h * h = ap (λ (x : ℕ). x * h) (omega arith) in
    (q, omega arith, omega arith)

pub pattern_parts : (p m : ℕ) → 2 ≤ p → (k : ℕ) × (c : ℕ) × Parts p m k c
pattern_parts p m P =
    let d : 2 ^ p ≡ 2 * hidden p = pow_double p P in
    elim (cases_lt m (hidden p)) [
      | inl l ↦ (0, m, record { sum = omega arith; digits = omega arith; leading = inl refl })
      | inr g ↦
          let n = normal_parts m (hidden p) (hidden_pos p) g in
          (m / hidden p - 1, hidden p + m % hidden p, record { sum = n.1; digits = omega arith; leading = inr (omega arith) })
    ]

steps_next : (p m : ℕ) → 2 ≤ p → steps p m < steps p (suc m)
steps_next p m P =
    let (k, c, x) = pattern_parts p m P in
    let o : (k ≡ 0) ⊎ (hidden p ≤ suc c) = elim x.leading [ inl z ↦ inl z | inr g ↦ inr (omega arith) ] in
    let f : suc m ≡ k * hidden p + suc c = omega (arith, x.sum) in
    let b : steps p (suc m) ≡ suc c * 2 ^ k = ap (λ (y : ℕ). steps p y) f ∙ steps_at p k (suc c) P x.digits o in
    omega (arith, parts_steps p m k c P x, suc-mul c (2 ^ k), pow_pos k)

pub steps_less : (p m n : ℕ) → 2 ≤ p → m < n → steps p m < steps p n
steps_less p m zero P h = omega arith
steps_less p m (suc n) P h = step (steps_less p m n P)
  where
    step : (m < n → steps p m < steps p n) → steps p m < steps p (suc n)
    step ih = elim (cases_lt m n) [
      | inl l ↦ let a : steps p m < steps p n = ih l in omega (arith, steps_next p n P)
      | inr g ↦ let e : m ≡ n = omega arith in rw e (steps_next p n P)
    ]

pub steps_le : (p m n : ℕ) → 2 ≤ p → m ≤ n → steps p m ≤ steps p n
steps_le p m n P h = elim (eq-or-lt_of_le h) [
  | inl e ↦ le_of_eq (ap (steps p) e)
  | inr l ↦ le_of_lt (steps_less p m n P l)
]

pub infinity_pos : (p e : ℕ) → 0 < infinity p e
infinity_pos p e = mul-pos {m = 2 * e + 1} (omega arith) (hidden_pos p)

-- the value that would follow the greatest
pub steps_infinity : (p e : ℕ) → 2 ≤ p → steps p (infinity p e) ≡ 2 ^ (low p e + suc e)
steps_infinity p e P = steps_power p (2 * e + 1) P (omega arith) ∙ ap (λ (x : ℕ). 2 ^ x) (omega arith)

-- ---- how many digits are dropped

-- 2 ^ i * (d * 2 ^ k) as 2 ^ (i + k) * d
scale : (i d k : ℕ) → 2 ^ i * (d * 2 ^ k) ≡ 2 ^ (i + k) * d
scale i d k = ap (λ (x : ℕ). 2 ^ i * x) (mul_comm d (2 ^ k)) ∙ sym (mul_assoc (2 ^ i) (2 ^ k) d) ∙ ap (λ (x : ℕ). x * d) (sym (pow-add 2 i k))

dropped_is : (p n d k : ℕ) → 2 ≤ p → 0 < d → (k ≡ 0) ⊎ (hidden p * (d * 2 ^ k) ≤ n) → n < 2 ^ p * (d * 2 ^ k) → dropped p n d ≡ k
dropped_is p n d k P D o h =
    let a : n / d < 2 ^ (p + k) = (div-lt_iff_lt-mul D).1 (rw scale at h) in
    let b : size (n / d) ≤ p + k = size-le (n / d) (p + k) a in
    elim o [
      | inl z ↦ omega arith
      | inr g ↦
          let c : 2 ^ (p - 1 + k) ≤ n / d = (le-div_iff_mul-le D).1 (rw scale at g) in
          let e : suc (p - 1 + k) ≡ p + k = omega arith in
          let f : size (n / d) ≡ suc (p - 1 + k) = size_is (n / d) (p - 1 + k) c (rw e a) in
          omega arith
    ]

-- the number of dropped digits is fixed by where n / d lies
pub near_is : (p n d k : ℕ) → 2 ≤ p → 0 < d → (k ≡ 0) ⊎ (hidden p * (d * 2 ^ k) ≤ n) → n < 2 ^ p * (d * 2 ^ k) → near p n d ≡ k * hidden p + closest n (d * 2 ^ k)
unfolding near
near_is p n d k P D o h = ap (λ (x : ℕ). x * hidden p + closest n (d * 2 ^ x)) (dropped_is p n d k P D o h)

pub dropped_fits : (p n d : ℕ) → 2 ≤ p → 0 < d → ((dropped p n d ≡ 0) ⊎ (hidden p * (d * 2 ^ dropped p n d) ≤ n)) × (n < 2 ^ p * (d * 2 ^ dropped p n d))
dropped_fits p n d P D =
    let k = dropped p n d in
    let a : 2 ^ size (n / d) ≤ 2 ^ (p + k) = pow_mono (omega arith) in
    let b : n / d < 2 ^ (p + k) = lt_of_lt_of_le (size-lt (n / d)) a in (
      elim (cases_lt p (size (n / d))) [
        | inl l ↦ inr (rw scale ((le-div_iff_mul-le D).0 (size_reaches (n / d) (p - 1 + k) (omega arith))))
        | inr g ↦ inl (omega arith)
      ],
      rw scale ((div-lt_iff_lt-mul D).0 b),
    )

-- what is kept has p digits, but for a carry
pub kept_fits : (p n d : ℕ) → 2 ≤ p → 0 < d → (closest n (d * 2 ^ dropped p n d) ≤ 2 ^ p) × ((dropped p n d ≡ 0) ⊎ (hidden p ≤ closest n (d * 2 ^ dropped p n d)))
kept_fits p n d P D =
    let u = d * 2 ^ dropped p n d in
    let U : 0 < u = mul-pos D (pow_pos (dropped p n d)) in
    let f = dropped_fits p n d P D in (
      closest_upto n u (2 ^ p) U f.1,
      elim f.0 [ inl z ↦ inl z | inr g ↦ inr (closest_from n u (hidden p) U g) ],
    )

pub steps_near : (p n d : ℕ) → 2 ≤ p → 0 < d → steps p (near p n d) ≡ closest n (d * 2 ^ dropped p n d) * 2 ^ dropped p n d
unfolding near
steps_near p n d P D = let f = kept_fits p n d P D in steps_at p (dropped p n d) (closest n (d * 2 ^ dropped p n d)) P f.0 f.1

-- only the value of the fraction counts
pub near_same : (p a b c d : ℕ) → 0 < b → 0 < d → a * d ≡ c * b → near p a b ≡ near p c d
unfolding near
near_same p a b c d B D h =
    let k = dropped p c d in
    let e : a * (d * 2 ^ k) ≡ c * (b * 2 ^ k) = sym (mul_assoc a d (2 ^ k)) ∙ ap (λ (x : ℕ). x * 2 ^ k) h ∙ mul_assoc c b (2 ^ k) in
    ap (λ (x : ℕ). (size x - p) * hidden p + closest a (b * 2 ^ (size x - p))) (div_same a b c d B D h)
    ∙ ap (λ (x : ℕ). k * hidden p + x) (closest_same a (b * 2 ^ k) c (d * 2 ^ k) (mul-pos B (pow_pos k)) (mul-pos D (pow_pos k)) e)

near_exact : (p m : ℕ) → 2 ≤ p → near p (steps p m) 1 ≡ m
near_exact p m P =
    let (k, c, x) = pattern_parts p m P in
    let u : 1 * 2 ^ k ≡ 2 ^ k = one-mul (2 ^ k) in
    let o : (k ≡ 0) ⊎ (hidden p * (1 * 2 ^ k) ≤ c * 2 ^ k) = elim x.leading [ inl z ↦ inl z | inr g ↦ inr (rw u (mul-le-mul_right (2 ^ k) g)) ] in
    ap (λ (y : ℕ). near p y 1) (parts_steps p m k c P x)
    ∙ near_is p (c * 2 ^ k) 1 k P (pow_pos 0) o (rw u (mul-lt-mul_of_pos_right x.digits (pow_pos k)))
    ∙ ap (λ (y : ℕ). k * hidden p + y) (closest_whole c k)
    ∙ sym x.sum

pub steps_same : (p m n : ℕ) → 2 ≤ p → steps p m ≡ steps p n → m ≡ n
steps_same p m n P h = sym (near_exact p m P) ∙ ap (λ (x : ℕ). near p x 1) h ∙ near_exact p n P

-- ---- held to infinity

pub round_min : (p e n d : ℕ) → min (near p n d) (infinity p e) ≡ round p e n d
unfolding round
round_min p e n d = refl

pub round_near : (p e n d m : ℕ) → near p n d ≡ m → m ≤ infinity p e → round p e n d ≡ m
unfolding round
round_near p e n d m h l = ap (λ (x : ℕ). min x (infinity p e)) h ∙ min-eq_left l

pub round_same : (p e a b c d : ℕ) → 0 < b → 0 < d → a * d ≡ c * b → round p e a b ≡ round p e c d
unfolding round
round_same p e a b c d B D h = ap (λ (x : ℕ). min x (infinity p e)) (near_same p a b c d B D h)

pub round_exact : (p e m : ℕ) → 2 ≤ p → m ≤ infinity p e → round p e (steps p m) 1 ≡ m
round_exact p e m P h = round_near p e (steps p m) 1 m (near_exact p m P) h

pub round_zero : (p e : ℕ) → 2 ≤ p → round p e 0 1 ≡ 0
round_zero p e P = rw (steps_zero p) at (round_exact p e 0 P (omega arith))

-- A pattern cut to a whole number.
use Rattle.std.proofs.Common.{◌≡◌, ℕ, suc, ◌+◌, ◌-◌, ◌*◌, ◌/◌, ◌%◌, ◌^◌, ◌<◌, ◌≤◌, Bool, true, false, cond, ◌⊎◌, sym, ap, ◌∙◌, inl, inr, le_trans, mul-le-mul_right, mul_assoc, suc-mul, div-lt_iff_lt-mul, add-mul, eq-or-lt_of_le, mul-pos, one-mul, div-add-mod', le-div_iff_mul-le, zero-mul, arith, pow_mono}
use native.Mathlib.Nat.{mul-add-mod_self_right, mul-mod_left}
use Rattle.std.proofs.lemmas.Nat.{pow-add, pow_pos, div-mul-add, shl-shr, shl_below, mod_below}
use Rattle.ieee.specs.Formats.{low, hidden, infinity, steps}
use Rattle.ieee.specs.Rounding.{round}
use Rattle.ieee.proofs.Steps.{Parts, pow_join, pow_cut, steps_zero, steps_power, steps_at, steps_less, parts_steps, round_exact}

-- how many wholes there are: up to the next, or cut
abbrev pub wholes : ℕ → Bool → ℕ → ℕ
wholes l up a = cond up ((a + 2 ^ l - 1) / 2 ^ l) (a / 2 ^ l)

-- q wholes, and r of a further one
wholes_down : (l q r : ℕ) → r < 2 ^ l → wholes l false (q * 2 ^ l + r) ≡ q
wholes_down l q r h = div-mul-add q (2 ^ l) r h

wholes_up : (l q r : ℕ) → 0 < r → r ≤ 2 ^ l → wholes l true (q * 2 ^ l + r) ≡ suc q
wholes_up l q r a b =
    let e : q * 2 ^ l + r + 2 ^ l - 1 ≡ suc q * 2 ^ l + (r - 1) = omega (arith, suc-mul q (2 ^ l)) in
    ap (λ (x : ℕ). x / 2 ^ l) e ∙ div-mul-add (suc q) (2 ^ l) (r - 1) (omega arith)

wholes_exact : (l q : ℕ) (up : Bool) → wholes l up (q * 2 ^ l) ≡ q
wholes_exact l q false = shl-shr q l
wholes_exact l q true =
    let e : q * 2 ^ l + 2 ^ l - 1 ≡ q * 2 ^ l + (2 ^ l - 1) = omega (arith, pow_pos l) in
    ap (λ (x : ℕ). x / 2 ^ l) e ∙ div-mul-add q (2 ^ l) (2 ^ l - 1) (omega (arith, pow_pos l))

-- a has q wholes, and the pattern n stands for them
round_wholes : (p e n l a q : ℕ) (up : Bool) → 2 ≤ p → n ≤ infinity p e → wholes l up a ≡ q → steps p n ≡ q * 2 ^ l → round p e (wholes l up a * 2 ^ l) 1 ≡ n
round_wholes p e n l a q up P h w s = ap (λ (x : ℕ). round p e (x * 2 ^ l) 1) w ∙ ap (λ (x : ℕ). round p e x 1) (sym s) ∙ round_exact p e n P h

-- ---- a whole number already

pub whole_kept : (p e m k c : ℕ) (up : Bool) → 2 ≤ p → m ≤ infinity p e → Parts p m k c → low p e ≤ k → round p e (wholes (low p e) up (steps p m) * 2 ^ low p e) 1 ≡ m
whole_kept p e m k c up P h x g =
    let l = low p e in
    let s : steps p m ≡ c * 2 ^ (k - l) * 2 ^ l = parts_steps p m k c P x ∙ pow_cut c k l g in
    round_wholes p e m l (steps p m) (c * 2 ^ (k - l)) up P h (ap (wholes l up) s ∙ wholes_exact l (c * 2 ^ (k - l)) up) s

-- ---- below 1

steps_tiny : (p m k c l : ℕ) → 2 ≤ p → Parts p m k c → k < l → p ≤ l - k → steps p m < 2 ^ l
steps_tiny p m k c l P x a b =
    let h : c * 2 ^ k < 2 ^ (p + k) = shl_below c p k x.digits in
    let g : 2 ^ (p + k) ≤ 2 ^ l = pow_mono (omega arith) in
    omega (arith, parts_steps p m k c P x)

pub whole_small_down : (p e m k c : ℕ) → 2 ≤ p → Parts p m k c → k < low p e → p ≤ low p e - k → round p e (wholes (low p e) false (steps p m) * 2 ^ low p e) 1 ≡ 0
whole_small_down p e m k c P x a b =
    let l = low p e in
    let z : 0 * 2 ^ l ≡ 0 = zero-mul (2 ^ l) in
    let s : steps p m ≡ 0 * 2 ^ l + steps p m = omega arith in
    round_wholes p e 0 l (steps p m) 0 false P (omega arith) (ap (wholes l false) s ∙ wholes_down l 0 (steps p m) (steps_tiny p m k c l P x a b)) (steps_zero p ∙ sym z)

pub whole_small_zero : (p e : ℕ) (up : Bool) → 2 ≤ p → round p e (wholes (low p e) up (steps p 0) * 2 ^ low p e) 1 ≡ 0
whole_small_zero p e up P =
    let l = low p e in
    let s : steps p 0 ≡ 0 * 2 ^ l = steps_zero p ∙ sym (zero-mul (2 ^ l)) in
    round_wholes p e 0 l (steps p 0) 0 up P (omega arith) (ap (wholes l up) s ∙ wholes_exact l 0 up) s

pub whole_small_up : (p e m k c : ℕ) → 2 ≤ p → p ≤ e → Parts p m k c → 0 < m → k < low p e → p ≤ low p e - k → round p e (wholes (low p e) true (steps p m) * 2 ^ low p e) 1 ≡ e * hidden p
whole_small_up p e m k c P E x M a b =
    let l = low p e in
    let S : 0 < steps p m = omega (arith, steps_less p 0 m P M) in
    let s : steps p m ≡ 0 * 2 ^ l + steps p m = omega (arith, zero-mul (2 ^ l)) in
    let t : steps p m < 2 ^ l = steps_tiny p m k c l P x a b in
    round_wholes p e (e * hidden p) l (steps p m) 1 true P (omega (arith, add-mul (2 * e) 1 (hidden p), mul_assoc 2 e (hidden p))) (ap (wholes l true) s ∙ wholes_up l 0 (steps p m) S (omega arith))
    (steps_power p e P (omega arith) ∙ sym (one-mul (2 ^ l)))

-- ---- t of the kept digits are below 1

-- the leading digit is a multiple of 2 ^ t, and so is the field above it
hidden_cut : (p t : ℕ) → t < p → hidden p ≡ 2 ^ (p - 1 - t) * 2 ^ t
hidden_cut p t h = let d : p - 1 ≡ p - 1 - t + t = omega arith in ap (λ (x : ℕ). 2 ^ x) d ∙ pow-add 2 (p - 1 - t) t

field_cut : (p t k : ℕ) → t < p → k * hidden p ≡ k * 2 ^ (p - 1 - t) * 2 ^ t
field_cut p t k h = pow_cut k (p - 1) t (omega arith)

rest_cut : (p m k c t : ℕ) → Parts p m k c → t < p → m % 2 ^ t ≡ c % 2 ^ t
rest_cut p m k c t x h =
    ap (λ (z : ℕ). z % 2 ^ t) (x.sum ∙ ap (λ (z : ℕ). z + c) (field_cut p t k h)) ∙ mul-add-mod_self_right (k * 2 ^ (p - 1 - t)) (2 ^ t) c

pattern_cut : (p m k c t : ℕ) → Parts p m k c → t < p → m - m % 2 ^ t ≡ k * hidden p + c / 2 ^ t * 2 ^ t
pattern_cut p m k c t x h = omega (arith, rest_cut p m k c t x h, div-add-mod' c (2 ^ t), x.sum)

-- the whole number below and the one above
steps_cut : (p m k c t q : ℕ) → 2 ≤ p → Parts p m k c → t < p → c / 2 ^ t ≤ q → q ≤ suc (c / 2 ^ t) → steps p (k * hidden p + q * 2 ^ t) ≡ q * 2 ^ (t + k)
steps_cut p m k c t q P x h a b =
    let T : 0 < 2 ^ t = pow_pos t in
    let d : p - t + t ≡ p = omega arith in
    let D : 2 ^ (p - t) * 2 ^ t ≡ 2 ^ p = sym (pow-add 2 (p - t) t) ∙ ap (λ (z : ℕ). 2 ^ z) d in
    let f : c / 2 ^ t < 2 ^ (p - t) = (div-lt_iff_lt-mul T).1 (rw D x.digits) in
    let u : q * 2 ^ t ≤ 2 ^ (p - t) * 2 ^ t = mul-le-mul_right (2 ^ t) (omega arith) in
    let o : (k ≡ 0) ⊎ (hidden p ≤ q * 2 ^ t) = elim x.leading [
      | inl z ↦ inl z
      | inr g ↦ inr (rw (hidden_cut p t h) (mul-le-mul_right (2 ^ t) (le_trans ((le-div_iff_mul-le T).1 (rw (hidden_cut p t h) at g)) a)))
    ] in
    steps_at p k (q * 2 ^ t) P (omega arith) o ∙ pow_join q t k

-- c * 2 ^ k in wholes and the rest
parts_cut : (p m k c t : ℕ) → 2 ≤ p → Parts p m k c → steps p m ≡ c / 2 ^ t * 2 ^ (t + k) + c % 2 ^ t * 2 ^ k
parts_cut p m k c t P x =
    parts_steps p m k c P x
    ∙ ap (λ (z : ℕ). z * 2 ^ k) (sym (div-add-mod' c (2 ^ t)))
    ∙ add-mul (c / 2 ^ t * 2 ^ t) (c % 2 ^ t) (2 ^ k)
    ∙ ap (λ (z : ℕ). z + c % 2 ^ t * 2 ^ k) (pow_join (c / 2 ^ t) t k)

rest_below : (c t k : ℕ) → c % 2 ^ t * 2 ^ k < 2 ^ (t + k)
rest_below c t k = shl_below (c % 2 ^ t) t k (mod_below c (2 ^ t) (pow_pos t))

-- q is how many wholes there are in m
round_cut : (p e m k c t l q : ℕ) (up : Bool) → 2 ≤ p → Parts p m k c → t < p → t + k ≡ l → c / 2 ^ t ≤ q → q ≤ suc (c / 2 ^ t) → k * hidden p + q * 2 ^ t ≤ infinity p e
    → wholes (t + k) up (c / 2 ^ t * 2 ^ (t + k) + c % 2 ^ t * 2 ^ k) ≡ q → round p e (wholes l up (steps p m) * 2 ^ l) 1 ≡ k * hidden p + q * 2 ^ t
round_cut p e m k c t l q up P x h d a b i w =
    ap (λ (z : ℕ). round p e (wholes z up (steps p m) * 2 ^ z) 1) (sym d)
    ∙ round_wholes p e (k * hidden p + q * 2 ^ t) (t + k) (steps p m) q up P i (ap (wholes (t + k) up) (parts_cut p m k c t P x) ∙ w) (steps_cut p m k c t q P x h a b)

-- infinity's pattern is a multiple of 2 ^ t, and so is not passed
pub whole_bound : (p e m t : ℕ) → t < p → m < infinity p e → m - m % 2 ^ t + 2 ^ t ≤ infinity p e
whole_bound p e m t h l =
    let i = (2 * e + 1) * 2 ^ (p - 1 - t) in
    let d : infinity p e ≡ i * 2 ^ t = field_cut p t (2 * e + 1) h in
    let f : m / 2 ^ t < i = (div-lt_iff_lt-mul (pow_pos t)).1 (rw d at l) in
    let g : suc (m / 2 ^ t) * 2 ^ t ≤ i * 2 ^ t = mul-le-mul_right (2 ^ t) f in
    omega (arith, suc-mul (m / 2 ^ t) (2 ^ t), div-add-mod' m (2 ^ t))

below_infinity : (p e m t : ℕ) → t < p → m ≤ infinity p e → 0 < m % 2 ^ t → m < infinity p e
below_infinity p e m t h l r = elim (eq-or-lt_of_le l) [
  | inl z ↦
      let i = (2 * e + 1) * 2 ^ (p - 1 - t) in
      omega (arith, ap (λ (y : ℕ). y % 2 ^ t) (z ∙ field_cut p t (2 * e + 1) h), mul-mod_left i (2 ^ t))
  | inr g ↦ g
]

pub whole_cut_down : (p e m k c : ℕ) → 2 ≤ p → m ≤ infinity p e → Parts p m k c → k < low p e → low p e - k < p
    → round p e (wholes (low p e) false (steps p m) * 2 ^ low p e) 1 ≡ m - m % 2 ^ (low p e - k)
whole_cut_down p e m k c P h x a b =
    let t = low p e - k in
    let f : m - m % 2 ^ t ≡ k * hidden p + c / 2 ^ t * 2 ^ t = pattern_cut p m k c t x b in
    round_cut p e m k c t (low p e) (c / 2 ^ t) false P x b (omega arith) (omega arith) (omega arith) (omega arith) (wholes_down (t + k) (c / 2 ^ t) (c % 2 ^ t * 2 ^ k) (rest_below c t k))
    ∙ sym f

pub whole_cut_exact : (p e m k c : ℕ) → 2 ≤ p → m ≤ infinity p e → Parts p m k c → k < low p e → low p e - k < p → m % 2 ^ (low p e - k) ≡ 0
    → round p e (wholes (low p e) true (steps p m) * 2 ^ low p e) 1 ≡ m
whole_cut_exact p e m k c P h x a b r =
    let t = low p e - k in
    let f : m ≡ k * hidden p + c / 2 ^ t * 2 ^ t = omega (arith, pattern_cut p m k c t x b) in
    let z : c % 2 ^ t ≡ 0 = sym (rest_cut p m k c t x b) ∙ r in
    let w : c / 2 ^ t * 2 ^ (t + k) + c % 2 ^ t * 2 ^ k ≡ c / 2 ^ t * 2 ^ (t + k) = omega (arith, ap (λ (y : ℕ). y * 2 ^ k) z, zero-mul (2 ^ k)) in
    round_cut p e m k c t (low p e) (c / 2 ^ t) true P x b (omega arith) (omega arith) (omega arith) (omega arith) (ap (wholes (t + k) true) w ∙ wholes_exact (t + k) (c / 2 ^ t) true)
    ∙ sym f

pub whole_cut_up : (p e m k c : ℕ) → 2 ≤ p → m ≤ infinity p e → Parts p m k c → k < low p e → low p e - k < p → 0 < m % 2 ^ (low p e - k)
    → round p e (wholes (low p e) true (steps p m) * 2 ^ low p e) 1 ≡ m - m % 2 ^ (low p e - k) + 2 ^ (low p e - k)
whole_cut_up p e m k c P h x a b r =
    let t = low p e - k in
    let f : m - m % 2 ^ t + 2 ^ t ≡ k * hidden p + suc (c / 2 ^ t) * 2 ^ t = omega (arith, pattern_cut p m k c t x b, suc-mul (c / 2 ^ t) (2 ^ t)) in
    let i : m - m % 2 ^ t + 2 ^ t ≤ infinity p e = whole_bound p e m t b (below_infinity p e m t b h r) in
    let z : 0 < c % 2 ^ t = rw (rest_cut p m k c t x b) at r in
    let w : c % 2 ^ t * 2 ^ k < 2 ^ (t + k) = rest_below c t k in
    round_cut p e m k c t (low p e) (suc (c / 2 ^ t)) true P x b (omega arith) (omega arith) (omega arith) (omega arith)
    (wholes_up (t + k) (c / 2 ^ t) (c % 2 ^ t * 2 ^ k) (mul-pos z (pow_pos k)) (omega arith))
    ∙ sym f

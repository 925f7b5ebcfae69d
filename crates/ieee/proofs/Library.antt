-- The definitions here and the library's own, `lib.Ieee`, agree at each of its formats: on what a word stands for, on rounding, and on + - * /.
use Rattle.std.proofs.Common.{◌≡◌, ℕ, zero, suc, ◌+◌, ◌-◌, ◌*◌, ◌/◌, ◌%◌, ◌^◌, ◌<◌, ◌≤◌, Bool, true, false, cond, not, ◌&&◌, eqb, ltb, leb, ◌⊎◌, ℤ, pos, sym, refl, ap, ◌∙◌, subst, inl, inr, le_of_lt, add_assoc, mul-le-mul_right, mod-lt, mul_assoc, suc-mul, mul_comm, div-lt_iff_lt-mul, add-mul, lt_of_mul-lt-mul_right, mul-lt-mul_of_pos_right, mul-pos, div-add-mod', le-div_iff_mul-le, zero-mul, mul-one, mul_right_comm, le_of_mul-le-mul_right, mul-div_cancel, mul_left_comm, arith, pow_pos, pow-add, shl_lt}
use mathlib.Core.Bool.{beq}
use native.Mathlib.Nat.{mul-mul-mul_comm, mul-sub, eq_of_mul-eq-mul_right, div-eq_of_lt, mod-mod_of_dvd, dvd-mul_right, min-eq_right}
use lib.Ieee.{Float, nan, inf, fin, Format, prec, emax, hid, ones, top, unlike, up, down, size, odd, units, neg, sum, add, sub, mul, div, of_fields, of_bits, to_bits}
use lib.Ieee as Lib
use lib.Ieee.Digits.{size-le}
use lib.Ieee.Fits.{two, up_pos, down_pos, round_is}
use lib.Ieee.Exact.{HasValue, odd_sign, units_val}
use lib.Ieee.Nearest.{closest}
use Rattle.std.proofs.lemmas.Bool.{cases_lt, cases_eq, cond-false, lt-ltb, le-ltb, le-leb, lt-leb, eq-eqb, ne_eqb, eqb-false}
use Rattle.ieee.specs.Formats.{Value, not_number, infinite, finite, low, hidden, infinity, sign_weight, quiet, signed, pattern, negative, steps, value_of, decode}
use Rattle.ieee.specs.Rounding.{Exact, none, endless, fraction, near, round, word}
use Rattle.ieee.specs.Operations as Ours
use Rattle.ieee.proofs.Steps.{dropped, pow_double, size_is, steps_zero, steps_at, parts_steps, pattern_parts, steps_less, steps_le, steps_infinity, steps_near, round_min, round_near, round_same, round_zero}
use Rattle.ieee.proofs.FormatLaws.{under_infinity, from_infinity}

-- tests that say the same
eqb_alike : (a b c d : ℕ) → (a ≡ b → c ≡ d) → (c ≡ d → a ≡ b) → eqb a b ≡ eqb c d
eqb_alike a b c d x y = elim (cases_eq a b) [
  | inl e ↦ eq-eqb a b e ∙ sym (eq-eqb c d (x e))
  | inr n ↦ ne_eqb a b n ∙ sym (ne_eqb c d (λ e. n (y e)))
]

ltb_alike : (a b c d : ℕ) → (a < b → c < d) → (b ≤ a → d ≤ c) → ltb a b ≡ ltb c d
ltb_alike a b c d x y = elim (cases_lt a b) [
  | inl l ↦ lt-ltb a b l ∙ sym (lt-ltb c d (x l))
  | inr g ↦ le-ltb a b g ∙ sym (le-ltb c d (y g))
]

-- ---- reading

-- the library's value and the one here are the same: the finite one is a smallest values
abbrev Same : Format → Float → Value → Type 0
Same f nan not_number = 0 ≤ 0
Same f nan (infinite t) = ⊥
Same f nan (finite t a) = ⊥
Same f (inf s) not_number = ⊥
Same f (inf s) (infinite t) = s ≡ t
Same f (inf s) (finite t a) = ⊥
Same f (fin s m x) not_number = ⊥
Same f (fin s m x) (infinite t) = ⊥
Same f (fin s m x) (finite t a) = (s ≡ t) × (m * up x * 2 ^ Lib.low f ≡ a * down x)

same_of_value : (f : Format) (x : Float) (s : Bool) (a : ℕ) → HasValue x s a (2 ^ Lib.low f) → Same f x (finite s a)
same_of_value f nan s a h = h
same_of_value f (inf t) s a h = h
same_of_value f (fin t m e) s a h = h

same_odd : (f : Format) (s : Bool) (q k a : ℕ) → q * 2 ^ k ≡ a → Same f (odd (prec f) s q k (Lib.low f)) (finite s a)
same_odd f s q k a e = rw (sym e) (same_of_value f (odd (prec f) s q k (Lib.low f)) s (q * 2 ^ k) (odd_sign (prec f) s q k (Lib.low f)))

-- the sign's bit of a word of the format's width
sign_bit : (c b : ℕ) → 0 < c → b < 2 * c → leb c b ≡ eqb (b / c % 2) 1
sign_bit c b C h = elim (cases_lt b c) [
  | inl l ↦ lt-leb c b l ∙ sym (ap (λ (x : ℕ). eqb (x % 2) 1) (div-eq_of_lt l))
  | inr g ↦
      let lo : 1 ≤ b / c = (le-div_iff_mul-le C).1 (omega arith) in
      let hi : b / c < 2 = (div-lt_iff_lt-mul C).1 h in
      le-leb c b g ∙ sym (eq-eqb (b / c % 2) 1 (omega arith))
]

top_is : (f : Format) → top f ≡ sign_weight (prec f) (emax f)
top_is f = mul_comm (hid f) (suc (ones f)) ∙ ap (λ (x : ℕ). x * hid f) (omega arith)

same_unnumbered : (f : Format) (s b : Bool) → Same f (cond b (inf s) nan) (cond b (infinite s) not_number)
same_unnumbered f s true = refl
same_unnumbered f s false = omega arith

-- a pattern m by its two fields x and t
reads_fields : (f : Format) (s : Bool) (m x t : ℕ) → m ≡ x * hid f + t → t < hid f → x < suc (ones f) → Same f (of_fields f s x t) (value_of (prec f) (emax f) s m)
unfolding of_fields
reads_fields f s m zero t e h o =
    let u : m < infinity (prec f) (emax f) = omega (arith, mul-le-mul_right (hid f) o) in
    rw (under_infinity (prec f) (emax f) s m u)
    (same_odd f s t 0 (steps (prec f) m) (sym (ap (steps (prec f)) e ∙ steps_at (prec f) 0 t (two f) (omega (arith, pow_double (prec f) (two f))) (inl refl))))
reads_fields f s m (suc x) t e h o = elim (cases_eq (suc x) (ones f)) [
  | inl q ↦
      let i : suc x * hid f ≡ infinity (prec f) (emax f) = ap (λ (y : ℕ). y * hid f) q in
      let b : eqb t 0 ≡ eqb m (infinity (prec f) (emax f)) = eqb_alike t 0 m (infinity (prec f) (emax f)) (λ z. omega arith) (λ z. omega arith) in
      rw (eq-eqb (suc x) (ones f) q, from_infinity (prec f) (emax f) s m (omega arith), b) (same_unnumbered f s (eqb m (infinity (prec f) (emax f))))
  | inr n ↦
      let u : m < infinity (prec f) (emax f) = omega (arith, suc-mul (suc x) (hid f), mul-le-mul_right {m = suc (suc x)} {n = ones f} (hid f) (omega arith)) in
      rw (ne_eqb (suc x) (ones f) n, under_infinity (prec f) (emax f) s m u)
      (same_odd f s (hid f + t) x (steps (prec f) m)
      (sym (ap (steps (prec f)) (omega (arith, suc-mul x (hid f))) ∙ steps_at (prec f) x (hid f + t) (two f) (omega (arith, pow_double (prec f) (two f))) (inr (omega arith)))))
]

decode_is : (p e b : ℕ) → decode p e b ≡ value_of p e (negative p e b) (pattern p e b)
unfolding decode steps
decode_is p e b = refl

of_bits_is : (f : Format) (b : ℕ) → of_bits f b ≡ of_fields f (leb (top f) b) (b % top f / hid f) (b % hid f)
unfolding of_bits
of_bits_is f b = refl

top_pos : (f : Format) → 0 < top f
top_pos f = mul-pos (pow_pos (prec f - 1)) (omega arith)

reads : (f : Format) (b : ℕ) → b < 2 * top f → Same f (of_bits f b) (decode (prec f) (emax f) b)
reads f b h =
    let m = b % top f in
    let parts : m ≡ m / hid f * hid f + b % hid f = sym (ap (λ (y : ℕ). m / hid f * hid f + y) (sym (mod-mod_of_dvd (hid f) b (dvd-mul_right (hid f) (suc (ones f))))) ∙ div-add-mod' m (hid f)) in
    let field : m / hid f < suc (ones f) = (div-lt_iff_lt-mul (pow_pos (prec f - 1))).1 (subst (λ (a : ℕ). m < a) (mul_comm (hid f) (suc (ones f))) (mod-lt b (top_pos f))) in
    let value : value_of (prec f) (emax f) (leb (top f) b) m ≡ decode (prec f) (emax f) b =
    ap (λ (s : Bool). value_of (prec f) (emax f) s m) (sign_bit (top f) b (top_pos f) h)
    ∙ ap (λ (w : ℕ). value_of (prec f) (emax f) (eqb (b / w % 2) 1) (b % w)) (top_is f)
    ∙ sym (decode_is (prec f) (emax f) b) in
    rw (of_bits_is f b, sym value) (reads_fields f (leb (top f) b) m (m / hid f) (b % hid f) parts (mod-lt b (pow_pos (prec f - 1))) field)

-- ---- rounding and writing

-- a count of smallest values as a pattern, the way that the library writes it
abbrev written : ℕ → ℕ → ℕ
written p a = (size a - p) * hidden p + a / 2 ^ (size a - p)

written_size : (p k c : ℕ) → 2 ≤ p → c < 2 ^ p → (k ≡ 0) ⊎ (hidden p ≤ c) → size (c * 2 ^ k) - p ≡ k
written_size p k c P h (inl z) =
    let a : size (c * 2 ^ k) ≤ p = size-le (c * 2 ^ k) p (subst (λ (j : ℕ). c * 2 ^ j < 2 ^ p) (sym z) (rw (mul-one c) h)) in
    omega arith
written_size p k c P h (inr g) =
    let hi : c * 2 ^ k < 2 ^ suc (p - 1 + k) = subst (λ (j : ℕ). c * 2 ^ k < 2 ^ j) (omega arith) (shl_lt p k h) in
    let a : size (c * 2 ^ k) ≡ suc (p - 1 + k) = size_is (c * 2 ^ k) (p - 1 + k) (rw (pow-add 2 (p - 1) k) (mul-le-mul_right (2 ^ k) g)) hi in
    omega arith

written_steps : (p m : ℕ) → 2 ≤ p → written p (steps p m) ≡ m
written_steps p m P =
    let (k, c, x) = pattern_parts p m P in
    ap (written p) (parts_steps p m k c P x)
    ∙ ap (λ (j : ℕ). j * hidden p + c * 2 ^ k / 2 ^ j) (written_size p k c P x.digits x.leading)
    ∙ ap (λ (y : ℕ). k * hidden p + y) (mul-div_cancel c (pow_pos k))
    ∙ sym x.sum

to_bits_is : (f : Format) (s : Bool) (m : ℕ) (x : ℤ) (a : ℕ) → m * up x * 2 ^ Lib.low f ≡ a * down x → to_bits f (fin s m x) ≡ signed (prec f) (emax f) s (written (prec f) a)
unfolding to_bits
to_bits_is f s m x a e =
    ap (λ (n : ℕ). cond s (top f) 0 + (size n - prec f) * hid f + n / 2 ^ (size n - prec f)) (ap (λ (y : ℕ). y / down x) e ∙ mul-div_cancel a (down_pos x))
    ∙ add_assoc (cond s (top f) 0) ((size a - prec f) * hid f) (a / 2 ^ (size a - prec f))
    ∙ ap (λ (w : ℕ). cond s w 0 + written (prec f) a) (top_is f)

writes_same : (f : Format) (x : Float) (s : Bool) (m : ℕ) → Same f x (finite s (steps (prec f) m)) → to_bits f x ≡ signed (prec f) (emax f) s m
writes_same f nan s m h = absurd h
writes_same f (inf t) s m h = absurd h
writes_same f (fin t n x) s m h =
    to_bits_is f t n x (steps (prec f) m) h.1
    ∙ ap (λ (b : Bool). signed (prec f) (emax f) b (written (prec f) (steps (prec f) m))) h.0
    ∙ ap (signed (prec f) (emax f) s) (written_steps (prec f) m (two f))

writes_nan : (f : Format) → to_bits f nan ≡ quiet (prec f) (emax f)
unfolding to_bits
writes_nan f = refl

writes_inf : (f : Format) (s : Bool) → to_bits f (inf s) ≡ signed (prec f) (emax f) s (infinity (prec f) (emax f))
unfolding to_bits
writes_inf f s = ap (λ (w : ℕ). cond s w 0 + ones f * hid f) (top_is f)

over : (f : Format) (s : Bool) (q k : ℕ) → 2 ^ (Lib.low f + suc (emax f)) ≤ q * 2 ^ k → units f s q k ≡ inf s
unfolding units
over f s q k h = cond-false (ltb (q * 2 ^ k) (2 ^ (Lib.low f + suc (emax f)))) (odd (suc (prec f)) s q k (Lib.low f)) (inf s) (le-ltb (q * 2 ^ k) (2 ^ (Lib.low f + suc (emax f))) h)

writes : (f : Format) (s : Bool) (num den : ℕ) → 0 < den → to_bits f (Lib.round f s num den) ≡ signed (prec f) (emax f) s (round (prec f) (emax f) (num * 2 ^ Lib.low f) den)
writes f s num den D =
    let p = prec f in
    let i = infinity p (emax f) in
    let n = num * 2 ^ Lib.low f in
    let k = dropped p n den in
    let q = closest n (den * 2 ^ k) in
    let m = near p n den in
    let e : steps p m ≡ q * 2 ^ k = steps_near p n den (two f) D in
    let l : steps p i ≡ 2 ^ (Lib.low f + suc (emax f)) = steps_infinity p (emax f) (two f) in
    ap (to_bits f) (round_is f s num den)
    ∙ elim (cases_lt m i) [
      | inl u ↦
          writes_same f (units f s q k) s m
          (rw e (same_of_value f (units f s q k) s (q * 2 ^ k) (units_val f s q k (rw (sym e, sym l) (steps_less p m i (two f) u)))))
          ∙ ap (signed p (emax f) s) (sym (round_near p (emax f) n den m refl (le_of_lt u)))
      | inr g ↦
          ap (to_bits f) (over f s q k (rw (sym e, sym l) (steps_le p i m (two f) g)))
          ∙ writes_inf f s
          ∙ ap (signed p (emax f) s) (sym (min-eq_right g) ∙ round_min p (emax f) n den)
    ]

-- ---- the operations

-- only the value of the fraction counts
writes_at : (f : Format) (s : Bool) (num den n d : ℕ) → 0 < den → 0 < d → num * 2 ^ Lib.low f * d ≡ n * den → to_bits f (Lib.round f s num den) ≡ signed (prec f) (emax f) s (round (prec f) (emax f) n d)
writes_at f s num den n d A B h =
    writes f s num den A ∙ ap (signed (prec f) (emax f) s) (round_same (prec f) (emax f) (num * 2 ^ Lib.low f) den n d A B h)

writes_cond : (f : Format) (b : Bool) (x y : Float) (u v : Exact) → to_bits f x ≡ word (prec f) (emax f) u → to_bits f y ≡ word (prec f) (emax f) v
    → to_bits f (cond b x y) ≡ word (prec f) (emax f) (cond b u v)
writes_cond f true x y u v g h = g
writes_cond f false x y u v g h = h

none_or_endless : (f : Format) (b s : Bool) → to_bits f (cond b nan (inf s)) ≡ word (prec f) (emax f) (cond b none (endless s))
none_or_endless f b s = writes_cond f b nan (inf s) none (endless s) (writes_nan f) (writes_inf f s)

-- a / c and b / c are in the order of the counts that they stand for
ltb_scaled : (a b c m n l : ℕ) → 0 < c → 0 < l → a * l ≡ m * c → b * l ≡ n * c → ltb a b ≡ ltb m n
ltb_scaled a b c m n l C L g h =
    ltb_alike a b m n
    (λ x. lt_of_mul-lt-mul_right c (rw (sym g, sym h) (mul-lt-mul_of_pos_right x L)))
    (λ x. le_of_mul-le-mul_right (rw (sym g, sym h) (mul-le-mul_right l x)) C)

sub_mul : (m n k : ℕ) → (m - n) * k ≡ m * k - n * k
sub_mul m n k = mul_comm (m - n) k ∙ mul-sub k m n ∙ simp mul_comm

sums : (f : Format) (s : Bool) (a m : ℕ) (t : Bool) (b n c : ℕ) → 0 < c → a * 2 ^ Lib.low f ≡ m * c → b * 2 ^ Lib.low f ≡ n * c
    → to_bits f (sum f s a t b c) ≡ word (prec f) (emax f) (Ours.finite_sum s m t n)
unfolding sum
sums f s a m t b n c C g h =
    let l = 2 ^ Lib.low f in
    let one : 0 < 1 = omega arith in
    let less : ltb a b ≡ ltb m n = ltb_scaled a b c m n l C (pow_pos (Lib.low f)) g h in
    let more : ltb b a ≡ ltb n m = ltb_scaled b a c n m l C (pow_pos (Lib.low f)) h g in
    let both : (a + b) * l * 1 ≡ (m + n) * c = mul-one ((a + b) * l) ∙ add-mul a b l ∙ rw (g, h) (sym (add-mul m n c)) in
    let rise : (b - a) * l * 1 ≡ (n - m) * c = mul-one ((b - a) * l) ∙ sub_mul b a l ∙ rw (g, h) (sym (sub_mul n m c)) in
    let fall : (a - b) * l * 1 ≡ (m - n) * c = mul-one ((a - b) * l) ∙ sub_mul a b l ∙ rw (g, h) (sym (sub_mul m n c)) in
    rw (less, more)
    (writes_cond f (beq s t) (Lib.round f s (a + b) c) (cond (ltb m n) (Lib.round f t (b - a) c) (Lib.round f (s && ltb n m) (a - b) c))
    (fraction s (m + n) 1) (cond (ltb m n) (fraction t (n - m) 1) (fraction (s && ltb n m) (m - n) 1))
    (writes_at f s (a + b) c (m + n) 1 C one both)
    (writes_cond f (ltb m n) (Lib.round f t (b - a) c) (Lib.round f (s && ltb n m) (a - b) c) (fraction t (n - m) 1) (fraction (s && ltb n m) (m - n) 1)
    (writes_at f t (b - a) c (n - m) 1 C one rise) (writes_at f (s && ltb n m) (a - b) c (m - n) 1 C one fall)))

-- the pairs that are the same
data Pair (f : Format) : Float → Value → Type 0 where
  nans : Pair f nan not_number
  infs : (s : Bool) → Pair f (inf s) (infinite s)
  fins : (s : Bool) (m : ℕ) (x : ℤ) (a : ℕ) → m * up x * 2 ^ Lib.low f ≡ a * down x → Pair f (fin s m x) (finite s a)

pair : (f : Format) (x : Float) (u : Value) → Same f x u → Pair f x u
pair f nan not_number h = nans
pair f nan (infinite t) h = absurd h
pair f nan (finite t a) h = absurd h
pair f (inf s) not_number h = absurd h
pair f (inf s) (infinite t) h = subst (λ (b : Bool). Pair f (inf s) (infinite b)) h (infs s)
pair f (inf s) (finite t a) h = absurd h
pair f (fin s m x) not_number h = absurd h
pair f (fin s m x) (infinite t) h = absurd h
pair f (fin s m x) (finite t a) h = subst (λ (b : Bool). Pair f (fin s m x) (finite b a)) h.0 (fins s m x a h.1)

read : (f : Format) (b : ℕ) → b < 2 * top f → Pair f (of_bits f b) (decode (prec f) (emax f) b)
read f b h = pair f (of_bits f b) (decode (prec f) (emax f) b) (reads f b h)

-- both sides times z
times : (x l a d z : ℕ) → x * l ≡ a * d → x * z * l ≡ a * (d * z)
times x l a d z e = mul_right_comm x z l ∙ ap (λ (y : ℕ). y * z) e ∙ mul_assoc a d z

downs_pos : (w z : ℤ) → 0 < down w * down z
downs_pos w z = mul-pos (down_pos w) (down_pos z)

add_same : (f : Format) (x y : Float) (u v : Value) → Pair f x u → Pair f y v → to_bits f (add f x y) ≡ word (prec f) (emax f) (Ours.sum u v)
unfolding add
add_same f x y u v nans k = writes_nan f
add_same f x y u v (infs s) nans = writes_nan f
add_same f x y u v (infs s) (infs t) = writes_cond f (beq s t) (inf s) nan (endless s) none (writes_inf f s) (writes_nan f)
add_same f x y u v (infs s) (fins t n z b h) = writes_inf f s
add_same f x y u v (fins s m w a g) nans = writes_nan f
add_same f x y u v (fins s m w a g) (infs t) = writes_inf f t
add_same f x y u v (fins s m w a g) (fins t n z b h) =
    sums f s (m * up w * down z) a t (n * up z * down w) b (down w * down z) (downs_pos w z)
    (times (m * up w) (2 ^ Lib.low f) a (down w) (down z) g)
    (times (n * up z) (2 ^ Lib.low f) b (down z) (down w) h ∙ ap (λ (d : ℕ). b * d) (mul_comm (down z) (down w)))

neg_same : (f : Format) (x : Float) (u : Value) → Pair f x u → Pair f (neg x) (Ours.opposite u)
unfolding neg
neg_same f x u nans = nans
neg_same f x u (infs s) = infs (not s)
neg_same f x u (fins s m w a g) = fins (not s) m w a g

sub_is : (f : Format) (x y : Float) → sub f x y ≡ add f x (neg y)
unfolding sub
sub_is f x y = refl

zero_of : (m c a d : ℕ) → 0 < d → m * c ≡ a * d → m ≡ 0 → a ≡ 0
zero_of m c a d D e z = eq_of_mul-eq-mul_right d D a 0 (sym e ∙ ap (λ (x : ℕ). x * c) z ∙ zero-mul c ∙ sym (zero-mul d))

-- a value is zero where its count is
zero_alike : (f : Format) (m : ℕ) (x : ℤ) (a : ℕ) → m * up x * 2 ^ Lib.low f ≡ a * down x → eqb m 0 ≡ eqb a 0
zero_alike f m x a e =
    let c = up x * 2 ^ Lib.low f in
    let g : m * c ≡ a * down x = sym (mul_assoc m (up x) (2 ^ Lib.low f)) ∙ e in
    eqb_alike m 0 a 0 (zero_of m c a (down x) (down_pos x) g) (zero_of a (down x) m c (mul-pos (up_pos x) (pow_pos (Lib.low f))) (sym g))

cross : (x y l a d b e : ℕ) → x * l ≡ a * d → y * l ≡ b * e → x * y * l * l ≡ a * b * (d * e)
cross x y l a d b e p q =
    mul_assoc (x * y) l l ∙ mul-mul-mul_comm x y l l ∙ ap (λ (k : ℕ). k * (y * l)) p ∙ ap (λ (k : ℕ). a * d * k) q ∙ mul-mul-mul_comm a d b e

mul_same : (f : Format) (x y : Float) (u v : Value) → Pair f x u → Pair f y v → to_bits f (mul f x y) ≡ word (prec f) (emax f) (Ours.product (low (prec f) (emax f)) u v)
unfolding mul
mul_same f x y u v nans k = writes_nan f
mul_same f x y u v (infs s) nans = writes_nan f
mul_same f x y u v (infs s) (infs t) = writes_inf f (unlike s t)
mul_same f x y u v (infs s) (fins t n z b h) = rw (zero_alike f n z b h) (none_or_endless f (eqb b 0) (unlike s t))
mul_same f x y u v (fins s m w a g) nans = writes_nan f
mul_same f x y u v (fins s m w a g) (infs t) = rw (zero_alike f m w a g) (none_or_endless f (eqb a 0) (unlike s t))
mul_same f x y u v (fins s m w a g) (fins t n z b h) =
    writes_at f (unlike s t) (m * up w * (n * up z)) (down w * down z) (a * b) (2 ^ Lib.low f) (downs_pos w z) (pow_pos (Lib.low f))
    (cross (m * up w) (n * up z) (2 ^ Lib.low f) a (down w) b (down z) g h)

cross_over : (x y l a d b e : ℕ) → x * l ≡ a * d → y * l ≡ b * e → x * e * l * b ≡ a * l * (y * d)
cross_over x y l a d b e p q =
    let turn : a * (d * e) * b ≡ a * (b * (e * d)) = simp (mul_assoc, mul_comm, mul_left_comm) in
    ap (λ (k : ℕ). k * b) (times x l a d e p)
    ∙ turn
    ∙ ap (λ (k : ℕ). a * k) (sym (times y l b e d q) ∙ mul_comm (y * d) l)
    ∙ sym (mul_assoc a l (y * d))

-- zero is written as it is rounded
zero_same : (f : Format) (s : Bool) → to_bits f (fin s 0 (pos 0)) ≡ signed (prec f) (emax f) s (round (prec f) (emax f) 0 1)
zero_same f s =
    writes_same f (fin s 0 (pos 0)) s 0 (rw (steps_zero (prec f)) (refl, zero-mul (2 ^ Lib.low f)))
    ∙ ap (signed (prec f) (emax f) s) (sym (round_zero (prec f) (emax f) (two f)))

div_finite : (f : Format) (s : Bool) (m : ℕ) (w : ℤ) (a n : ℕ) (z : ℤ) (b : ℕ) → m * up w * 2 ^ Lib.low f ≡ a * down w → n * up z * 2 ^ Lib.low f ≡ b * down z → (b ≡ 0 → ⊥)
    → to_bits f (Lib.round f s (m * up w * down z) (n * up z * down w)) ≡ signed (prec f) (emax f) s (round (prec f) (emax f) (a * 2 ^ Lib.low f) b)
div_finite f s m w a n z b g h B =
    let N : n ≡ 0 → ⊥ = eqb-false n 0 (zero_alike f n z b h ∙ ne_eqb b 0 B) in
    let n_pos : 0 < n = omega arith in
    writes_at f s (m * up w * down z) (n * up z * down w) (a * 2 ^ Lib.low f) b (mul-pos (mul-pos n_pos (up_pos z)) (down_pos w)) (omega arith)
    (cross_over (m * up w) (n * up z) (2 ^ Lib.low f) a (down w) b (down z) g h)

div_same : (f : Format) (x y : Float) (u v : Value) → Pair f x u → Pair f y v → to_bits f (div f x y) ≡ word (prec f) (emax f) (Ours.quotient (low (prec f) (emax f)) u v)
unfolding div
div_same f x y u v nans k = writes_nan f
div_same f x y u v (infs s) nans = writes_nan f
div_same f x y u v (infs s) (infs t) = writes_nan f
div_same f x y u v (infs s) (fins t n z b h) = writes_inf f (unlike s t)
div_same f x y u v (fins s m w a g) nans = writes_nan f
div_same f x y u v (fins s m w a g) (infs t) = zero_same f (unlike s t)
div_same f x y u v (fins s m w a g) (fins t n z b h) =
    rw (zero_alike f n z b h, zero_alike f m w a g)
    (elim (cases_eq b 0) [
      | inl e ↦ rw (eq-eqb b 0 e) (none_or_endless f (eqb a 0) (unlike s t))
      | inr e ↦ rw (ne_eqb b 0 e) (div_finite f (unlike s t) m w a n z b g h e)
    ])

pub adds : (f : Format) (a b : ℕ) → a < 2 * top f → b < 2 * top f → to_bits f (add f (of_bits f a) (of_bits f b)) ≡ Ours.add (prec f) (emax f) a b
adds f a b A B = add_same f (of_bits f a) (of_bits f b) (decode (prec f) (emax f) a) (decode (prec f) (emax f) b) (read f a A) (read f b B)

pub subs : (f : Format) (a b : ℕ) → a < 2 * top f → b < 2 * top f → to_bits f (sub f (of_bits f a) (of_bits f b)) ≡ Ours.sub (prec f) (emax f) a b
subs f a b A B =
    ap (to_bits f) (sub_is f (of_bits f a) (of_bits f b))
    ∙ add_same f (of_bits f a) (neg (of_bits f b)) (decode (prec f) (emax f) a) (Ours.opposite (decode (prec f) (emax f) b)) (read f a A)
    (neg_same f (of_bits f b) (decode (prec f) (emax f) b) (read f b B))

pub muls : (f : Format) (a b : ℕ) → a < 2 * top f → b < 2 * top f → to_bits f (mul f (of_bits f a) (of_bits f b)) ≡ Ours.mul (prec f) (emax f) a b
muls f a b A B = mul_same f (of_bits f a) (of_bits f b) (decode (prec f) (emax f) a) (decode (prec f) (emax f) b) (read f a A) (read f b B)

pub divs : (f : Format) (a b : ℕ) → a < 2 * top f → b < 2 * top f → to_bits f (div f (of_bits f a) (of_bits f b)) ≡ Ours.div (prec f) (emax f) a b
divs f a b A B = div_same f (of_bits f a) (of_bits f b) (decode (prec f) (emax f) a) (decode (prec f) (emax f) b) (read f a A) (read f b B)

-- The floor is the greatest whole number not above, and the format holds it.
use Rattle.std.proofs.Common.{◌≡◌, ℕ, zero, suc, ◌+◌, ◌-◌, ◌*◌, ◌/◌, ◌%◌, ◌^◌, ◌<◌, ◌≤◌, Bool, true, false, cond, eqb, ltb, sym, refl, ap, ◌∙◌, inl, inr, le_trans, le_refl, le_of_suc-le-suc, mul-le-mul_right, suc-mul, div-lt_iff_lt-mul, add-mul, le_antisymm, div-add-mod', le-div_iff_mul-le, div-mul-le_self, le_of_mul-le-mul_right, arith, pow_mono}
use native.Mathlib.Nat.{lt-div-mul-add}
use Rattle.std.proofs.lemmas.Nat.{pow-add, pow_pos, pow_below, shl_below}
use Rattle.std.proofs.lemmas.Bool.{cases_lt, ltb-true}
use Rattle.ieee.specs.Formats.{Value, not_number, infinite, finite, low, hidden, infinity, sign_weight, signed, pattern, negative, steps, decode}
use Rattle.ieee.specs.Rounding.{round, word}
use Rattle.ieee.specs.Operations.{whole_below}
use Rattle.ieee.specs.Laws.{IsFloor, Floored, FloorStands}
use Rattle.ieee.proofs.Steps.{hidden_pos, pow_double, pow_cut, pattern_parts, parts_steps, steps_same, round_exact}
use Rattle.ieee.proofs.Whole.{wholes}
use Rattle.ieee.proofs.FormatLaws.{read_finite, formats_stand}

-- ---- a floor

whole_floor : (l : ℕ) (s : Bool) (a : ℕ) → IsFloor l s a (wholes l s a)
whole_floor l false a = (div-mul-le_self a (2 ^ l), λ j h. (le-div_iff_mul-le (pow_pos l)).1 h)
whole_floor l true a =
    let b : a + 2 ^ l - 1 < (a + 2 ^ l - 1) / 2 ^ l * 2 ^ l + 2 ^ l = lt-div-mul-add (pow_pos l) in (
      omega (arith, pow_pos l),
      λ j h. le_of_suc-le-suc ((div-lt_iff_lt-mul (pow_pos l)).1 (omega (arith, suc-mul j (2 ^ l), pow_pos l))),
    )

exact_floor : (l : ℕ) (s : Bool) (k : ℕ) → IsFloor l s (k * 2 ^ l) k
exact_floor l false k = (le_refl (k * 2 ^ l), λ j h. le_of_mul-le-mul_right h (pow_pos l))
exact_floor l true k = (le_refl (k * 2 ^ l), λ j h. le_of_mul-le-mul_right h (pow_pos l))

one_floor : (l : ℕ) (s : Bool) (a j k : ℕ) → IsFloor l s a j → IsFloor l s a k → j ≡ k
one_floor l false a j k x y = le_antisymm (y.1 j x.0) (x.1 k y.0)
one_floor l true a j k x y = le_antisymm (x.1 k y.0) (y.1 j x.0)

floor_bound : (l : ℕ) (s : Bool) (a b k : ℕ) → a ≤ b * 2 ^ l → IsFloor l s a k → k ≤ b
floor_bound l false a b k h x = le_of_mul-le-mul_right (le_trans x.0 h) (pow_pos l)
floor_bound l true a b k h x = x.1 b h

-- ---- the format holds the floor

-- from 2 ^ (p - 1) on a value is whole
large_whole : (p l m : ℕ) → 2 ≤ p → hidden p * 2 ^ l ≤ steps p m → (t : ℕ) × (steps p m ≡ t * 2 ^ l)
large_whole p l m P h =
    let (k, c, w) = pattern_parts p m P in
    let v : steps p m ≡ c * 2 ^ k = parts_steps p m k c P w in
    let x : c * 2 ^ k < 2 ^ (p + k) = shl_below c p k w.digits in
    let y : hidden p * 2 ^ l ≡ 2 ^ (p - 1 + l) = sym (pow-add 2 (p - 1) l) in
    let g : l ≤ k = elim (cases_lt k l) [
      | inl u ↦ let z : 2 ^ (p + k) ≤ 2 ^ (p - 1 + l) = pow_mono (omega arith) in omega arith
      | inr u ↦ u
    ] in
    (c * 2 ^ (k - l), v ∙ pow_cut c k l g)

floor_held : (p e : ℕ) → 2 ≤ p → p ≤ suc e → (s : Bool) (m : ℕ) → m < infinity p e → (k : ℕ) → IsFloor (low p e) s (steps p m) k
    → (n : ℕ) × (n < infinity p e) × (steps p n ≡ k * 2 ^ low p e)
floor_held p e P E s m h k x =
    let l = low p e in
    elim (cases_lt (steps p m) (hidden p * 2 ^ l)) [
      | inl a ↦
          let b : k ≤ hidden p = floor_bound l s (steps p m) (hidden p) k (omega arith) x in
          let c : k * 2 ^ l ≤ hidden p * 2 ^ l = mul-le-mul_right (2 ^ l) b in
          let d : 2 ^ (p - 1 + l) < 2 ^ (l + suc e) = pow_below (p - 1 + l) (l + suc e) (omega arith) in
          (formats_stand p e P (omega arith)).reached k l (omega (arith, pow_double p P, hidden_pos p)) (omega (arith, pow-add 2 (p - 1) l))
      | inr a ↦
          let (t, f) = large_whole p l m P a in
          let g : k ≡ t = one_floor l s (steps p m) k t x (rw f (exact_floor l s t)) in
          (m, h, f ∙ ap (λ (z : ℕ). z * 2 ^ l) (sym g))
    ]

-- ---- words with the same finite value

is_finite : (b c s t : Bool) (x y : ℕ) → cond b (finite t x) (cond c (infinite t) not_number) ≡ finite s y → (t ≡ s) × (x ≡ y)
is_finite true c s t x y h = (cc, cc)
is_finite false true s t x y h = (cc, cc)
is_finite false false s t x y h = (cc, cc)

sign_word : (p e w x : ℕ) → x < 2 → x * sign_weight p e + pattern p e w ≡ w → w ≡ signed p e (eqb (x % 2) 1) (pattern p e w)
sign_word p e w zero h d = omega arith
sign_word p e w (suc zero) h d = omega arith
sign_word p e w (suc (suc x)) h d = omega arith

word_parts : (p e w : ℕ) → w < 2 * sign_weight p e → w ≡ signed p e (negative p e w) (pattern p e w)
word_parts p e w h =
    let W : 0 < sign_weight p e = omega (arith, add-mul (2 * e) 2 (hidden p), hidden_pos p) in
    sign_word p e w (w / sign_weight p e) ((div-lt_iff_lt-mul W).1 h) (div-add-mod' w (sign_weight p e))

one_word : (p e w : ℕ) (s : Bool) (n : ℕ) → 2 ≤ p → w < 2 * sign_weight p e → decode p e w ≡ finite s (steps p n) → w ≡ signed p e s n
unfolding decode
one_word p e w s n P h d =
    let m = pattern p e w in
    let (t, q) = is_finite (ltb m (infinity p e)) (eqb m (infinity p e)) s (negative p e w) (steps p m) (steps p n) d in
    word_parts p e w h ∙ ap (λ (x : Bool). signed p e x m) t ∙ ap (λ (x : ℕ). signed p e s x) (steps_same p m n P q)

-- ---- the floor of what a word stands for

abbrev Held : ℕ → ℕ → Value → Type 0
Held p e not_number = 0 ≤ 0
Held p e (infinite s) = 0 ≤ 0
Held p e (finite s a) = (m : ℕ) × (m < infinity p e) × (steps p m ≡ a)

held_cond : (p e m : ℕ) (s b c : Bool) → ltb m (infinity p e) ≡ b → Held p e (cond b (finite s (steps p m)) (cond c (infinite s) not_number))
held_cond p e m s true c h = (m, ltb-true m (infinity p e) h, refl)
held_cond p e m s false true h = le_refl 0
held_cond p e m s false false h = le_refl 0

decode_held : (p e w : ℕ) → Held p e (decode p e w)
unfolding decode
decode_held p e w = held_cond p e (pattern p e w) (negative p e w) (ltb (pattern p e w) (infinity p e)) (eqb (pattern p e w) (infinity p e)) refl

floored : (p e : ℕ) → 2 ≤ p → p ≤ suc e → (x : Value) → Held p e x
    → Floored p e x (word p e (whole_below (low p e) x)) × ((w : ℕ) → w < 2 * sign_weight p e → Floored p e x w → w ≡ word p e (whole_below (low p e) x))
floored p e P E not_number h = (refl, λ w l f. f)
floored p e P E (infinite s) h = (refl, λ w l f. f)
floored p e P E (finite s a) (m, b, v) =
    let l = low p e in
    let k = wholes l s a in
    let x : IsFloor l s a k = whole_floor l s a in
    let (n, c, f) = floor_held p e P E s m b k (rw v x) in
    let r : round p e (k * 2 ^ l) 1 ≡ n = ap (λ (z : ℕ). round p e z 1) (sym f) ∙ round_exact p e n P (omega arith) in (
      (k, x, ap (λ (z : ℕ). decode p e (signed p e s z)) r ∙ read_finite p e s n c ∙ ap (λ (z : ℕ). finite s z) f),
      λ w y t.
          let q : t.0 ≡ k = one_floor l s a t.0 k t.1 x in
          one_word p e w s n P y (t.2 ∙ ap (λ (z : ℕ). finite s (z * 2 ^ l)) q ∙ ap (λ (z : ℕ). finite s z) (sym f)) ∙ ap (λ (z : ℕ). signed p e s z) (sym r),
    )

pub floor_stands : FloorStands
floor_stands p e P E a = floored p e P E (decode p e a) (decode_held p e a)

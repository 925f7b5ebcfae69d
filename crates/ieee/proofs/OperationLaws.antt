-- Each operation answers the right word for its exact result.
use Rattle.std.proofs.Common.{◌≡◌, ℕ, ◌*◌, ◌<◌, ◌≤◌, Bool, true, false, cond, eqb, ltb, ℤ, pos, negsuc, sym, refl, ap, ◌∙◌, le_refl, mod-lt, zero-add, arith}
use mathlib.Core.Bool.{beq}
use native.Mathlib.Nat.{min-le_right}
use lib.Ieee.{root_twice}
use Rattle.std.proofs.lemmas.Nat.{pow_pos}
use Rattle.std.proofs.lemmas.Bool.{cond_both, eqb-false}
use Rattle.ieee.specs.Formats.{Value, not_number, infinite, finite, low, infinity, sign_weight, signed, pattern, negative, steps, decode}
use Rattle.ieee.specs.Rounding.{Exact, none, endless, fraction, root, near, round, round_root, word}
use Rattle.ieee.specs.Operations.{opposite, unsigned, sum, product, quotient, square_root, scaled, converted, abs}
use Rattle.ieee.specs.Laws.{Right, Proper, AllOperationsStand}
use Rattle.ieee.proofs.Steps.{hidden_pos}
use Rattle.ieee.proofs.FormatLaws.{decode_signed, weight_above}
use Rattle.ieee.proofs.RoundingLaws.{rounding_stands}

-- ---- the exact results are proper

proper_cond : (b : Bool) (x y : Exact) → Proper x → Proper y → Proper (cond b x y)
proper_cond true x y h k = h
proper_cond false x y h k = k

sum_proper : (x y : Value) → Proper (sum x y)
sum_proper not_number y = le_refl 0
sum_proper (infinite s) not_number = le_refl 0
sum_proper (infinite s) (infinite t) = proper_cond (beq s t) _ _ (le_refl 0) (le_refl 0)
sum_proper (infinite s) (finite t b) = le_refl 0
sum_proper (finite s a) not_number = le_refl 0
sum_proper (finite s a) (infinite t) = le_refl 0
sum_proper (finite s a) (finite t b) = proper_cond (beq s t) _ _ (le_refl 1) (proper_cond (ltb a b) _ _ (le_refl 1) (le_refl 1))

product_proper : (l : ℕ) (x y : Value) → Proper (product l x y)
product_proper l not_number y = le_refl 0
product_proper l (infinite s) not_number = le_refl 0
product_proper l (infinite s) (infinite t) = le_refl 0
product_proper l (infinite s) (finite t b) = proper_cond (eqb b 0) _ _ (le_refl 0) (le_refl 0)
product_proper l (finite s a) not_number = le_refl 0
product_proper l (finite s a) (infinite t) = proper_cond (eqb a 0) _ _ (le_refl 0) (le_refl 0)
product_proper l (finite s a) (finite t b) = pow_pos l

quotient_proper : (l : ℕ) (x y : Value) → Proper (quotient l x y)
quotient_proper l not_number y = le_refl 0
quotient_proper l (infinite s) not_number = le_refl 0
quotient_proper l (infinite s) (infinite t) = le_refl 0
quotient_proper l (infinite s) (finite t b) = le_refl 0
quotient_proper l (finite s a) not_number = le_refl 0
quotient_proper l (finite s a) (infinite t) = le_refl 1
quotient_proper l (finite s a) (finite t b) =
    cond_both (eqb b 0) _ _ Proper (λ h. proper_cond (eqb a 0) _ _ (le_refl 0) (le_refl 0)) (λ h. omega (arith, eqb-false b 0 h))

root_proper : (l : ℕ) (x : Value) → Proper (square_root l x)
root_proper l not_number = le_refl 0
root_proper l (infinite s) = proper_cond s _ _ (le_refl 0) (le_refl 0)
root_proper l (finite s a) = proper_cond (eqb a 0) _ _ (le_refl 1) (proper_cond s _ _ (le_refl 0) (le_refl 0))

scaled_proper : (l : ℕ) (v : ℤ) → Proper (scaled l v)
scaled_proper l (pos n) = omega arith
scaled_proper l (negsuc n) = omega arith

converted_proper : (k l : ℕ) (x : Value) → Proper (converted k l x)
converted_proper k l not_number = le_refl 0
converted_proper k l (infinite s) = le_refl 0
converted_proper k l (finite s a) = pow_pos k

-- ---- a word without its sign

unsigned_cond : (b c s : Bool) (n : ℕ)
    → cond b (finite false n) (cond c (infinite false) not_number) ≡ unsigned (cond b (finite s n) (cond c (infinite s) not_number))
unsigned_cond true c s n = refl
unsigned_cond false true s n = refl
unsigned_cond false false s n = refl

abs_read : (p e a : ℕ) → decode p e (abs p e a) ≡ unsigned (decode p e a)
unfolding decode
abs_read p e a =
    let m = pattern p e a in
    ap (λ (x : ℕ). decode p e x) (sym (zero-add m))
    ∙ decode_signed p e false m (mod-lt a (omega (arith, weight_above p e, hidden_pos p)))
    ∙ unsigned_cond (ltb m (infinity p e)) (eqb m (infinity p e)) (negative p e a) (steps p m)

-- ---- the width of a word

round_held : (p e n d : ℕ) → round p e n d ≤ infinity p e
unfolding round
round_held p e n d = min-le_right (near p n d) (infinity p e)

root_held : (p e n : ℕ) → round_root p e n ≤ infinity p e
unfolding round_root
root_held p e n = round_held p e (root_twice (4 * n)) 4

signed_below : (p e : ℕ) (s : Bool) (m : ℕ) → m ≤ infinity p e → signed p e s m < 2 * sign_weight p e
signed_below p e true m h = omega (arith, weight_above p e, hidden_pos p)
signed_below p e false m h = omega (arith, weight_above p e, hidden_pos p)

word_below : (p e : ℕ) (x : Exact) → word p e x < 2 * sign_weight p e
word_below p e none = omega (arith, weight_above p e, hidden_pos p)
word_below p e (endless s) = signed_below p e s (infinity p e) (le_refl (infinity p e))
word_below p e (fraction s n d) = signed_below p e s (round p e n d) (round_held p e n d)
word_below p e (root n) = omega (arith, weight_above p e, hidden_pos p, root_held p e n)

pub operations_stand : AllOperationsStand
operations_stand p e P E =
    let l = low p e in
    let right : (x : Exact) → Proper x → Right p e x (word p e x) = λ x h. (rounding_stands p e P E x h).0 in
    record {
      sums = λ a b. right _ (sum_proper (decode p e a) (decode p e b));
      differences = λ a b. right _ (sum_proper (decode p e a) (opposite (decode p e b)));
      products = λ a b. right _ (product_proper l (decode p e a) (decode p e b));
      quotients = λ a b. right _ (quotient_proper l (decode p e a) (decode p e b));
      roots = λ a. right _ (root_proper l (decode p e a));
      numbers = λ v. right _ (scaled_proper l v);
      conversions = λ k x. right _ (converted_proper k l x);
      signs = abs_read p e;
      width = word_below p e;
    }

-- The values of a format are what they should be, and each has its pattern.
use Rattle.std.proofs.Common.{◌≡◌, ℕ, ◌+◌, ◌-◌, ◌*◌, ◌/◌, ◌%◌, ◌^◌, ◌<◌, ◌≤◌, Bool, true, false, cond, eqb, sym, refl, ap, ◌∙◌, add-mul, one-mul, lt_of_not-le, div-one, arith}
use lib.Ieee.{size}
use lib.Ieee.Digits.{size-le}
use lib.Ieee.Nearest.{closest}
use Rattle.std.proofs.lemmas.Nat.{pow_pos, div-mul-add, mod-mul-add, shl_below}
use Rattle.std.proofs.lemmas.Bool.{cond-true, cond-false, lt-ltb, le-ltb}
use Rattle.ieee.specs.Formats.{not_number, infinite, finite, hidden, infinity, sign_weight, signed, value_of, steps, decode}
use Rattle.ieee.specs.Rounding.{near}
use Rattle.ieee.specs.Laws.{FormatsStand}
use Rattle.ieee.proofs.Closest.{closest_whole}
use Rattle.ieee.proofs.Steps.{dropped, pow_cut, parts_steps, pattern_parts, steps_less, steps_le, steps_infinity, steps_near}

steps_below : (p m n : ℕ) → 2 ≤ p → steps p m < steps p n → m < n
steps_below p m n P h = lt_of_not-le (λ (g : n ≤ m). omega (arith, steps_le p n m P g))

-- q * 2 ^ j drops no more than its closing zeros
steps_reached : (p q j : ℕ) → 2 ≤ p → q < 2 ^ p → steps p (near p (q * 2 ^ j) 1) ≡ q * 2 ^ j
steps_reached p q j P h =
    let n = q * 2 ^ j in
    let k = dropped p n 1 in
    let a : n < 2 ^ (p + j) = shl_below q p j h in
    let b : size (n / 1) ≤ p + j = size-le (n / 1) (p + j) (rw div-one a) in
    let e : n ≡ q * 2 ^ (j - k) * 2 ^ k = pow_cut q j k (omega arith) in
    steps_near p n 1 P (pow_pos 0)
    ∙ ap (λ (x : ℕ). closest x (1 * 2 ^ k) * 2 ^ k) e
    ∙ ap (λ (x : ℕ). x * 2 ^ k) (closest_whole (q * 2 ^ (j - k)) k)
    ∙ sym e

-- ---- words

signed_parts : (p e : ℕ) (s : Bool) (m : ℕ) → signed p e s m ≡ cond s 1 0 * sign_weight p e + m
signed_parts p e true m = ap (λ (x : ℕ). x + m) (sym (one-mul (sign_weight p e)))
signed_parts p e false m = omega arith

sign_read : (s : Bool) → eqb (cond s 1 0 % 2) 1 ≡ s
sign_read true = refl
sign_read false = refl

pub decode_signed : (p e : ℕ) (s : Bool) (m : ℕ) → m < sign_weight p e → decode p e (signed p e s m) ≡ value_of p e s m
unfolding decode
decode_signed p e s m h =
    let w = sign_weight p e in
    let a : signed p e s m / w ≡ cond s 1 0 = ap (λ (x : ℕ). x / w) (signed_parts p e s m) ∙ div-mul-add (cond s 1 0) w m h in
    let b : signed p e s m % w ≡ m = ap (λ (x : ℕ). x % w) (signed_parts p e s m) ∙ mod-mul-add (cond s 1 0) w m h in
    ap (λ (x : ℕ). value_of p e (eqb (x % 2) 1) (signed p e s m % w)) a
    ∙ ap (λ (x : Bool). value_of p e x (signed p e s m % w)) (sign_read s)
    ∙ ap (λ (x : ℕ). value_of p e s x) b

pub weight_above : (p e : ℕ) → infinity p e + hidden p ≡ sign_weight p e
weight_above p e = omega (arith, add-mul (2 * e) 1 (hidden p), add-mul (2 * e) 2 (hidden p))

pub under_infinity : (p e : ℕ) (s : Bool) (m : ℕ) → m < infinity p e → value_of p e s m ≡ finite s (steps p m)
under_infinity p e s m h = cond-true _ _ _ (lt-ltb m (infinity p e) h)

pub from_infinity : (p e : ℕ) (s : Bool) (m : ℕ) → infinity p e ≤ m → value_of p e s m ≡ cond (eqb m (infinity p e)) (infinite s) not_number
from_infinity p e s m h = cond-false _ _ _ (le-ltb m (infinity p e) h)

pub read_finite : (p e : ℕ) (s : Bool) (m : ℕ) → m < infinity p e → decode p e (signed p e s m) ≡ finite s (steps p m)
read_finite p e s m h = decode_signed p e s m (omega (arith, weight_above p e)) ∙ under_infinity p e s m h

pub formats_stand : FormatsStand
formats_stand p e P E = record {
  reached = λ q j h l.
      let a : steps p (near p (q * 2 ^ j) 1) ≡ q * 2 ^ j = steps_reached p q j P h in
      (near p (q * 2 ^ j) 1, steps_below p (near p (q * 2 ^ j) 1) (infinity p e) P (rw (a, steps_infinity p e P) l), a);
  within = λ m h.
      let (k, c, x) = pattern_parts p m P in
      (c, k, x.digits, parts_steps p m k c P x, rw steps_infinity at (steps_less p m (infinity p e) P h));
  ordered = λ m n h. steps_less p m n P h;
  read = λ s m h. read_finite p e s m h;
}

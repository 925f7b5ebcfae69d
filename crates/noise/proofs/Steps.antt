-- What a step does to bits.
use Rattle.std.proofs.Common.{◌≡◌, ℕ, zero, suc, ◌+◌, ◌/◌, ◌%◌, ◌^◌, ◌<◌, sym, ap, ◌∙◌, div-one, arith}
use Rattle.std.proofs.lemmas.Nat.{xor_lt, mod_below}
use Rattle.noise.specs.Noise.{bit, tapped, stepped, Stepped}
use Rattle.noise.specs.Laws.{OneStep}
use Rattle.noise.proofs.Numbers.{bit_below, bit_half, same_bits}

pub tapped_below : (n : ℕ) → tapped n < 2
unfolding tapped
tapped_below n =
    let b : (j : ℕ) → bit n j < 2 = λ j. mod_below (n / 2 ^ j) 2 (omega arith) in
    xor_lt 1 _ _ (xor_lt 1 _ _ (xor_lt 1 _ _ (b 143) (b 141)) (b 139)) (b 136)

-- the half of a stepped number has all but the highest bit
half_stepped : (n : ℕ) → stepped n / 2 ≡ n % 2 ^ 143
unfolding stepped
half_stepped n = let b = tapped_below n in omega arith

low_stepped : (n : ℕ) → stepped n % 2 ≡ tapped n
unfolding stepped
low_stepped n = let b = tapped_below n in omega arith

pub stepped_bits : (n : ℕ) → Stepped n (stepped n)
unfolding tapped stepped
stepped_bits n =
    record {
      small = omega arith;
      moved = λ j h. bit_half (stepped n) j ∙ (ap (λ m. bit m j) (half_stepped n) ∙ bit_below n 143 j h);
      fresh = ap (λ m. m % 2) (div-one (stepped n)) ∙ low_stepped n;
    }

same_steps : (n a b : ℕ) → Stepped n a → Stepped n b → (j : ℕ) → j < 144 → bit a j ≡ bit b j
same_steps n a b p q zero h = p.fresh ∙ sym q.fresh
same_steps n a b p q (suc j) h =
    let e : suc j ≡ j + 1 = omega arith in
    rw e (p.moved j (omega arith) ∙ sym (q.moved j (omega arith)))

pub one_step_lem : OneStep
one_step_lem n a b p q = same_bits 144 a b p.small q.small (same_steps n a b p q)

-- The channel of a level, case by case.
use Rattle.std.proofs.Common.{◌≡◌, ℕ, ◌+◌, ◌/◌, ◌%◌, ◌<◌, ◌≤◌, true, false, ℤ, pos, negsuc, nat_abs, refl, arith}
use lib.Signed.{lt_z}
use Rattle.std.proofs.lemmas.Bool.Decides.{nat_tests}
use Rattle.noise.specs.Noise.{channel_of}

pub channel_below : (z : ℤ) (r n : ℕ) → n ≡ channel_of z r → n < 16
unfolding channel_of
channel_below (pos m) r n e = grind (arith, nat_tests)
channel_below (negsuc m) r n e = omega arith

pub channel_under : (z : ℤ) (r : ℕ) → lt_z z (pos 0) ≡ true → 0 ≡ channel_of z r
unfolding channel_of
channel_under (pos m) r h = absurd (grind (arith, nat_tests))
channel_under (negsuc m) r h = refl

pub channel_over : (z : ℤ) (r : ℕ) → lt_z (pos 120) z ≡ true → 15 ≡ channel_of z r
unfolding channel_of
channel_over (pos m) r h = grind (arith, nat_tests)
channel_over (negsuc m) r h = absurd (grind (arith, nat_tests))

pub channel_up : (z : ℤ) (r : ℕ) → lt_z z (pos 0) ≡ false → lt_z (pos 120) z ≡ false → r % 8 < nat_abs z % 8 → nat_abs z / 8 + 1 ≡ channel_of z r
unfolding channel_of
channel_up (pos m) r low high h = grind (arith, nat_tests)
channel_up (negsuc m) r low high h = absurd (grind (arith, nat_tests))

pub channel_down : (z : ℤ) (r : ℕ) → lt_z z (pos 0) ≡ false → lt_z (pos 120) z ≡ false → nat_abs z % 8 ≤ r % 8 → nat_abs z / 8 ≡ channel_of z r
unfolding channel_of
channel_down (pos m) r low high h = grind (arith, nat_tests)
channel_down (negsuc m) r low high h = absurd (grind (arith, nat_tests))

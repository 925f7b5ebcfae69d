-- The lanes before the index hold their bits.
use Rattle.std.proofs.Common.{◌≡◌, ℕ, ◌*◌, ◌/◌, ◌%◌, ◌^◌, ◌<◌, get_or}
use Rattle.noise.specs.Noise.{seeded}
use Rattle.noise.proofs.register.Noise.seeded.Given as goal

abbrev pub invariant-loop-lane : goal.invariant-loop-lane
invariant-loop-lane l = (k : ℕ) → k < l.lane → get_or l.nine-items k 0 ≡ seeded l.bytes / 2 ^ (9 * k) % 512

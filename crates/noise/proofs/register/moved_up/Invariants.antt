-- The lanes before the index are moved.
use Rattle.std.proofs.Common.{◌≡◌, ℕ, ◌+◌, ◌*◌, ◌/◌, ◌%◌, ◌^◌, ◌<◌, get_or}
use Rattle.noise.specs.Noise.{number_of}
use Rattle.noise.proofs.register.moved_up.Given as goal

abbrev pub invariant-loop-lane : goal.invariant-loop-lane
invariant-loop-lane l = (k : ℕ) → k < l.lane → get_or l.nine-items k 0 ≡ (number_of 9 l.lanes * 2 + l.fresh) / 2 ^ (9 * k) % 512

-- Sixteen lanes are all.
use Rattle.std.proofs.Common.{arith}
use Rattle.noise.proofs.Lanes.{all_lanes}
use Rattle.noise.proofs.register.moved_up.Goals as goal

pub returns : goal.returns
returns c = all_lanes c.loop-lane.nine-items _ c.loop-lane-test.array_long (λ k h. c.loop-lane.invariant k (omega arith))

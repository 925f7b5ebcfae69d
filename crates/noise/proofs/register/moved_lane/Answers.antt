-- The lane's low eight bits move up, above the bit that comes in.
use Rattle.std.proofs.Common.{arith}
use Rattle.noise.proofs.Lanes.{first_moved, lane_moved}
use Rattle.noise.proofs.register.moved_lane.Goals.{then-lane-eq0, else-lane-eq0}
use Rattle.noise.proofs.register.moved_lane.Goals as goal

pub returns : goal.returns
returns c = elim c.if-lane-eq0.branch [
  | then-lane-eq0 w ↦ rw (w.if-lane-eq0.true, w.carry-is) (first_moved c.args.lanes.now c.args.fresh c.requires.0)
  | else-lane-eq0 w ↦ rw w.carry-is (lane_moved c.args.lanes.now c.args.fresh c.requires.0 _ _ (omega arith))
]

-- The taps are bits of the last lane.
use Rattle.std.proofs.Common.{get_or, refl}
use Rattle.noise.proofs.Lanes.{taps_of_lane}
use Rattle.noise.proofs.register.taps.Goals as goal

pub returns : goal.returns
returns c = taps_of_lane c.args.lanes.now (get_or c.args.lanes.now 15 0) refl

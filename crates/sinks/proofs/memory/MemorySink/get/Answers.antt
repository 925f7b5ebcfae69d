-- The block at the place gives the lane.
use Rattle.std.proofs.Common.{arith}
use Rattle.sinks.specs.Parts.{answered}
use Rattle.sinks.proofs.memory.MemorySink.get.Goals as goal

pub block_at-requires : goal.block_at-requires
block_at-requires g c = (g.met.T.Layout.fits, omega arith)

pub colour_in-requires : goal.colour_in-requires
colour_in-requires g c = g.met.T.Layout.fits

pub returns : goal.returns
returns g c =
    answered g.row.N c.args.place c.args.lane g.T.Layout.read c.args.self.now.memory.now _ _ _ g.T.Layout.good_block (omega arith) c.block_at.ensures c.colour_in.ensures c.ok_or.ensures.value

-- The block is replaced, and reads as its colours.
use Rattle.std.proofs.Common.{◌≡◌, length, arith}
use Rattle.sinks.specs.Parts.{put_done}
use Rattle.sinks.proofs.memory.MemorySink.put.Goals as goal

pub returns-clause-outcome : goal.returns-clause-outcome
returns-clause-outcome g c =
    let values = c.args.colours.now in
    let l : length values ≡ 16 = omega arith in
    put_done g.row.N c.args.place _ c.args.self.now.memory.now _ g.T.Layout.read values (omega arith) (g.met.T.Layout.full values l) (g.met.T.Layout.back values l) c.put_block.ensures

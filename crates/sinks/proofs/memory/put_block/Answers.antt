-- The part that was lent is the one that is replaced.
use Rattle.sinks.specs.Parts.{part_written}
use Rattle.sinks.proofs.memory.put_block.Goals as goal

pub returns : goal.returns
returns g c = part_written g.row.N c.args.place c.args.memory.now _ _ c.write_block.ensures

-- The picture has a block for each whole part.
use Rattle.std.proofs.Common.{sym, ◌∙◌}
use Rattle.sinks.specs.Parts.{block_count-picture_in}
use Rattle.sinks.proofs.memory.MemorySink.count.Goals as goal

pub returns-clause-picture : goal.returns-clause-picture
returns-clause-picture g c = c.min.ensures ∙ sym (block_count-picture_in g.row.N g.T.Layout.read c.args.self.now.memory.now)

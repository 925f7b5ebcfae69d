-- A get asks the side that holds its place.
use Rattle.std.proofs.Common.{◌∙◌, arith}
use Rattle.sinks.specs.Joins.{get_first, get_second, get_cut}
use Rattle.sinks.proofs.split.SplitSink.get.Goals as goal

pub returns-then-place-ge-MOST : goal.returns-then-place-ge-MOST
returns-then-place-ge-MOST g c = get_cut _ _ c.args.place (omega arith) c.args.lane

pub returns-then-place-split : goal.returns-then-place-split
returns-then-place-split g c =
    c.get.ensures ∙ get_first (g.A.Pictured.picture c.args.self.now.first) _ c.args.place (omega arith) (omega arith) c.args.lane

pub returns-else-place-split : goal.returns-else-place-split
returns-else-place-split g c =
    c.get-else-place-split.ensures ∙ get_second _ _ c.args.place (omega arith) _ c.count-split.ensures (omega arith) c.args.lane

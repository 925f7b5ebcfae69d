-- A put goes to the side that holds its place, and the other side stays.
use Rattle.std.proofs.Common.{arith}
use Rattle.sinks.specs.Joins.{put_first, put_second, put_cut}
use Rattle.sinks.proofs.split.SplitSink.put.Goals as goal

pub returns-then-place-ge-MOST-clause-outcome : goal.returns-then-place-ge-MOST-clause-outcome
returns-then-place-ge-MOST-clause-outcome g c =
    put_cut (g.A.Pictured.picture c.args.self.now.first) (g.B.Pictured.picture c.args.self.now.second) c.args.place (omega arith) _

pub returns-then-place-split-clause-outcome : goal.returns-then-place-split-clause-outcome
returns-then-place-split-clause-outcome g c =
    put_first (g.A.Pictured.picture c.args.self.now.first) _ c.args.place (omega arith) (omega arith) _ _ _ c.put.ensures.outcome

pub returns-else-place-split-clause-outcome : goal.returns-else-place-split-clause-outcome
returns-else-place-split-clause-outcome g c =
    put_second _ _ c.args.place (omega arith) _ c.count-split.ensures (omega arith) _ _ _ c.put-else-place-split.ensures.outcome

-- The blocks of both, cut.
use Rattle.std.proofs.Common.{arith}
use Rattle.sinks.specs.Joins.{count_joined}
use Rattle.sinks.proofs.split.SplitSink.count.Goals as goal

pub returns : goal.returns
returns g c = omega (arith, count_joined (g.A.Pictured.picture c.args.self.now.first) (g.B.Pictured.picture c.args.self.now.second))

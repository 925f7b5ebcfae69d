-- The get follows a put that was taken.
use Rattle.sinks.proofs.Laws.{then_got}
use Rattle.sinks.proofs.law.put_then_get.Goals as goal

pub returns-clause-outcome : goal.returns-clause-outcome
returns-clause-outcome g c = then_got _ c.args.place c.args.colours.now _ _ c.put.ensures.outcome c.in_ok-put.was c.args.at c.args.lane _ c.told-colours c.get.ensures

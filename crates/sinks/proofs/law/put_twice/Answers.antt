-- The second put follows one that was taken.
use Rattle.sinks.proofs.Laws.{then_put}
use Rattle.sinks.proofs.law.put_twice.Goals as goal

pub returns-clause-outcome : goal.returns-clause-outcome
returns-clause-outcome g c = then_put _ c.args.place c.args.first.now _ _ c.put.ensures.outcome c.in_ok-put.was _ _ _ c.put-2.ensures.outcome

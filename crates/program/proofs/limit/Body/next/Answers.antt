use Rattle.std.proofs.Common.{rules}
use Rattle.program.proofs.Limits.{next_here}
use Rattle.program.proofs.limit.Body.next.Goals as goal

pub returns-in-Some-Loop : goal.returns-in-Some-Loop
returns-in-Some-Loop c = next_here {t = c.in-Some-Loop.target} c.requires.accepted (record { within = c.args.place.inside; is = cc }) _ (λ s b h. search rules) c.feeder.result c.map.result c.feeder.ensures c.map.ensures.cases

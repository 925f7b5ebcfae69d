use Rattle.units.proofs.half.HalfUnit.number.Goals as goal
use Rattle.std.proofs.Common.{◌≡◌, rules}
use Rattle.ieee.specs.Operations.{number_through}
use Rattle.units.proofs.Rights.{twice}

pub returns-clause-right : goal.returns-clause-right
returns-clause-right c = let e : c.number.result ≡ number_through 24 127 11 15 c.args.v = search rules in twice c.args.v _ e

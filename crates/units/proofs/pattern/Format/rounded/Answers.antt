use Rattle.units.proofs.pattern.Format.rounded.Goals as goal
use Rattle.std.proofs.Common.{arith}
use Rattle.ieee.proofs.Steps.{round_min}

pub returns : goal.returns
returns g c = record { value = rw (c.min.ensures, c.near.ensures, c.infinity.ensures) (round_min g.row.P g.row.E c.args.n _); bound = omega arith }

use Rattle.units.proofs.pattern.closest.Goals as goal
use Rattle.std.proofs.Common.{arith}
use Rattle.units.proofs.Shifts.{closest_shift}

pub returns : goal.returns
returns c = closest_shift c.args.n c.args.s (omega arith) (omega arith)

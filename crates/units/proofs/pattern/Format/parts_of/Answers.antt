use Rattle.units.proofs.pattern.Format.parts_of.Goals as goal
use Rattle.std.proofs.Common.{arith}
use Rattle.ieee.proofs.Steps.{hidden_pos, pow_double}
use Rattle.units.proofs.Shifts.{small_steps, normal_steps}

pub returns-then-m-h-clause-value : goal.returns-then-m-h-clause-value
returns-then-m-h-clause-value g c = small_steps g.row.P c.args.m (omega arith) (omega arith)

pub returns-else-m-h-clause-value : goal.returns-else-m-h-clause-value
returns-else-m-h-clause-value g c = rw (c.hidden-h.ensures, c.low_bits.ensures) (normal_steps g.row.P c.args.m (omega arith) (omega arith))

pub returns-else-m-h-clause-digits : goal.returns-else-m-h-clause-digits
returns-else-m-h-clause-digits g c = omega (arith, hidden_pos g.row.P, pow_double g.row.P (omega arith))

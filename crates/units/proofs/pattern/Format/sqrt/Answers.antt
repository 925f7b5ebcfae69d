use Rattle.units.proofs.pattern.Format.sqrt.Goals as goal
use Rattle.std.proofs.Common.{◌∙◌, arith}
use Rattle.units.proofs.Radicands.{root_of_zero, root_of_negative, root_of_positive}

pub returns-then-x-eq0 : goal.returns-then-x-eq0
returns-then-x-eq0 g c =
    rw (← c.decode.ensures, c.in-Finite.is) (c.signed.ensures ∙ root_of_zero g.row.P g.row.E _ _ (omega arith) c.if-x-eq0.true)

pub returns-then-x : goal.returns-then-x
returns-then-x g c =
    rw (← c.decode.ensures, c.in-Finite.is) (c.quiet-then-x.ensures ∙ root_of_negative g.row.P g.row.E _ _ (omega arith) (omega arith) c.if-x.true)

pub returns-else-x : goal.returns-else-x
returns-else-x g c =
    rw (← c.decode.ensures, c.in-Finite.is) (c.root_pattern.ensures ∙ root_of_positive g.row.P g.row.E _ _ (omega arith) (omega arith) c.if-x.false)

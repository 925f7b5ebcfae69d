use Rattle.units.proofs.half.quotient.Goals as goal
use Rattle.std.proofs.Common.{◌∙◌}
use Rattle.ieee.specs.Formats.{steps}
use Rattle.units.proofs.Halves.{quotient_zero, quotient_some, quotient_endless}

pub returns-then-y-eq0 : goal.returns-then-y-eq0
returns-then-y-eq0 c =
    let i = c.in-Finite-Finite in
    rw (i.is-0, i.is-1) (c.endless_unless_zero.ensures ∙ quotient_zero i.x.negative i.y.negative i.x.pattern i.y.pattern c.if-y-eq0.true)

pub returns-else-y-eq0 : goal.returns-else-y-eq0
returns-else-y-eq0 c =
    let i = c.in-Finite-Finite in
    rw (i.is-0, i.is-1) (c.finite_quotient.ensures ∙ quotient_some i.x.negative i.y.negative i.x.pattern i.y.pattern c.if-y-eq0.false)

pub returns-in-Finite-Infinite : goal.returns-in-Finite-Infinite
returns-in-Finite-Infinite c =
    let i = c.in-Finite-Infinite in
    rw (i.is-0, i.is-1) (c.signed.ensures ∙ quotient_endless i.x.negative i.t (steps 11 i.x.pattern))

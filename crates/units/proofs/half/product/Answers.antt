use Rattle.units.proofs.half.product.Goals as goal
use Rattle.std.proofs.Common.{◌∙◌}
use Rattle.units.proofs.Halves.{product_left, product_right}

pub returns-in-Finite-Infinite : goal.returns-in-Finite-Infinite
returns-in-Finite-Infinite c = rw (c.in-Finite-Infinite.is-0, c.in-Finite-Infinite.is-1) (c.endless_unless_zero.ensures ∙ product_left c.in-Finite-Infinite.x.negative c.in-Finite-Infinite.t c.in-Finite-Infinite.x.pattern)

pub returns-in-Infinite-Finite : goal.returns-in-Infinite-Finite
returns-in-Infinite-Finite c =
    rw (c.in-Infinite-Finite.is-0, c.in-Infinite-Finite.is-1)
    (c.endless_unless_zero-in-Infinite-Finite.ensures ∙ product_right c.in-Infinite-Finite.s c.in-Infinite-Finite.y.negative c.in-Infinite-Finite.y.pattern)

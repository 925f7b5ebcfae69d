use Rattle.units.proofs.half.finite_product.Goals as goal
use Rattle.units.proofs.half.finite_product.Goals.{then-exponent-lt24, else-exponent-lt24}
use Rattle.std.proofs.Common.{◌≡◌, ◌*◌, ◌^◌, ap, ◌∙◌, arith}
use Rattle.ieee.specs.Formats.{signed, steps}
use Rattle.ieee.specs.Rounding.{round}
use Rattle.units.proofs.Halves.{exponent_half, product_whole, product_below, product_above}

pub rounded-pattern-requires-else-exponent-lt24 : goal.rounded-pattern-requires-else-exponent-lt24
rounded-pattern-requires-else-exponent-lt24 c =
    let a = c.parts_of-a.ensures in
    let b = c.parts_of-b.ensures in
    let x = exponent_half c.args.x.pattern _ _ c.args.x.below a.parts a.leading in
    let y = exponent_half c.args.y.pattern _ _ c.args.y.below b.parts b.leading in
    (omega arith, ((product_whole _ _ _ _ a.digits b.digits x y c.if-exponent-lt24.false).1, omega arith, omega arith))

pub returns : goal.returns
returns c =
    let a = c.parts_of-a.ensures in
    let b = c.parts_of-b.ensures in
    let x = exponent_half c.args.x.pattern _ _ c.args.x.below a.parts a.leading in
    let y = exponent_half c.args.y.pattern _ _ c.args.y.below b.parts b.leading in
    let r : c.if-exponent-lt24.pattern ≡ round 11 15 (steps 11 c.args.x.pattern * steps 11 c.args.y.pattern) (2 ^ 24) =
    elim c.if-exponent-lt24.branch [
      | then-exponent-lt24 w ↦ product_below _ _ _ _ _ _ _ a.value b.value w.if-exponent-lt24.true (w.pattern-is ∙ w.rounded-pattern.ensures.value)
      | else-exponent-lt24 w ↦ product_above _ _ _ _ _ _ _ _ a.value b.value w.if-exponent-lt24.false (product_whole _ _ _ _ a.digits b.digits x y w.if-exponent-lt24.false).0 (w.pattern-is ∙ w.rounded-pattern-else-exponent-lt24.ensures.value)
    ] in
    c.signed.ensures ∙ ap (signed 11 15 _) r

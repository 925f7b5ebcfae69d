use Rattle.units.proofs.half.finite_quotient.Goals as goal
use Rattle.units.proofs.half.finite_quotient.Goals.{then-b-a, else-b-a}
use Rattle.std.proofs.Common.{◌≡◌, ℕ, ◌*◌, ◌%◌, ◌^◌, ◌<◌, ap, ◌∙◌, arith}
use Rattle.ieee.specs.Formats.{signed, steps}
use Rattle.ieee.specs.Rounding.{round}
use Rattle.ieee.proofs.Steps.{steps_less}
use Rattle.units.proofs.Halves.{quotient_over, quotient_by}

pub returns : goal.returns
returns c =
    let b : 0 < c.count-b.result = omega (arith, steps_less 11 0 c.args.y.pattern (omega arith) c.requires, c.count-b.ensures.value) in
    let w : c.count-a.result * 2 ^ 24 % 2 ^ 64 ≡ c.count-a.result * 2 ^ 24 = omega (arith, c.count-a.ensures.bound) in
    let r : c.if-b-a.pattern ≡ round 11 15 (c.count-a.result * 2 ^ 24 % 2 ^ 64) c.count-b.result =
    elim c.if-b-a.branch [
      | then-b-a v ↦ quotient_over _ _ _ b (omega arith) (v.pattern-is ∙ v.infinity-pattern.ensures)
      | else-b-a v ↦ quotient_by _ _ _ _ b v.quarters.ensures.value (v.pattern-is ∙ v.rounded-pattern.ensures.value)
    ] in
    let e : c.if-b-a.pattern ≡ round 11 15 (steps 11 c.args.x.pattern * 2 ^ 24) (steps 11 c.args.y.pattern) = rw (← c.count-a.ensures.value, ← c.count-b.ensures.value) (r ∙ ap (λ (x : ℕ). round 11 15 x c.count-b.result) w) in
    c.signed.ensures ∙ ap (signed 11 15 _) e

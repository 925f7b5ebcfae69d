use Rattle.units.proofs.single.number.Goals as goal
use Rattle.std.proofs.Common.{◌∙◌, arith}
use Rattle.units.proofs.Scaling.{shifted, single_is, single_zero}

pub returns-then-x-eq0 : goal.returns-then-x-eq0
returns-then-x-eq0 c = single_zero c.args.v _ c.ranges.v c.unsigned_abs-x.ensures.value c.if-x-eq0.true

pub significand-digits-requires : goal.significand-digits-requires
significand-digits-requires c = let s = shifted c.unsigned_abs-x.result c.if-x-eq0.false (omega arith) in (s.few, s.most)

pub returns : goal.returns
returns c =
    let s = shifted c.unsigned_abs-x.result c.if-x-eq0.false (omega arith) in
    c.signed.ensures
    ∙ rw (c.hidden.ensures, c.significand-digits.ensures.value) (single_is c.args.v c.unsigned_abs-x.result c.ranges.v c.unsigned_abs-x.ensures.value s)

use Rattle.units.proofs.half.number.Goals as goal
use Rattle.std.proofs.Common.{◌≡◌, ◌*◌, ◌%◌, ◌^◌, ◌∙◌, arith}
use lib.Count.{count_leading_zeros}
use lib.Ieee.Nearest.{closest}
use Rattle.units.proofs.Scaling.{shifted, half_is, half_zero}

pub returns-then-x-eq0 : goal.returns-then-x-eq0
returns-then-x-eq0 c = half_zero c.args.v _ c.ranges.v c.unsigned_abs-x.ensures.value c.if-x-eq0.true

pub significand-digits-requires : goal.significand-digits-requires
significand-digits-requires c = let s = shifted c.unsigned_abs-x.result c.if-x-eq0.false (omega arith) in (s.few, s.most)

pub returns : goal.returns
returns c =
    let x = c.unsigned_abs-x.result in
    let s = shifted x c.if-x-eq0.false (omega arith) in
    let k : c.significand-digits.result * 2 ^ 17 % 2 ^ 64 ≡ closest (x * 2 ^ count_leading_zeros 32 x) (2 ^ 8) * 2 ^ 17 = omega (arith, c.significand-digits.ensures.value, c.significand-digits.ensures.bound) in
    c.signed.ensures ∙ rw (c.rounded.ensures.value, k) (half_is c.args.v x c.ranges.v c.unsigned_abs-x.ensures.value s)

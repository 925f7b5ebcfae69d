use Rattle.std.proofs.Common.{◌+◌, ap, arith}
use Rattle.program.proofs.Limits.{upto_more, upto_all}
use Rattle.program.proofs.limit.slot_limit.Goals as goal

pub loop-address-preserved : goal.loop-address-preserved
loop-address-preserved c = upto_more c.args.words.now _ c.loop-address.address _ _ c.loop-address.body _ (omega arith) c.loop-address.invariant c.next-body.ensures (ap (λ w. c.loop-address.limit + w) c.weight-limit.ensures)

pub returns : goal.returns
returns c =
    let (l, h) = upto_all c.args.words.now c.loop-address.address c.loop-address.limit c.loop-address.body c.requires c.loop-address-test.false c.loop-address.invariant in record { limit = l; most = h }

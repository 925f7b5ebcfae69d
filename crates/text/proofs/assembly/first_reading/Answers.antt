use Rattle.std.proofs.Common.{◌+◌, ap}
use Rattle.text.proofs.Cuts.{took}
use Rattle.text.proofs.FirstPass.{begins, within, goes_on_lem}
use Rattle.text.proofs.assembly.first_reading.Goals as goal

pub loop-line-init : goal.loop-line-init
loop-line-init c =
    let lines = c.of-line-items.ensures in
    let same = c.into_iter-line-iterator.ensures.into_iter_gives in
    rw same (lines.text, rw (lines.at, lines.count) (begins c.args.text.now c.args.words c.args.labels.now))

pub invariant_of-table-clause-within : goal.invariant_of-table-clause-within
invariant_of-table-clause-within c = within c.loop-line.invariant.1

pub loop-line-preserved : goal.loop-line-preserved
loop-line-preserved c =
    let t = took c.loop-line.invariant.0 c.in-Some.ensures.steps in
    let spaces = c.run_len.ensures.value in
    (t.same, rw c.after-counts.ensures (goes_on_lem c.loop-line.invariant.1 c.in-Some.line c.in_ok-said.said (c.in-Some.line.place + c.run_len.result) _ t.is c.in_ok-said.ensures (ap (λ m. c.in-Some.line.place + m) spaces) c.enter.ensures _ _ t.at_is t.count_is))

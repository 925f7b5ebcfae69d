use Rattle.std.proofs.Common.{◌≡◌}
use Rattle.text.proofs.FirstPass.{Sofar}
use Rattle.text.proofs.assembly.first_reading.Given as goal

abbrev pub invariant-loop-line : goal.invariant-loop-line
invariant-loop-line l =
    let left = l.line-iterator in
    (left.text.now ≡ l.text) × Sofar l.text l.words l.initial.labels left.at left.count l.counts l.labels

use Rattle.std.proofs.Common.{arith}
use Rattle.text.proofs.Cuts.{enters}
use Rattle.text.proofs.assembly.enter.Goals as goal

pub returns-in-Some : goal.returns-in-Some
returns-in-Some c =
    let room = rw c.in-Some.is at c.requires in
    rw c.in-Some.is (enters c.args.labels.now c.args.counts.labels _ (omega arith))

use Rattle.std.proofs.Common.{◌≡◌, ◌+◌, ◌-◌, ◌≤◌, length}
use Rattle.text.proofs.SecondPass.{Skips}
use Rattle.text.proofs.words.WordsIterator.next.Given as goal

abbrev pub invariant-loop-line : goal.invariant-loop-line
invariant-loop-line l =
    let first = l.initial.self.lines in
    let left = l.self.lines in
    record { table : l.self.table ≡ l.initial.self.table; on : first.at ≤ left.at; skips : Skips l.initial.self.table.text.now first.at first.count left.at left.count }

abbrev pub decreases-loop-line : goal.decreases-loop-line
decreases-loop-line l = length l.self.lines.text.now + 1 - l.self.lines.at

use Rattle.std.proofs.Common.{◌≡◌, ℕ, length}
use Rattle.std.specs.Iterator.Adapters.{enumerate_source, enumerate_count}
use Rattle.text.specs.Outcome.{State, Whole}
use Rattle.text.proofs.SecondPass.{Written}
use Rattle.text.proofs.assembly.put_words.Given as goal

abbrev pub invariant-loop-at : goal.invariant-loop-at
invariant-loop-at l =
    let left = enumerate_source l.at-iterator in
    let old = l.initial.words in
    (left.table ≡ l.table) × ((s : State) (L : ℕ) → Whole l.table.text.now (length old) L s → l.table.labels.now ≡ s.defs → Written l.table.text.now L s left.lines.at left.lines.count (enumerate_count l.at-iterator) old l.words)

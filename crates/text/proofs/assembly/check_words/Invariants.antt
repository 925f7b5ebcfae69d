use Rattle.std.proofs.Common.{◌≡◌, ℕ}
use Rattle.text.specs.Outcome.{State, Whole}
use Rattle.text.proofs.SecondPass.{Upto}
use Rattle.text.proofs.assembly.check_words.Given as goal

abbrev pub invariant-loop-word : goal.invariant-loop-word
invariant-loop-word l =
    let left = l.word-iterator in
    (left.table ≡ l.table) × ((s : State) (W L : ℕ) → Whole l.table.text.now W L s → l.table.labels.now ≡ s.defs → Upto l.table.text.now W L s left.lines.at left.lines.count)

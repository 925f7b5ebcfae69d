use Rattle.std.proofs.Common.{ℕ, ◌<◌}
use Rattle.program.specs.Scans.{Breaks}
use Rattle.program.proofs.rules.keeps.Given as goal

abbrev pub invariant-loop-address : goal.invariant-loop-address
invariant-loop-address g l = (k : ℕ) → k < l.address → Breaks g.rule l.words k → ⊥

use Rattle.program.specs.Scans.{SetxIn}
use Rattle.program.proofs.Scans.{LoopIn}
use Rattle.program.proofs.place.Place.feeder.Given as goal

abbrev pub invariant-loop-address : goal.invariant-loop-address
invariant-loop-address l = (SetxIn l.self.words.now l.address l.self.address → ⊥) × (LoopIn l.self.words.now l.address l.self.address → ⊥)

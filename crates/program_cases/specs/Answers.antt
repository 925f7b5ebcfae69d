-- The answer to a program, with a refusal in place of a fault.
use Rattle.std.specs.Prelude.{◌≡◌, ℕ, List, Ok, Err, Result}
use Rattle.listing.specs.declared.Refusal.{Refusal}
use Rattle.program.specs.declared.fault.Fault.{Fault}
use Rattle.program.specs.Faults.{refusal_of}
use Rattle.program.specs.Outcome.{Checked}

abbrev pub Answered : List ℕ → Result ℕ Refusal → Type 0
Answered words (Ok limit) = Checked words (Ok limit)
Answered words (Err refusal) = (fault : Fault) × Checked words (Err fault) × (refusal ≡ refusal_of fault)

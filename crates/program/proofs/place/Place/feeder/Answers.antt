use Rattle.std.proofs.Common.{sym, ◌∙◌}
use Rattle.program.proofs.Facts.{count_most}
use Rattle.program.proofs.place.Place.feeder.Goals as goal

pub invariant_of-result : goal.invariant_of-result
invariant_of-result c = record { narrow = count_most _ _ (sym c.instruction.ensures ∙ rw c.in-Some-Setx.field-0-is at c.in-Some-Setx.is) }

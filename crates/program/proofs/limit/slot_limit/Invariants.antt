use Rattle.program.proofs.Limits.{Upto}
use Rattle.program.proofs.limit.slot_limit.Given as goal

abbrev pub invariant-loop-address : goal.invariant-loop-address
invariant-loop-address l = Upto l.words l.address l.limit l.body

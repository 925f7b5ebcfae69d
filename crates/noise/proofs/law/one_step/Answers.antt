-- A step is fixed bit by bit.
use Rattle.noise.proofs.Steps.{one_step_lem}
use Rattle.noise.proofs.law.one_step.Goals as goal

pub returns : goal.returns
returns c = one_step_lem

-- Both steps compute.
use Rattle.std.proofs.Common.{refl}
use Rattle.noise.specs.Noise.{tapped, stepped}
use Rattle.noise.proofs.law.worked_steps.Goals as goal

pub returns : goal.returns
unfolding tapped stepped
returns c = (refl, refl)

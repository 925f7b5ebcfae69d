-- Only the lowest lane holds a bit.
use Rattle.std.proofs.Common.{refl}
use Rattle.noise.specs.Noise.{number_of}
use Rattle.noise.proofs.register.Noise.new.Goals as goal

pub returns : goal.returns
unfolding number_of
returns c = refl

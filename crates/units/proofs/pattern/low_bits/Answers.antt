use Rattle.units.proofs.pattern.low_bits.Goals as goal
use Rattle.std.proofs.lemmas.Nat.{and_mask}

pub returns : goal.returns
returns c = rw c.power.ensures (and_mask c.args.m c.args.k)

use Rattle.units.proofs.pattern.Format.decode.Goals as goal
use Rattle.std.proofs.Common.{arith}
use Rattle.units.proofs.Decoded.{finite_word, infinite_word, other_word}

pub returns-then-pattern-infinity : goal.returns-then-pattern-infinity
returns-then-pattern-infinity g c = finite_word _ _ _ _ _ c.abs-pattern.ensures c.negative-negative.ensures (omega arith)

pub returns-then-pattern-infinity-2 : goal.returns-then-pattern-infinity-2
returns-then-pattern-infinity-2 g c = infinite_word _ _ _ _ _ c.abs-pattern.ensures c.negative-negative.ensures (omega arith)

pub returns-else-pattern-infinity-2 : goal.returns-else-pattern-infinity-2
returns-else-pattern-infinity-2 g c = other_word _ _ _ _ _ c.abs-pattern.ensures c.negative-negative.ensures (omega arith)

-- The numbers before the lane are their colours.
use Rattle.std.proofs.Common.{◌≡◌, ℕ, ◌<◌, length, get_or}
use Rattle.sinks.specs.Pictures.{colour_of}
use Rattle.sinks.proofs.plain.U16Layout16.write.Given as goal

abbrev pub invariant-loop-lane : goal.invariant-loop-lane
invariant-loop-lane l = (length l.block ≡ 16) × ((k : ℕ) → k < l.lane → get_or l.block k 0 ≡ colour_of (get_or l.colours k 0))

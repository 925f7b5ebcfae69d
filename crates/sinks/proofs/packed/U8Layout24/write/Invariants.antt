-- The bytes of the pairs before the index are written.
use Rattle.std.proofs.Common.{◌≡◌, ℕ, ◌*◌, ◌<◌, length, get_or}
use Rattle.sinks.specs.Memories.{packed_byte}
use Rattle.sinks.proofs.packed.U8Layout24.write.Given as goal

abbrev pub invariant-loop-pair : goal.invariant-loop-pair
invariant-loop-pair l = record { long : length l.block ≡ 24; written : (k : ℕ) → k < 3 * l.pair → get_or l.block k 0 ≡ packed_byte l.colours k }

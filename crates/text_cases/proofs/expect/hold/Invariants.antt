-- The places before the index hold what they must.
use Rattle.std.proofs.Common.{ℕ, ◌<◌, ◌≤◌, length, get_or}
use Rattle.text_cases.specs.Places.{IsAt}
use Rattle.text_cases.proofs.expect.hold.Given as goal

abbrev pub invariant-loop-i : goal.invariant-loop-i
invariant-loop-i g l = (length l.front ≤ length l.places) × ((k : ℕ) → k < l.i → IsAt g.T.Held.OLD l.front k (get_or l.places k g.T.Held.OLD))

-- The slot limit: a sum over addresses, COUNT + 1 in the body of a loop that a setx COUNT feeds, and 1 elsewhere.
use Rattle.std.specs.Prelude.{◌≡◌, ℕ, ◌+◌, ◌<◌, ◌≤◌, ◌⊎◌, List, length, sum, slice_index}
use Rattle.program.specs.Rules.{Looped}

-- the address a stands in the body of a loop that is fed n
pub record InBody (words : List ℕ) (a n : ℕ) : Type 0 where
  pub setx : ℕ
  pub target : ℕ
  pub loop : ℕ
  pub looped : Looped words setx n target loop
  pub from : target ≤ a
  pub upto : a ≤ loop

abbrev pub Weight : List ℕ → ℕ → ℕ → Type 0
Weight words a w = ((n : ℕ) × InBody words a n × (w ≡ n + 1)) ⊎ (((n : ℕ) → InBody words a n → ⊥) × (w ≡ 1))

-- the weights are those of the addresses, one for each
pub record Limit (words : List ℕ) (limit : ℕ) : Type 0 where
  pub weights : List ℕ
  pub each : length weights ≡ length words
  pub right : (a : ℕ) → a < length words → Weight words a (slice_index weights a)
  pub total : limit ≡ sum weights

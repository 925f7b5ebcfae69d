-- The body of the next loop at or above an address, and the weight that it gives to the address.
use Rattle.std.specs.Prelude.{ℕ, ◌+◌, ◌<◌, ◌≤◌, cond, List, Some, None, Option, nat_le}
use Rattle.program.specs.declared.limit.Body.{Body}
use Rattle.program.specs.declared.word.Instruction.TheVariants.{Loop}
use Rattle.program.specs.Rules.{At, Looped}

-- the loop of a body is the lowest at or above a
pub record NextBody (words : List ℕ) (a : ℕ) (body : Body) : Type 0 where
  pub setx : ℕ
  pub loop : ℕ
  pub looped : Looped words setx body.count body.target loop
  pub above : a ≤ loop
  pub lowest : (k t : ℕ) → a ≤ k → k < loop → At words k (Loop t) → ⊥

abbrev pub Next : List ℕ → ℕ → Option Body → Type 0
Next words a None = (k t : ℕ) → a ≤ k → At words k (Loop t) → ⊥
Next words a (Some body) = NextBody words a body

abbrev pub weight_of : Option Body → ℕ → ℕ
weight_of None a = 1
weight_of (Some body) a = cond (nat_le body.target a) (body.count + 1) 1

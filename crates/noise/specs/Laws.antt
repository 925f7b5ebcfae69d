-- What holds of every step, and two steps worked out.
use Rattle.std.specs.Prelude.{◌≡◌, ℕ, ◌+◌, ◌^◌}
use Rattle.noise.specs.Noise.{stepped, Stepped}

-- only one number satisfies the law of a step
abbrev pub OneStep : Type 0
OneStep = (n a b : ℕ) → Stepped n a → Stepped n b → a ≡ b

abbrev pub WorkedSteps : Type 0
WorkedSteps = (stepped (2 ^ 136) ≡ 2 ^ 137 + 1) × (stepped (2 ^ 143) ≡ 1)

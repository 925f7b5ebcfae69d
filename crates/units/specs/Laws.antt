-- What a unit's answers are beyond their rules.
use Rattle.std.specs.Prelude.{ℕ, ℤ}
use Rattle.ieee.specs.Formats.{decode}
use Rattle.ieee.specs.Operations.{scaled, converted}
use Rattle.ieee.specs.Laws.{Right}

-- v / 65536 is rounded to single, and what that stands for to half
pub record Twice (v : ℤ) (r : ℕ) : Type 0 where
  pub wide : ℕ
  pub first : Right 24 127 (scaled 149 v) wide
  pub second : Right 11 15 (converted 149 24 (decode 24 127 wide)) r

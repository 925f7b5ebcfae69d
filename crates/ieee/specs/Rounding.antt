-- Rounding to a format, and the words of exact results.
use Rattle.std.specs.Prelude.{ℕ, ◌+◌, ◌-◌, ◌*◌, ◌/◌, ◌^◌, min, Bool}
use Rattle.std.specs.Float.Ieee.{size}
use Rattle.std.specs.Float.Ieee.Nearest.{closest}
use Rattle.std.specs.Float.Ieee.{root_twice}
use Rattle.ieee.specs.Formats.{hidden, infinity, quiet, signed}

-- The pattern nearest to n / d smallest values, as if there were no greatest exponent. Of the whole part the format keeps p digits and
-- drops the others; a carry goes into the exponent's field by itself.
unfoldable pub near : ℕ → ℕ → ℕ → ℕ
unfolding size
near p n d = (size (n / d) - p) * hidden p + closest n (d * 2 ^ (size (n / d) - p))

unfoldable pub round : ℕ → ℕ → ℕ → ℕ → ℕ
unfolding near
round p e n d = min (near p n d) (infinity p e)

-- the pattern nearest to √n smallest values: the odd number between stands for a root that is not whole
unfoldable pub round_root : ℕ → ℕ → ℕ → ℕ
unfolding round root_twice
round_root p e n = round p e (root_twice (4 * n)) 4

-- The exact result of an operation: none, an infinity, n / d smallest values, or √n smallest values.
pub data Exact : Type 0 where
  none : Exact
  endless : Bool → Exact
  fraction : Bool → ℕ → ℕ → Exact
  root : ℕ → Exact

abbrev pub word : ℕ → ℕ → Exact → ℕ
word p e none = quiet p e
word p e (endless s) = signed p e s (infinity p e)
word p e (fraction s n d) = signed p e s (round p e n d)
word p e (root n) = round_root p e n

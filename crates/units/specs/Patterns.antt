-- What the clauses on patterns cite.
use Rattle.std.specs.Prelude.{◌≡◌, ℕ, ◌+◌, ◌-◌, ◌*◌, ◌/◌, ◌^◌, ◌<◌, ◌≤◌, Bool, cond, ◌==◌, nat_le, nat_lt}
use Rattle.ieee.specs.Formats.{not_number, infinite, finite, steps, low}
use Rattle.ieee.specs.Rounding.{round, round_root}
use Rattle.ieee.specs.Formats as Formats
use Rattle.units.specs.declared.pattern.Value.{Value}
use Rattle.units.specs.declared.pattern.Value.TheVariants.{NotNumber, Infinite, Finite}

-- what a value of the format (p, e) is
abbrev pub meaning : (p e : ℕ) → Value p e → Formats.Value
meaning p e NotNumber = not_number
meaning p e (Infinite s) = infinite s
meaning p e (Finite x) = finite x.negative (steps p x.pattern)

-- the pattern of the whole number below a pattern's magnitude, or where `up` of the one above
abbrev pub whole_pattern : ℕ → ℕ → Bool → ℕ → ℕ
whole_pattern p e up m =
    round p e (cond up ((steps p m + 2 ^ low p e - 1) / 2 ^ low p e) (steps p m / 2 ^ low p e) * 2 ^ low p e) 1

-- r is the whole root of n, or one more where more than that is left
pub record NearRoot (n r : ℕ) : Type 0 where
  pub whole : ℕ
  pub low : whole * whole ≤ n
  pub high : n < (whole + 1) * (whole + 1)
  pub value : r ≡ cond (nat_lt whole (n - whole * whole)) (whole + 1) whole

abbrev pub root_pattern : ℕ → ℕ → ℕ → ℕ
root_pattern p e m = round_root p e (steps p m * 2 ^ low p e)

-- four times r / d, cut to a whole number; what is cut off makes it odd
abbrev pub quarters_below : ℕ → ℕ → ℕ
quarters_below r d = cond (nat_le d (2 * r)) 2 0 + cond (r == 0) 0 (cond (2 * r == d) 0 1)

use Rattle.unit_cases.proofs.worked_words.Goals as goal
use Rattle.std.proofs.Common.{refl}
use lib.Ieee.{root_twice, root_below}
use Rattle.ieee.specs.Formats.{steps, decode}
use Rattle.ieee.specs.Rounding.{near, round, round_root}
use Rattle.unit_cases.specs.Worked.{HalfWords, SingleWords}

halves : HalfWords
unfolding steps decode near round round_root root_twice root_below
halves = record {
  tie_to_even_below = refl;
  tie_to_even_above = refl;
  below_midpoint = refl;
  at_midpoint = refl;
  third = refl;
  root_of_two = refl;
  minus_half = refl;
  rounded_twice = refl;
  rounded_once = refl;
  smallest_setting = refl;
  overflow_at_65520 = refl;
  minus_zero = refl;
  upper_bits = refl;
  payload = refl;
}

singles : SingleWords
unfolding steps decode near round round_root root_twice root_below
singles = record {
  tie_to_even_below = refl;
  tie_to_even_above = refl;
  third = refl;
  root_of_two = refl;
  minus_half = refl;
  greatest_setting = refl;
  smallest_setting = refl;
}

pub returns : goal.returns
returns c = record { halves = halves; singles = singles }

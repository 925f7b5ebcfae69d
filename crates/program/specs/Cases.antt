-- Three worked programs.
use Rattle.std.specs.Prelude.{ℕ, List, [], ◌∷◌, Ok, Err}
use Rattle.program.specs.declared.fault.Fault.TheVariants.{Feeding, IntoLoop}
use Rattle.program.specs.Outcome.{Checked}

-- setx 3; bltz $17, 3; loop 1; done
abbrev pub looping : List ℕ
looping = 0xE0003 ∷ 0xD0883 ∷ 0xF0001 ∷ 0xA0000 ∷ []

-- setx 3; bltz $17, 2; loop 1; done
abbrev pub entering : List ℕ
entering = 0xE0003 ∷ 0xD0882 ∷ 0xF0001 ∷ 0xA0000 ∷ []

-- setx 3; loop 0; done
abbrev pub outreaching : List ℕ
outreaching = 0xE0003 ∷ 0xF0000 ∷ 0xA0000 ∷ []

pub record WorkedPrograms : Type 0 where
  pub slots : Checked looping (Ok 10)
  pub into_body : Checked entering (Err (IntoLoop 1))
  pub over_setx : Checked outreaching (Err (Feeding 1))

-- What the check of a program answers: its slot limit, or the first rule that it breaks, at the lowest address.
use Rattle.std.specs.Prelude.{◌≡◌, ℕ, ◌<◌, ◌≤◌, List, Some, None, Ok, Err, Option, Result}
use Rattle.program.specs.declared.fault.Fault.{Fault}
use Rattle.program.specs.declared.fault.Fault.TheVariants.{Length, Word, Ending, Target, SetxSkipped, Feeding, IntoLoop}
use Rattle.program.specs.Rules.{WrongLength, WrongWord, WrongEnding, WrongTarget, SkipsSetx, WrongLoop, EntersLoop, Accepted}
use Rattle.program.specs.Limits.{Limit}

-- nothing breaks the rule
abbrev pub Kept : (ℕ → Type 0) → Type 0
Kept Breaks = (a : ℕ) → Breaks a → ⊥

-- a is the lowest address that breaks the rule
pub record Lowest (Breaks : ℕ → Type 0) (a : ℕ) : Type 0 where
  pub here : Breaks a
  pub below : (k : ℕ) → k < a → Breaks k → ⊥

-- the lowest address that breaks a rule, or none
abbrev pub Found : (ℕ → Type 0) → Option ℕ → Type 0
Found Breaks None = Kept Breaks
Found Breaks (Some a) = Lowest Breaks a

-- the rules before it are kept, and this one is broken there
abbrev pub Broken : List ℕ → Fault → Type 0
Broken words Length = WrongLength words
Broken words (Word a) = (WrongLength words → ⊥) × Lowest (WrongWord words) a
Broken words (Ending a) = (WrongLength words → ⊥) × Kept (WrongWord words) × Lowest (WrongEnding words) a
Broken words (Target a) = (WrongLength words → ⊥) × Kept (WrongWord words) × Kept (WrongEnding words) × Lowest (WrongTarget words) a
Broken words (SetxSkipped a) =
    (WrongLength words → ⊥) × Kept (WrongWord words) × Kept (WrongEnding words) × Kept (WrongTarget words) × Lowest (SkipsSetx words) a
Broken words (Feeding a) =
    (WrongLength words → ⊥) × Kept (WrongWord words) × Kept (WrongEnding words) × Kept (WrongTarget words) × Kept (SkipsSetx words) × Lowest (WrongLoop words) a
Broken words (IntoLoop a) =
    (WrongLength words → ⊥) × Kept (WrongWord words) × Kept (WrongEnding words) × Kept (WrongTarget words) × Kept (SkipsSetx words) × Kept (WrongLoop words) × Lowest (EntersLoop words) a

abbrev pub Checked : List ℕ → Result ℕ Fault → Type 0
Checked words (Ok limit) = Accepted words × Limit words limit × (limit ≤ 134086658)
Checked words (Err fault) = Broken words fault

-- a program has one outcome only
abbrev pub OneOutcome : List ℕ → Type 0
OneOutcome words = (r s : Result ℕ Fault) → Checked words r → Checked words s → r ≡ s

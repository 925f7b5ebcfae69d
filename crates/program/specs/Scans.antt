-- What a look at one address, and a scan of several, answer.
use Rattle.std.specs.Prelude.{ℕ, ◌<◌, ◌≤◌, List, Some, None, Option}
use Rattle.program.specs.declared.place.Setx as setx
use Rattle.program.specs.declared.word.Instruction.TheVariants.{Setx, Loop}
use Rattle.program.specs.Rules.{At, Feeds, WrongWord, WrongEnding, WrongTarget, SkipsSetx, WrongLoop, EntersLoop}

-- a setx stands from one address up to another
pub record SetxIn (words : List ℕ) (low high : ℕ) : Type 0 where
  pub address : ℕ
  pub count : ℕ
  pub setx : At words address (Setx count)
  pub from : low ≤ address
  pub upto : address < high

-- a loop from one address up to another goes back below the first
pub record LoopOver (words : List ℕ) (low high : ℕ) : Type 0 where
  pub address : ℕ
  pub start : ℕ
  pub loop : At words address (Loop start)
  pub above : start < low
  pub from : low ≤ address
  pub upto : address < high

-- the setx at s, of count n, is the nearest before l, and no loop stands between
pub record Own (words : List ℕ) (l s n : ℕ) : Type 0 where
  pub fed : Feeds words s n l
  pub alone : (k u : ℕ) → s < k → k < l → At words k (Loop u) → ⊥

-- the setx of an address, or none
abbrev pub Feeder : List ℕ → ℕ → Option setx.Setx → Type 0
Feeder words l None = (s n : ℕ) → Own words l s n → ⊥
Feeder words l (Some p) = Own words l p.address p.count

-- the rules that an address can break
pub data Rule : Type 0 where
  Word : Rule
  Ending : Rule
  Target : Rule
  SetxSkipped : Rule
  Feeding : Rule
  IntoLoop : Rule

-- what breaks a rule at an address
abbrev pub Breaks : Rule → List ℕ → ℕ → Type 0
Breaks Word = WrongWord
Breaks Ending = WrongEnding
Breaks Target = WrongTarget
Breaks SetxSkipped = SkipsSetx
Breaks Feeding = WrongLoop
Breaks IntoLoop = EntersLoop

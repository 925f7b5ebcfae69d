-- The lines of a text, as the code takes them.
use Rattle.std.specs.Prelude.{◌≡◌, ℕ, ◌+◌, ◌<◌, ◌≤◌, List, length, Option, MatchOption}
use Rattle.text.specs.declared.lines.TextLine.{TextLine}
use Rattle.text.specs.Outcome.{LineAt}

-- the line of this number, at its place in the text
pub record IsLine (text : List ℕ) (at number : ℕ) (line : TextLine) : Type 0 where
  pub inside : at ≤ length text
  pub number_is : line.number ≡ number
  pub place_is : line.place ≡ at
  pub there : LineAt text at line.bytes.now

-- the next line, behind so many, and where the one after it begins; none behind the last
abbrev pub NextLine : List ℕ → ℕ → ℕ → Option TextLine → List ℕ → ℕ → ℕ → Type 0
NextLine text at count r text' at' count' =
    (text' ≡ text) × MatchOption r (length text < at) (λ line. IsLine text at (count + 1) line × (at' ≡ at + length line.bytes.now + 1) × (count' ≡ count + 1))

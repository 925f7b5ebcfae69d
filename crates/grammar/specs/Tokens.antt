-- Tokens, and how the bytes of a line spell them.
use Rattle.std.specs.Prelude.{◌≡◌, ℕ, ◌<◌, ◌≤◌, true, false, List, [], ◌∷◌, ◌++◌, length, Some, None, Option, MatchOption, slice_index}
use Rattle.std.specs.List.{AllByRecursion}
use Rattle.grammar.specs.declared.token.Class.{Class}
use Rattle.grammar.specs.Bytes.{class_of, goes_on}
use Rattle.grammar.specs.declared.token.Class.TheVariants as class
use Rattle.grammar.specs.declared.token.Run.{Run}
use Rattle.grammar.specs.declared.token.Run.TheVariants.{Spaces, Name, Digits}
use Rattle.grammar.specs.declared.token.Rest.{Rest}
use Rattle.grammar.specs.declared.token.Token.{Token}
use Rattle.grammar.specs.declared.token.Token.TheVariants as token

-- a token by what it says; a register has its dollar sign
pub data Tok : Type 0 where
  name : List ℕ → Tok
  number : List ℕ → Tok
  register : List ℕ → Tok
  comma : Tok
  colon : Tok

-- all bytes belong to the run
abbrev pub Runs : Run → List ℕ → Type 0
Runs run bs = AllByRecursion (λ b. goes_on run b ≡ true) bs

-- the bytes do not go on with the run
abbrev pub Stops : Run → List ℕ → Type 0
Stops run [] = Unit {0}
Stops run (b ∷ bs) = goes_on run b ≡ false

-- a name has 1 to 16 letters, digits or underscores, a letter first
pub record IsName (n : List ℕ) : Type 0 where
  pub some : 0 < length n
  pub short : length n ≤ 16
  pub first : class_of (slice_index n 0) ≡ class.Letter
  pub all : Runs Name n

-- the bytes of a token
abbrev pub Spells : List ℕ → Tok → Type 0
Spells w (name n) = (w ≡ n) × IsName n
Spells w (number n) = (w ≡ n) × (0 < length n) × Runs Digits n
Spells w (register n) = (w ≡ n) × ((ds : List ℕ) × (n ≡ 36 ∷ ds) × Runs Digits ds)
Spells w comma = w ≡ 44 ∷ []
Spells w colon = w ≡ 58 ∷ []

-- what follows a token does not go on with it
abbrev pub Parted : Tok → List ℕ → Type 0
Parted (name n) rest = Stops Name rest
Parted (number n) rest = Stops Digits rest
Parted (register n) rest = Stops Digits rest
Parted comma rest = Unit {0}
Parted colon rest = Unit {0}

-- the first token of the bytes, behind any spaces, and the bytes after it
pub record Next (bs : List ℕ) (t : Tok) (rest : List ℕ) : Type 0 where
  pub gap : List ℕ
  pub spelling : List ℕ
  pub whole : bs ≡ gap ++ (spelling ++ rest)
  pub spaces : Runs Spaces gap
  pub spells : Spells spelling t
  pub parted : Parted t rest

-- nothing, or a comment that begins with a semicolon
abbrev pub Silent : List ℕ → Type 0
Silent [] = Unit {0}
Silent (b ∷ bs) = b ≡ 59

-- no token: spaces and then the end of the line or a comment
pub record Ends (bs : List ℕ) : Type 0 where
  pub gap : List ℕ
  pub rest : List ℕ
  pub whole : bs ≡ gap ++ rest
  pub spaces : Runs Spaces gap
  pub silent : Silent rest

-- the bytes spell these tokens, one after the other
abbrev pub Spelled : List ℕ → List Tok → Type 0
Spelled bs [] = Ends bs
Spelled bs (t ∷ ts) = (rest : List ℕ) × Next bs t rest × Spelled rest ts

-- what a token of the reader says; none at the end of the line
abbrev pub seen : Token → Option Tok
seen (token.Name text line) = Some (name text.now)
seen (token.Number text line) = Some (number text.now)
seen (token.Register text line) = Some (register text.now)
seen (token.Comma line) = Some comma
seen (token.Colon line) = Some colon
seen (token.End line) = None

-- the line that a token is on
abbrev pub line_of : Token → ℕ
line_of (token.Name text line) = line
line_of (token.Number text line) = line
line_of (token.Register text line) = line
line_of (token.Comma line) = line
line_of (token.Colon line) = line
line_of (token.End line) = line

-- what the reader says of the front of the bytes
abbrev pub Lexes : List ℕ → Token → List ℕ → Type 0
Lexes bs t rest = MatchOption (seen t) (Ends bs) (λ u. Next bs u rest)

-- neither a token nor the end is at the front
pub record NoToken (bs : List ℕ) : Type 0 where
  pub none : (t : Tok) (rest : List ℕ) → Next bs t rest → ⊥
  pub goes : Ends bs → ⊥

-- the answer of the reader, of the front of the bytes
abbrev pub Fronts : List ℕ → Option (Token × Rest) → Type 0
Fronts bs r = MatchOption r (NoToken bs) (λ p. Lexes bs p.0 p.1.bytes.now)

-- the first byte is of this class
pub record Opens (c : Class) (bs : List ℕ) : Type 0 where
  pub some : 0 < length bs
  pub class : class_of (slice_index bs 0) ≡ c

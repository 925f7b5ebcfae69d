-- What becomes of a text: the words and labels of its lines, or a refusal.
use Rattle.std.specs.Prelude.{◌≡◌, ℕ, zero, suc, ◌+◌, ◌<◌, ◌≤◌, List, [], ◌∷◌, ◌++◌, map, length, take, drop, IfSome, Some, None, Ok, Err, Option, Result}
use Rattle.std.specs.List.{prefix_len, AllByRecursion}
use Rattle.text.specs.declared.fault.Fault.{Fault}
use Rattle.text.specs.declared.fault.Fault.TheVariants.{TooLong, Grammar, Twice, NoRoom, Unknown}
use Rattle.text.specs.declared.table.Counts.{Counts}
use Rattle.text.specs.declared.table.Label.{Label}
use Rattle.grammar.specs.declared.token.Run.TheVariants as run
use Rattle.grammar.specs.Bytes.{goes_on}
use Rattle.grammar.specs.Tokens.{Runs, Stops}
use Rattle.grammar.specs.Forms.{Ins}
use Rattle.grammar.specs.Lines.{Says}
use Rattle.text.specs.Table.{address_of, Resolved, word_in}

-- the line that begins at a place: it goes to the next byte 10 or to the end of the text
pub record LineAt (text : List ℕ) (at : ℕ) (bytes : List ℕ) : Type 0 where
  pub within : at + length bytes ≤ length text
  pub there : take (length bytes) (drop at text) ≡ bytes
  pub solid : Runs run.Line bytes
  pub ends : Stops run.Line (drop (at + length bytes) text)

-- an instruction with the number of its line
pub record Code : Type 0 where
  pub line : ℕ
  pub ins : Ins

-- what the lines so far left: the place of the next line, the labels and the instructions
pub record State : Type 0 where
  pub at : ℕ
  pub defs : List Label
  pub code : List Code

abbrev pub start : State
start = record { at = 0; defs = []; code = [] }

abbrev pub size : {X : Type 0} → Option X → ℕ
size None = 0
size (Some x) = 1

-- an entry of the table, if there is a label
abbrev pub labelled : ℕ → ℕ → Option (List ℕ) → List Label
labelled place address None = []
labelled place address (Some n) = record { place = place; length = length n; address = address } ∷ []

-- the label of a line, behind the spaces that begin it
abbrev pub defined : ℕ → List ℕ → ℕ → Option (List ℕ) → List Label
defined at bytes address label = labelled (at + prefix_len (goes_on run.Spaces) bytes) address label

abbrev pub coded : ℕ → Option Ins → List Code
coded line None = []
coded line (Some i) = record { line = line; ins = i } ∷ []

-- no earlier line defines the label
abbrev pub Fresh : List ℕ → List Label → Option (List ℕ) → Type 0
Fresh text defs label = IfSome label (λ n. address_of text defs n ≡ None)

-- behind so many words and labels there is a place for the line's word and for its label
abbrev pub Places : ℕ → ℕ → ℕ → ℕ → Option (List ℕ) → Option Ins → Type 0
Places W L words labels label code = (words + size code ≤ W) × (labels + size label ≤ L)

abbrev pub Room : ℕ → ℕ → State → Option (List ℕ) → Option Ins → Type 0
Room W L s label code = Places W L (length s.code) (length s.defs) label code

-- the line is outside the grammar
abbrev pub Foreign : List ℕ → Type 0
Foreign bytes = (label : Option (List ℕ)) (code : Option Ins) → Says bytes label code → ⊥

-- an earlier line defines its label
abbrev pub Repeats : List ℕ → List Label → List ℕ → Type 0
Repeats text defs bytes = (label : Option (List ℕ)) × ((code : Option Ins) × Says bytes label code × (Fresh text defs label → ⊥))

-- its label is new, and what it says does not fit
abbrev pub Crowded : List ℕ → List Label → (Option (List ℕ) → Option Ins → Type 0) → List ℕ → Type 0
Crowded text defs Fits bytes = (label : Option (List ℕ)) × ((code : Option Ins) × Says bytes label code × Fresh text defs label × (Fits label code → ⊥))

-- the state behind one more line
abbrev pub after : ℕ → State → List ℕ → Option (List ℕ) → Option Ins → State
after line s bytes label code = record {
  at = s.at + length bytes + 1;
  defs = s.defs ++ defined s.at bytes (length s.code) label;
  code = s.code ++ coded line code;
}

-- one good line, of this number, with W places for words and L for labels
pub record Step (text : List ℕ) (W L line : ℕ) (s next : State) : Type 0 where
  pub bytes : List ℕ
  pub label : Option (List ℕ)
  pub code : Option Ins
  pub there : LineAt text s.at bytes
  pub says : Says bytes label code
  pub fresh : Fresh text s.defs label
  pub room : Room W L s label code
  pub is : next ≡ after line s bytes label code

-- the first lines of a text, all good
pub data Lines (text : List ℕ) (W L : ℕ) : ℕ → State → Type 0 where
  none : Lines text W L zero start
  then : {n : ℕ} {s next : State} → Lines text W L n s → Step text W L (suc n) s next → Lines text W L (suc n) next

-- the labels of the state, and behind them what was there
abbrev pub entered : State → List Label → List Label
entered s labels = s.defs ++ drop (length s.defs) labels

-- the first line that is not good, its number and why; words stay, and labels behind those of the lines before
pub record Stopped (text words : List ℕ) (labels : List Label) (line : ℕ) (words' : List ℕ) (labels' : List Label) (Why : State → List ℕ → Type 0) : Type 0 where
  pub short : length text ≤ 65535
  pub before : ℕ
  pub state : State
  pub bytes : List ℕ
  pub number : line ≡ suc before
  pub lines : Lines text (length words) (length labels) before state
  pub there : LineAt text state.at bytes
  pub why : Why state bytes
  pub words_stay : words' ≡ words
  pub labels_are : labels' ≡ entered state labels

-- all lines are good
pub record Whole (text : List ℕ) (W L : ℕ) (s : State) : Type 0 where
  pub short : length text ≤ 65535
  pub count : ℕ
  pub lines : Lines text W L count s
  pub ended : s.at ≡ suc (length text)

-- an instruction whose label is known
abbrev pub Known : List ℕ → State → Code → Type 0
Known text s c = Resolved text s.defs c.ins

-- the first instruction whose label is not known is on this line
pub record FirstLost (text : List ℕ) (s : State) (line : ℕ) : Type 0 where
  pub front : List Code
  pub lost : Code
  pub back : List Code
  pub cut : s.code ≡ front ++ lost ∷ back
  pub known : AllByRecursion (Known text s) front
  pub unknown : Known text s lost → ⊥
  pub number : line ≡ lost.line

-- all lines are good, and this is the first that uses a label in vain
pub record Lost (text words : List ℕ) (labels : List Label) (line : ℕ) (words' : List ℕ) (labels' : List Label) : Type 0 where
  pub state : State
  pub whole : Whole text (length words) (length labels) state
  pub first : FirstLost text state line
  pub words_stay : words' ≡ words
  pub labels_are : labels' ≡ entered state labels

-- all lines are good and all labels are known: each instruction has its word
pub record Assembled (text words : List ℕ) (labels : List Label) (c : Counts) (words' : List ℕ) (labels' : List Label) : Type 0 where
  pub state : State
  pub whole : Whole text (length words) (length labels) state
  pub known : AllByRecursion (Known text state) state.code
  pub words_count : c.words ≡ length state.code
  pub labels_count : c.labels ≡ length state.defs
  pub words_are : words' ≡ map (λ i. word_in text state.defs i.ins) state.code ++ drop (length state.code) words
  pub labels_are : labels' ≡ entered state labels

-- the answer to a text, and both slices at the end
abbrev pub Outcome : List ℕ → List ℕ → List Label → Result Counts Fault → List ℕ → List Label → Type 0
Outcome text words labels (Ok c) words' labels' = Assembled text words labels c words' labels'
Outcome text words labels (Err TooLong) words' labels' = (65535 < length text) × (words' ≡ words) × (labels' ≡ labels)
Outcome text words labels (Err (Grammar line)) words' labels' = Stopped text words labels line words' labels' (λ s bytes. Foreign bytes)
Outcome text words labels (Err (Twice line)) words' labels' = Stopped text words labels line words' labels' (λ s bytes. Repeats text s.defs bytes)
Outcome text words labels (Err (NoRoom line)) words' labels' = Stopped text words labels line words' labels' (λ s bytes. Crowded text s.defs (Room (length words) (length labels) s) bytes)
Outcome text words labels (Err (Unknown line)) words' labels' = Lost text words labels line words' labels'

-- no text has two outcomes
abbrev pub OneOutcome : List ℕ → List ℕ → List Label → Type 0
OneOutcome text words labels =
    (r q : Result Counts Fault) (wr wq : List ℕ) (lr lq : List Label) → Outcome text words labels r wr lr → Outcome text words labels q wq lq → (r ≡ q) × (wr ≡ wq) × (lr ≡ lq)

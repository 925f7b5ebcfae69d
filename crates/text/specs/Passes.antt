-- What the two readings of a text promise each other.
use Rattle.std.specs.Prelude.{◌≡◌, ℕ, ◌+◌, ◌<◌, List, [], ◌∷◌, ◌++◌, map, length, drop, IfSome, Ok, Err, Option, Result, MatchOption}
use Rattle.std.specs.Option.{option_map}
use Rattle.std.specs.List.{AllByRecursion}
use Rattle.text.specs.declared.fault.Fault.{Fault}
use Rattle.text.specs.declared.fault.Fault.TheVariants.{TooLong, Grammar, Twice, NoRoom, Unknown}
use Rattle.grammar.specs.declared.instruction.Instruction.{Instruction}
use Rattle.grammar.specs.declared.line.Line.{Line}
use Rattle.text.specs.declared.table.Counts.{Counts}
use Rattle.text.specs.declared.table.Label.{Label}
use Rattle.grammar.specs.Forms.{Ins, ins, Formed}
use Rattle.grammar.specs.Lines.{Says, label_in, code_in}
use Rattle.text.specs.Table.{word_in}
use Rattle.text.specs.Outcome.{Code, State, Lines, Whole, Known, Fresh, size, Places, Foreign, Repeats, Crowded, entered, FirstLost, Outcome}

-- a line is good, or why it is not
abbrev pub Checked : List ℕ → ℕ → ℕ → List Label → Counts → List ℕ → ℕ → Result Line Fault → Type 0
Checked text W L defs c bytes line (Ok x) = Says bytes (label_in x) (code_in x) × Fresh text defs (label_in x) × Places W L c.words c.labels (label_in x) (code_in x)
Checked text W L defs c bytes line (Err TooLong) = ⊥
Checked text W L defs c bytes line (Err (Grammar n)) = (n ≡ line) × Foreign bytes
Checked text W L defs c bytes line (Err (Twice n)) = (n ≡ line) × Repeats text defs bytes
Checked text W L defs c bytes line (Err (NoRoom n)) = (n ≡ line) × Crowded text defs (Places W L c.words c.labels) bytes
Checked text W L defs c bytes line (Err (Unknown n)) = ⊥

abbrev pub counted : Counts → Line → Counts
counted c x = record { words = c.words + size (code_in x); labels = c.labels + size (label_in x) }

-- what the first reading leaves: all lines are good, or it stops
abbrev pub FirstRead : List ℕ → ℕ → List Label → Result Counts Fault → List Label → Type 0
FirstRead text W labels (Ok c) labels' =
    (s : State) × Whole text W (length labels) s × (c.words ≡ length s.code) × (c.labels ≡ length s.defs) × (labels' ≡ entered s labels)
FirstRead text W labels (Err f) labels' = (words : List ℕ) → length words ≡ W → Outcome text words labels (Err f) words labels'

-- what a line says as code, given that it says something
abbrev pub CodeIn : List ℕ → Option Instruction → Type 0
CodeIn bytes r = IfSome r (λ x. Formed (ins x)) × ((label : Option (List ℕ)) (code : Option Ins) → Says bytes label code → code ≡ option_map ins r)

-- all lines are good, and the table has their labels
abbrev pub Ready : List ℕ → ℕ → List Label → Type 0
Ready text W table = (s : State) × ((L : ℕ) × Whole text W L s × (table ≡ s.defs))

abbrev pub words_of : List ℕ → State → List Code → List ℕ
words_of text s cs = map (λ c. word_in text s.defs c.ins) cs

-- the good lines before a place, and their instructions
pub record Behind (text : List ℕ) (W L at line : ℕ) (code : List Code) : Type 0 where
  pub state : State
  pub lines : Lines text W L line state
  pub at_is : at ≡ state.at
  pub code_is : code ≡ state.code

-- the word of an instruction, or its line where it uses a label in vain
abbrev pub WordOf : List ℕ → State → Code → Result ℕ Fault → Type 0
WordOf text s c (Ok w) = Known text s c × (w ≡ word_in text s.defs c.ins)
WordOf text s c (Err TooLong) = ⊥
WordOf text s c (Err (Grammar n)) = ⊥
WordOf text s c (Err (Twice n)) = ⊥
WordOf text s c (Err (NoRoom n)) = ⊥
WordOf text s c (Err (Unknown n)) = (Known text s c → ⊥) × (n ≡ c.line)

-- the lines to the next instruction, with its word; none where there is no more
pub record NextWord (text : List ℕ) (table : List Label) (at line : ℕ) (r : Option (Result ℕ Fault)) (at' line' : ℕ) : Type 0 where
  pub gives : (s : State) (W L : ℕ) (code : List Code) → Whole text W L s → table ≡ s.defs → Behind text W L at line code → MatchOption r (code ≡ s.code) (λ x. (c : Code) × Behind text W L at' line' (code ++ c ∷ []) × (length code < W) × WordOf text s c x)

-- each label is known, or this is the first line with one that is not
abbrev pub LabelsRead : List ℕ → State → Result (Unit {0}) Fault → Type 0
LabelsRead text s (Ok u) = AllByRecursion (Known text s) s.code
LabelsRead text s (Err TooLong) = ⊥
LabelsRead text s (Err (Grammar n)) = ⊥
LabelsRead text s (Err (Twice n)) = ⊥
LabelsRead text s (Err (NoRoom n)) = ⊥
LabelsRead text s (Err (Unknown n)) = FirstLost text s n

-- the words are written, or one label is not known and they stay
abbrev pub WordsRead : List ℕ → State → Result (Unit {0}) Fault → List ℕ → List ℕ → Type 0
WordsRead text s (Ok u) words words' = LabelsRead text s (Ok u) × (words' ≡ words_of text s s.code ++ drop (length s.code) words)
WordsRead text s (Err f) words words' = LabelsRead text s (Err f) × (words' ≡ words)

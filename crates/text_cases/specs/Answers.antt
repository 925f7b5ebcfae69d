-- The answer to a text: the counts, or the refusal.
use Rattle.std.specs.Prelude.{◌≡◌, ℕ, List, ◌++◌, take, drop, Ok, Err, Result}
use Rattle.listing.specs.declared.Layer.TheVariants.{Text}
use Rattle.listing.specs.declared.Refusal.{Refusal}
use Rattle.text.specs.declared.fault.Fault.{Fault}
use Rattle.text.specs.declared.table.Counts.{Counts}
use Rattle.text.specs.declared.table.Label.{Label}
use Rattle.text.specs.Faults.{refusal_of}
use Rattle.text.specs.Outcome.{Outcome}

abbrev pub Answered : List ℕ → List ℕ → List Label → Result Counts Refusal → List ℕ → List Label → Type 0
Answered text words labels (Ok c) words' labels' = Outcome text words labels (Ok c) words' labels'
Answered text words labels (Err q) words' labels' = (f : Fault) × (Outcome text words labels (Err f) words' labels' × (q ≡ refusal_of f))

abbrev pub counted : ℕ → ℕ → Counts
counted words labels = record { words = words; labels = labels }

-- a text is refused at a line
abbrev pub refused_at : ℕ → ℕ → Refusal
refused_at number line = record { number = number; layer = Text; place = line }

-- the answer with so many places, the first for words and for labels; the others stay
abbrev pub AnsweredIn : Counts → List ℕ → List ℕ → List Label → Result Counts Refusal → List ℕ → List Label → Type 0
AnsweredIn room text words labels r words' labels' =
    (front : List ℕ) × ((table : List Label) × (Answered text (take room.words words) (take room.labels labels) r front table × (words' ≡ front ++ drop room.words words) × (labels' ≡ table ++ drop room.labels labels)))

-- What a check of an example has shown where it passes.
use Rattle.std.specs.Prelude.{ℕ, List, [], length, Ok, Err, Result}
use Rattle.listing.specs.declared.Refusal.{Refusal}
use Rattle.text.specs.declared.table.Counts.{Counts}
use Rattle.text.specs.declared.table.Label.{Label}
use Rattle.text_cases.specs.Answers.{Answered, AnsweredIn, counted}
use Rattle.text_cases.specs.Places.{Begins, old_word, old_label, old_words, old_labels}

-- the answer in twenty places, with what it leaves there
abbrev pub Leaves : List ℕ → Result Counts Refusal → (List ℕ → List Label → Type 0) → Type 0
Leaves text r P = (words : List ℕ) × ((labels : List Label) × (Answered text old_words old_labels r words labels × P words labels))

-- the text has just these words
abbrev pub Gives : List ℕ → List ℕ → Type 0
Gives text expected = (count : ℕ) × Leaves text (Ok (counted (length expected) count)) (λ words labels. Begins old_word words expected)

-- the text has just these labels
abbrev pub Enters : List ℕ → List Label → Type 0
Enters text expected = (count : ℕ) × Leaves text (Ok (counted count (length expected))) (λ words labels. Begins old_label labels expected)

-- the text is refused in this way, and no word is written
abbrev pub Refuses : List ℕ → Refusal → Type 0
Refuses text q = Leaves text (Err q) (λ words labels. Begins old_word words [])

-- the text takes up so many places for words and for labels, and needs no more
abbrev pub Fits : List ℕ → Counts → Type 0
Fits text room = (words : List ℕ) × ((labels : List Label) × AnsweredIn room text old_words old_labels (Ok room) words labels)

-- with so many places the text is refused, no word is written, and these labels are entered
abbrev pub Stops : List ℕ → Counts → Refusal → List Label → Type 0
Stops text room q entered =
    (words : List ℕ) × ((labels : List Label) × (AnsweredIn room text old_words old_labels (Err q) words labels × Begins old_word words [] × Begins old_label labels entered))

-- What the places of the examples hold: before a text is assembled, 1048575 for words and 70, 80 and 90 for labels.
use Rattle.std.specs.Prelude.{◌≡◌, ℕ, ◌<◌, ◌≤◌, List, length, replicate, slice_index_or}
use Rattle.text.specs.declared.table.Label.{Label}

-- what the place k must hold: one of the values at the front, or what it held before
abbrev pub IsAt : {A : Type 0} → A → List A → ℕ → A → Type 0
IsAt old front k is = (k < length front → is ≡ slice_index_or front k old) × (length front ≤ k → is ≡ old)

-- the places begin with these values, and the rest is as it was
abbrev pub Begins : {A : Type 0} → A → List A → List A → Type 0
Begins old places front = (length front ≤ length places) × ((k : ℕ) → k < length places → IsAt old front k (slice_index_or places k old))

abbrev pub old_word : ℕ
old_word = 1048575

abbrev pub old_label : Label
old_label = record { place = 70; length = 80; address = 90 }

abbrev pub old_words : List ℕ
old_words = replicate 20 old_word

abbrev pub old_labels : List Label
old_labels = replicate 20 old_label

-- What follows from the checks that passed.
use Rattle.std.proofs.Common.{◌≡◌, ℕ, List, [], length, IfOk, Ok, Err, Result, subst}
use Rattle.listing.specs.declared.Refusal.{Refusal}
use Rattle.text.specs.declared.table.Counts.{Counts}
use Rattle.text.specs.declared.table.Label.{Label}
use Rattle.text_cases.specs.Answers.{Answered, AnsweredIn}
use Rattle.text_cases.specs.Passes.{Gives, Enters, Refuses, Fits}
use Rattle.text_cases.specs.Places.{Begins, old_word, old_label, old_words, old_labels}

-- what follows where a check passes
pub passed : {X E : Type 0} {P Q : Type 0} → (P → Q) → (r : Result X E) → IfOk r (λ _. P) → IfOk r (λ _. Q)
passed f (Ok x) h = f h
passed f (Err e) h = h

pub gave : (text expected words : List ℕ) (labels : List Label) (c : Counts) → c.words ≡ length expected → Answered text old_words old_labels (Ok c) words labels → Begins old_word words expected → Gives text expected
gave text expected words labels c e a b =
    let P : ℕ → Type 0 = λ k. Answered text old_words old_labels (Ok (record { words = k; labels = c.labels })) words labels in (c.labels, (words, (labels, (subst P e a, b))))

pub entered : (text : List ℕ) (expected : List Label) (words : List ℕ) (labels : List Label) (c : Counts) → c.labels ≡ length expected → Answered text old_words old_labels (Ok c) words labels → Begins old_label labels expected → Enters text expected
entered text expected words labels c e a b =
    let P : ℕ → Type 0 = λ k. Answered text old_words old_labels (Ok (record { words = c.words; labels = k })) words labels in (c.words, (words, (labels, (subst P e a, b))))

pub turned : (text words : List ℕ) (labels : List Label) (q told : Refusal) → q ≡ told → Answered text old_words old_labels (Err q) words labels → Begins old_word words [] → Refuses text told
turned text words labels q told e a b =
    let P : Refusal → Type 0 = λ k. Answered text old_words old_labels (Err k) words labels in (words, (labels, (subst P e a, b)))

pub fitted : (room : Counts) (text words : List ℕ) (labels : List Label) (c : Counts) → c ≡ room → AnsweredIn room text old_words old_labels (Ok c) words labels → Fits text room
fitted room text words labels c e a =
    let P : Counts → Type 0 = λ k. AnsweredIn room text old_words old_labels (Ok k) words labels in
    (words, (labels, subst P e a))

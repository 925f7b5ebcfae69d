-- The two readings together: every text has its outcome.
use Rattle.std.proofs.Common.{◌≡◌, ℕ, List, length, take, Ok, Err, Result, sym, ap, ◌∙◌}
use Rattle.std.specs.List.{All}
use Rattle.std.proofs.lemmas.List.{take_at}
use Rattle.text.specs.declared.fault.Fault.{Fault}
use Rattle.text.specs.declared.fault.Fault.TheVariants.{TooLong, Grammar, Twice, NoRoom, Unknown}
use Rattle.text.specs.declared.table.Counts.{Counts}
use Rattle.text.specs.declared.table.Label.{Label}
use Rattle.text.specs.Table.{Within}
use Rattle.text.specs.Outcome.{State, Whole, Outcome, OneOutcome}
use Rattle.text.specs.Passes.{FirstRead, WordsRead}
use Rattle.text.specs.Plain.{GivesBack}
use Rattle.text.specs.Words.{WordFields}
use Rattle.text.proofs.FirstPass.{lines_within}
use Rattle.text.proofs.Formats.{word_fields}
use Rattle.text.proofs.Outcomes.{outcome_one}
use Rattle.text.proofs.PlainLaw.{gives_back}

module _ (text words : List ℕ) (labels labels' : List Label) (c : Counts) (h : FirstRead text (length words) labels (Ok c) labels') where
  -- the table holds the labels of the text
  table_is : take c.labels labels' ≡ h.0.defs
  table_is = ap (take c.labels) h.4 ∙ take_at h.0.defs _ c.labels (sym h.3)

  pub within : All (Within text) (take c.labels labels')
  within = rw table_is (lines_within text (length words) (length labels) h.1.count h.0 h.1.lines)

  module _ (words' : List ℕ) where
    pub lost : (f : Fault) → ((s : State) (L : ℕ) → Whole text (length words) L s → take c.labels labels' ≡ s.defs → WordsRead text s (Err f) words words') → Outcome text words labels (Err f) words' labels'
    lost f k = at f (k h.0 (length labels) h.1 table_is)
      where
        at : (f : Fault) → WordsRead text h.0 (Err f) words words' → Outcome text words labels (Err f) words' labels'
        at TooLong r = absurd r.0
        at (Grammar n) r = absurd r.0
        at (Twice n) r = absurd r.0
        at (NoRoom n) r = absurd r.0
        at (Unknown n) r = record {
          state = h.0;
          whole = h.1;
          first = r.0;
          words_stay = r.1;
          labels_are = h.4;
        }

    pub done : ((s : State) (L : ℕ) → Whole text (length words) L s → take c.labels labels' ≡ s.defs → WordsRead text s (Ok tt) words words') → Outcome text words labels (Ok c) words' labels'
    done k =
        let r = k h.0 (length labels) h.1 table_is in
        record { state = h.0; whole = h.1; known = r.0; words_count = h.2; labels_count = h.3; words_are = r.1; labels_are = h.4 }

-- what is said of an outcome: that it is the only one, that its words can be read back, and what it is for a text in the plain layout
pub settled : (text words : List ℕ) (labels : List Label) (r : Result Counts Fault) (words' : List ℕ) (labels' : List Label) → Outcome text words labels r words' labels' → record { outcome : Outcome text words labels r words' labels'; alone : OneOutcome text words labels; formats : WordFields; plain : GivesBack text words labels r words' }
settled text words labels r words' labels' o = record { outcome = o; alone = outcome_one text words labels; formats = word_fields; plain = gives_back text words labels r words' labels' o }

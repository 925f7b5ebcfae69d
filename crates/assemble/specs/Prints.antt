-- What is printed of a text that is assembled with 2,048 places for words and for labels.
use Rattle.std.specs.Prelude.{◌≡◌, ℕ, List, take, replicate, Ok, Err, Result, vec_items, string_bytes}
use Rattle.std.specs.Global.{Vec}
use Rattle.std.specs.List.{flat_map}
use Rattle.listing.specs.Lines.{word_line, refusal_line}
use Rattle.text.specs.declared.fault.Fault.{Fault}
use Rattle.text.specs.declared.table.Counts.{Counts}
use Rattle.text.specs.declared.table.Label.{Label}
use Rattle.text.specs.Faults.{refusal_of}
use Rattle.text.specs.Outcome.{Outcome}
use Rattle.assemble.specs.declared.report.Failure.{Failure}
use Rattle.assemble.specs.declared.report.Failure.TheVariants.{Refused, Memory}

abbrev pub no_words : List ℕ
no_words = replicate 2048 0

abbrev pub no_labels : List Label
no_labels = replicate 2048 (record { place = 0; length = 0; address = 0 })

-- a line for each word, or the one line of the refusal; where there is no memory, neither
abbrev pub Prints : List ℕ → Result (Vec ℕ) Failure → Type 0
Prints text (Ok lines) =
    (c : Counts) × ((words : List ℕ) × ((labels : List Label) × Outcome text no_words no_labels (Ok c) words labels × (vec_items lines ≡ flat_map word_line (take c.words words))))
Prints text (Err (Refused line)) = (f : Fault) × ((words : List ℕ) × ((labels : List Label) × Outcome text no_words no_labels (Err f) words labels × (string_bytes line ≡ refusal_line (refusal_of f))))
Prints text (Err (Memory error)) = Unit {0}

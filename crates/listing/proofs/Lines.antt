-- How the lines of some words grow by a word. Assumes nothing.
use Rattle.std.proofs.Common.{◌≡◌, ℕ, ◌+◌, ◌<◌, List, [], ◌++◌, length, get_or, take, sym, ap, ◌∙◌, arith}
use Rattle.std.proofs.lemmas.List.{flat_map_more, take_more, take_all}
use Rattle.std.specs.List.{flat_map}
use Rattle.listing.specs.Lines.{word_line}

-- a word more is a line more, and all words are the words
pub record Grows (words : List ℕ) : Type 0 where
  pub more : (k : ℕ) → k < length words → flat_map word_line (take (k + 1) words) ≡ flat_map word_line (take k words) ++ word_line (get_or words k 0)
  pub all : take (length words) words ≡ words

pub grows : (words : List ℕ) → Grows words
grows words = record {
  more = λ k h. ap (flat_map word_line) (take_more words k 0 h) ∙ sym (flat_map_more word_line [] (take k words) (get_or words k 0));
  all = take_all (length words) words (omega arith);
}

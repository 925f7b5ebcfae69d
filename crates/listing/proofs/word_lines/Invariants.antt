-- The lines so far are those of the words before the index. The invariant carries what a word more comes to.
use Rattle.std.proofs.Common.{◌≡◌, take, vec_items}
use Rattle.std.specs.List.{flat_map}
use Rattle.listing.specs.Lines.{word_line}
use Rattle.listing.proofs.Lines.{Grows}
use Rattle.listing.proofs.word_lines.Given as goal

abbrev pub invariant-loop-word : goal.invariant-loop-word
invariant-loop-word l = (vec_items l.lines ≡ flat_map word_line (take l.word-index l.words)) × Grows l.words

-- No lines at first, and no claim where memory fails.
use Rattle.std.proofs.Common.{rules}
use Rattle.std.proofs.lemmas.Result.{IfOk-from_err}
use Rattle.listing.proofs.Lines.{grows}
use Rattle.listing.proofs.word_lines.Goals as goal

pub loop-word-init : goal.loop-word-init
loop-word-init c = (search rules, grows _)

pub returns-in_err-extend_from_slice : goal.returns-in_err-extend_from_slice
returns-in_err-extend_from_slice c = search (rules, IfOk-from_err)

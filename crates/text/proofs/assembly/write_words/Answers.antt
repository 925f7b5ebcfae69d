use Rattle.std.proofs.Common.{length, refl}
use Rattle.std.proofs.lemmas.Result.{err_from_is_err_and}
use Rattle.text.proofs.SecondPass.{wrote}
use Rattle.text.proofs.assembly.write_words.Goals as goal

pub returns-in_err-check_words : goal.returns-in_err-check_words
returns-in_err-check_words c s L whole labels =
    let p = err_from_is_err_and c.from_residual.result c.from_residual.ensures.1 in
    rw (p.1, p.2) (c.in_err-check_words.ensures s (length c.args.words.now) L whole labels, refl)

pub returns : goal.returns
returns c s L whole labels =
    let known = c.in_ok-check_words.ensures s (length c.args.words.now) L whole labels in
    wrote c.args.table.text.now s c.put_words.result c.args.words.now c.put_words.new.words known (c.put_words.ensures s L whole labels)

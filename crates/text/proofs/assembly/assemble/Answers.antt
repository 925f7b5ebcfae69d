use Rattle.std.proofs.Common.{sym, refl, ◌∙◌}
use Rattle.std.proofs.lemmas.Result.{err_from_is_err_and}
use Rattle.std.proofs.lemmas.Bool.{ltb-true}
use Rattle.text.proofs.Endings.{within, lost, done, settled}
use Rattle.text.proofs.assembly.assemble.Goals as goal

pub returns-then-is_too_long : goal.returns-then-is_too_long
returns-then-is_too_long c =
    let long = ltb-true 65535 _ (sym c.is_too_long.ensures ∙ c.if-is_too_long.true) in
    settled c.args.text.now c.args.words.now c.args.labels.now _ _ _ (long, refl, refl)

pub returns-in_err-counts : goal.returns-in_err-counts
returns-in_err-counts c =
    let p = err_from_is_err_and c.from_residual.result c.from_residual.ensures.1 in
    rw (p.1, p.2) (settled c.args.text.now c.args.words.now c.args.labels.now _ _ _ (c.in_err-counts.ensures c.args.words.now refl))

pub invariant_of-table-clause-within : goal.invariant_of-table-clause-within
invariant_of-table-clause-within c =
    within c.args.text.now c.args.words.now c.args.labels.now c.first_reading.new.labels c.in_ok-counts.counts c.in_ok-counts.ensures

pub returns-in_err-write_words : goal.returns-in_err-write_words
returns-in_err-write_words c =
    let p = err_from_is_err_and c.from_residual-in_err-write_words.result c.from_residual-in_err-write_words.ensures.1 in
    let counts = c.in_ok-counts in
    rw (p.1, p.2)
    (settled c.args.text.now c.args.words.now c.args.labels.now _ _ _
    (lost c.args.text.now c.args.words.now c.args.labels.now c.first_reading.new.labels counts.counts counts.ensures _ _ c.in_err-write_words.ensures))

pub returns : goal.returns
returns c =
    let counts = c.in_ok-counts in
    settled c.args.text.now c.args.words.now c.args.labels.now _ _ _
    (done c.args.text.now c.args.words.now c.args.labels.now c.first_reading.new.labels counts.counts counts.ensures _ c.in_ok-write_words.ensures)

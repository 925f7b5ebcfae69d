use Rattle.std.proofs.Common.{◌∙◌, Some, None, Ok, Err}
use Rattle.std.proofs.lemmas.Result.{err_from_is_err_and}
use Rattle.text.proofs.SecondPass.{upto_none, upto_more, upto_lost, upto_all, of_table}
use Rattle.text.proofs.assembly.check_words.Goals as goal

pub loop-word-init : goal.loop-word-init
loop-word-init c =
    let first = c.of-word-items.ensures in
    rw c.into_iter-word-iterator.ensures.into_iter_gives (first.table, λ s W L whole labels. rw (first.at, first.count) (upto_none c.args.table.text.now W L s))

pub loop-word-preserved : goal.loop-word-preserved
loop-word-preserved c =
    let h = c.loop-word.invariant in
    let k = of_table (Some (Ok c.in_ok-word.field-0)) h.0 (rw c.in_ok-word.was at c.in-Some.ensures.steps.1) in
    (c.in-Some.ensures.steps.0 ∙ h.0, λ s W L whole labels. upto_more whole labels (h.1 s W L whole labels) c.in_ok-word.field-0 k)

pub returns-in_err-word : goal.returns-in_err-word
returns-in_err-word c s W L whole labels =
    let p = err_from_is_err_and c.from_residual.result c.from_residual.ensures.1 in
    let h = c.loop-word.invariant in
    rw (p.1, p.2) (upto_lost whole labels (h.1 s W L whole labels) c.in_err-word.field-0.0 (of_table (Some (Err c.in_err-word.field-0.0)) h.0 (rw c.in_err-word.was at c.in-Some.ensures.steps.1)))

pub returns : goal.returns
returns c s W L whole labels =
    let h = c.loop-word.invariant in
    upto_all whole labels (h.1 s W L whole labels) (of_table None h.0 c.in-None.ensures.steps.1)

use Rattle.std.proofs.Common.{◌∙◌, ◌<◌, length, Some, None, Ok, Err, arith}
use Rattle.std.proofs.lemmas.Result.{err_from_is_err_and}
use Rattle.text.proofs.SecondPass.{written_none, written_more, word_room, upto_lost, written_all, of_table}
use Rattle.text.proofs.assembly.put_words.Goals as goal

pub loop-at-init : goal.loop-at-init
loop-at-init c =
    let first = c.of.ensures in
    let from = c.enumerate-at-items.ensures in
    rw (c.into_iter-at-iterator.ensures.into_iter_gives, from.source, from.count) (first.table, λ s L whole labels. rw (first.at, first.count) (written_none c.args.table.text.now L s c.args.words.now))

pub returns-in_err-words : goal.returns-in_err-words
returns-in_err-words c s L whole labels =
    let p = err_from_is_err_and c.from_residual.result c.from_residual.ensures.1 in
    let h = c.loop-at.invariant in
    let lost = upto_lost whole labels (h.1 s L whole labels).upto c.in_err-words.field-0.0 (of_table (Some (Err c.in_err-words.field-0.0)) h.0 (rw c.in_err-words.was at c.in-Some.ensures.steps.0.1)) in
    rw (p.1, p.2) (lost, tt)

-- there is a place for the word
room : (c : goal.In_ok-words) → c.in-Some.at < length c.loop-at.words
room c =
    let (s, (L, whole, labels)) = c.requires in
    let h = c.loop-at.invariant in
    let step = c.in-Some.ensures.steps in
    let so_far = h.1 s L whole labels in
    omega (arith, so_far.count_is, step.1, word_room whole labels so_far.upto c.in_ok-words.field-0 (of_table (Some (Ok c.in_ok-words.field-0)) h.0 (rw c.in_ok-words.was at step.0.1)))

pub bounds-words-at : goal.bounds-words-at
bounds-words-at c = room c

pub offset_bounds-words-at : goal.offset_bounds-words-at
offset_bounds-words-at c = omega (arith, room c)

pub loop-at-preserved : goal.loop-at-preserved
loop-at-preserved c =
    let h = c.loop-at.invariant in
    let step = c.in-Some.ensures.steps in
    let k = of_table (Some (Ok c.in_ok-words.field-0)) h.0 (rw c.in_ok-words.was at step.0.1) in
    (step.0.0 ∙ h.0, λ s L whole labels. written_more whole labels (h.1 s L whole labels) c.in-Some.at _ c.in_ok-words.field-0 k step.1 step.2)

pub returns : goal.returns
returns c s L whole labels =
    let h = c.loop-at.invariant in
    written_all whole labels (h.1 s L whole labels) (of_table None h.0 c.in-None.ensures.steps.0.1)

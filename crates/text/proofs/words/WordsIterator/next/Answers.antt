use Rattle.std.proofs.Common.{ap, ◌∙◌, subst, arith}
use Rattle.grammar.specs.Forms.{ins}
use Rattle.text.specs.Table.{WordFor}
use Rattle.text.proofs.Cuts.{took, past}
use Rattle.text.proofs.SecondPass.{skips_more, none_left, next_left}
use Rattle.text.proofs.words.WordsIterator.next.Goals as goal

pub returns-in-Some-code_of-clause-steps : goal.returns-in-Some-code_of-clause-steps
returns-in-Some-code_of-clause-steps c =
    let h = c.loop-line.invariant in
    let t = took (c.loop-line.self.same ∙ ap (λ x. x.text.now) h.table) c.in-Some.ensures.steps in
    let word = subst (λ x. WordFor x.text.now x.labels.now (ins c.in-Some-code_of.code) c.word_for-word.result) h.table c.word_for-word.ensures in
    (h.table, rw c.ok_or.ensures.value (next_left h.skips c.args.self.now.table.labels.now c.in-Some.line c.in-Some-code_of.code c.word_for-word.result _ _ t.is c.in-Some-code_of.ensures word t.at_is t.count_is))

pub loop-line-preserved : goal.loop-line-preserved
loop-line-preserved c =
    let h = c.loop-line.invariant in
    let t = took (c.loop-line.self.same ∙ ap (λ x. x.text.now) h.table) c.in-Some.ensures.steps in
    record { table = h.table; on = omega (arith, t.at_is); skips = skips_more h.skips c.in-Some.line _ _ t.is c.in_default-code_of.ensures t.at_is t.count_is }

pub returns-clause-steps : goal.returns-clause-steps
returns-clause-steps c =
    let h = c.loop-line.invariant in
    let e = past (c.loop-line.self.same ∙ ap (λ x. x.text.now) h.table) c.in_default.ensures.steps.1 c.loop-line.self.lines.inside in
    (h.table, none_left h.skips c.args.self.now.table.labels.now c.next.new.self.at c.next.new.self.count e.0 e.1)

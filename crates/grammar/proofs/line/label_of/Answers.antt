use Rattle.std.proofs.Common.{rules, Some}
use Rattle.grammar.specs.Tokens.{name, colon}
use Rattle.grammar.proofs.Lists.{not_seen}
use Rattle.grammar.proofs.Readings.{unlabelled, unlabelled_first, unlabelled_end, unlabelled_second}
use Rattle.grammar.proofs.line.label_of.Goals as goal

pub returns-in_err-text : goal.returns-in_err-text
returns-in_err-text c = rw c.from_residual.ensures (unlabelled c.args.whole.bytes.now c.in_err-text.ensures.fronts)

pub returns-in_default : goal.returns-in_default
returns-in_default c =
    let (first, behind) = c.in_ok-text.field-0 in
    unlabelled_first c.args.whole.bytes.now first behind.bytes.now c.in_ok-text.ensures.fronts (λ n. not_seen first (Some (name n)) (λ a x e. search rules))

pub returns-in_err-rest : goal.returns-in_err-rest
returns-in_err-rest c =
    let (first, behind) = c.in_ok-text.field-0 in
    rw c.from_residual-in_err-rest.ensures (unlabelled_end c.args.whole.bytes.now first behind.bytes.now c.in_ok-text.ensures.fronts c.in_err-rest.ensures.fronts)

pub returns-in_default-2 : goal.returns-in_default-2
returns-in_default-2 c =
    let (first, behind) = c.in_ok-text.field-0 in
    let (second, after) = c.in_ok-rest.field-0 in
    unlabelled_second c.args.whole.bytes.now first behind.bytes.now c.in_ok-text.ensures.fronts second after.bytes.now c.in_ok-rest.ensures.fronts (not_seen second (Some colon) (λ x e. search rules))

use Rattle.std.proofs.Common.{rules, ◌∙◌, arith}
use Rattle.std.proofs.lemmas.Iterator.{YieldsList-from_slice, cases_from_any}
use Rattle.program.proofs.Scans.{IsSetx, part, setx_upto}
use Rattle.program.proofs.scan.has_setx.Goals as goal

pub returns-then-low-end : goal.returns-then-low-end
returns-then-low-end c =
    let words = c.args.words.now in
    let low = c.args.low in
    let end = c.min-end.result in
    setx_upto words low c.args.high end c.any.result c.min-end.ensures (cases_from_any _ _ _ IsSetx (λ w. IsSetx w → ⊥) c.any.ensures.ran (
    YieldsList-from_slice _ (c.iter.ensures.rest ∙ part words low end (omega (arith, c.if-low-end.true)))
    ) (λ x q k. search rules) (λ x q k. search rules))

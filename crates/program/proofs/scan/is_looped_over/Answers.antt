use Rattle.std.proofs.Common.{rules, ◌∙◌}
use Rattle.std.proofs.lemmas.Iterator.{YieldsList-from_slice, cases_from_any}
use Rattle.std.proofs.lemmas.List.{take_rest}
use Rattle.program.proofs.Scans.{LoopsBelow, loop_over}
use Rattle.program.proofs.scan.is_looped_over.Goals as goal

pub returns-then-address-words : goal.returns-then-address-words
returns-then-address-words c =
    loop_over c.args.words.now c.args.address c.any.result (cases_from_any _ _ _ (LoopsBelow c.args.address) (λ w. LoopsBelow c.args.address w → ⊥) c.any.ensures.ran (
    YieldsList-from_slice _ (c.iter.ensures.rest ∙ take_rest c.args.words.now c.args.address)
    ) (λ x q k. search rules) (λ x q k. search rules))

-- A code of the range names a function.
use Rattle.std.proofs.Common.{◌≡◌, false, true, sym, ap, ◌∙◌, rules, arith}
use Rattle.std.specs.Prelude.{is_ok}
use Rattle.program.proofs.Words.{binary_known, unary_known}
use Rattle.program.proofs.word.InstructionTryFromU32.try_from.Goals as goal

pub returns-in_err-try_from-in-0-to-3 : goal.returns-in_err-try_from-in-0-to-3
returns-in_err-try_from-in-0-to-3 c =
    let none : false ≡ true = ap is_ok (sym c.in_err-try_from-in-0-to-3.was) ∙ binary_known _ _ c.try_from.ensures (omega (arith, c.in-0-to-3)) in absurd (search rules)

pub returns-in_err-try_from-in-4-to-6 : goal.returns-in_err-try_from-in-4-to-6
returns-in_err-try_from-in-4-to-6 c =
    let none : false ≡ true = ap is_ok (sym c.in_err-try_from-in-4-to-6.was) ∙ unary_known _ _ c.try_from-in-4-to-6.ensures (omega (arith, c.in-4-to-6)) (omega (arith, c.in-4-to-6)) in absurd (search rules)

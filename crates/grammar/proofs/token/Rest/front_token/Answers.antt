use Rattle.std.proofs.Common.{rules, arith}
use Rattle.std.proofs.lemmas.List.{take_rest}
use Rattle.grammar.proofs.Fronts.{next_name, name_too_long, next_number, next_register, no_token}
use Rattle.grammar.proofs.token.Rest.front_token.Goals as goal

pub returns-then-text-gt-NAME_MAX-clause-fronts : goal.returns-then-text-gt-NAME_MAX-clause-fronts
returns-then-text-gt-NAME_MAX-clause-fronts c = name_too_long c.args.self.bytes.now c.run_len.result c.run_len.ensures.value (search rules) (omega arith)

pub returns-else-text-gt-NAME_MAX-clause-fronts : goal.returns-else-text-gt-NAME_MAX-clause-fronts
returns-else-text-gt-NAME_MAX-clause-fronts c =
    let h = c.split_at.ensures in
    rw (h.text, h.rest) (next_name c.args.self.bytes.now c.run_len.result c.run_len.ensures.value (search rules) (omega arith))

pub returns-in-Digit-clause-fronts : goal.returns-in-Digit-clause-fronts
returns-in-Digit-clause-fronts c =
    let h = c.split_at-in-Digit.ensures in
    rw (h.text, h.rest) (next_number c.args.self.bytes.now c.run_len-in-Digit.result c.run_len-in-Digit.ensures.value (search rules))

pub returns-in-Dollar-clause-fronts : goal.returns-in-Dollar-clause-fronts
returns-in-Dollar-clause-fronts c =
    let h = c.split_at-in-Dollar.ensures in
    rw (h.text, h.rest) (next_register c.args.self.bytes.now c.run_len-in-Dollar.result (simp take_rest at c.run_len-in-Dollar.ensures.value) (search rules))

pub returns-in-Underscore-clause-fronts : goal.returns-in-Underscore-clause-fronts
returns-in-Underscore-clause-fronts c = no_token c.args.self.bytes.now c.from.result c.requires (search rules) c.in-Underscore.is

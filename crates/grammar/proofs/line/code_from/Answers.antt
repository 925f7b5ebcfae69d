use Rattle.std.proofs.Common.{rules}
use Rattle.grammar.proofs.Lists.{lexed, not_seen}
use Rattle.grammar.proofs.Readings.{code_none, code_other, code_unnamed}
use Rattle.grammar.proofs.line.code_from.Goals as goal

pub returns-in_err-next_token : goal.returns-in_err-next_token
returns-in_err-next_token c = rw c.from_residual.ensures (search (rules, code_none))

pub returns-in_err-code_at-in-Name-default : goal.returns-in_err-code_at-in-Name-default
returns-in_err-code_at-in-Name-default c = rw c.from_residual-in_err-code_at-in-Name-default.ensures (search (rules, code_unnamed, lexed))

pub returns-in_default : goal.returns-in_default
returns-in_default c = search (rules, code_other, not_seen)

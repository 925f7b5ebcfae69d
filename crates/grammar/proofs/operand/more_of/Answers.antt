use Rattle.std.proofs.Common.{rules}
use Rattle.grammar.proofs.Lists.{lexed, more_none, more_cut, more_odd, more_other, not_seen}
use Rattle.grammar.proofs.operand.more_of.Goals as goal

pub returns-in_err-rest : goal.returns-in_err-rest
returns-in_err-rest c = rw c.from_residual.ensures (search (rules, more_none))

pub returns-in_err-second-in-Comma-default : goal.returns-in_err-second-in-Comma-default
returns-in_err-second-in-Comma-default c =
    rw c.from_residual-in_err-second-in-Comma-default.ensures (search (rules, more_cut, lexed))

pub returns-in_err-operand_of-in-Comma-default : goal.returns-in_err-operand_of-in-Comma-default
returns-in_err-operand_of-in-Comma-default c =
    rw c.from_residual-in_err-operand_of-in-Comma-default.ensures (search (rules, more_odd, lexed))

pub returns-in_default : goal.returns-in_default
returns-in_default c = search (rules, more_other, not_seen)

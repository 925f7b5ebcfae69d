use Rattle.std.proofs.Common.{rules}
use Rattle.grammar.proofs.Readings.{code_read}
use Rattle.grammar.proofs.instruction.code_at.Goals as goal

pub returns : goal.returns
returns c = search (rules, code_read)

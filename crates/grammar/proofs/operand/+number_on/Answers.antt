use Rattle.std.proofs.Common.{arith}
use Rattle.std.proofs.lemmas.Grind.{common_steps}
use Rattle.grammar.proofs.Numbers.{grows}
use Rattle.grammar.proofs.operand.+number_on.Goals as goal

pub returns-then-value-gt-NUMBER_MAX : goal.returns-then-value-gt-NUMBER_MAX
returns-then-value-gt-NUMBER_MAX t c = grind (arith, common_steps, grows)

use Rattle.std.proofs.Common.{length}
use Rattle.grammar.proofs.operand.+number_on.Given as goal

abbrev pub decreases-number_on : goal.decreases-number_on
decreases-number_on l = length l.digits.now

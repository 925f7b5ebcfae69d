use Rattle.program.specs.Scans.{Word, Ending, Target, SetxSkipped, Feeding, IntoLoop}
use Rattle.program.proofs.rules.keeps_rules.Given as goal

abbrev pub ghost-keeps : goal.ghost-keeps
ghost-keeps a = Word

abbrev pub ghost-keeps-2 : goal.ghost-keeps-2
ghost-keeps-2 a = Ending

abbrev pub ghost-keeps-3 : goal.ghost-keeps-3
ghost-keeps-3 a = Target

abbrev pub ghost-keeps-4 : goal.ghost-keeps-4
ghost-keeps-4 a = SetxSkipped

abbrev pub ghost-keeps-5 : goal.ghost-keeps-5
ghost-keeps-5 a = Feeding

abbrev pub ghost-keeps-6 : goal.ghost-keeps-6
ghost-keeps-6 a = IntoLoop

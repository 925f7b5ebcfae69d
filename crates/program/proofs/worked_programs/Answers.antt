use Rattle.program.proofs.Worked.{worked_programs_lem}
use Rattle.program.proofs.worked_programs.Goals as goal

pub returns : goal.returns
returns c = worked_programs_lem

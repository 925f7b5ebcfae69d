use Rattle.lanes.proofs.Ends.{lanes_agree_lem}
use Rattle.lanes.proofs.lanes_agree.Goals as goal

pub returns : goal.returns
returns c = lanes_agree_lem

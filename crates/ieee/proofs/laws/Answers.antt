use Rattle.ieee.proofs.laws.Goals as goal
use Rattle.ieee.proofs.FormatLaws.{formats_stand}
use Rattle.ieee.proofs.RoundingLaws.{rounding_stands}
use Rattle.ieee.proofs.OperationLaws.{operations_stand}
use Rattle.ieee.proofs.FloorLaws.{floor_stands}
use Rattle.ieee.proofs.LevelLaws.{level_stands}

pub returns : goal.returns
returns c = record { formats = formats_stand; rounding = rounding_stands; operations = operations_stand; floor = floor_stands; level = level_stands }

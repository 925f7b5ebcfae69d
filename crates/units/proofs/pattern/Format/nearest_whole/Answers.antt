use Rattle.units.proofs.pattern.Format.nearest_whole.Goals as goal
use Rattle.std.proofs.Common.{arith}
use Rattle.units.proofs.Levels.{level_held, level_near}

pub returns-then-low-parts : goal.returns-then-low-parts
returns-then-low-parts g c =
    level_held g.row.P g.row.E _ _ _ c.args.self.least c.args.self.reach c.parts_of-parts.ensures.value c.parts_of-parts.ensures.leading (omega arith)

pub returns-else-low-parts : goal.returns-else-low-parts
returns-else-low-parts g c =
    level_near g.row.P g.row.E _ _ _ _ _ c.args.self.most c.parts_of-parts.ensures.value c.parts_of-parts.ensures.digits (omega arith) (rw (← c.low-low.ensures) c.min.ensures) c.closest.ensures

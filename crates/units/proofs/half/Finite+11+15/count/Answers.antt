use Rattle.units.proofs.half.Finite+11+15.count.Goals as goal
use Rattle.units.proofs.Halves.{exponent_half, count_is}

pub returns-clause-bound : goal.returns-clause-bound
returns-clause-bound c =
    let x = c.parts_of-digits.ensures in
    (count_is c.args.self.pattern _ _ (exponent_half c.args.self.pattern _ _ c.args.self.below x.parts x.leading) x.digits x.value).1

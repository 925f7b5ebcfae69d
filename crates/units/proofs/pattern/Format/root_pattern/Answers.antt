use Rattle.units.proofs.pattern.Format.root_pattern.Goals as goal
use Rattle.units.proofs.pattern.Format.root_pattern.Goals.{After-nearest_root}
use Rattle.std.proofs.Common.{ℕ, ◌+◌, ◌*◌, ◌^◌, ap, ◌∙◌, arith}
use Rattle.std.proofs.lemmas.Nat.{mul-le}
use Rattle.units.proofs.Sizes.{sizes}
use Rattle.units.proofs.Radicands.{Root, root_is, root_bound, exponent_below}

pub overflow_mul-result : goal.overflow_mul-result
overflow_mul-result g c =
    let x = c.parts_of-digits.ensures in
    let k = exponent_below _ g.row.E _ _ _ (omega arith) c.args.x.below x.parts x.leading in
    omega (arith, mul-le c.radicand_of-radicand.result.j c.hidden.result 254 (2 ^ 23) (omega arith) (omega (arith, sizes g.row.P g.row.E c.args.self.most c.args.self.bound)))

root : (g : _) (c : After-nearest_root g)
    → Root g.row.P g.row.E c.args.x.pattern c.parts_of-digits.result.exponent c.parts_of-digits.result.digits c.radicand_of-radicand.result.j c.radicand_of-radicand.result.n c.nearest_root.result
root g c = record {
  least = c.args.self.least;
  most = c.args.self.most;
  reach = c.args.self.reach;
  finite = c.args.x.below;
  value = c.parts_of-digits.ensures.value;
  parts = c.parts_of-digits.ensures.parts;
  leading = c.parts_of-digits.ensures.leading;
  scaled = rw (← c.low.ensures) c.radicand_of-radicand.ensures.value;
  low_n = c.radicand_of-radicand.ensures.least;
  high_n = c.radicand_of-radicand.ensures.most;
  small = omega (arith, c.radicand_of-radicand.ensures.small);
  near_root = c.nearest_root.ensures;
}

pub overflow_add-result : goal.overflow_add-result
overflow_add-result g c = omega (arith, sizes g.row.P g.row.E c.args.self.most c.args.self.bound, ap (λ (x : ℕ). c.radicand_of-radicand.result.j * x) c.hidden.ensures, root_bound _ _ _ _ _ _ _ _ (root g c))

pub returns : goal.returns
returns g c = ap (λ (x : ℕ). c.radicand_of-radicand.result.j * x + c.nearest_root.result) c.hidden.ensures ∙ root_is _ _ _ _ _ _ _ _ (root g c)

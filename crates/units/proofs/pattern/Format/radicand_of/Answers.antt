use Rattle.units.proofs.pattern.Format.radicand_of.Goals as goal
use Rattle.std.proofs.Common.{ℕ, ◌+◌, ◌-◌, ◌*◌, ◌^◌, ◌<◌, ◌≤◌, arith}
use lib.Count.{count_leading_zeros}
use Rattle.ieee.proofs.Steps.{pow_le}
use Rattle.units.proofs.Shifts.{size_of}
use Rattle.units.proofs.Radicands.{Scaled, scaled}

parts : (p d s : ℕ) → 8 ≤ p → p ≤ 24 → 0 < d → d < 2 ^ p → 2 * p ≤ s + 2 → Scaled p d s (64 - count_leading_zeros 64 d)
parts p d s P Q D H S =
    let z = size_of d (omega (arith, pow_le p 60 (omega arith))) in
    scaled p d s _ P Q D H S (z.0, z.1)

pub overflow_sub-result : goal.overflow_sub-result
overflow_sub-result g c = (parts _ _ _ c.args.self.least c.args.self.most c.requires.0 c.requires.1 c.requires.2).within

pub invariant_of-result : goal.invariant_of-result
invariant_of-result g c =
    let s = parts _ _ _ c.args.self.least c.args.self.most c.requires.0 c.requires.1 c.requires.2 in
    omega (arith, s.whole, s.most, pow_le (2 * g.row.P) 48 (omega arith))

pub returns : goal.returns
returns g c =
    let s = parts _ _ _ c.args.self.least c.args.self.most c.requires.0 c.requires.1 c.requires.2 in
    record { value = rw s.whole s.value; least = rw s.whole s.least; most = rw s.whole s.most; small = s.small }

use Rattle.units.proofs.pattern.Format.whole_pattern.Goals as goal
use Rattle.units.proofs.pattern.Format.whole_pattern.Goals.{else-up-via-then-up+else-m-gt0, else-up-via-else-up, else-up-2-via-then-up-2+else-rest-gt0, else-up-2-via-else-up-2}
use Rattle.std.proofs.Common.{◌≡◌, ℕ, ◌+◌, ◌-◌, ◌*◌, ◌%◌, ◌^◌, ◌<◌, ◌≤◌, false, ◌⊎◌, inl, inr, arith}
use Rattle.ieee.specs.Formats.{low, hidden}
use Rattle.ieee.proofs.Steps.{Parts, pow_le}
use Rattle.units.proofs.Sizes.{sizes}
use Rattle.units.proofs.Wholes.{kept, one, none, above, below}

taken_apart : (p m k d : ℕ) → m ≡ k * hidden p + d → d < 2 ^ p → (k ≡ 0) ⊎ (hidden p ≤ d) → Parts p m k d
taken_apart p m k d s h l = record { sum = s; digits = h; leading = l }

pub overflow_mul-result : goal.overflow_mul-result
overflow_mul-result g c = rw c.hidden.ensures (omega (arith, sizes g.row.P g.row.E c.args.self.most c.args.self.bound))

pub overflow_add-result : goal.overflow_add-result
overflow_add-result g c = omega (arith, sizes g.row.P g.row.E c.args.self.most c.args.self.bound, pow_le (c.low-low.result - c.parts_of-exponent.result.exponent) 24 (omega arith))

pub returns-then-low-exponent-clause-value : goal.returns-then-low-exponent-clause-value
returns-then-low-exponent-clause-value g c =
    let x = c.parts_of-exponent.ensures in
    (kept g.row.P g.row.E c.args.x.pattern _ _ c.args.x.negative (omega arith) c.args.x.below (taken_apart _ _ _ _ x.parts x.digits x.leading) (omega arith)).0

pub returns-then-m-gt0-clause-value : goal.returns-then-m-gt0-clause-value
returns-then-m-gt0-clause-value g c =
    let x = c.parts_of-exponent.ensures in
    rw c.hidden.ensures (one g.row.P g.row.E c.args.x.pattern _ _ c.args.x.negative (omega arith) c.args.self.reach (taken_apart _ _ _ _ x.parts x.digits x.leading) (omega arith) (omega arith) (omega arith) c.if-up.true).0

pub returns-else-up-clause-value : goal.returns-else-up-clause-value
returns-else-up-clause-value g c =
    let x = c.parts_of-exponent.ensures in
    let o : (c.args.x.negative ≡ false) ⊎ (c.args.x.pattern ≡ 0) = elim c.else-up.branch [ else-up-via-then-up+else-m-gt0 w ↦ inr (omega arith) | else-up-via-else-up w ↦ inl w.if-up.false ] in
    (none g.row.P g.row.E c.args.x.pattern _ _ c.args.x.negative (omega arith) (taken_apart _ _ _ _ x.parts x.digits x.leading) (omega arith) (omega arith) o).0

pub returns-then-rest-gt0 : goal.returns-then-rest-gt0
returns-then-rest-gt0 g c =
    let x = c.parts_of-exponent.ensures in
    let w = above g.row.P g.row.E c.args.x.pattern _ _ c.args.x.negative (omega arith) c.args.x.below (taken_apart _ _ _ _ x.parts x.digits x.leading) (omega arith) (omega arith) c.if-up-2.true (rw (← c.low-low.ensures) (omega arith)) in
    record { value = rw (c.power-unit.ensures, c.low_bits-rest.ensures, c.low-low.ensures) w.0; bound = rw (c.power-unit.ensures, c.low_bits-rest.ensures, c.low-low.ensures) w.1 }

pub returns-else-up-2-clause-value : goal.returns-else-up-2-clause-value
returns-else-up-2-clause-value g c =
    let x = c.parts_of-exponent.ensures in
    let o : (c.args.x.negative ≡ false) ⊎ (c.args.x.pattern % 2 ^ (low g.row.P g.row.E - c.parts_of-exponent.result.exponent) ≡ 0) =
    elim c.else-up-2.branch [ else-up-2-via-then-up-2+else-rest-gt0 w ↦ inr (rw (← c.low-low.ensures) (omega arith)) | else-up-2-via-else-up-2 w ↦ inl w.if-up-2.false ] in
    rw (c.low_bits-rest.ensures, c.low-low.ensures) (below g.row.P g.row.E c.args.x.pattern _ _ c.args.x.negative (omega arith) c.args.x.below (taken_apart _ _ _ _ x.parts x.digits x.leading) (omega arith) (omega arith) o).0

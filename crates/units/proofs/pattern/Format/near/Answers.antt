use Rattle.units.proofs.pattern.Format.near.Goals as goal
use Rattle.std.proofs.Common.{arith}
use Rattle.units.proofs.Shifts.{Cut, kept_bound, product_bound, near_is_cut}

cut : {g : _} (c : goal.After-hidden g) → Cut g.row.P c.args.n c.args.s c.max-cut.result c.hidden.result c.closest-kept.result
cut c = record { cut_is = cc; hidden_is = c.hidden.ensures; kept_is = c.closest-kept.ensures }

pub overflow_mul-result : goal.overflow_mul-result
overflow_mul-result g c = omega (arith, product_bound _ _ _ _ _ _ (omega arith) (omega arith) c.requires.0 c.requires.2 (cut c))

pub overflow_cast-result : goal.overflow_cast-result
overflow_cast-result g c = omega (arith, kept_bound _ _ _ _ _ _ (omega arith) (omega arith) c.requires.0 (cut c))

pub overflow_add-result : goal.overflow_add-result
overflow_add-result g c =
    omega (arith, product_bound _ _ _ _ _ _ (omega arith) (omega arith) c.requires.0 c.requires.2 (cut c), kept_bound _ _ _ _ _ _ (omega arith) (omega arith) c.requires.0 (cut c))

pub returns : goal.returns
returns g c = near_is_cut _ _ _ _ _ _ (omega arith) c.requires.0 (cut c)

-- One word's effect on one lane, over any ten rules of a unit.
use Rattle.std.specs.Prelude.{ℕ, ◌-◌, ◌*◌, cond, List, ℤ, pos, ◌*ℤ◌, ◌==◌, nat_lt, slice_index, slice_set}
use Rattle.units.specs.Rules.{Rules}
use Rattle.operations.specs.declared.Binary.{Binary}
use Rattle.operations.specs.declared.Binary.TheVariants.{Add, Sub, Mul, Div}
use Rattle.operations.specs.declared.Unary.{Unary}
use Rattle.operations.specs.declared.Unary.TheVariants.{Floor, Abs, Sqrt}
use Rattle.program.specs.declared.word.Instruction.{Instruction}
use Rattle.program.specs.declared.word.Instruction.TheVariants as ins

-- what a dispatch gives to all lanes: x and y, and the settings, which are registers 3 to 15
pub record Frame : Type 0 where
  pub x : ℤ
  pub y : ℤ
  pub settings : List ℕ

-- What the lane i reads in a register. Registers 0, 1, 2 and 16 hold number of 65,536 times 0, y, x and the lane's index; 17 to 31 are the
-- lane's own.
abbrev pub source : Rules → Frame → ℕ → List ℕ → ℕ → ℕ
source u f i own r =
    cond (r == 0) (u.number (pos 0))
    (cond (r == 1) (u.number (pos 65536 *ℤ f.y))
    (cond (r == 2) (u.number (pos 65536 *ℤ f.x))
    (cond (nat_lt r 16) (slice_index f.settings (r - 3))
    (cond (r == 16) (u.number (pos (65536 * i))) (slice_index own (r - 17))))))

-- the destination d is register 16 + d, and 0 discards
abbrev pub kept : ℕ → ℕ → List ℕ → List ℕ
kept d v own = cond (d == 0) own (slice_set own (d - 1) v)

abbrev pub binary : Rules → Binary → ℕ → ℕ → ℕ
binary u Add = u.add
binary u Sub = u.sub
binary u Mul = u.mul
binary u Div = u.div

abbrev pub unary : Rules → Unary → ℕ → ℕ
unary u Floor = u.floor
unary u Abs = u.abs
unary u Sqrt = u.sqrt

-- the lane's own registers after an instruction
unfoldable pub obeyed : Rules → Frame → ℕ → Instruction → List ℕ → List ℕ
obeyed u f i (ins.Binary o d a b) own = kept d (binary u o (source u f i own a) (source u f i own b)) own
obeyed u f i (ins.Unary o d a) own = kept d (unary u o (source u f i own a)) own
obeyed u f i (ins.Cmov d a b) own = cond (u.negative (source u f i own b)) (kept d (source u f i own a) own) own
obeyed u f i ins.Done own = own
obeyed u f i (ins.Bltz a d) own = own
obeyed u f i (ins.Setx n) own = own
obeyed u f i (ins.Loop t) own = own

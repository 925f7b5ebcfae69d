-- A lane's run alone, with real jumps and an X of its own.
use Rattle.std.specs.Prelude.{◌≡◌, ℕ, zero, suc, ◌-◌, cond, List, ◌≢◌, nat_lt}
use Rattle.units.specs.Rules.{Rules}
use Rattle.program.specs.declared.word.Instruction.{Instruction}
use Rattle.program.specs.declared.word.Instruction.TheVariants as ins
use Rattle.program.specs.Rules.{At}
use Rattle.lanes.specs.Lanes.{Frame, source, obeyed}

-- the address, X and the lane's own registers
pub record Alone : Type 0 where
  pub at : ℕ
  pub x : ℕ
  pub own : List ℕ

-- a run starts at address 0 with X = 0
abbrev pub begins : List ℕ → Alone
begins own = record { at = 0; x = 0; own = own }

-- the address after an instruction
abbrev pub next : Rules → Frame → ℕ → Instruction → Alone → ℕ
next u f i (ins.Binary o d a b) s = suc s.at
next u f i (ins.Unary o d a) s = suc s.at
next u f i (ins.Cmov d a b) s = suc s.at
next u f i ins.Done s = suc s.at
next u f i (ins.Bltz a d) s = cond (u.negative (source u f i s.own a)) d (suc s.at)
next u f i (ins.Setx n) s = suc s.at
next u f i (ins.Loop t) s = cond (nat_lt 0 s.x) t (suc s.at)

-- X after an instruction
abbrev pub counted : Instruction → ℕ → ℕ
counted (ins.Binary o d a b) x = x
counted (ins.Unary o d a) x = x
counted (ins.Cmov d a b) x = x
counted ins.Done x = x
counted (ins.Bltz a d) x = x
counted (ins.Setx n) x = n
counted (ins.Loop t) x = x - 1

unfoldable pub stepped : Rules → Frame → ℕ → Instruction → Alone → Alone
unfolding obeyed
stepped u f i w s = record { at = next u f i w s; x = counted w s.x; own = obeyed u f i w s.own }

-- k words lead from the first state to the last; none of them is done
pub data Runs (words : List ℕ) (u : Rules) (f : Frame) (i : ℕ) (first : Alone) : ℕ → Alone → Type 0 where
  none : Runs words u f i first zero first
  then : (k : ℕ) (s : Alone) (w : Instruction) → Runs words u f i first k s → At words s.at w → (w ≢ ins.Done) → Runs words u f i first (suc k) (stepped u f i w s)

-- The run of lane i alone ends after so many steps, done included, with these registers.
pub record Ends (words : List ℕ) (u : Rules) (f : Frame) (i : ℕ) (own : List ℕ) (steps : ℕ) (left : List ℕ) : Type 0 where
  pub before : ℕ
  pub last : Alone
  pub runs : Runs words u f i (begins own) before last
  pub done : At words last.at ins.Done
  pub steps_are : steps ≡ suc before
  pub left_are : left ≡ last.own

-- What an instruction does to X, to the core's address and to a lane.
use Rattle.std.proofs.Common.{◌≡◌, ℕ, suc, ◌<◌, ltb, ◌⊎◌, List, length, refl, inl, inr, arith}
use Rattle.std.proofs.lemmas.Bool.{cases_Bool, cond-true, cond-false, cond_both}
use Rattle.units.specs.Rules.{Rules}
use Rattle.program.specs.declared.word.Instruction.{Instruction}
use Rattle.program.specs.declared.word.Instruction.TheVariants as ins
use Rattle.program.specs.Rules.{At, Accepted}
use Rattle.program.proofs.Facts.{Plain, Kind, plain, is_setx, is_loop}
use Rattle.program.proofs.Scans.{loop_looped}
use Rattle.lanes.specs.Lanes.{Frame, source}
use Rattle.lanes.specs.Alone.{Alone, next, counted}
use Rattle.lanes.specs.Together.{woken, onward}

-- the lane goes on behind the word
abbrev Steps : Rules → Frame → ℕ → Instruction → Alone → ℕ → Type 0
Steps u f i w s wake = (next u f i w s ≡ suc s.at) × (woken u f i w s.own wake ≡ wake)

-- the word is a branch, and the lane takes it
abbrev Takes : Rules → Frame → ℕ → Instruction → Alone → ℕ → Type 0
Takes u f i w s wake = (a : ℕ) × (d : ℕ) × (w ≡ ins.Bltz a d) × (next u f i w s ≡ d) × (woken u f i w s.own wake ≡ d)

-- X stays, and the core goes to the next word
pub record Still (w : Instruction) : Type 0 where
  pub x_kept : (x : ℕ) → counted w x ≡ x
  pub goes_on : (x p : ℕ) → onward w x p ≡ suc p
  pub lane : (u : Rules) (f : Frame) (i : ℕ) (s : Alone) (wake : ℕ) → Steps u f i w s wake ⊎ Takes u f i w s wake

branch_lane : (a d : ℕ) (u : Rules) (f : Frame) (i : ℕ) (s : Alone) (wake : ℕ) → Steps u f i (ins.Bltz a d) s wake ⊎ Takes u f i (ins.Bltz a d) s wake
branch_lane a d u f i s wake = elim (cases_Bool (u.negative (source u f i s.own a))) [
  | inl t ↦ inr (a, d, refl, cond-true _ d (suc s.at) t, cond-true _ d wake t)
  | inr t ↦ inl (cond-false _ d (suc s.at) t, cond-false _ d wake t)
]

still_by : (w : Instruction) → Plain w → Still w
still_by (ins.Binary o d a b) g = record { x_kept = λ x. refl; goes_on = λ x p. refl; lane = λ u f i s wake. inl (refl, refl) }
still_by (ins.Unary o d a) g = record { x_kept = λ x. refl; goes_on = λ x p. refl; lane = λ u f i s wake. inl (refl, refl) }
still_by (ins.Cmov d a b) g = record { x_kept = λ x. refl; goes_on = λ x p. refl; lane = λ u f i s wake. inl (refl, refl) }
still_by ins.Done g = record { x_kept = λ x. refl; goes_on = λ x p. refl; lane = λ u f i s wake. inl (refl, refl) }
still_by (ins.Bltz a d) g = record { x_kept = λ x. refl; goes_on = λ x p. refl; lane = branch_lane a d }
still_by (ins.Setx n) g = absurd (g.no_setx n refl)
still_by (ins.Loop t) g = absurd (g.no_loop t refl)

pub still : {w : Instruction} → Plain w → Still w
still {w} g = still_by w g

-- the core goes to an address of the program
pub onward_within : {words : List ℕ} {p : ℕ} {w : Instruction} → Accepted words → (x : ℕ) → Kind w → At words p w → suc p < length words → onward w x p < length words
onward_within {p} ok x (plain g) a l = omega (arith, (still g).goes_on x p)
onward_within ok x (is_setx n) a l = l
onward_within {words} {p} ok x (is_loop t) a l =
    let (s, n, g) = loop_looped ok a in
    cond_both (ltb 0 x) t (suc p) (λ q. q < length words) (λ _. omega (arith, g.backward)) (λ _. l)

-- A lane's run alone ends, in one way only, and within the slot limit.
use Rattle.std.proofs.Common.{◌≡◌, ℕ, zero, suc, ◌+◌, ◌<◌, ◌≤◌, List, length, sym, refl, ap, subst, inl, inr, eq-or-lt_of_le, arith}
use Rattle.std.proofs.lemmas.Bool.{cases_order}
use Rattle.units.specs.Rules.{Rules}
use Rattle.program.specs.declared.word.Instruction.{Instruction}
use Rattle.program.specs.declared.word.Instruction.TheVariants as ins
use Rattle.program.specs.Rules.{At, Accepted}
use Rattle.program.specs.Limits.{Limit}
use Rattle.program.proofs.Facts.{at_one, Kind, plain, is_setx, is_loop, kind, done?, accepted_some, placed, not_last, branch_forward}
use Rattle.lanes.specs.Lanes.{Frame}
use Rattle.lanes.specs.Alone.{Alone, begins, next, stepped, Runs, none, then, Ends}
use Rattle.lanes.specs.Agreement.{EndsOnce}
use Rattle.lanes.proofs.Sorts.{still, onward_within}
use Rattle.lanes.proofs.Potential.{Bound, bound_start, bound_pos, lone_falls}

-- ---- one way only

module _ {words : List ℕ} {u : Rules} {f : Frame} {i : ℕ} where
  pub runs_one : {first : Alone} {k : ℕ} {s s' : Alone} → Runs words u f i first k s → Runs words u f i first k s' → s ≡ s'
  runs_one none none = refl
  runs_one (then k s w r a d) (then k' s' w' r' a' d') =
      let e : s ≡ s' = runs_one r r' in
      let e' : w ≡ w' = at_one (ap (λ (z : Alone). z.at) e) a a' in
      cc

  -- a longer run goes on from where a shorter one stands
  runs_split : {first : Alone} {k k' : ℕ} {s' : Alone} → Runs words u f i first k' s' → k < k' → (s : Alone) × (w : Instruction) × Runs words u f i first k s × At words s.at w × (w ≡ ins.Done → ⊥)
  runs_split none l = absurd (omega arith)
  runs_split {first} {k} (then j s w r a d) l = elim (eq-or-lt_of_le {n = k} {m = j} (omega arith)) [
    | inl e ↦ (s, w, subst (λ (m : ℕ). Runs words u f i first m s) (sym e) r, a, d)
    | inr l' ↦ runs_split r l'
  ]

  runs_stop : {first : Alone} {k k' : ℕ} {s s' : Alone} → Runs words u f i first k s → At words s.at ins.Done → Runs words u f i first k' s' → k < k' → ⊥
  runs_stop {s} r a r' l =
      let (z, w, q, b, d) = runs_split r' l in
      let e : z ≡ s = runs_one q r in
      d (at_one (ap (λ (y : Alone). y.at) e) b a)

  pub ends_one : {own : List ℕ} {k k' : ℕ} {r r' : List ℕ} → Ends words u f i own k r → Ends words u f i own k' r' → (k ≡ k') × (r ≡ r')
  ends_one {own} g h = elim (cases_order g.before h.before) [
    | inl e ↦
        let e' : g.last ≡ h.last = runs_one (subst (λ (m : ℕ). Runs words u f i (begins own) m g.last) e g.runs) h.runs in
        (cc, cc)
    | inr (inl l) ↦ absurd (runs_stop g.runs g.done h.runs l)
    | inr (inr l) ↦ absurd (runs_stop h.runs h.done g.runs l)
  ]

-- ---- the end is reached

-- k steps and the one at done lead to the end
pub record Reached (words : List ℕ) (u : Rules) (f : Frame) (i : ℕ) (first : Alone) (most : ℕ) : Type 0 where
  pub before : ℕ
  pub last : Alone
  pub runs : Runs words u f i first before last
  pub done : At words last.at ins.Done
  pub within : suc before ≤ most

module _ {words : List ℕ} {limit : ℕ} (ok : Accepted words) (lim : Limit words limit) where
  next_within : {w : Instruction} (u : Rules) (f : Frame) (i : ℕ) (s : Alone) → Kind w → At words s.at w → suc s.at < length words → next u f i w s < length words
  next_within u f i s (plain g) a l = elim ((still g).lane u f i s 0) [
    | inl (e, _) ↦ omega arith
    | inr (r, d, w-is, e, _) ↦ omega (arith, (branch_forward ok (subst (At words s.at) w-is a)).1)
  ]
  next_within u f i s (is_setx n) a l = l
  next_within u f i s (is_loop t) a l = onward_within ok s.x (is_loop t) a l

  reach_by : (u : Rules) (f : Frame) (i : ℕ) (first : Alone) (v k : ℕ) (s : Alone) (w : Instruction) → Runs words u f i first k s → At words s.at w → Bound words lim.weights s.at s.x (suc v)
      → ((s : Alone) → Runs words u f i first (suc k) s → s.at < length words → Bound words lim.weights s.at s.x v → Reached words u f i first (suc k + v)) → Reached words u f i first (k + suc v)
  unfolding stepped
  reach_by u f i first v k s w r a b more = elim (done? w) [
    | inl e ↦ record { before = k; last = s; runs = r; done = subst (At words s.at) e a; within = omega arith }
    | inr d ↦
        let e : suc k + v ≡ k + suc v = omega arith in
        subst (Reached words u f i first) e
        (more (stepped u f i w s) (then k s w r a d) (next_within u f i s (kind w) a (not_last ok a d)) (lone_falls ok lim u f i s (kind w) a b))
  ]

  reach : (u : Rules) (f : Frame) (i : ℕ) (first : Alone) (v k : ℕ) (s : Alone) → Runs words u f i first k s → s.at < length words → Bound words lim.weights s.at s.x v → Reached words u f i first (k + v)
  reach u f i first zero k s r l b = absurd (omega (arith, bound_pos ok lim l b))
  reach u f i first (suc v) k s r l b =
      let (w, a) = placed ok s.at l in
      reach_by u f i first v k s w r a b (reach u f i first v (suc k))

  pub ends_once : (u : Rules) (f : Frame) (i : ℕ) (own : List ℕ) → EndsOnce words limit u f i own
  ends_once u f i own =
      let r = reach u f i (begins own) limit 0 (begins own) none (accepted_some ok) (bound_start ok lim) in
      let e : Ends words u f i own (suc r.before) r.last.own = record { before = r.before; last = r.last; runs = r.runs; done = r.done; steps_are = refl; left_are = refl } in
      record { steps = suc r.before; left = r.last.own; ends = e; within = omega (arith, r.within); one = λ k l g. ends_one g e }

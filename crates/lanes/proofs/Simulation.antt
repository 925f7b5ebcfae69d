-- Before each fetch every lane stands where its run alone stands: at the core's address if it is awake, else at its wake address.
use Rattle.std.proofs.Common.{◌≡◌, ℕ, suc, ◌-◌, ◌<◌, ◌≤◌, max, cond, ltb, List, [], length, get_or, sym, refl, ap, ◌∙◌, subst, subst₂, inl, inr, arith}
use lib.ListN.{length-replicate, get_or-replicate}
use Rattle.std.proofs.lemmas.Bool.{cases_lt, cond-true, cond-false, cond_both, lt-ltb, le-ltb}
use Rattle.units.specs.Rules.{Rules}
use Rattle.program.specs.declared.word.Instruction.{Instruction}
use Rattle.program.specs.declared.word.Instruction.TheVariants as ins
use Rattle.program.specs.Rules.{At, Accepted}
use Rattle.program.proofs.Facts.{Plain, Kind, plain, is_setx, is_loop, kind, Outside, accepted_some, branch_forward, branch_outside}
use Rattle.program.proofs.Live.{Live, Reaches, earlier, dead_at_setx, reaches_next, branch_reaches, live_at_loop}
use Rattle.lanes.specs.Lanes.{Frame, obeyed}
use Rattle.lanes.specs.Alone.{Alone, begins, next, counted, stepped, Runs, none, then}
use Rattle.lanes.specs.Together.{Together, wake_of, own_of, Awake, starts, FetchAt, stays, moves, woken, onward, LaneFetch, obeys, sleeps, Fetch, Fetches}
use Rattle.lanes.specs.Together as all
use Rattle.lanes.proofs.Ranges.{total, total_grows}
use Rattle.lanes.proofs.Sorts.{still}

-- The lane i with a wake address and registers, the core at an address with an X, after j steps of the lane's run alone.
pub record Lane (words : List ℕ) (u : Rules) (f : Frame) (i : ℕ) (start : List ℕ) (at x wake : ℕ) (own : List ℕ) (j : ℕ) : Type 0 where
  pub alone : Alone
  pub runs : Runs words u f i (begins start) j alone
  pub own_is : alone.own ≡ own
  pub at_is : alone.at ≡ max at wake
  pub x_is : Live words alone.at → alone.x ≡ x
  pub reaches : Reaches words at alone.at
  pub within : wake < length words
  pub outside : Outside words wake

-- the steps of a lane's run alone after a fetch at p
abbrev steps_on : ℕ → ℕ → ℕ → ℕ
steps_on p wake j = cond (ltb p wake) j (suc j)

module _ {words : List ℕ} (ok : Accepted words) (u : Rules) (f : Frame) (i : ℕ) (start : List ℕ) where
  -- the core goes on to an address that the lane does not sleep through
  lane_moved : {at p x wake j : ℕ} {own : List ℕ} → at ≤ p → max p wake ≡ max at wake → Lane words u f i start at x wake own j → Lane words u f i start p x wake own j
  lane_moved l e g = record { alone = g.alone; runs = g.runs; own_is = g.own_is; at_is = omega (arith, g.at_is); x_is = g.x_is; reaches = λ h. omega (arith, g.reaches h); within = g.within; outside = g.outside }

  -- the lane one step on, at q
  lane_at : {at x wake j : ℕ} (s : Alone) (w : Instruction) (q : ℕ) → Runs words u f i (begins start) j s → At words s.at w → (w ≡ ins.Done → ⊥)
      → next u f i w s ≡ q → q ≡ max at wake → (Live words q → counted w s.x ≡ x) → Reaches words at q → wake < length words → Outside words wake
      → Lane words u f i start at x wake (obeyed u f i w s.own) (suc j)
  unfolding stepped
  lane_at {at} {x} {wake} {j} s w q r a d e m same reach l o =
      record { alone = stepped u f i w s; runs = then j s w r a d; own_is = refl; at_is = e ∙ m; x_is = subst (λ (y : ℕ). Live words y → counted w s.x ≡ x) (sym e) same; reaches = subst (Reaches words at) (sym e) reach; within = l; outside = o }

  -- ---- a lane that is awake

  awake_still : {x wake j : ℕ} (s : Alone) {w : Instruction} → Plain w → Runs words u f i (begins start) j s → At words s.at w → (w ≡ ins.Done → ⊥)
      → wake ≤ s.at → (Live words s.at → s.x ≡ x) → wake < length words → Outside words wake
      → Lane words u f i start (suc s.at) x (woken u f i w s.own wake) (obeyed u f i w s.own) (suc j)
  awake_still {x} {wake} {j} s {w} g r a d b same l o = elim ((still g).lane u f i s wake) [
    | inl (e, e') ↦ rw e' (lane_at s w (suc s.at) r a d e (omega arith) (λ h. (still g).x_kept s.x ∙ same (earlier h (reaches_next a g.no_setx h) (omega arith))) (λ h. h.after) l o)
    | inr (c, t, w-is, e, e') ↦
        let k : At words s.at (ins.Bltz c t) = subst (At words s.at) w-is a in
        let (o', l') = branch_forward ok k in
        rw e' (lane_at s w t r a d e (omega arith) (λ h. (still g).x_kept s.x ∙ same (earlier h (branch_reaches ok k h) (omega arith))) (λ h. omega (arith, branch_reaches ok k h)) l' (branch_outside ok k))
  ]

  awake_loop : {wake j t : ℕ} (x : ℕ) (s : Alone) → Runs words u f i (begins start) j s → At words s.at (ins.Loop t)
      → wake ≤ s.at → (Live words s.at → s.x ≡ x) → wake < length words → Outside words wake
      → Lane words u f i start (cond (ltb 0 x) t (suc s.at)) (x - 1) wake (obeyed u f i (ins.Loop t) s.own) (suc j)
  awake_loop {wake} {j} {t} x s r a b same l o =
      let (h, e, e') = live_at_loop ok a in
      let same-x : s.x ≡ x = same h in
      let low : wake ≤ t = elim (cases_lt t wake) [ inl c ↦ absurd (o s.at t a c b) | inr c ↦ c ] in
      let up : wake ≤ cond (ltb 0 x) t (suc s.at) = cond_both (ltb 0 x) t (suc s.at) (λ q. wake ≤ q) (λ _. low) (λ _. omega arith) in
      lane_at s (ins.Loop t) (cond (ltb 0 x) t (suc s.at)) r a (λ z. grind arith) (ap (λ (y : ℕ). cond (ltb 0 y) t (suc s.at)) same-x) (omega arith) (λ _. ap (λ (y : ℕ). y - 1) same-x) (λ k. k.after) l o

  awake_at : {x wake j : ℕ} (s : Alone) {w : Instruction} → Kind w → Runs words u f i (begins start) j s → At words s.at w → (w ≡ ins.Done → ⊥)
      → wake ≤ s.at → (Live words s.at → s.x ≡ x) → wake < length words → Outside words wake
      → Lane words u f i start (onward w x s.at) (counted w x) (woken u f i w s.own wake) (obeyed u f i w s.own) (suc j)
  awake_at {x} {wake} {j} s {w} (plain g) r a d b same l o =
      subst₂ (λ (q y : ℕ). Lane words u f i start q y (woken u f i w s.own wake) (obeyed u f i w s.own) (suc j)) (sym ((still g).goes_on x s.at)) (sym ((still g).x_kept x))
      (awake_still s g r a d b same l o)
  awake_at s (is_setx n) r a d b same l o = lane_at s (ins.Setx n) (suc s.at) r a d refl (omega arith) (λ _. refl) (λ h. h.after) l o
  awake_at {x} s (is_loop t) r a d b same l o = awake_loop x s r a b same l o

  lane_obeys : {p x wake j : ℕ} {own : List ℕ} {w : Instruction} → At words p w → (w ≡ ins.Done → ⊥) → wake ≤ p → Lane words u f i start p x wake own j
      → Lane words u f i start (onward w x p) (counted w x) (woken u f i w own wake) (obeyed u f i w own) (suc j)
  lane_obeys {p} {x} {wake} {j} {own} {w} a d b g =
      let e : g.alone.at ≡ p = omega (arith, g.at_is) in
      subst₂ (λ (q : ℕ) (r : List ℕ). Lane words u f i start (onward w x q) (counted w x) (woken u f i w r wake) (obeyed u f i w r) (suc j)) e g.own_is
      (awake_at g.alone (kind w) g.runs (subst (λ (q : ℕ). At words q w) (sym e) a) d (omega arith) g.x_is g.within g.outside)

  -- ---- a lane that sleeps

  -- the core at q, with the X y, where the lane sleeps on
  lane_asleep : {p x wake j : ℕ} {own : List ℕ} (q y : ℕ) → p < wake → q ≤ wake → (Live words wake → (x ≡ y) × (p ≤ q)) → Lane words u f i start p x wake own j → Lane words u f i start q y wake own j
  lane_asleep {p} {x} {wake} {j} {own} q y b l same g =
      let e : g.alone.at ≡ wake = omega (arith, g.at_is) in
      record {
        alone = g.alone;
        runs = g.runs;
        own_is = g.own_is;
        at_is = omega (arith, g.at_is);
        x_is = λ h. g.x_is h ∙ (same (subst (Live words) e h)).0;
        reaches = λ h. omega (arith, g.reaches h, (same (subst (Live words) e h)).1);
        within = g.within;
        outside = g.outside;
      }

  sleeps_at : {p x wake j : ℕ} {own : List ℕ} {w : Instruction} → Kind w → At words p w → p < wake → Lane words u f i start p x wake own j → Lane words u f i start (onward w x p) (counted w x) wake own j
  sleeps_at {p} {x} {wake} {j} {own} {w} (plain k) a b g =
      lane_asleep (onward w x p) (counted w x) b (omega (arith, (still k).goes_on x p)) (λ h. (sym ((still k).x_kept x), omega (arith, (still k).goes_on x p))) g
  sleeps_at {p} {x} {wake} {j} {own} (is_setx n) a b g =
      let e : wake ≡ g.alone.at = omega (arith, g.at_is) in
      lane_asleep (suc p) n b b (λ h. absurd (let r = subst (Reaches words p) (sym e) g.reaches h in dead_at_setx a (earlier h r (omega arith)))) g
  sleeps_at {p} {x} {wake} {j} {own} (is_loop t) a b g =
      let e : wake ≡ g.alone.at = omega (arith, g.at_is) in
      let (k, e₁, e₂) = live_at_loop ok a in
      lane_asleep (cond (ltb 0 x) t (suc p)) (x - 1) b
      (cond_both (ltb 0 x) t (suc p) (λ q. q ≤ wake) (λ _. omega (arith, k.looped.backward)) (λ _. b))
      (λ h. absurd (let r = subst (Reaches words p) (sym e) g.reaches h in h.looped.alone p t r (omega (arith, h.upto)) a)) g

  -- ---- one fetch

  lane_fetched : {p x wake wake' j : ℕ} {own own' : List ℕ} {w : Instruction} → LaneFetch u f i p w wake own wake' own' → At words p w → (w ≡ ins.Done → ⊥) → Lane words u f i start p x wake own j
      → Lane words u f i start (onward w x p) (counted w x) wake' own' (steps_on p wake j)
  lane_fetched {p} {x} {j} {w} (obeys wake own b) a d g = rw (cond-false (ltb p wake) j (suc j) (le-ltb p wake b)) (lane_obeys a d b g)
  lane_fetched {p} {x} {j} {w} (sleeps wake own b) a d g = rw (cond-true (ltb p wake) j (suc j) (lt-ltb p wake b)) (sleeps_at (kind w) a b g)

-- ---- all lanes

-- k fetches have led to the state s
pub record Sim (words : List ℕ) (u : Rules) (f : Frame) (lanes : List (List ℕ)) (k : ℕ) (s : Together) : Type 0 where
  pub steps : ℕ → ℕ
  pub lane : (i : ℕ) → i < 16 → Lane words u f i (get_or lanes i []) s.at s.x (wake_of s i) (own_of s i) (steps i)
  pub longest : (i : ℕ) → i < 16 → steps i ≤ k
  pub all : k ≤ total steps 16
  pub wakes_are : length s.wakes ≡ 16
  pub lanes_are : length s.lanes ≡ 16

-- some lane is awake at a fetch
pub fetch_some : {s : Together} {p : ℕ} → FetchAt s p → (i : ℕ) × (i < 16) × Awake s p i
fetch_some (stays i l a) = (i, l, a)
fetch_some (moves i l f g) = (i, l, omega arith)

-- the fetch is where the core stands or behind it, and no lane sleeps up to an address between
fetch_place : {s : Together} {p : ℕ} → FetchAt s p → (i : ℕ) → i < 16 → (s.at ≤ p) × (max p (wake_of s i) ≡ max s.at (wake_of s i))
fetch_place (stays j l a) i b = (omega arith, refl)
fetch_place (moves j l f g) i b = (omega (arith, f j l), omega (arith, f i b, g i b))

module _ {words : List ℕ} (ok : Accepted words) (u : Rules) (f : Frame) (lanes : List (List ℕ)) where
  sim_start : length lanes ≡ 16 → Sim words u f lanes 0 (starts lanes)
  sim_start e = record {
    steps = λ _. 0;
    lane = λ i l.
        let z : wake_of (starts lanes) i ≡ 0 = get_or-replicate 16 i 0 0 l in
        record { alone = begins (get_or lanes i []); runs = none; own_is = refl; at_is = omega arith; x_is = λ _. refl; reaches = λ h. h.after; within = omega (arith, accepted_some ok); outside = λ k t a b c. omega arith };
    longest = λ i l. omega arith;
    all = omega arith;
    wakes_are = length-replicate {A = ℕ} 16 0;
    lanes_are = e;
  }

  -- the lanes at the address of the fetch
  pub sim_place : {k p : ℕ} {s : Together} (m : Sim words u f lanes k s) → FetchAt s p → (i : ℕ) → i < 16 → Lane words u f i (get_or lanes i []) p s.x (wake_of s i) (own_of s i) (m.steps i)
  sim_place m a i l = let (b, e) = fetch_place a i l in lane_moved ok u f i (get_or lanes i []) b e (m.lane i l)

  sim_more : {k p : ℕ} {w : Instruction} {s s' : Together} → Sim words u f lanes k s → Fetch words u f s p w s' → Sim words u f lanes (suc k) s'
  sim_more {k} {p} {w} {s} {s'} m c =
      let on : ℕ → ℕ = λ i. steps_on p (wake_of s i) (m.steps i) in
      let (i₀, l₀, a₀) = fetch_some c.address in
      let grows : m.steps i₀ < on i₀ = omega (arith, cond-false (ltb p (wake_of s i₀)) (m.steps i₀) (suc (m.steps i₀)) (le-ltb p (wake_of s i₀) a₀)) in
      let kept : (i : ℕ) → i < 16 → m.steps i ≤ on i = λ i l. cond_both (ltb p (wake_of s i)) (m.steps i) (suc (m.steps i)) (λ j. m.steps i ≤ j) (λ _. omega arith) (λ _. omega arith) in
      record {
        steps = on;
        lane = λ i l. subst₂ (λ (q y : ℕ). Lane words u f i (get_or lanes i []) q y (wake_of s' i) (own_of s' i) (on i)) (sym c.at_is) (sym c.x_is)
            (lane_fetched ok u f i (get_or lanes i []) (c.lane i l) c.word c.goes_on (sim_place m c.address i l));
        longest = λ i l. cond_both (ltb p (wake_of s i)) (m.steps i) (suc (m.steps i)) (λ j. j ≤ suc k) (λ _. omega (arith, m.longest i l)) (λ _. omega (arith, m.longest i l));
        all = omega (arith, m.all, total_grows m.steps on 16 i₀ kept l₀ grows);
        wakes_are = c.wakes_are ∙ m.wakes_are;
        lanes_are = c.lanes_are ∙ m.lanes_are;
      }

  pub sim : {k : ℕ} {s : Together} → length lanes ≡ 16 → Fetches words u f (starts lanes) k s → Sim words u f lanes k s
  sim e all.none = sim_start e
  sim e (all.then k p w s s' r c) = sim_more (sim e r) c

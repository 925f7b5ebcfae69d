-- The lockstep run ends within the slot limit, and agrees with the lanes' runs alone.
use Rattle.std.proofs.Common.{◌≡◌, ℕ, zero, suc, ◌+◌, ◌<◌, ◌≤◌, List, [], map, length, get_or, sym, refl, subst, inl, inr, arith}
use Rattle.std.specs.List.{range_with_len}
use Rattle.std.proofs.lemmas.List.FromFn.{length-map-range_with_len, get_or-map-range_with_len}
use Rattle.units.specs.Rules.{Rules}
use Rattle.program.specs.declared.word.Instruction.{Instruction}
use Rattle.program.specs.declared.word.Instruction.TheVariants as ins
use Rattle.program.specs.Rules.{At, Accepted}
use Rattle.program.specs.Limits.{Limit}
use Rattle.program.proofs.Facts.{kind, done?, accepted_some, placed, done_last, not_last}
use Rattle.program.proofs.Live.{Reaches}
use Rattle.lanes.specs.Lanes.{Frame}
use Rattle.lanes.specs.Alone.{Ends}
use Rattle.lanes.specs.Together.{Together, wake_of, own_of, Awake, starts, FetchAt, stays, moves, Fetches, none, then, Finishes}
use Rattle.lanes.specs.Agreement.{Agrees, AwakeAtFetches, LanesAgree}
use Rattle.lanes.proofs.Ranges.{total_grows}
use Rattle.lanes.proofs.Sorts.{onward_within}
use Rattle.lanes.proofs.Potential.{Bound, bound_start, bound_pos, bound_more, forward, core_falls}
use Rattle.lanes.proofs.Single.{ends_once}
use Rattle.lanes.proofs.Simulation.{Sim, sim, sim_place, fetch_some}
use Rattle.lanes.proofs.Lockstep.{finishes_one, fetch_at, fetched, fetches}

module _ {words : List ℕ} {limit : ℕ} (ok : Accepted words) (lim : Limit words limit) (u : Rules) (f : Frame) (lanes : List (List ℕ)) (sixteen : length lanes ≡ 16) where
  -- ---- the bound at a fetch

  -- the address of a fetch, from where the core stands
  place_within : {k p : ℕ} {s : Together} → Sim words u f lanes k s → s.at < length words → FetchAt s p → p < length words
  place_within m l (stays i b a) = l
  place_within m l (moves i b g h) = (m.lane i b).within

  skip : {q p x v : ℕ} → Reaches words q p → q < p → p < length words → Bound words lim.weights q x v → Bound words lim.weights p x v
  skip {v = zero} r o l b = absurd (omega (arith, bound_pos ok lim (omega arith) b))
  skip {v = suc v} r o l b = bound_more (forward ok lim r o (omega arith) b)

  place_bound : {k p v : ℕ} {s : Together} → Sim words u f lanes k s → FetchAt s p → Bound words lim.weights s.at s.x v → Bound words lim.weights p s.x v
  place_bound m (stays i b a) c = c
  place_bound {s} m (moves i b g h) c =
      let lane = m.lane i b in
      let e : lane.alone.at ≡ wake_of s i = omega (arith, lane.at_is, g i b) in
      skip (subst (Reaches words s.at) e lane.reaches) (g i b) lane.within c

  -- ---- the end is reached

  record Reached (most : ℕ) : Type 0 where
    before : ℕ
    last : Together
    place : ℕ
    run : Fetches words u f (starts lanes) before last
    address : FetchAt last place
    done : At words place ins.Done
    within : suc before ≤ most

  reach_by : (v k p : ℕ) (s : Together) (w : Instruction) → Fetches words u f (starts lanes) k s → FetchAt s p → At words p w → Bound words lim.weights p s.x (suc v)
      → ((s : Together) → Fetches words u f (starts lanes) (suc k) s → s.at < length words → Bound words lim.weights s.at s.x v → Reached (suc k + v)) → Reached (k + suc v)
  reach_by v k p s w r a c b more = elim (done? w) [
    | inl e ↦ record { before = k; last = s; place = p; run = r; address = a; done = subst (At words p) e c; within = omega arith }
    | inr d ↦
        let m = sim ok u f lanes sixteen r in
        let e : suc k + v ≡ k + suc v = omega arith in
        subst Reached e
        (more (fetched u f p w s) (then k p w s (fetched u f p w s) r (fetches u f p w s m.wakes_are m.lanes_are a c d)) (onward_within ok s.x (kind w) c (not_last ok c d)) (core_falls ok lim (kind w) c b))
  ]

  reach : (v k : ℕ) (s : Together) → Fetches words u f (starts lanes) k s → s.at < length words → Bound words lim.weights s.at s.x v → Reached (k + v)
  reach zero k s r l b = absurd (omega (arith, bound_pos ok lim l b))
  reach (suc v) k s r l b =
      let m = sim ok u f lanes sixteen r in
      let (p, a) = fetch_at s in
      let (w, c) = placed ok p (place_within m l a) in
      reach_by v k p s w r a c (place_bound m a b) (reach v (suc k))

  -- ---- the lanes at done

  done_awake : {k p : ℕ} {s : Together} → Sim words u f lanes k s → At words p ins.Done → (i : ℕ) → i < 16 → Awake s p i
  done_awake m d i l = omega (arith, (m.lane i l).within, done_last ok d)

  lane_ends : {k p : ℕ} {s : Together} (m : Sim words u f lanes k s) → FetchAt s p → At words p ins.Done → (i : ℕ) → i < 16 → Ends words u f i (get_or lanes i []) (suc (m.steps i)) (own_of s i)
  lane_ends {k} {p} {s} m a d i l =
      let lane = sim_place ok u f lanes m a i l in
      let e : p ≡ lane.alone.at = omega (arith, lane.at_is, done_awake m d i l) in
      record { before = m.steps i; last = lane.alone; runs = lane.runs; done = subst (λ (q : ℕ). At words q ins.Done) e d; steps_are = refl; left_are = sym lane.own_is }

  agrees : Agrees words limit u f lanes
  agrees =
      let r = reach limit 0 (starts lanes) none (accepted_some ok) (bound_start ok lim) in
      let m = sim ok u f lanes sixteen r.run in
      let n : ℕ → ℕ = λ i. suc (m.steps i) in
      let g : Finishes words u f lanes (suc r.before) r.last.lanes = record { before = r.before; last = r.last; place = r.place; fetches = r.run; address = r.address; done = r.done; slots_are = refl; left_are = refl } in
      record {
        slots = suc r.before;
        left = r.last.lanes;
        steps = map n (range_with_len 0 16);
        finishes = g;
        within = omega (arith, r.within);
        one = λ k z h. finishes_one ok sixteen h g;
        sixteen = length-map-range_with_len n 0 16;
        alone = λ i l. subst (λ (j : ℕ). Ends words u f i (get_or lanes i []) j (own_of r.last i)) (sym (get_or-map-range_with_len n 0 16 i i 0 l (omega arith))) (lane_ends m r.address r.done i l);
        longest = λ i l. omega (arith, get_or-map-range_with_len n 0 16 i i 0 l (omega arith), m.longest i l);
        all = omega (arith, m.all, total_grows m.steps n 16 0 (λ i l. omega arith) (omega arith) (omega arith));
      }

  awake : AwakeAtFetches words u f lanes
  awake = record { some = λ k p s r a. fetch_some a; all = λ k p s r a d. done_awake (sim ok u f lanes sixteen r) d }

pub lanes_agree_lem : LanesAgree
lanes_agree_lem words limit ok lim u f = (ends_once ok lim u f, λ lanes e. (agrees ok lim u f lanes e, awake ok lim u f lanes e))

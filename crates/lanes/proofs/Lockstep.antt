-- The lockstep run has one next state only, and there always is one.
use Rattle.std.proofs.Common.{◌≡◌, ℕ, ◌<◌, cond, ltb, List, [], map, length, sym, refl, ◌∙◌, subst, subst₂, inl, inr, eq-or-lt_of_le, arith}
use Rattle.std.specs.List.{range_with_len}
use Rattle.std.proofs.lemmas.List.{ext_get_or}
use Rattle.std.proofs.lemmas.List.FromFn.{length-map-range_with_len, get_or-map-range_with_len}
use Rattle.std.proofs.lemmas.Bool.{cases_lt, cases_order, cond-true, cond-false, lt-ltb, le-ltb}
use Rattle.units.specs.Rules.{Rules}
use Rattle.program.specs.declared.word.Instruction.{Instruction}
use Rattle.program.specs.declared.word.Instruction.TheVariants as ins
use Rattle.program.specs.Rules.{At, Accepted}
use Rattle.program.proofs.Facts.{at_one}
use Rattle.lanes.specs.Lanes.{Frame, obeyed}
use Rattle.lanes.specs.Alone.{counted}
use Rattle.lanes.specs.Together.{Together, wake_of, own_of, starts, FetchAt, stays, moves, woken, onward, LaneFetch, obeys, sleeps, Fetch, Fetches, none, then, Finishes}
use Rattle.lanes.proofs.Ranges.{least}
use Rattle.lanes.proofs.Simulation.{sim}

-- ---- one way only

place_one : {s : Together} {p q : ℕ} → FetchAt s p → FetchAt s q → p ≡ q
place_one (stays i l a) (stays j m b) = refl
place_one (stays i l a) (moves j m f g) = omega (arith, f i l)
place_one (moves i l f g) (stays j m b) = omega (arith, f j m)
place_one (moves i l f g) (moves j m f' g') = omega (arith, g j m, g' i l)

lane_one : {u : Rules} {f : Frame} {i p : ℕ} {w : Instruction} {wake wake₁ wake₂ : ℕ} {own own₁ own₂ : List ℕ} → LaneFetch u f i p w wake own wake₁ own₁ → LaneFetch u f i p w wake own wake₂ own₂ → (wake₁ ≡ wake₂) × (own₁ ≡ own₂)
lane_one (obeys wake own a) (obeys wake' own' b) = (refl, refl)
lane_one (obeys wake own a) (sleeps wake' own' b) = absurd (omega arith)
lane_one (sleeps wake own a) (obeys wake' own' b) = absurd (omega arith)
lane_one (sleeps wake own a) (sleeps wake' own' b) = (refl, refl)

together_one : {s s' : Together} → s.at ≡ s'.at → s.x ≡ s'.x → s.wakes ≡ s'.wakes → s.lanes ≡ s'.lanes → s ≡ s'
together_one a x w l = λ i. record { at = a i; x = x i; wakes = w i; lanes = l i }

module _ {words : List ℕ} {u : Rules} {f : Frame} where
  fetch_same : {s s₁ s₂ : Together} {p : ℕ} {w : Instruction} → length s.wakes ≡ 16 → length s.lanes ≡ 16 → Fetch words u f s p w s₁ → Fetch words u f s p w s₂ → s₁ ≡ s₂
  fetch_same {s} {s₁} {s₂} m n g h =
      together_one (g.at_is ∙ sym h.at_is) (g.x_is ∙ sym h.x_is)
      (ext_get_or 0 s₁.wakes s₂.wakes (g.wakes_are ∙ sym h.wakes_are) (λ i l. (lane_one (g.lane i (omega (arith, g.wakes_are))) (h.lane i (omega (arith, g.wakes_are)))).0))
      (ext_get_or [] s₁.lanes s₂.lanes (g.lanes_are ∙ sym h.lanes_are) (λ i l. (lane_one (g.lane i (omega (arith, g.lanes_are))) (h.lane i (omega (arith, g.lanes_are)))).1))

  fetch_one : {s s₁ s₂ : Together} {p q : ℕ} {v w : Instruction} → length s.wakes ≡ 16 → length s.lanes ≡ 16 → Fetch words u f s p v s₁ → Fetch words u f s q w s₂ → s₁ ≡ s₂
  fetch_one {s} {s₁} {s₂} {p} {q} {v} {w} m n g h =
      let e : q ≡ p = place_one h.address g.address in
      let e' : w ≡ v = at_one e h.word g.word in
      fetch_same m n g (subst₂ (λ (a : ℕ) (y : Instruction). Fetch words u f s a y s₂) e e' h)

module _ {words : List ℕ} (ok : Accepted words) {u : Rules} {f : Frame} {lanes : List (List ℕ)} (sixteen : length lanes ≡ 16) where
  fetches_one : {k : ℕ} {s s' : Together} → Fetches words u f (starts lanes) k s → Fetches words u f (starts lanes) k s' → s ≡ s'
  fetches_one none none = refl
  fetches_one (then k p w s z r c) (then k' p' w' s' z' r' c') =
      let m = sim ok u f lanes sixteen r in
      let e : s' ≡ s = sym (fetches_one r r') in
      fetch_one m.wakes_are m.lanes_are c (subst (λ (y : Together). Fetch words u f y p' w' z') e c')

  -- a longer run goes on from where a shorter one stands
  fetches_split : {k k' : ℕ} {s' : Together} → Fetches words u f (starts lanes) k' s' → k < k'
      → (s : Together) × (p : ℕ) × (w : Instruction) × Fetches words u f (starts lanes) k s × FetchAt s p × At words p w × (w ≡ ins.Done → ⊥)
  fetches_split none l = absurd (omega arith)
  fetches_split {k} (then j p w s s' r c) l = elim (eq-or-lt_of_le {n = k} {m = j} (omega arith)) [
    | inl e ↦ (s, p, w, subst (λ (m : ℕ). Fetches words u f (starts lanes) m s) (sym e) r, c.address, c.word, c.goes_on)
    | inr l' ↦ fetches_split r l'
  ]

  fetches_stop : {k k' p : ℕ} {s s' : Together} → Fetches words u f (starts lanes) k s → FetchAt s p → At words p ins.Done → Fetches words u f (starts lanes) k' s' → k < k' → ⊥
  fetches_stop {p} {s} r a d r' l =
      let (z, q, w, t, b, c, go) = fetches_split r' l in
      let e : z ≡ s = fetches_one t r in
      let e' : q ≡ p = place_one (subst (λ (y : Together). FetchAt y q) e b) a in
      go (at_one e' c d)

  pub finishes_one : {k k' : ℕ} {r r' : List (List ℕ)} → Finishes words u f lanes k r → Finishes words u f lanes k' r' → (k ≡ k') × (r ≡ r')
  finishes_one g h = elim (cases_order g.before h.before) [
    | inl e ↦
        let e' : g.last ≡ h.last = fetches_one (subst (λ (m : ℕ). Fetches words u f (starts lanes) m g.last) e g.fetches) h.fetches in
        (cc, cc)
    | inr (inl l) ↦ absurd (fetches_stop g.fetches g.address g.done h.fetches l)
    | inr (inr l) ↦ absurd (fetches_stop h.fetches h.address h.done g.fetches l)
  ]

-- ---- there is a next state

pub fetch_at : (s : Together) → (p : ℕ) × FetchAt s p
fetch_at s =
    let (i, l, m) = least (λ j. wake_of s j) 15 in
    elim (cases_lt s.at (wake_of s i)) [
      | inl a ↦ (wake_of s i, moves i l (λ j b. omega (arith, m j b)) m)
      | inr a ↦ (s.at, stays i l a)
    ]

module _ (u : Rules) (f : Frame) (p : ℕ) (w : Instruction) (s : Together) where
  -- a lane's wake address and registers after the fetch
  abbrev wake_on : ℕ → ℕ
  wake_on i = cond (ltb p (wake_of s i)) (wake_of s i) (woken u f i w (own_of s i) (wake_of s i))

  abbrev own_on : ℕ → List ℕ
  own_on i = cond (ltb p (wake_of s i)) (own_of s i) (obeyed u f i w (own_of s i))

  lane_on : (i : ℕ) → LaneFetch u f i p w (wake_of s i) (own_of s i) (wake_on i) (own_on i)
  lane_on i = elim (cases_lt p (wake_of s i)) [
    | inl l ↦
        let e = lt-ltb p (wake_of s i) l in
        subst₂ (LaneFetch u f i p w (wake_of s i) (own_of s i)) (sym (cond-true (ltb p (wake_of s i)) (wake_of s i) (woken u f i w (own_of s i) (wake_of s i)) e)) (sym (cond-true (ltb p (wake_of s i)) (own_of s i) (obeyed u f i w (own_of s i)) e))
        (sleeps (wake_of s i) (own_of s i) l)
    | inr l ↦
        let e = le-ltb p (wake_of s i) l in
        subst₂ (LaneFetch u f i p w (wake_of s i) (own_of s i)) (sym (cond-false (ltb p (wake_of s i)) (wake_of s i) (woken u f i w (own_of s i) (wake_of s i)) e)) (sym (cond-false (ltb p (wake_of s i)) (own_of s i) (obeyed u f i w (own_of s i)) e))
        (obeys (wake_of s i) (own_of s i) l)
  ]

  abbrev pub fetched : Together
  fetched = record { at = onward w s.x p; x = counted w s.x; wakes = map wake_on (range_with_len 0 16); lanes = map own_on (range_with_len 0 16) }

  pub fetches : {words : List ℕ} → length s.wakes ≡ 16 → length s.lanes ≡ 16 → FetchAt s p → At words p w → (w ≡ ins.Done → ⊥) → Fetch words u f s p w fetched
  fetches m n a b d = record {
    address = a;
    word = b;
    goes_on = d;
    at_is = refl;
    x_is = refl;
    wakes_are = length-map-range_with_len wake_on 0 16 ∙ sym m;
    lanes_are = length-map-range_with_len own_on 0 16 ∙ sym n;
    lane = λ i l. subst₂ (LaneFetch u f i p w (wake_of s i) (own_of s i)) (sym (get_or-map-range_with_len wake_on 0 16 i i 0 l (omega arith))) (sym (get_or-map-range_with_len own_on 0 16 i i [] l (omega arith))) (lane_on i);
  }

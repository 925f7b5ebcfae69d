-- What is left to do at an address with an X: a bound that is the slot limit at the start, and falls with every word.
use Rattle.std.proofs.Common.{◌≡◌, ℕ, zero, suc, ◌+◌, ◌-◌, ◌*◌, ◌<◌, ◌≤◌, cond, ltb, List, length, get_or, drop, sum, sym, refl, ◌∙◌, subst, ap₂, subst₂, inl, inr, suc-mul, mul_comm, zero-mul, mul-one, mul-add, add-one, arith}
use Rattle.std.proofs.lemmas.List.Sums.{sum_by-drop_more}
use Rattle.std.proofs.lemmas.Bool.{cases_lt, cases_eq, cond-true, cond-false, lt-ltb, le-ltb}
use Rattle.units.specs.Rules.{Rules}
use Rattle.program.specs.declared.word.Instruction.{Instruction}
use Rattle.program.specs.declared.word.Instruction.TheVariants as ins
use Rattle.program.specs.Rules.{At, Looped, Accepted}
use Rattle.program.specs.Limits.{InBody, Weight, Limit}
use Rattle.program.proofs.Facts.{at_one, Kind, plain, is_setx, is_loop, branch_forward}
use Rattle.program.proofs.Live.{Live, Reaches, seen_from, earlier, live_one, body_one, dead_at_setx, reaches_next, branch_reaches, live_at_loop, live?}
use Rattle.lanes.specs.Lanes.{Frame}
use Rattle.lanes.specs.Alone.{Alone, next, counted}
use Rattle.lanes.specs.Together.{onward}
use Rattle.lanes.proofs.Sorts.{still}

-- the weights from p on
pub behind : List ℕ → ℕ → ℕ
behind ws p = sum (drop p ws)

behind_all : (ws : List ℕ) → behind ws 0 ≡ sum ws
unfolding behind
behind_all ws = refl

behind_more : (ws : List ℕ) (p : ℕ) → p < length ws → behind ws p ≡ get_or ws p 0 + behind ws (suc p)
unfolding behind
behind_more ws p b = subst (λ (q : ℕ). sum (drop p ws) ≡ get_or ws p 0 + sum (drop q ws)) (add-one p) (sum_by-drop_more (λ (x : ℕ). x) ws p 0 b)

-- d weights of c or more
span : (ws : List ℕ) (c d a b : ℕ) → a + d ≡ b → b ≤ length ws → ((k : ℕ) → a ≤ k → k < b → c ≤ get_or ws k 0) → d * c + behind ws b ≤ behind ws a
span ws c zero a b e l f = let e' : b ≡ a = omega arith in rw e' (omega (arith, zero-mul c))
span ws c (suc d) a b e l f =
    omega (arith, behind_more ws a (omega arith), suc-mul d c, f a (omega arith) (omega arith), span ws c d (suc a) b (omega arith) l (λ k x y. f k (omega arith) y))

-- Where X is live the rest of the turn is left, the turns that X counts, and what is behind the loop; elsewhere the weights.
pub data Bound (words ws : List ℕ) (p x v : ℕ) : Type 0 where
  live : (h : Live words p) → suc h.loop - p + x * (suc h.loop - h.target) + behind ws (suc h.loop) ≤ v → Bound words ws p x v
  dead : (Live words p → ⊥) → behind ws p ≤ v → Bound words ws p x v

live_room : {words ws : List ℕ} {p x v : ℕ} (h : Live words p) → Bound words ws p x v → suc h.loop - p + x * (suc h.loop - h.target) + behind ws (suc h.loop) ≤ v
live_room {ws} {p} {x} {v} h (live g r) = let (_, t, l) = live_one g h in subst₂ (λ (l t : ℕ). suc l - p + x * (suc l - t) + behind ws (suc l) ≤ v) l t r
live_room h (dead f r) = absurd (f h)

dead_room : {words ws : List ℕ} {p x v : ℕ} → (Live words p → ⊥) → Bound words ws p x v → behind ws p ≤ v
dead_room f (live g r) = absurd (f g)
dead_room f (dead g r) = r

pub bound_more : {words ws : List ℕ} {p x v : ℕ} → Bound words ws p x v → Bound words ws p x (suc v)
bound_more (live h r) = live h (omega arith)
bound_more (dead f r) = dead f (omega arith)

weight_pos : {words : List ℕ} {a w : ℕ} → Weight words a w → 1 ≤ w
weight_pos (inl (n, b, e)) = omega arith
weight_pos (inr (f, e)) = omega arith

weight_body : {words : List ℕ} {a n w : ℕ} → InBody words a n → Weight words a w → n + 1 ≤ w
weight_body b (inl (n, c, e)) = omega (arith, body_one b c)
weight_body {n} b (inr (f, e)) = absurd (f n b)

module _ {words : List ℕ} {limit : ℕ} (ok : Accepted words) (lim : Limit words limit) where
  skips : (a b : ℕ) → a ≤ b → b ≤ length words → b - a + behind lim.weights b ≤ behind lim.weights a
  skips a b l m =
      let s : (b - a) * 1 + behind lim.weights b ≤ behind lim.weights a = span lim.weights 1 (b - a) a b (omega arith) (omega (arith, lim.each)) (λ k x y. weight_pos (lim.right k (omega arith))) in
      omega arith

  body : {s n t l : ℕ} → Looped words s n t l → (suc l - t) * (n + 1) + behind lim.weights (suc l) ≤ behind lim.weights t
  body {s} {n} {t} {l} g =
      span lim.weights (n + 1) (suc l - t) t (suc l) (omega (arith, g.backward)) (omega (arith, lim.each, g.loop.within)) (λ k x y.
      weight_body (record { setx = s; target = t; loop = l; looped = g; from = x; upto = omega arith }) (lim.right k (omega (arith, g.loop.within))))

  pub bound_start : Bound words lim.weights 0 0 limit
  bound_start = dead (λ h. omega (arith, h.after)) (omega (arith, lim.total, behind_all lim.weights))

  pub bound_pos : {p x v : ℕ} → p < length words → Bound words lim.weights p x v → 0 < v
  bound_pos b (live h r) = omega (arith, h.upto)
  bound_pos {p} b (dead f r) = omega (arith, behind_more lim.weights p (omega (arith, lim.each)), weight_pos (lim.right p b))

  forward_live : {p q x v : ℕ} (k : Live words q) → k.setx < p → p < q → Bound words lim.weights p x (suc v) → Bound words lim.weights q x v
  forward_live k a o b = live k (omega (arith, live_room (earlier k a (omega arith)) b, k.upto))

  forward_dead : {p q x v : ℕ} → (Live words q → ⊥) → p < q → q ≤ length words → Bound words lim.weights p x (suc v) → Bound words lim.weights q x v
  forward_dead {p} {q} f o l (dead g r) = dead f (omega (arith, skips p q (omega arith) l))
  forward_dead {p} {q} f o l (live h r) = elim (cases_lt h.loop q) [
    | inl c ↦ dead f (omega (arith, skips (suc h.loop) q c l, h.upto))
    | inr c ↦ absurd (f (seen_from h q (omega (arith, h.after)) c))
  ]

  -- a move forward that skips no setx of what is live behind it
  pub forward : {p q x v : ℕ} → Reaches words p q → p < q → q ≤ length words → Bound words lim.weights p x (suc v) → Bound words lim.weights q x v
  forward {p} {q} reach o l b = elim (live? ok q l) [
    | inl k ↦ forward_live k (reach k) o b
    | inr f ↦ forward_dead f o l b
  ]

  at_setx : {p x n v : ℕ} → At words p (ins.Setx n) → Bound words lim.weights p x (suc v) → Bound words lim.weights (suc p) n v
  at_setx {p} {x} {n} {v} a b =
      let r : behind lim.weights p ≤ suc v = dead_room (dead_at_setx a) b in
      let one : suc p - p + behind lim.weights (suc p) ≤ behind lim.weights p = skips p (suc p) (omega arith) a.within in
      elim (live? ok (suc p) a.within) [
        | inr f ↦ dead f (omega arith)
        | inl k ↦ elim (cases_eq k.setx p) [
          | inr c ↦ absurd (dead_at_setx a (earlier k (omega (arith, k.after)) (omega arith)))
          | inl e ↦
              let e' = at_one e k.looped.fed.setx a in
              let same : k.count ≡ n = cc in
              let inside : (suc k.loop - k.target) * (n + 1) + behind lim.weights (suc k.loop) ≤ behind lim.weights k.target =
              subst (λ (m : ℕ). (suc k.loop - k.target) * (m + 1) + behind lim.weights (suc k.loop) ≤ behind lim.weights k.target) same (body k.looped) in
              let c = suc k.loop - k.target in
              let parts : c * (n + 1) ≡ n * c + c = mul-add c n 1 ∙ ap₂ (λ (y z : ℕ). y + z) (mul_comm c n) (mul-one c) in
              live k (omega (arith, skips (suc p) k.target (omega (arith, k.looped.inside)) (omega (arith, k.looped.backward, k.looped.loop.within)), k.looped.backward))
        ]
      ]

  back : {p x t v : ℕ} → At words p (ins.Loop t) → Bound words lim.weights p (suc x) (suc v) → Bound words lim.weights t x v
  back {p} {x} {t} {v} a b =
      let (h, e, e') = live_at_loop ok a in
      let k = seen_from h h.target h.looped.inside h.looped.backward in
      subst (λ (q : ℕ). Bound words lim.weights q x v) e (live k (omega (arith, live_room h b, suc-mul x (suc h.loop - h.target), h.looped.backward)))

  -- ---- one word

  loop_move : {p x t v : ℕ} → At words p (ins.Loop t) → Bound words lim.weights p x (suc v) → Bound words lim.weights (cond (ltb 0 x) t (suc p)) (x - 1) v
  loop_move {p} {x = zero} {t} {v} a b =
      rw (cond-false (ltb 0 0) t (suc p) (le-ltb 0 0 (omega arith)))
      (forward (reaches_next a (λ n e. grind arith)) (omega arith) a.within b)
  loop_move {p} {x = suc x} {t} {v} a b =
      let e : x ≡ suc x - 1 = omega arith in
      rw (cond-true (ltb 0 (suc x)) t (suc p) (lt-ltb 0 (suc x) (omega arith)))
      (subst (λ (y : ℕ). Bound words lim.weights t y v) e (back a b))

  -- a word that the core obeys
  pub core_falls : {p x v : ℕ} {w : Instruction} → Kind w → At words p w → Bound words lim.weights p x (suc v) → Bound words lim.weights (onward w x p) (counted w x) v
  core_falls {p} {x} {v} {w} (plain g) a b =
      subst₂ (λ (q y : ℕ). Bound words lim.weights q y v) (sym ((still g).goes_on x p)) (sym ((still g).x_kept x))
      (forward (reaches_next a g.no_setx) (omega arith) a.within b)
  core_falls (is_setx n) a b = at_setx a b
  core_falls (is_loop t) a b = loop_move a b

  -- a word that a lane alone obeys
  pub lone_falls : {v : ℕ} {w : Instruction} (u : Rules) (f : Frame) (i : ℕ) (s : Alone) → Kind w → At words s.at w → Bound words lim.weights s.at s.x (suc v) → Bound words lim.weights (next u f i w s) (counted w s.x) v
  lone_falls {v} {w} u f i s (plain g) a b = elim ((still g).lane u f i s 0) [
    | inl (e, _) ↦
        subst₂ (λ (q y : ℕ). Bound words lim.weights q y v) (sym e) (sym ((still g).x_kept s.x))
        (forward (reaches_next a g.no_setx) (omega arith) a.within b)
    | inr (r, d, w-is, e, _) ↦
        let h : At words s.at (ins.Bltz r d) = subst (At words s.at) w-is a in
        let (o, l) = branch_forward ok h in
        subst₂ (λ (q y : ℕ). Bound words lim.weights q y v) (sym e) (sym ((still g).x_kept s.x))
        (forward (branch_reaches ok h) o (omega arith) b)
  ]
  lone_falls u f i s (is_setx n) a b = at_setx a b
  lone_falls u f i s (is_loop t) a b = loop_move a b

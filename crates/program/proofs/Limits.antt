-- The slot limit: the weights from an address on, their sum and its bound, and that there is one limit.
use Rattle.std.proofs.Common.{◌≡◌, ℕ, suc, ◌+◌, ◌-◌, ◌*◌, ◌<◌, ◌≤◌, List, [], ◌∷◌, length, get_or, set, Some, None, sum, Option, refl, inl, inr, arith}
use native.Mathlib.Nat.{sub-zero}
use Rattle.std.specs.List.{AllByRecursion}
use Rattle.std.specs.Option.{MatchOption, IsSomeAnd}
use Rattle.std.proofs.ByRecursion.{All-from_get_or, All-set, sum_by_le}
use Rattle.std.proofs.lemmas.List.{ext_get_or, length-set, get_or-set_other}
use Rattle.std.proofs.lemmas.List.Sums.{sum_by-cons, sum_by-set}
use Rattle.std.proofs.lemmas.Bool.{cases_lt, cases_eq, cases_order, cond-true, cond-false, le-leb, lt-leb}
use Rattle.program.specs.declared.limit.Body.{Body}
use Rattle.program.specs.declared.place.Setx.{Setx}
use Rattle.program.specs.declared.word.Instruction.TheVariants as ins
use Rattle.program.specs.Bodies.{Next, weight_of}
use Rattle.program.specs.Limits.{InBody, Weight, Limit}
use Rattle.program.specs.Rules.{At, Accepted}
use Rattle.program.specs.Scans.{Feeder}
use Rattle.program.proofs.Facts.{count_most, accepted_short, looped_one, setx_behind, not_last}
use Rattle.program.proofs.Live.{live_body, body_one, dead_at_setx}
use Rattle.program.proofs.Scans.{unfed_wrong, own_looped}

-- an address has one weight
weight_one : {words : List ℕ} {a w v : ℕ} → Weight words a w → Weight words a v → w ≡ v
weight_one (inl (n, p, e)) (inl (m, q, d)) = let h = body_one p q in cc
weight_one (inl (n, p, e)) (inr (none, d)) = absurd (none n p)
weight_one (inr (none, e)) (inl (m, q, d)) = absurd (none m q)
weight_one (inr (x, e)) (inr (y, d)) = cc

-- a program has one limit
pub limit_one : {words : List ℕ} {x y : ℕ} → Limit words x → Limit words y → x ≡ y
limit_one {words} p q =
    let e : p.weights ≡ q.weights = ext_get_or 0 p.weights q.weights (cc) (λ a h. let l : a < length words = omega (arith, p.each) in weight_one (p.right a l) (q.right a l)) in
    cc

weight_most : {words : List ℕ} {a w : ℕ} → Weight words a w → w ≤ 65536
weight_most (inl (n, p, e)) = omega (arith, count_most _ n p.looped.fed.setx.is)
weight_most (inr (none, e)) = omega arith

weight_least : {words : List ℕ} {a w : ℕ} → ((n : ℕ) → InBody words a n → ⊥) → Weight words a w → w ≡ 1
weight_least out (inl (n, p, e)) = absurd (out n p)
weight_least out (inr (none, e)) = e

-- the next loop gives an address its weight
next_weight : (words : List ℕ) (a : ℕ) (body : Option Body) → Next words a body → Weight words a (weight_of body a)
next_weight words a None next = inr (λ n p. next p.loop p.target p.upto p.looped.loop, refl)
next_weight words a (Some body) next =
    elim (cases_lt a body.target) [
      | inl h ↦ inr (outside h, cond-false _ _ _ (lt-leb _ _ h))
      | inr h ↦ inl (body.count, record { setx = next.setx; target = body.target; loop = next.loop; looped = next.looped; from = h; upto = next.above }, cond-true _ _ _ (le-leb _ _ h))
    ]
  where
    outside : a < body.target → (n : ℕ) → InBody words a n → ⊥
    outside h n p =
        let low = p.from in
        elim (cases_order next.loop p.loop) [
          | inl e ↦ omega (arith, (looped_one (rw e at next.looped) p.looped).2)
          | inr d ↦ elim d [ inl d ↦ omega (arith, setx_behind next.looped p.looped d, p.looped.inside, next.above) | inr d ↦ next.lowest p.loop p.target p.upto d p.looped.loop ]
        ]

-- the next loop at a loop is that loop, with its setx
module _ {words : List ℕ} {a t : ℕ} (ok : Accepted words) (loop : At words a (ins.Loop t)) where
  pub next_here : (made : Setx → Body → Type 0) → ((s : Setx) (b : Body) → made s b → (b.target ≡ t) × (b.count ≡ s.count)) → (setx : Option Setx) (body : Option Body) → Feeder words a setx → MatchOption setx (body ≡ None) (λ s. IsSomeAnd body (made s)) → Next words a body
  next_here made same (Some s) (Some b) own e = let (target, count) = same s b e in record { setx = s.address; loop = a; looped = rw (target, count) (own_looped ok loop own); above = omega arith; lowest = λ k t low high. absurd (omega arith) }
  next_here made same (Some s) None own e = absurd e
  next_here made same None body none e = absurd (ok.loops_good a (unfed_wrong loop none))

-- the weights from an address on are summed
pub record Upto (words : List ℕ) (a limit : ℕ) (body : Option Body) : Type 0 where
  pub weights : List ℕ
  pub each : length weights + a ≡ length words
  pub right : (k : ℕ) → a ≤ k → k < length words → Weight words k (get_or weights (k - a) 0)
  pub total : limit ≡ sum weights
  pub most : limit ≤ 65536 * length weights
  pub next : Next words a body

pub upto_none : (words : List ℕ) → Upto words (length words) 0 None
upto_none words = record { weights = []; each = omega arith; right = λ k low high. absurd (omega arith); total = refl; most = omega arith; next = λ k t low p. omega (arith, p.within) }

pub weight_small : (words : List ℕ) (a : ℕ) (body : Option Body) → Next words a body → weight_of body a ≤ 65536
weight_small words a body next = weight_most (next_weight words a body next)

pub upto_more : (words : List ℕ) (a b limit more : ℕ) (above body : Option Body) → b ≡ suc a → Upto words b limit above → Next words a body → more ≡ limit + weight_of body a → Upto words a more body
upto_more words a b limit more above body e p next total = record {
  weights = w ∷ p.weights;
  each = omega (arith, p.each);
  right = λ k low high. elim (cases_eq a k) [ inl h ↦ (let i : k - a ≡ 0 = omega arith in rw (i, ← h) (next_weight words a body next)) | inr h ↦ (let i : k - a ≡ suc (k - b) = omega arith in rw i (p.right k (omega arith) high)) ];
  total = omega (arith, p.total, sum_by-cons (λ x. x) w p.weights);
  most = omega (arith, p.most, weight_small words a body next);
  next = next;
}
  where
    w : ℕ
    w = weight_of body a

-- two places of a list that hold 1 take most of their share from its sum
sum_two : (ws : List ℕ) (i j : ℕ) → i < j → j < length ws → get_or ws i 0 ≡ 1 → get_or ws j 0 ≡ 1 → AllByRecursion (λ w. w ≤ 65536) ws → sum ws + 131070 ≤ length ws * 65536
sum_two ws i j lt high ei ej all =
    let xs : List ℕ = set ws i 65536 in
    let ys : List ℕ = set xs j 65536 in
    let lx = length-set ws i 65536 in
    let ly = length-set xs j 65536 in
    let same = get_or-set_other ws i j 65536 0 (λ e. omega arith) in
    omega (arith, sum_by-set (λ x. x) ws i 65536 0 (omega arith), sum_by-set (λ x. x) xs j 65536 0 (omega arith), sum_by_le (λ x. x) 65536 ys (All-set (λ w. w ≤ 65536) xs j 65536 (omega arith) (All-set (λ w. w ≤ 65536) ws i 65536 (omega arith) all)))

module _ {words : List ℕ} {limit : ℕ} (ok : Accepted words) (p : Limit words limit) where
  all_weights : (m : ℕ) → ((a w : ℕ) → Weight words a w → w ≤ m) → AllByRecursion (λ w. w ≤ m) p.weights
  all_weights m h = All-from_get_or (λ w. w ≤ m) p.weights 0 (λ i l. let k : i < length words = omega (arith, p.each) in h i _ (p.right i k))

  -- neither a setx nor the last word is in a body
  setx_out : (s m : ℕ) → At words s (ins.Setx m) → (n : ℕ) → InBody words s n → ⊥
  setx_out s m setx n b = dead_at_setx setx (live_body b)

  last_out : (a : ℕ) → suc a ≡ length words → (n : ℕ) → InBody words a n → ⊥
  last_out a last n b = omega (arith, not_last ok b.looped.loop (λ e. grind arith), b.upto)

  limit_most : (body : Option Body) → Next words 0 body → limit ≤ 134086658
  limit_most None next =
      omega (arith, p.total, p.each, accepted_short ok, sum_by_le (λ x. x) 1 p.weights (all_weights 1 (λ a w q. omega (arith, weight_least (λ n b. next b.loop b.target (omega arith) b.looped.loop) q))))
  limit_most (Some body) next =
      let s : ℕ = next.setx in
      let z : ℕ = length words - 1 in
      let low = next.looped.inside in
      let mid = next.looped.backward in
      let high = next.looped.loop.within in
      let each = p.each in
      omega (arith, p.total, accepted_short ok, sum_two p.weights s z (omega arith) (omega arith) (weight_least (setx_out s _ next.looped.fed.setx) (p.right s (omega arith))) (weight_least (last_out z (omega arith)) (p.right z (omega arith))) (all_weights 65536 (λ a w q. weight_most q)))

pub upto_all : (words : List ℕ) (a limit : ℕ) (body : Option Body) → Accepted words → a ≤ 0 → Upto words a limit body → Limit words limit × (limit ≤ 134086658)
upto_all words a limit body ok low p =
    let e : a ≡ 0 = omega arith in
    let q : Upto words 0 limit body = rw e at p in
    let l : Limit words limit = record { weights = q.weights; each = omega (arith, q.each); right = λ k h. rw sub-zero at (q.right k (omega arith) h); total = q.total } in
    (l, limit_most ok l body q.next)

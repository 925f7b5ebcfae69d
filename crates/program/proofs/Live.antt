-- Where X is live: behind a setx, up to the loop that it feeds.
use Rattle.std.proofs.Common.{◌≡◌, ℕ, zero, suc, ◌+◌, ◌-◌, ◌<◌, ◌≤◌, ◌⊎◌, List, length, refl, inl, inr, arith}
use Rattle.std.proofs.lemmas.Bool.{cases_lt, cases_eq, cases_order}
use Rattle.program.specs.declared.word.Instruction.{Instruction}
use Rattle.program.specs.declared.word.Instruction.TheVariants.{Bltz, Setx, Loop}
use Rattle.program.specs.Limits.{InBody}
use Rattle.program.specs.Rules.{At, Looped, Accepted}
use Rattle.program.proofs.Facts.{at_one, not_both, Kind, plain, is_setx, is_loop, kind, looped_one, setx_behind, placed}
use Rattle.program.proofs.Scans.{loop_looped}

-- X is live at p: the loop that it counts for ends at p or later, and its setx stands below p
pub record Live (words : List ℕ) (p : ℕ) : Type 0 where
  pub setx : ℕ
  pub count : ℕ
  pub target : ℕ
  pub loop : ℕ
  pub looped : Looped words setx count target loop
  pub after : setx < p
  pub upto : p ≤ loop

-- where X is live at q, it is so from p on
abbrev pub Reaches : List ℕ → ℕ → ℕ → Type 0
Reaches words p q = (h : Live words q) → h.setx < p

-- the same loop, seen from another address
abbrev pub seen_from : {words : List ℕ} {q : ℕ} (h : Live words q) (p : ℕ) → h.setx < p → p ≤ h.loop → Live words p
seen_from h p a b = record { setx = h.setx; count = h.count; target = h.target; loop = h.loop; looped = h.looped; after = a; upto = b }

abbrev pub earlier : {words : List ℕ} {p q : ℕ} (h : Live words q) → h.setx < p → p ≤ q → Live words p
earlier {p} h a b = seen_from h p a (omega (arith, h.upto))

-- an address is live by one loop only
pub live_one : {words : List ℕ} {p : ℕ} (g h : Live words p) → (g.count ≡ h.count) × (g.target ≡ h.target) × (g.loop ≡ h.loop)
live_one g h =
    elim (cases_order g.loop h.loop) [
      | inl e ↦ (let (_, n, t) = looped_one (rw e at g.looped) h.looped in (n, t, e))
      | inr (inl o) ↦ absurd (omega (arith, setx_behind g.looped h.looped o, g.upto, h.after))
      | inr (inr o) ↦ absurd (omega (arith, setx_behind h.looped g.looped o, h.upto, g.after))
    ]

-- X is live in a body
abbrev pub live_body : {words : List ℕ} {a n : ℕ} → InBody words a n → Live words a
live_body {n} b = record { setx = b.setx; count = n; target = b.target; loop = b.loop; looped = b.looped; after = omega (arith, b.looped.inside, b.from); upto = b.upto }

-- an address stands in one body
pub body_one : {words : List ℕ} {a n m : ℕ} → InBody words a n → InBody words a m → n ≡ m
body_one p q = (live_one (live_body p) (live_body q)).0

-- X is not live at a setx
pub dead_at_setx : {words : List ℕ} {p n : ℕ} → At words p (Setx n) → Live words p → ⊥
dead_at_setx {p} {n} a h = elim (cases_eq p h.loop) [ inl e ↦ not_both e a h.looped.loop | inr e ↦ h.looped.fed.nearest p n h.after (omega (arith, h.upto)) a ]

-- what is live behind a word is live at it, unless that word is a setx
pub reaches_next : {words : List ℕ} {p : ℕ} {i : Instruction} → At words p i → ((n : ℕ) → i ≡ Setx n → ⊥) → Reaches words p (suc p)
reaches_next {p} a other h = elim (cases_lt h.setx p) [ inl o ↦ o | inr o ↦ absurd (other h.count (at_one (omega (arith, h.after)) a h.looped.fed.setx)) ]

module _ {words : List ℕ} (ok : Accepted words) where
  -- what is live where a branch goes is live at the branch
  pub branch_reaches : {b x d : ℕ} → At words b (Bltz x d) → Reaches words b d
  branch_reaches {b} {x} {d} branch h = elim (cases_order h.setx b) [
    | inl e ↦ (let same = at_one e h.looped.fed.setx branch in absurd (grind arith))
    | inr (inl o) ↦ o
    | inr (inr o) ↦ absurd (ok.setx_good b (record { register = x; target = d; setx = h.setx; count = h.count; branch = branch; skipped = h.looped.fed.setx; behind = o; before = h.after }))
  ]

  -- X is live at a loop
  pub live_at_loop : {l t : ℕ} → At words l (Loop t) → (h : Live words l) × (h.target ≡ t) × (h.loop ≡ l)
  live_at_loop {l} {t} a =
      let (s, n, g) = loop_looped ok a in
      (record { setx = s; count = n; target = t; loop = l; looped = g; after = g.fed.before; upto = omega arith }, refl, refl)

  -- from the next address to an address
  live_back : {p : ℕ} {i : Instruction} → Kind i → At words p i → Live words (suc p) ⊎ (Live words (suc p) → ⊥) → Live words p ⊎ (Live words p → ⊥)
  live_back (is_setx n) a d = inr (dead_at_setx a)
  live_back (is_loop t) a d = inl (live_at_loop a).0
  live_back (plain g) a (inl h) = inl (earlier h (reaches_next a g.no_setx h) (omega arith))
  live_back {p} (plain g) a (inr dead) = inr (λ h. elim (cases_lt p h.loop) [
    | inl o ↦ dead (seen_from h (suc p) (omega (arith, h.after)) o)
    | inr o ↦ g.no_loop h.target (at_one (omega (arith, h.upto)) a h.looped.loop)
  ])

  live_down : (d p : ℕ) → p + d ≡ length words → Live words p ⊎ (Live words p → ⊥)
  live_down zero p e = inr (λ h. omega (arith, h.upto, h.looped.loop.within))
  live_down (suc d) p e = let (i, a) = placed ok p (omega arith) in live_back (kind i) a (live_down d (suc p) (omega arith))

  -- X is live at an address, or not
  pub live? : (p : ℕ) → p ≤ length words → Live words p ⊎ (Live words p → ⊥)
  live? p b = live_down (length words - p) p (omega arith)

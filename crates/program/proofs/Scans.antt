-- What a scan with `any` answers; the setx of an address, one address on; every loop of an accepted program has one; and what breaks a rule stands in the program.
use Rattle.std.proofs.Common.{◌≡◌, ℕ, zero, suc, ◌+◌, ◌-◌, ◌<◌, ◌≤◌, ◌⊎◌, ◌↔◌, Bool, true, false, List, length, get_or, min, take, drop, Some, IsTrue, refl, sym, ap, ◌∙◌, inl, inr, arith}
use Rattle.std.specs.Bool.{MatchBool}
use Rattle.std.specs.List.{AllWithin, HoldsAt}
use Rattle.std.proofs.lemmas.Bool.{cases_lt, cases_eq}
use Rattle.std.proofs.lemmas.List.{drop-take, get_or-drop, get_or-take, length-drop, length-take}
use Rattle.program.specs.declared.word.Instruction.{Instruction}
use Rattle.program.specs.declared.word.Instruction.TheVariants.{Setx, Loop}
use Rattle.program.specs.Rules.{At, Looped, WrongLoop, Accepted}
use Rattle.program.specs.Scans.{SetxIn, LoopOver, Own, Rule, Word, Ending, Target, SetxSkipped, Feeding, IntoLoop, Breaks}
use Rattle.program.specs.Words.{decoded}
use Rattle.program.proofs.Facts.{at_one, not_both, Kind, plain, is_setx, is_loop, kind, feeds_one, placed}

pub breaks_within : (rule : Rule) (words : List ℕ) (a : ℕ) → Breaks rule words a → a < length words
breaks_within Word words a b = b.within
breaks_within Ending words a b = b.within
breaks_within Target words a b = b.branch.within
breaks_within SetxSkipped words a b = b.branch.within
breaks_within Feeding words a b = b.loop.within
breaks_within IntoLoop words a b = b.branch.within

-- what a scan looks for: a setx, and a loop that goes back below an address
abbrev pub IsSetx : ℕ → Type 0
IsSetx w = (n : ℕ) × (decoded w ≡ Some (Setx n))

abbrev pub LoopsBelow : ℕ → ℕ → Type 0
LoopsBelow low w = (t : ℕ) × (decoded w ≡ Some (Loop t)) × (t < low)

-- the answer of `any` on the words from low on
abbrev pub AnyFrom : (ℕ → Type 0) → List ℕ → ℕ → Bool → Type 0
AnyFrom P words low r = MatchBool r ((k : ℕ) × (k < length (drop low words)) × HoldsAt P (drop low words) k) (AllWithin (λ w. P w → ⊥) (drop low words) 0 (length (drop low words)))

-- says whether P holds somewhere from low on
any_from : (P : ℕ → Type 0) (words : List ℕ) (low : ℕ) (r : Bool) → AnyFrom P words low r → IsTrue r ↔ ((a : ℕ) × (low ≤ a) × (a < length words) × P (get_or words a 0))
any_from P words low true (k, h, p) = (λ _. (low + k, omega arith, omega (arith, length-drop low words), rw get_or-drop at (p 0)), λ _. refl)
any_from P words low false none = (
  λ e. absurd (cc),
  λ (a, from, within, p).
      let e : low + (a - low) ≡ a = omega arith in
      absurd (none (a - low) 0 (omega arith) (omega (arith, length-drop low words)) (rw (get_or-drop, e) p)),
)

pub setx_in : (words : List ℕ) (low high : ℕ) (r : Bool) → AnyFrom IsSetx (take high words) low r → IsTrue r ↔ SetxIn words low high
setx_in words low high r h =
    let both = any_from IsSetx (take high words) low r h in
    let e = length-take high words in (
      λ t. let (a, from, within, p) = both.0 t in let below : a < high = omega arith in record { address = a; count = p.0; setx = record { within = omega arith; is = rw get_or-take at p.1 }; from = from; upto = below },
      λ s. let below = s.upto in both.1 (s.address, s.from, omega (arith, s.setx.within), (s.count, rw get_or-take s.setx.is)),
    )

-- a part of the words, as a scan sees it
pub part : (words : List ℕ) (low end : ℕ) → low ≤ end → take (end - low) (drop low words) ≡ drop low (take end words)
part words low end h =
    let e : low + (end - low) ≡ end = omega arith in
    sym (drop-take low (end - low) words) ∙ ap (λ n. drop low (take n words)) e

-- the same up to a high that may lie behind the last word
pub setx_upto : (words : List ℕ) (low high end : ℕ) (r : Bool) → end ≡ min high (length words) → AnyFrom IsSetx (take end words) low r → IsTrue r ↔ SetxIn words low high
setx_upto words low high end r e h =
    let both = setx_in words low end r h in (
      λ t. let s = both.0 t in let below = s.upto in record { address = s.address; count = s.count; setx = s.setx; from = s.from; upto = omega arith },
      λ s. let below = s.upto in both.1 (record { address = s.address; count = s.count; setx = s.setx; from = s.from; upto = omega (arith, s.setx.within) }),
    )

pub loop_over : (words : List ℕ) (low : ℕ) (r : Bool) → AnyFrom (LoopsBelow low) words low r → IsTrue r ↔ LoopOver words low (length words)
loop_over words low r h =
    let both = any_from (LoopsBelow low) words low r h in (
      λ t. let (a, from, within, p) = both.0 t in record { address = a; start = p.0; loop = record { within = within; is = p.1 }; above = p.2; from = from; upto = within },
      λ o. both.1 (o.address, o.from, o.upto, (o.start, o.loop.is, o.above)),
    )

-- a loop stands from one address up to another
pub record LoopIn (words : List ℕ) (low high : ℕ) : Type 0 where
  pub address : ℕ
  pub start : ℕ
  pub loop : At words address (Loop start)
  pub from : low ≤ address
  pub upto : address < high

-- from an address to the next
module _ {words : List ℕ} {a b : ℕ} (next : b ≡ suc a) where
  pub own_here : (n : ℕ) → At words a (Setx n) → Own words b a n
  own_here n p = record { fed = record { setx = p; before = omega arith; nearest = λ k m lo hi. omega arith }; alone = λ k u lo hi. omega arith }

  pub own_not : (t : ℕ) → At words a (Loop t) → (s n : ℕ) → Own words b s n → ⊥
  own_not t p s n o =
      let before = o.fed.before in
      elim (cases_lt s a) [ inl h ↦ o.alone a t h (omega arith) p | inr h ↦ not_both (omega arith) o.fed.setx p ]

  module _ (no_setx : (n : ℕ) → At words a (Setx n) → ⊥) (no_loop : (t : ℕ) → At words a (Loop t) → ⊥) where
    own_more : (s n : ℕ) → Own words a s n → Own words b s n
    own_more s n o = record {
      fed = record { setx = o.fed.setx; before = omega (arith, o.fed.before); nearest = λ k m lo hi p. elim (cases_eq k a) [ inl e ↦ no_setx m (rw e at p) | inr e ↦ o.fed.nearest k m lo (omega arith) p ] };
      alone = λ k u lo hi p. elim (cases_eq k a) [ inl e ↦ no_loop u (rw e at p) | inr e ↦ o.alone k u lo (omega arith) p ];
    }

    own_less : (s n : ℕ) → Own words b s n → Own words a s n
    own_less s n o = record {
      fed = record {
        setx = o.fed.setx;
        before = (let h = o.fed.before in elim (cases_lt s a) [ inl h ↦ h | inr h ↦ (let e : s ≡ a = omega arith in absurd (no_setx n (rw e at o.fed.setx))) ]);
        nearest = λ k m lo hi. o.fed.nearest k m lo (omega arith);
      };
      alone = λ k u lo hi. o.alone k u lo (omega arith);
    }

-- a loop with a setx of its own, and one without
module _ {words : List ℕ} {t l : ℕ} (loop : At words l (Loop t)) where
  pub unfed_wrong : ((s n : ℕ) → Own words l s n → ⊥) → WrongLoop words l
  unfed_wrong none = record { target = t; loop = loop; unfed = λ s n p. none s n (record { fed = p.fed; alone = p.alone }) }

  module _ {s n : ℕ} (own : Own words l s n) where
    pub fed_wrong : (t ≤ s) ⊎ (l < t) → WrongLoop words l
    fed_wrong h = record { target = t; loop = loop; unfed = λ r m p. let e = (feeds_one own.fed p.fed).0 in let low = p.inside in let high = p.backward in elim h [ inl h ↦ omega arith | inr h ↦ omega arith ] }

    fed_right : s < t → t ≤ l → Looped words s n t l
    fed_right inside back = record { loop = loop; backward = back; fed = own.fed; inside = inside; alone = own.alone }

abbrev Owns : List ℕ → ℕ → Type 0
Owns words l = ((s : ℕ) × (n : ℕ) × Own words l s n) ⊎ ((s n : ℕ) → Own words l s n → ⊥)

owns_more : {words : List ℕ} {a : ℕ} {i : Instruction} → Kind i → At words a i → Owns words a → Owns words (suc a)
owns_more {a} (is_setx n) p o = inl (a, n, own_here refl n p)
owns_more (is_loop t) p o = inr (own_not refl t p)
owns_more (plain g) p (inl (s, n, o)) = inl (s, n, own_more refl (λ n q. g.no_setx n (at_one refl p q)) (λ t q. g.no_loop t (at_one refl p q)) s n o)
owns_more (plain g) p (inr none) = inr (λ s n o. none s n (own_less refl (λ n q. g.no_setx n (at_one refl p q)) (λ t q. g.no_loop t (at_one refl p q)) s n o))

module _ {words : List ℕ} (ok : Accepted words) where
  -- an address has a setx of its own, or none
  owns : (l : ℕ) → l ≤ length words → Owns words l
  owns zero h = inr (λ s n o. omega (arith, o.fed.before))
  owns (suc a) h = let (i, p) = placed ok a h in owns_more (kind i) p (owns a (omega arith))

  -- a loop with a setx of its own is as the rules say
  pub own_looped : {s n t l : ℕ} → At words l (Loop t) → Own words l s n → Looped words s n t l
  own_looped {s} {n} {t} {l} loop own =
      elim (cases_lt s t) [
        | inl inside ↦ elim (cases_lt l t) [ inl h ↦ absurd (ok.loops_good l (fed_wrong loop own (inr h))) | inr back ↦ fed_right loop own inside back ]
        | inr h ↦ absurd (ok.loops_good l (fed_wrong loop own (inl h)))
      ]

  -- so is every loop
  pub loop_looped : {t l : ℕ} → At words l (Loop t) → (s : ℕ) × (n : ℕ) × Looped words s n t l
  loop_looped {t} {l} loop =
      elim (owns l (omega (arith, loop.within))) [ inl (s, n, own) ↦ (s, n, own_looped loop own) | inr none ↦ absurd (ok.loops_good l (unfed_wrong loop none)) ]

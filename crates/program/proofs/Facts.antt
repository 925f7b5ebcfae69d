-- Facts about programs: the instruction at an address, the loops, and what the rules say of ends and branches.
use Rattle.std.proofs.Common.{◌≡◌, ℕ, suc, ◌<◌, ◌≤◌, ◌⊎◌, List, length, get_or, Some, None, Option, refl, inl, inr, arith}
use Rattle.std.proofs.lemmas.Bool.{cases_lt, cases_order}
use Rattle.std.proofs.lemmas.Bool.Decides.{nat_tests}
use Rattle.program.specs.declared.word.Instruction.{Instruction}
use Rattle.program.specs.declared.word.Instruction.TheVariants.{Binary, Unary, Cmov, Done, Bltz, Setx, Loop}
use Rattle.program.specs.Rules.{At, Feeds, Looped, Accepted}
use Rattle.program.specs.Words.{decoded}

-- ---- instructions

-- the instruction at an address is one
pub at_one : {words : List ℕ} {a b : ℕ} {i j : Instruction} → a ≡ b → At words a i → At words b j → i ≡ j
at_one e p q = cc

pub not_both : {words : List ℕ} {a b n t : ℕ} → a ≡ b → At words a (Setx n) → At words b (Loop t) → ⊥
not_both e p q = let h = at_one e p q in grind arith

-- neither setx nor loop
pub record Plain (i : Instruction) : Type 0 where
  pub no_setx : (n : ℕ) → i ≡ Setx n → ⊥
  pub no_loop : (t : ℕ) → i ≡ Loop t → ⊥

pub data Kind : Instruction → Type 0 where
  plain : {i : Instruction} → Plain i → Kind i
  is_setx : (n : ℕ) → Kind (Setx n)
  is_loop : (t : ℕ) → Kind (Loop t)

pub kind : (i : Instruction) → Kind i
kind (Binary o d a b) = plain (record { no_setx = λ n e. grind arith; no_loop = λ t e. grind arith })
kind (Unary o d a) = plain (record { no_setx = λ n e. grind arith; no_loop = λ t e. grind arith })
kind (Cmov d a b) = plain (record { no_setx = λ n e. grind arith; no_loop = λ t e. grind arith })
kind Done = plain (record { no_setx = λ n e. grind arith; no_loop = λ t e. grind arith })
kind (Bltz a t) = plain (record { no_setx = λ n e. grind arith; no_loop = λ t e. grind arith })
kind (Setx n) = is_setx n
kind (Loop t) = is_loop t

pub done? : (i : Instruction) → (i ≡ Done) ⊎ (i ≡ Done → ⊥)
done? (Binary o d a b) = inr (λ e. grind arith)
done? (Unary o d a) = inr (λ e. grind arith)
done? (Cmov d a b) = inr (λ e. grind arith)
done? Done = inl refl
done? (Bltz a t) = inr (λ e. grind arith)
done? (Setx n) = inr (λ e. grind arith)
done? (Loop t) = inr (λ e. grind arith)

-- a count has 16 bits
pub count_most : (w n : ℕ) → decoded w ≡ Some (Setx n) → n ≤ 65535
unfolding decoded
count_most w n e = grind (arith, nat_tests)

-- ---- loops

-- the nearest setx is one
pub feeds_one : {words : List ℕ} {s n r m l : ℕ} → Feeds words s n l → Feeds words r m l → (s ≡ r) × (n ≡ m)
feeds_one {words} {s} {n} {r} {m} {l} p q =
    let e : s ≡ r = elim (cases_order s r) [ inl e ↦ e | inr h ↦ elim h [ inl h ↦ absurd (p.nearest r m h q.before q.setx) | inr h ↦ absurd (q.nearest s n h p.before p.setx) ] ] in
    let same = at_one e p.setx q.setx in
    (e, cc)

-- a loop's setx, its count and its target are one
pub looped_one : {words : List ℕ} {s n t r m u l : ℕ} → Looped words s n t l → Looped words r m u l → (s ≡ r) × (n ≡ m) × (t ≡ u)
looped_one p q = let e = feeds_one p.fed q.fed in let h = at_one refl p.loop q.loop in (e.0, e.1, cc)

-- the setx of a later loop stands behind the loop
pub setx_behind : {words : List ℕ} {s n t l r m u k : ℕ} → Looped words s n t l → Looped words r m u k → l < k → l < r
setx_behind {t} {l} {r} {m} p q h =
    elim (cases_order l r) [ inl e ↦ absurd (not_both {n = m} {t = t} (omega arith) q.fed.setx p.loop) | inr d ↦ elim d [ inl d ↦ d | inr d ↦ absurd (q.alone l t d h p.loop) ] ]

-- an address that no loop's body has within, but for the target
abbrev pub Outside : List ℕ → ℕ → Type 0
Outside words q = (l t : ℕ) → At words l (Loop t) → t < q → q ≤ l → ⊥

-- ---- the rules

module _ {words : List ℕ} (ok : Accepted words) where
  pub accepted_some : 0 < length words
  accepted_some = elim (cases_lt 0 (length words)) [ inl h ↦ h | inr h ↦ absurd (ok.length_good (inl (omega arith))) ]

  pub accepted_short : length words ≤ 2048
  accepted_short = elim (cases_lt 2048 (length words)) [ inl h ↦ absurd (ok.length_good (inr h)) | inr h ↦ h ]

  -- every address holds an instruction
  placed_by : (a : ℕ) → a < length words → (o : Option Instruction) → decoded (get_or words a 0) ≡ o → (i : Instruction) × At words a i
  placed_by a h (Some i) e = (i, record { within = h; is = e })
  placed_by a h None e = absurd (ok.words_good a (record { within = h; unknown = e }))

  pub placed : (a : ℕ) → a < length words → (i : Instruction) × At words a i
  placed a h = placed_by a h (decoded (get_or words a 0)) refl

  -- the last word is done, and no other word is
  pub done_last : {a : ℕ} → At words a Done → suc a ≡ length words
  done_last {a} p =
      elim (cases_lt (suc a) (length words)) [ inl h ↦ absurd (ok.ending_good a (record { within = p.within; ending = inr (h, p) })) | inr h ↦ omega (arith, p.within) ]

  pub not_last : {a : ℕ} {i : Instruction} → At words a i → (i ≡ Done → ⊥) → suc a < length words
  not_last {a} p other = elim (cases_lt (suc a) (length words)) [
    | inl h ↦ h
    | inr h ↦ absurd (ok.ending_good a (record { within = p.within; ending = inl (omega (arith, p.within), λ q. other (at_one refl p q)) }))
  ]

  module _ {b x d : ℕ} (branch : At words b (Bltz x d)) where
    -- a branch goes forward, and into the program
    pub branch_forward : (b < d) × (d < length words)
    branch_forward =
        let bad = λ (h : (d ≤ b) ⊎ (length words ≤ d)). ok.targets_good b (record { register = x; target = d; branch = branch; outside = h }) in
        (elim (cases_lt b d) [ inl h ↦ h | inr h ↦ absurd (bad (inl h)) ], elim (cases_lt d (length words)) [ inl h ↦ h | inr h ↦ absurd (bad (inr h)) ])

    pub branch_outside : Outside words d
    branch_outside l t loop above upto = ok.entries_good b (record { register = x; target = d; loop = l; start = t; branch = branch; looped = loop; above = above; upto = upto })

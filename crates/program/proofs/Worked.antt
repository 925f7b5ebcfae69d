-- Three worked programs, by the instructions that stand at their addresses.
use Rattle.std.proofs.Common.{◌≡◌, ℕ, zero, suc, ◌+◌, ◌<◌, ◌≤◌, ◌⊎◌, List, [], ◌∷◌, length, get_or, Some, None, Ok, Err, Option, refl, ap, ◌∙◌, inl, inr, arith}
use Rattle.program.specs.declared.fault.Fault.TheVariants.{Feeding, IntoLoop}
use Rattle.program.specs.declared.limit.Body.{Body}
use Rattle.program.specs.declared.word.Instruction.{Instruction}
use Rattle.program.specs.declared.word.Instruction.TheVariants.{Done, Bltz, Setx, Loop}
use Rattle.program.specs.Bodies.{Next}
use Rattle.program.specs.Cases.{outreaching, WorkedPrograms}
use Rattle.program.specs.Outcome.{Kept, Checked}
use Rattle.program.specs.Rules.{At, Looped, WrongWord, WrongEnding, WrongTarget, SkipsSetx, WrongLoop, Accepted}
use Rattle.program.specs.Words.{decoded}
use Rattle.program.proofs.Limits.{Upto, upto_none, upto_more, upto_all}

-- the instructions of words
abbrev Reads : List ℕ → List Instruction → Type 0
Reads [] [] = Unit {0}
Reads [] (i ∷ is) = ⊥
Reads (w ∷ ws) [] = ⊥
Reads (w ∷ ws) (i ∷ is) = (decoded w ≡ Some i) × Reads ws is

-- i is one of the instructions, which stand from k on, and a is its place
abbrev Standing : List Instruction → ℕ → ℕ → Instruction → Type 0
Standing [] k a i = ⊥
Standing (j ∷ js) k a i = ((a ≡ k) × (i ≡ j)) ⊎ Standing js (suc k) a i

standing : (ws : List ℕ) (is : List Instruction) (k a b : ℕ) → Reads ws is → b ≡ a + k → a < length ws → (i : Instruction) × (decoded (get_or ws a 0) ≡ Some i) × Standing is k b i
standing [] is k a b r e h = absurd (omega arith)
standing (w ∷ ws) [] k a b r e h = absurd r
standing (w ∷ ws) (i ∷ is) k zero b r e h = (i, r.0, inl (omega arith, refl))
standing (w ∷ ws) (i ∷ is) k (suc a) b r e h = let (j, q, s) = standing ws is (suc k) a b r.1 (omega arith) (omega arith) in (j, q, inr s)

module _ (ws : List ℕ) (is : List Instruction) (reads : Reads ws is) where
  known : (a : ℕ) → a < length ws → (i : Instruction) × (decoded (get_or ws a 0) ≡ Some i) × Standing is 0 a i
  known a h = standing ws is 0 a a reads (omega arith) h

  stands : {a : ℕ} {i : Instruction} → At ws a i → Standing is 0 a i
  stands {a} {i} p = let (j, q, s) = known a p.within in let h = p.is in let same : i ≡ j = cc in rw same s

  words_kept : Kept (WrongWord ws)
  words_kept a w = let (i, q, s) = known a w.within in let h = w.unknown in grind arith

  ending_kept : (n : ℕ) → length ws ≡ suc n → ((a : ℕ) (i : Instruction) → Standing is 0 a i → (a ≡ n → i ≡ Done) × (i ≡ Done → a ≡ n)) → Kept (WrongEnding ws)
  ending_kept n e only a w = elim w.ending [
    | inl (last, none) ↦ (let (i, q, s) = known a w.within in none (record { within = w.within; is = q ∙ ap Some ((only a i s).0 (omega arith)) }))
    | inr (more, p) ↦ omega (arith, (only a Done (stands p)).1 refl)
  ]

-- setx 3; bltz $17, d; loop 1; done
module _ (w d : ℕ) (e : decoded w ≡ Some (Bltz 17 d)) where
  abbrev four : List ℕ
  four = 0xE0003 ∷ w ∷ 0xF0001 ∷ 0xA0000 ∷ []

  abbrev four_read : List Instruction
  four_read = Setx 3 ∷ Bltz 17 d ∷ Loop 1 ∷ Done ∷ []

  reads : Reads four four_read
  unfolding decoded
  reads = (refl, (e, (refl, (refl, tt))))

  at : {a : ℕ} {i : Instruction} → At four a i → Standing four_read 0 a i
  at p = stands four four_read reads p

  four_ending : Kept (WrongEnding four)
  four_ending = ending_kept four four_read reads 3 refl (λ a i s. (λ h. grind arith, λ h. grind arith))

  four_targets : 2 ≤ d → d ≤ 3 → Kept (WrongTarget four)
  four_targets low high a w = let s = at w.branch in let o = w.outside in grind arith

  four_setx : Kept (SkipsSetx four)
  four_setx a w = let s = at w.branch in let t = at w.skipped in let h = w.behind in grind arith

  looped : Looped four 0 3 1 2
  unfolding decoded
  looped = record {
    loop = record { within = omega arith; is = refl };
    backward = omega arith;
    fed = record { setx = record { within = omega arith; is = refl }; before = omega arith; nearest = λ k m lo hi p. let s = at p in grind arith };
    inside = omega arith;
    alone = λ k u lo hi p. let s = at p in grind arith;
  }

  four_loops : Kept (WrongLoop four)
  four_loops a w = let s = at w.loop in let e : a ≡ 2 = grind arith in let h : w.target ≡ 1 = grind arith in w.unfed 0 3 (rw (e, h) looped)

  into_body : d ≡ 2 → Checked four (Err (IntoLoop 1))
  into_body two = (
    λ h. grind arith,
    words_kept four four_read reads,
    four_ending,
    four_targets (omega arith) (omega arith),
    four_setx,
    four_loops,
    record {
      here = record { register = 17; target = d; loop = 2; start = 1; branch = record { within = omega arith; is = e }; looped = looped.loop; above = omega arith; upto = omega arith };
      below = λ k h x. let s = at x.branch in grind arith;
    },
  )

  four_good : d ≡ 3 → Accepted four
  four_good three = record {
    length_good = λ h. grind arith;
    words_good = words_kept four four_read reads;
    ending_good = four_ending;
    targets_good = four_targets (omega arith) (omega arith);
    setx_good = four_setx;
    loops_good = four_loops;
    entries_good = λ a x. let s = at x.branch in let t = at x.looped in let h = x.upto in grind arith;
  }

  abbrev body : Option Body
  body = Some (record { target = 1; count = 3; narrow = omega arith })

  next : (a : ℕ) → a ≤ 2 → Next four a body
  next a h = record { setx = 0; loop = 2; looped = looped; above = h; lowest = λ k t lo hi p. let s = at p in grind arith }

  limit : Upto four 0 10 body
  limit =
      let u₃ : Upto four 3 1 None = upto_more four 3 4 0 1 None None refl (upto_none four) (λ k t lo p. let s = at p in grind arith) refl in
      let u₂ : Upto four 2 5 body = upto_more four 2 3 1 5 None body refl u₃ (next 2 (omega arith)) refl in
      let u₁ : Upto four 1 9 body = upto_more four 1 2 5 9 body body refl u₂ (next 1 (omega arith)) refl in
      upto_more four 0 1 9 10 body body refl u₁ (next 0 (omega arith)) refl

  slots : d ≡ 3 → Checked four (Ok 10)
  slots three = let (l, h) = upto_all four 0 10 body (four_good three) (omega arith) limit in (four_good three, l, h)

-- setx 3; loop 0; done
abbrev three_read : List Instruction
three_read = Setx 3 ∷ Loop 0 ∷ Done ∷ []

over_setx : Reads outreaching three_read → At outreaching 1 (Loop 0) → Checked outreaching (Err (Feeding 1))
over_setx reads loop =
    let at : (a : ℕ) (i : Instruction) → At outreaching a i → Standing three_read 0 a i = λ a i p. stands outreaching three_read reads p in (
      λ h. grind arith,
      words_kept outreaching three_read reads,
      ending_kept outreaching three_read reads 2 refl (λ a i s. (λ h. grind arith, λ h. grind arith)),
      λ a w. let s = at a _ w.branch in grind arith,
      λ a w. let s = at a _ w.branch in grind arith,
      record { here = record { target = 0; loop = loop; unfed = λ s n p. omega (arith, p.inside) }; below = λ k h w. let s = at k _ w.loop in grind arith },
    )

pub worked_programs_lem : WorkedPrograms
unfolding decoded
worked_programs_lem = record {
  slots = slots 0xD0883 3 refl refl;
  into_body = into_body 0xD0882 2 refl refl;
  over_setx = over_setx (refl, (refl, (refl, tt))) (record { within = omega arith; is = refl });
}

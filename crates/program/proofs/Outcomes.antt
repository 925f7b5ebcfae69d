-- A program has one outcome.
use Rattle.std.proofs.Common.{◌≡◌, ℕ, ◌⊎◌, List, [], ◌∷◌, Ok, Err, Result, refl, inl, inr}
use Rattle.std.specs.Result.{is_ok, result_err}
use Rattle.std.proofs.lemmas.Bool.{cases_order}
use Rattle.program.specs.declared.fault.Fault.{Fault}
use Rattle.program.specs.declared.fault.Fault.TheVariants as fault
use Rattle.program.specs.Limits.{Limit}
use Rattle.program.specs.Outcome.{Kept, Lowest, Found, Checked, OneOutcome}
use Rattle.program.specs.Rules.{WrongLength}
use Rattle.program.specs.Scans.{Rule, Word, Ending, Target, SetxSkipped, Feeding, IntoLoop, Breaks}
use Rattle.program.proofs.Limits.{limit_one}

-- nothing breaks a rule that was found to be kept
pub kept : {s : Result (Unit {0}) Fault} {x : Unit {0}} (P : ℕ → Type 0) (r : Result (Unit {0}) ℕ) → Found P (result_err r) → is_ok s ≡ is_ok r → s ≡ Ok x → Kept P
kept P (Ok _) h same e = h
kept P (Err a) h same e = absurd (cc)

lowest_one : {P : ℕ → Type 0} {a b : ℕ} → Lowest P a → Lowest P b → a ≡ b
lowest_one {P} {a} {b} p q =
    elim (cases_order a b) [ inl e ↦ e | inr h ↦ elim h [ inl h ↦ absurd (q.below a h p.here) | inr h ↦ absurd (p.below b h q.here) ] ]

abbrev fault_at : Rule → ℕ → Fault
fault_at Word a = fault.Word a
fault_at Ending a = fault.Ending a
fault_at Target a = fault.Target a
fault_at SetxSkipped a = fault.SetxSkipped a
fault_at Feeding a = fault.Feeding a
fault_at IntoLoop a = fault.IntoLoop a

-- what the rules of a list say in turn
abbrev Verdict : List ℕ → Result ℕ Fault → List Rule → Type 0
Verdict words r [] = (limit : ℕ) × Limit words limit × (r ≡ Ok limit)
Verdict words r (x ∷ xs) = ((a : ℕ) × Lowest (Breaks x words) a × (r ≡ Err (fault_at x a))) ⊎ (Kept (Breaks x words) × Verdict words r xs)

verdict_one : (words : List ℕ) (r s : Result ℕ Fault) (rules : List Rule) → Verdict words r rules → Verdict words s rules → r ≡ s
verdict_one words r s [] (x, p, e) (y, q, d) = let h = limit_one p q in cc
verdict_one words r s (x ∷ xs) (inl (a, p, e)) (inl (b, q, d)) = let h = lowest_one p q in cc
verdict_one words r s (x ∷ xs) (inl (a, p, e)) (inr (kept, q)) = absurd (kept a p.here)
verdict_one words r s (x ∷ xs) (inr (kept, p)) (inl (b, q, d)) = absurd (kept b q.here)
verdict_one words r s (x ∷ xs) (inr (kept, p)) (inr (also, q)) = verdict_one words r s xs p q

abbrev order : List Rule
order = Word ∷ Ending ∷ Target ∷ SetxSkipped ∷ Feeding ∷ IntoLoop ∷ []

abbrev Sorted : List ℕ → Result ℕ Fault → Type 0
Sorted words r = (WrongLength words × (r ≡ Err fault.Length)) ⊎ ((WrongLength words → ⊥) × Verdict words r order)

sorted : (words : List ℕ) (r : Result ℕ Fault) → Checked words r → Sorted words r
sorted words (Ok limit) (ok, p, _) =
    inr (ok.length_good, inr (ok.words_good, inr (ok.ending_good, inr (ok.targets_good, inr (ok.setx_good, inr (ok.loops_good, inr (ok.entries_good, (limit, p, refl))))))))
sorted words (Err fault.Length) h = inl (h, refl)
sorted words (Err (fault.Word a)) (l, p) = inr (l, inl (a, p, refl))
sorted words (Err (fault.Ending a)) (l, k₂, p) = inr (l, inr (k₂, inl (a, p, refl)))
sorted words (Err (fault.Target a)) (l, k₂, k₃, p) = inr (l, inr (k₂, inr (k₃, inl (a, p, refl))))
sorted words (Err (fault.SetxSkipped a)) (l, k₂, k₃, k₄, p) = inr (l, inr (k₂, inr (k₃, inr (k₄, inl (a, p, refl)))))
sorted words (Err (fault.Feeding a)) (l, k₂, k₃, k₄, k₅, p) = inr (l, inr (k₂, inr (k₃, inr (k₄, inr (k₅, inl (a, p, refl))))))
sorted words (Err (fault.IntoLoop a)) (l, k₂, k₃, k₄, k₅, k₆, p) = inr (l, inr (k₂, inr (k₃, inr (k₄, inr (k₅, inr (k₆, inl (a, p, refl)))))))

sorted_one : (words : List ℕ) (r s : Result ℕ Fault) → Sorted words r → Sorted words s → r ≡ s
sorted_one words r s (inl (h, e)) (inl (k, d)) = cc
sorted_one words r s (inl (h, e)) (inr (good, q)) = absurd (good h)
sorted_one words r s (inr (good, p)) (inl (k, d)) = absurd (good k)
sorted_one words r s (inr (good, p)) (inr (fine, q)) = verdict_one words r s order p q

pub outcome_one : (words : List ℕ) → OneOutcome words
outcome_one words r s p q = sorted_one words r s (sorted words r p) (sorted words s q)

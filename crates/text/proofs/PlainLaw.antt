-- A program in the plain layout is assembled to its words.
use Rattle.std.proofs.Common.{◌≡◌, ℕ, suc, ◌<◌, ◌≤◌, List, [], ◌∷◌, ◌++◌, map, length, drop, Ok, Result, sym, refl, ap, ◌∙◌, subst, ap₂, arith}
use Rattle.std.specs.List.{AllByRecursion}
use Rattle.text.specs.declared.fault.Fault.{Fault}
use Rattle.text.specs.declared.table.Counts.{Counts}
use Rattle.text.specs.declared.table.Label.{Label}
use Rattle.text.specs.Outcome.{start, entered, Known, Assembled, Outcome}
use Rattle.text.specs.Table.{Resolved, label_used, target_of, word_in}
use Rattle.text.specs.Words.{word_of}
use Rattle.text.specs.Plain.{Plain, binary, unary, cmov, bltz, setx, loop, done, nop, Holds, target, written, plain_word, layout, Program, GivesBack}
use Rattle.text.proofs.Outcomes.{outcome_one}
use Rattle.text.proofs.PlainSteps.{Labelled, codes_from, Finished, finished, layout_short}

module _ (text : List ℕ) (defs : List Label) (n : ℕ) (labelled : Labelled text (suc n) defs) where
  -- the label of a target is known
  plain_known : (p : Plain) → Holds p → target p ≤ n → Resolved text defs (written p)
  plain_known (binary op d a b) h t = tt
  plain_known (unary op d a) h t = tt
  plain_known (cmov d a b) h t = tt
  plain_known (bltz a b) h t = rw (labelled.known b (omega arith)) h.1
  plain_known (setx v) h t = tt
  plain_known (loop b) h t = rw (labelled.known b (omega arith)) h
  plain_known done h t = tt
  plain_known nop h t = tt

  -- and is at the target's address
  plain_target : (p : Plain) → target p ≤ n → target_of text defs (label_used (written p)) ≡ target p
  plain_target (binary op d a b) t = refl
  plain_target (unary op d a) t = refl
  plain_target (cmov d a b) t = refl
  plain_target (bltz a b) t = rw (labelled.known b (omega arith))
  plain_target (setx v) t = refl
  plain_target (loop b) t = rw (labelled.known b (omega arith))
  plain_target done t = refl
  plain_target nop t = refl

  -- so it is for all instructions of a program
  all_known : (line : ℕ) (ps : List Plain) → AllByRecursion Holds ps → AllByRecursion (λ p. target p ≤ n) ps → AllByRecursion (λ c. Resolved text defs c.ins) (codes_from line ps)
  all_known line [] h t = tt
  all_known line (p ∷ ps) h t = (plain_known p h.0 t.0, all_known (suc line) ps h.1 t.1)

  all_words : (line : ℕ) (ps : List Plain) → AllByRecursion (λ p. target p ≤ n) ps → map (λ c. word_in text defs c.ins) (codes_from line ps) ≡ map plain_word ps
  all_words line [] t = refl
  all_words line (p ∷ ps) t = ap₂ ◌∷◌ (ap (word_of (written p)) (plain_target p t.0)) (all_words (suc line) ps t.1)

codes_length : (line : ℕ) (ps : List Plain) → length (codes_from line ps) ≡ length ps
codes_length line [] = refl
codes_length line (p ∷ ps) = ap suc (codes_length (suc line) ps)

-- the state at the end has the words of the program
assembled : (ps : List Plain) (words : List ℕ) (labels : List Label) → Program ps → (f : Finished (layout ps) (length words) (length labels) (length ps) start 1 ps) → Assembled (layout ps) words labels (record { words = length ps; labels = suc (length ps) }) (map plain_word ps ++ drop (length ps) words) (entered f.last labels)
assembled ps words labels p f =
    let short : length ps ≤ 2048 = p.short in
    record {
      state = f.last;
      whole = record { short = omega (arith, layout_short 0 ps (omega arith) p.holds); count = f.count; lines = f.lines; ended = f.ended };
      known = subst (AllByRecursion (Known (layout ps) f.last)) (sym f.code) (all_known (layout ps) f.last.defs (length ps) f.labelled 1 ps p.holds p.inside);
      words_count = sym (ap length f.code ∙ codes_length 1 ps);
      labels_count = sym f.defs;
      words_are = rw (f.code, all_words (layout ps) f.last.defs (length ps) f.labelled 1 ps p.inside, codes_length 1 ps);
      labels_are = refl;
    }

-- the plain layout has an outcome with the program's words
pub plain_outcome : (ps : List Plain) (words : List ℕ) (labels : List Label) → Program ps → length ps ≤ length words → length ps < length labels → (labels' : List Label) × Outcome (layout ps) words labels (Ok (record { words = length ps; labels = suc (length ps) })) (map plain_word ps ++ drop (length ps) words) labels'
plain_outcome ps words labels p w l =
    let f = finished (layout ps) (length words) (length labels) (length ps) p.short w l ps refl refl p.holds in
    (entered f.last labels, assembled ps words labels p f)

-- a text has one outcome, so that of a plain layout is the one above
pub gives_back : (text words : List ℕ) (labels : List Label) (r : Result Counts Fault) (words' : List ℕ) (labels' : List Label) → Outcome text words labels r words' labels' → GivesBack text words labels r words'
gives_back text words labels r words' labels' o ps p e w l =
    let q = plain_outcome ps words labels p w l in
    let h = outcome_one text words labels r _ words' _ labels' q.0 o (rw e q.1) in
    (h.0, h.1)

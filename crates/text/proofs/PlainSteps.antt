-- The lines of the plain layout, one after the other, with the labels and instructions that they leave.
use Rattle.std.proofs.Common.{◌≡◌, ℕ, suc, ◌+◌, ◌*◌, ◌<◌, ◌≤◌, true, false, List, [], ◌∷◌, ◌++◌, length, take, drop, Some, None, Option, sym, refl, ap, ◌∙◌, subst, inl, inr, append_assoc, arith, length-append}
use Rattle.std.specs.List.{AllByRecursion}
use Rattle.std.specs.Str.{bytes_eq}
use Rattle.std.proofs.lemmas.List.{take_at, drop_at, append-nil}
use Rattle.std.proofs.lemmas.Slice.Eq.{bytes_eq-Decides}
use Rattle.std.proofs.lemmas.Bool.{cases_Bool, cases_eq}
use Rattle.text.specs.declared.table.Label.{Label}
use Rattle.grammar.specs.declared.token.Run.TheVariants as run
use Rattle.grammar.specs.Tokens.{Runs, Stops}
use Rattle.text.specs.Table.{name_in, address_of}
use Rattle.text.specs.Outcome.{LineAt, Code, State, start, size, after, Step, Lines, none, then}
use Rattle.text.specs.Plain.{Plain, Holds, label_name, written, layout_from}
use Rattle.grammar.proofs.Numbers.{same_number}
use Rattle.text.proofs.PlainBytes.{label_short}
use Rattle.text.proofs.PlainLines.{behind, coding, Held, line_text, line_says, line_solid, line_short}

-- a line between a front and what is behind it
line_at : (front bytes rest : List ℕ) → Runs run.Line bytes → Stops run.Line rest → LineAt (front ++ (bytes ++ rest)) (length front) bytes
line_at front bytes rest r s =
    let d : drop (length front) (front ++ (bytes ++ rest)) ≡ bytes ++ rest = drop_at front _ _ refl in
    record {
      within = simp length-append (omega arith);
      there = rw d (take_at bytes rest _ refl);
      solid = r;
      ends = subst (Stops run.Line) (sym (ap (λ l. drop (length front + length bytes) l) (sym (append_assoc front bytes rest)) ∙ drop_at (front ++ bytes) rest _ (length-append front bytes))) s;
    }

-- a known label stays known, and an unknown one is looked for in what is added
address_kept : (text : List ℕ) (defs more : List Label) (n : List ℕ) (a : ℕ) → address_of text defs n ≡ Some a → address_of text (defs ++ more) n ≡ Some a
address_kept text [] more n a h = cc
address_kept text (e ∷ es) more n a h =
    elim (cases_Bool (bytes_eq (name_in text e) n)) [ inl q ↦ rw q (rw q at h) | inr q ↦ rw q (address_kept text es more n a (rw q at h)) ]

address_past : (text : List ℕ) (defs more : List Label) (n : List ℕ) → address_of text defs n ≡ None → address_of text (defs ++ more) n ≡ address_of text more n
address_past text [] more n h = refl
address_past text (e ∷ es) more n h =
    elim (cases_Bool (bytes_eq (name_in text e) n)) [ inl q ↦ let z : Some e.address ≡ None = rw q at h in cc | inr q ↦ rw q (address_past text es more n (rw q at h)) ]

-- two addresses have two labels
label_other : (k m : ℕ) → k ≤ 2048 → m ≤ 2048 → (k ≡ m → ⊥) → bytes_eq (label_name k) (label_name m) ≡ false
label_other k m h l d =
    elim (cases_Bool (bytes_eq (label_name k) (label_name m))) [ inl e ↦ absurd (d (same_number k m (omega arith) (omega arith) ((bytes_eq-Decides _ _).0 e))) | inr e ↦ e ]

-- the labels below k are known, and no others
pub record Labelled (text : List ℕ) (k : ℕ) (defs : List Label) : Type 0 where
  pub known : (m : ℕ) → m < k → address_of text defs (label_name m) ≡ Some m
  pub fresh : (m : ℕ) → k ≤ m → m ≤ 2048 → address_of text defs (label_name m) ≡ None

-- one more label
labels_more : (text : List ℕ) (defs : List Label) (k : ℕ) (e : Label) → k ≤ 2048 → name_in text e ≡ label_name k → e.address ≡ k → Labelled text k defs → Labelled text (suc k) (defs ++ (e ∷ []))
labels_more text defs k e h n a l =
    let same : bytes_eq (label_name k) (label_name k) ≡ true = (bytes_eq-Decides (label_name k) (label_name k)).1 refl in
    let here : address_of text (defs ++ (e ∷ [])) (label_name k) ≡ Some k = address_past text defs (e ∷ []) _ (l.fresh k (omega arith) h) ∙ rw (n, same, a) in
    record {
      known = λ m q. elim (cases_eq k m) [ inl s ↦ rw s at here | inr d ↦ address_kept text defs (e ∷ []) _ m (l.known m (omega arith)) ];
      fresh = λ m q w. address_past text defs (e ∷ []) _ (l.fresh m (omega arith) w) ∙ rw (n, label_other k m h w (λ s. omega arith));
    }

-- behind k lines of the layout, with the front of the text that they take
record Ready (text front : List ℕ) (k : ℕ) (s : State) : Type 0 where
  place : s.at ≡ length front
  labels : Labelled text k s.defs
  defs : length s.defs ≡ k
  codes : length s.code ≡ k

-- the state behind line k of the layout, with its instruction or none
abbrev next : ℕ → State → Option Plain → State
next k s o = after (suc k) s (line_text k o) (Some (label_name k)) (coding o)

module _ (text front rest : List ℕ) (k : ℕ) (o : Option Plain) (s : State) (h : k ≤ 2048) (is : text ≡ front ++ (line_text k o ++ rest)) (r : Ready text front k s) where
  -- one more line
  step : (W L : ℕ) → Stops run.Line rest → Held o → k + size (coding o) ≤ W → k < L → Step text W L (suc k) s (next k s o)
  step W L e g w l =
      record {
        bytes = line_text k o;
        label = Some (label_name k);
        code = coding o;
        there = rw (r.place, is) (line_at front (line_text k o) rest (line_solid k o h g) e);
        says = line_says k o h g;
        fresh = r.labels.fresh k (omega arith) h;
        room = (rw r.codes w, rw r.defs (omega arith));
        is = refl;
      }

  -- its label is the one of its address
  step_labels : Labelled text (suc k) (next k s o).defs
  step_labels =
      let there : drop (s.at + 0) text ≡ label_name k ++ ((58 ∷ behind o) ++ rest) = ap (drop (s.at + 0)) is ∙ drop_at front _ _ (omega (arith, r.place)) ∙ append_assoc (label_name k) _ rest in
      labels_more text s.defs k _ h (ap (take (length (label_name k))) there ∙ take_at (label_name k) _ _ refl) r.codes r.labels

  -- and it is one more
  step_defs : length (next k s o).defs ≡ suc k
  step_defs = simp length-append (omega (arith, r.defs))

-- a line of the layout with what is behind it
layout_line : (k : ℕ) (p : Plain) (ps : List Plain) → layout_from k (p ∷ ps) ≡ line_text k (Some p) ++ (10 ∷ layout_from (suc k) ps)
layout_line k p ps = sym (append_assoc (label_name k) _ (10 ∷ layout_from (suc k) ps))

regroup : (a b : List ℕ) (x : ℕ) (c : List ℕ) → a ++ (b ++ (x ∷ c)) ≡ (a ++ (b ++ (x ∷ []))) ++ c
regroup a b x c = simp append_assoc

-- the instructions of a program, from this line on
abbrev pub codes_from : ℕ → List Plain → List Code
codes_from line [] = []
codes_from line (p ∷ ps) = record { line = line; ins = written p } ∷ codes_from (suc line) ps

-- the state at the end, and the instructions added to those of s
pub record Finished (text : List ℕ) (W L n : ℕ) (s : State) (line : ℕ) (ps : List Plain) : Type 0 where
  pub last : State
  pub count : ℕ
  pub lines : Lines text W L count last
  pub ended : last.at ≡ suc (length text)
  pub labelled : Labelled text (suc n) last.defs
  pub defs : length last.defs ≡ suc n
  pub code : last.code ≡ s.code ++ codes_from line ps

module _ (text : List ℕ) (W L n : ℕ) (small : n ≤ 2048) (words : n ≤ W) (labels : n < L) where
  -- what is left of a program ends it
  grown : (k : ℕ) (p : Plain) (ps : List Plain) (s : State) → Finished text W L n (next k s (Some p)) (suc (suc k)) ps → Finished text W L n s (suc k) (p ∷ ps)
  grown k p ps s f =
      record { last = f.last; count = f.count; lines = f.lines; ended = f.ended; labelled = f.labelled; defs = f.defs; code = f.code ∙ append_assoc s.code _ _ }

  -- the lines from k on
  finish : (k : ℕ) (ps : List Plain) (front : List ℕ) (s : State) → text ≡ front ++ layout_from k ps → k + length ps ≡ n → AllByRecursion Holds ps → Ready text front k s → Lines text W L k s → Finished text W L n s (suc k) ps
  finish k [] front s is c a r l =
      let e : text ≡ front ++ (line_text k None ++ []) = is ∙ ap (λ x. front ++ x) (sym (append-nil _)) in
      let q : k ≡ n = omega arith in
      record {
        last = next k s None;
        count = suc k;
        lines = then l (step text front [] k None s (omega arith) e r W L tt tt (omega arith) (omega arith));
        ended = simp length-append (omega (arith, r.place, simp length-append at (ap length is)));
        labelled = subst (λ x. Labelled text (suc x) (next k s None).defs) q (step_labels text front [] k None s (omega arith) e r);
        defs = step_defs text front [] k None s (omega arith) e r ∙ ap suc q;
        code = refl;
      }
  finish k (p ∷ ps) front s is c a r l =
      let rest : List ℕ = 10 ∷ layout_from (suc k) ps in
      let line : List ℕ = line_text k (Some p) in
      let h : k ≤ 2048 = omega arith in
      let e : text ≡ front ++ (line ++ rest) = is ∙ ap (λ x. front ++ x) (layout_line k p ps) in
      let more : text ≡ (front ++ (line ++ (10 ∷ []))) ++ layout_from (suc k) ps = e ∙ regroup front line 10 _ in
      let ready : Ready text (front ++ (line ++ (10 ∷ []))) (suc k) (next k s (Some p)) = record {
        place = simp length-append (omega (arith, r.place));
        labels = step_labels text front rest k (Some p) s h e r;
        defs = step_defs text front rest k (Some p) s h e r;
        codes = simp length-append (omega (arith, r.codes));
      } in
      grown k p ps s (finish (suc k) ps _ (next k s (Some p)) more (omega arith) a.1 ready (then l (step text front rest k (Some p) s h e r W L refl a.0 (omega arith) (omega arith))))

  -- all lines of a program
  pub finished : (ps : List Plain) → text ≡ layout_from 0 ps → length ps ≡ n → AllByRecursion Holds ps → Finished text W L n start 1 ps
  finished ps is c a =
      finish 0 ps [] start is (omega arith) a (record { place = refl; labels = record { known = λ m q. absurd (omega arith); fresh = λ m q w. refl }; defs = refl; codes = refl }) none

-- a line has at most 26 bytes and its end, and the last one six
pub layout_short : (k : ℕ) (ps : List Plain) → k + length ps ≤ 2048 → AllByRecursion Holds ps → length (layout_from k ps) ≤ 27 * length ps + 6
layout_short k [] h a = simp length-append (omega (arith, label_short k (omega arith)))
layout_short k (p ∷ ps) h a =
    omega (arith, ap length (layout_line k p ps) ∙ length-append (line_text k (Some p)) _, line_short k p (omega arith) a.0, layout_short (suc k) ps (omega arith) a.1)

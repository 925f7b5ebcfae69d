-- A text has one outcome.
use Rattle.std.proofs.Common.{◌≡◌, ℕ, suc, ◌+◌, ◌<◌, ◌≤◌, ◌⊎◌, List, [], ◌∷◌, ◌++◌, length, drop, Ok, Err, Option, Result, sym, refl, ap, ◌∙◌, ap₂, inl, inr, append_assoc, append-nil, arith, take-append-drop}
use Rattle.std.specs.List.{AllByRecursion}
use Rattle.std.proofs.lemmas.List.{drop-drop}
use Rattle.std.proofs.lemmas.Bool.{cases_lt}
use Rattle.text.specs.declared.fault.Fault.{Fault}
use Rattle.text.specs.declared.fault.Fault.TheVariants.{TooLong, Grammar, Twice, NoRoom, Unknown}
use Rattle.grammar.specs.declared.token.Run.TheVariants.{Line}
use Rattle.text.specs.declared.table.Counts.{Counts}
use Rattle.text.specs.declared.table.Label.{Label}
use Rattle.grammar.specs.Forms.{Ins}
use Rattle.grammar.specs.Lines.{Says}
use Rattle.text.specs.Outcome.{LineAt, Code, State, start, coded, Fresh, Room, Foreign, Repeats, Crowded, Step, Lines, none, then, Stopped, Whole, Known, Lost, Assembled, Outcome}
use Rattle.grammar.proofs.Fronts.{one_cut}
use Rattle.grammar.proofs.Readings.{says_one}

-- a line and what is behind it
line_cut : (text : List ℕ) (at : ℕ) (bytes : List ℕ) → LineAt text at bytes → bytes ++ drop (at + length bytes) text ≡ drop at text
line_cut text at bytes p = ap₂ ◌++◌ (sym p.there) (sym (drop-drop (length bytes) at text)) ∙ take-append-drop (length bytes) (drop at text)

-- one line begins at a place
pub line_one : (text : List ℕ) (at : ℕ) (a b : List ℕ) → LineAt text at a → LineAt text at b → a ≡ b
line_one text at a b p q = (one_cut Line a _ b _ (line_cut text at a p ∙ sym (line_cut text at b q)) p.solid q.solid p.ends q.ends).0

-- a good line leaves one state
pub step_one : (text : List ℕ) (W L line : ℕ) (s x y : State) → Step text W L line s x → Step text W L line s y → x ≡ y
step_one text W L line s x y p q =
    let b : p.bytes ≡ q.bytes = line_one text s.at _ _ p.there q.there in
    let e = says_one q.bytes _ _ _ _ (rw b at p.says) q.says in
    p.is ∙ rw (b, e.0, e.1) (sym q.is)

-- so do any number of good lines
pub lines_one : (text : List ℕ) (W L n : ℕ) (x y : State) → Lines text W L n x → Lines text W L n y → x ≡ y
lines_one text W L n x y none none = refl
lines_one text W L n x y (then {s = s} p a) (then {s = t} q b) =
    let e : s ≡ t = lines_one text W L _ s t p q in step_one text W L _ t x y (rw e at a) b

-- where one more line was good, the next line is
pub lines_before : (text : List ℕ) (W L n m : ℕ) (s last : State) → Lines text W L n s → Lines text W L m last → n < m → (next : State) × Step text W L (suc n) s next
lines_before text W L n m s last p none h = absurd (omega arith)
lines_before text W L n m s last p (then {n = k} {s = t} q a) h = elim (cases_lt n k) [ inl l ↦ lines_before text W L n k s t p q l | inr l ↦ here (omega arith) ]
  where
    here : n ≡ k → (next : State) × Step text W L (suc n) s next
    here e = (last, rw (e, lines_one text W L k s t (rw e at p) q) a)

-- as many good lines as a text begins with
pub record Longest (text : List ℕ) (W L n : ℕ) (s : State) : Type 0 where
  pub lines : Lines text W L n s
  pub stuck : (next : State) → Step text W L (suc n) s next → ⊥

longest_bound : {text : List ℕ} {W L n m : ℕ} {x y : State} → Longest text W L n x → Lines text W L m y → m ≤ n
longest_bound {text} {W} {L} {n} {m} {x} {y} p q =
    elim (cases_lt n m) [ inl l ↦ (let z = lines_before text W L n m x y p.lines q l in absurd (p.stuck z.0 z.1)) | inr l ↦ l ]

-- these good lines end at one place
pub longest_one : {text : List ℕ} {W L n m : ℕ} {x y : State} → Longest text W L n x → Longest text W L m y → (n ≡ m) × (x ≡ y)
longest_one {text} {W} {L} {n} {m} {x} {y} p q =
    let k : n ≡ m = omega (arith, longest_bound p q.lines, longest_bound q p.lines) in (k, lines_one text W L m x y (rw k at p.lines) q.lines)

module _ {text : List ℕ} {W L : ℕ} where
  -- no line is behind those of a whole text
  whole_reached : (s : State) (h : Whole text W L s) → Longest text W L h.count s
  whole_reached s h = record { lines = h.lines; stuck = λ next t. omega (arith, t.there.within) }

  -- a text is whole in one way
  pub whole_one : (s t : State) → Whole text W L s → Whole text W L t → s ≡ t
  whole_one s t h k = (longest_one (whole_reached s h) (whole_reached t k)).1

  -- where a line begins in a whole text, it is good
  pub whole_step : (n : ℕ) (s p : State) → Whole text W L s → Lines text W L n p → p.at ≤ length text → (next : State) × Step text W L (suc n) p next
  whole_step n s p h k inside =
      let low = longest_bound (whole_reached s h) k in
      elim (cases_lt n h.count) [ inl l ↦ lines_before text W L n h.count p s k h.lines l | inr l ↦ (let e : n ≡ h.count = omega arith in absurd (omega (arith, h.ended, ap (λ x. x.at) (lines_one text W L _ p s (rw e at k) h.lines)))) ]

  -- the instructions of the first lines are the first of the text
  pub lines_front : (n m : ℕ) (p s : State) → Lines text W L n p → Lines text W L m s → n ≤ m → (more : List Code) × (s.code ≡ p.code ++ more)
  lines_front n m p s k none low = let e : n ≡ 0 = omega arith in ([], sym (append-nil _ ∙ ap (λ x. x.code) (lines_one text W L _ p start (rw e at k) none)))
  lines_front n m p s k (then {n = i} {s = t} q a) low = elim (cases_lt i n) [ inl l ↦ same (omega arith) | inr l ↦ longer (lines_front n i p t k q l) ]
    where
      same : n ≡ m → (more : List Code) × (s.code ≡ p.code ++ more)
      same e = ([], sym (append-nil _ ∙ ap (λ x. x.code) (lines_one text W L _ p s (rw e at k) (then q a))))

      longer : (more : List Code) × (t.code ≡ p.code ++ more) → (more : List Code) × (s.code ≡ p.code ++ more)
      longer (more, e) = (more ++ coded m a.code, ap (λ x. x.code) a.is ∙ ap (λ x. x ++ coded m a.code) e ∙ append_assoc p.code more _)

  pub whole_front : (n : ℕ) (p s : State) → Lines text W L n p → Whole text W L s → (more : List Code) × (s.code ≡ p.code ++ more)
  whole_front n p s k h = lines_front n h.count p s k h.lines (longest_bound (whole_reached s h) k)

module _ {X : Type 0} (P : X → Type 0) where
  -- the first element without the property is one
  pub first_one : (x y : X) (a b c d : List X) → a ++ x ∷ c ≡ b ++ y ∷ d → AllByRecursion P a → AllByRecursion P b → (P x → ⊥) → (P y → ⊥) → x ≡ y
  first_one x y [] [] c d e pa pb nx ny = cc
  first_one x y [] (z ∷ b) c d e pa pb nx ny = let h : x ≡ z = cc in absurd (nx (rw h pb.0))
  first_one x y (z ∷ a) [] c d e pa pb nx ny = let h : y ≡ z = cc in absurd (ny (rw h pa.0))
  first_one x y (z ∷ a) (w ∷ b) c d e pa pb nx ny = first_one x y a b c d (cc) pa.1 pb.1 nx ny

  -- an element of a list whose elements all have it
  pub all_at : (x : X) (a c : List X) → AllByRecursion P (a ++ x ∷ c) → P x
  all_at x [] c h = h.0
  all_at x (z ∷ a) c h = all_at x a c h.1

-- a question, with what follows where it holds and where it does not
abbrev Asked : Type 0 → Type 0 → Type 0 → Type 0
Asked A P Q = (A × P) ⊎ ((A → ⊥) × Q)

-- a question has one answer
asked_one : {A P Q P' Q' G : Type 0} → Asked A P Q → Asked A P' Q' → (P → P' → G) → (Q → Q' → G) → G
asked_one (inl a) (inl b) f g = f a.1 b.1
asked_one (inl a) (inr b) f g = absurd (b.0 a.0)
asked_one (inr a) (inl b) f g = absurd (a.0 b.0)
asked_one (inr a) (inr b) f g = g a.1 b.1

-- why a line is not good
data Flaw : Type 0 where
  grammar : Flaw
  twice : Flaw
  no_room : Flaw

abbrev fault : Flaw → ℕ → Fault
fault grammar line = Grammar line
fault twice line = Twice line
fault no_room line = NoRoom line

-- what a line says
record Read (bytes : List ℕ) : Type 0 where
  label : Option (List ℕ)
  code : Option Ins
  says : Says bytes label code

abbrev read : {bytes : List ℕ} {label : Option (List ℕ)} {code : Option Ins} → Says bytes label code → Read bytes
read {bytes} {label} {code} says = record { label = label; code = code; says = says }

read_one : (bytes : List ℕ) (x y : Read bytes) → (x.label ≡ y.label) × (x.code ≡ y.code)
read_one bytes x y = says_one bytes _ _ _ _ x.says y.says

counts_one : (c d : Counts) → c.words ≡ d.words → c.labels ≡ d.labels → c ≡ d
counts_one c d = let make : ℕ → ℕ → Counts = λ x y. record { words = x; labels = y } in ap₂ make

module _ (text words : List ℕ) (labels : List Label) where
  -- the line says something, and its label is new
  abbrev Free : State → List ℕ → Type 0
  Free s bytes = (x : Read bytes) × Fresh text s.defs x.label

  -- and there is room for it: the line is good
  abbrev Good : State → List ℕ → Type 0
  Good s bytes = (x : Read bytes) × Fresh text s.defs x.label × Room (length words) (length labels) s x.label x.code

  abbrev Why : Flaw → State → List ℕ → Type 0
  Why grammar s bytes = Foreign bytes
  Why twice s bytes = Repeats text s.defs bytes
  Why no_room s bytes = Crowded text s.defs (Room (length words) (length labels) s) bytes

  -- a line with a flaw is not good, and two questions tell the flaws apart
  flawed : (f : Flaw) (s : State) (bytes : List ℕ) → Why f s bytes → (Good s bytes → ⊥) × Asked (Read bytes) (Asked (Free s bytes) (f ≡ no_room) (f ≡ twice)) (f ≡ grammar)
  flawed grammar s bytes p = let no : Read bytes → ⊥ = λ x. p x.label x.code x.says in ((λ g. no g.0), inr (no, refl))
  flawed twice s bytes (label, (code, says, p)) =
      let no : Free s bytes → ⊥ = λ y. p (rw (read_one bytes (read says) y.0).0 y.1) in ((λ g. no (g.0, g.1)), inl (read says, inr (no, refl)))
  flawed no_room s bytes (label, (code, says, fresh, p)) =
      ((λ g. let e = read_one bytes (read says) g.0 in p (rw (e.0, e.1) g.2)), inl (read says, inl ((read says, fresh), refl)))

  -- a line has one flaw
  flaw_one : (f g : Flaw) (s : State) (bytes : List ℕ) → Why f s bytes → Why g s bytes → f ≡ g
  flaw_one f g s bytes p q =
      asked_one (flawed f s bytes p).1 (flawed g s bytes q).1 (λ x y. asked_one x y (λ a b. a ∙ sym b) (λ a b. a ∙ sym b)) (λ a b. a ∙ sym b)

  -- the state behind the good lines, which is all that a whole text has
  abbrev Reached : ℕ → State → Type 0
  Reached n s = Longest text (length words) (length labels) n s

  abbrev Wholly : State → Type 0
  Wholly s = Whole text (length words) (length labels) s

  -- a whole text whose labels are all known
  abbrev Resolves : Type 0
  Resolves = (s : State) × Wholly s × AllByRecursion (Known text s) s.code

  module _ {line : ℕ} {w : List ℕ} {l : List Label} where
    flawed_reached : (f : Flaw) (h : Stopped text words labels line w l (Why f)) → Reached h.before h.state
    flawed_reached f h = record {
      lines = h.lines;
      stuck = λ next t.
          (flawed f h.state h.bytes h.why).0 (read (rw (line_one text h.state.at h.bytes t.bytes h.there t.there) t.says), t.fresh, t.room);
    }

    flawed_not_whole : (f : Flaw) → Stopped text words labels line w l (Why f) → (s : State) × Wholly s → ⊥
    flawed_not_whole f h (s, k) = omega (arith, ap (λ x. x.at) (longest_one (flawed_reached f h) (whole_reached s k)).1, h.there.within)

    lost_not_resolved : Lost text words labels line w l → Resolves → ⊥
    lost_not_resolved h (s, k, known) =
        let f = h.first in
        f.unknown (all_at (Known text h.state) f.lost f.front f.back (rw f.cut at (rw (← whole_one _ s h.whole k) at known)))

  -- the four kinds of outcomes, and three questions that tell them apart
  module _ (r : Result Counts Fault) (w : List ℕ) (l : List Label) where
    abbrev IsLong : Type 0
    IsLong = (r ≡ Err TooLong) × (w ≡ words) × (l ≡ labels)

    abbrev IsFlawed : Type 0
    IsFlawed = (f : Flaw) × ((line : ℕ) × (r ≡ Err (fault f line)) × Stopped text words labels line w l (Why f))

    abbrev IsLost : Type 0
    IsLost = (line : ℕ) × (r ≡ Err (Unknown line)) × Lost text words labels line w l

    abbrev IsDone : Type 0
    IsDone = (c : Counts) × (r ≡ Ok c) × Assembled text words labels c w l

    abbrev Sorted : Type 0
    Sorted = Asked (65535 < length text) IsLong (Asked ((s : State) × Wholly s) (Asked Resolves IsDone IsLost) IsFlawed)

    sorted_whole : (s : State) → Wholly s → Asked Resolves IsDone IsLost → Sorted
    sorted_whole s h a = inr ((λ long. omega arith), inl ((s, h), a))

  sorted_flaw : (f : Flaw) (line : ℕ) (w : List ℕ) (l : List Label) → Stopped text words labels line w l (Why f) → Sorted (Err (fault f line)) w l
  sorted_flaw f line w l h = inr ((λ long. omega arith), inr (flawed_not_whole f h, (f, (line, refl, h))))

  sorted : (r : Result Counts Fault) (w : List ℕ) (l : List Label) → Outcome text words labels r w l → Sorted r w l
  sorted (Ok c) w l h = sorted_whole (Ok c) w l h.state h.whole (inl ((h.state, h.whole, h.known), (c, refl, h)))
  sorted (Err TooLong) w l h = inl (h.0, (refl, h.1, h.2))
  sorted (Err (Grammar line)) w l h = sorted_flaw grammar line w l h
  sorted (Err (Twice line)) w l h = sorted_flaw twice line w l h
  sorted (Err (NoRoom line)) w l h = sorted_flaw no_room line w l h
  sorted (Err (Unknown line)) w l h = sorted_whole (Err (Unknown line)) w l h.state h.whole (inr (lost_not_resolved h, (line, refl, h)))

  -- of each kind there is one
  module _ (r q : Result Counts Fault) (wr wq : List ℕ) (lr lq : List Label) where
    abbrev Same : Type 0
    Same = (r ≡ q) × (wr ≡ wq) × (lr ≡ lq)

    long_one : IsLong r wr lr → IsLong q wq lq → Same
    long_one a b = (cc, cc, cc)

    flawed_one : IsFlawed r wr lr → IsFlawed q wq lq → Same
    flawed_one (f, (line, e, h)) (g, (number, d, k)) =
        let same = longest_one (flawed_reached f h) (flawed_reached g k) in
        let bytes = line_one text k.state.at _ _ (rw same.1 at h.there) k.there in
        let flaw = flaw_one f g k.state k.bytes (rw (same.1, bytes) at h.why) k.why in
        (cc, cc, cc)

    lost_one : IsLost r wr lr → IsLost q wq lq → Same
    lost_one (line, e, h) (number, d, k) =
        let state = whole_one _ _ h.whole k.whole in
        let f = h.first in
        let g = k.first in
        let lost = first_one (Known text k.state) f.lost g.lost f.front g.front f.back g.back (cc) (rw state at f.known) g.known (rw state at f.unknown) g.unknown in
        (cc, cc, cc)

    done_one : IsDone r wr lr → IsDone q wq lq → Same
    done_one (c, e, h) (b, d, k) =
        let state = whole_one _ _ h.whole k.whole in
        let counts = counts_one c b (cc) (cc) in
        (cc, h.words_are ∙ rw state (sym k.words_are), cc)

    sorted_one : Sorted r wr lr → Sorted q wq lq → Same
    sorted_one a b = asked_one a b long_one (λ x y. asked_one x y (λ u v. asked_one u v done_one lost_one) flawed_one)

-- a text has one outcome
pub outcome_one : (text words : List ℕ) (labels : List Label) (r q : Result Counts Fault) (wr wq : List ℕ) (lr lq : List Label) → Outcome text words labels r wr lr → Outcome text words labels q wq lq → (r ≡ q) × (wr ≡ wq) × (lr ≡ lq)
outcome_one text words labels r q wr wq lr lq a b =
    sorted_one text words labels r q wr wq lr lq (sorted text words labels r wr lr a) (sorted text words labels q wq lq b)

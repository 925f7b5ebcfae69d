-- The second reading: the labels of the lines so far are known, and their words are written.
use Rattle.std.proofs.Common.{◌≡◌, ℕ, suc, ◌+◌, ◌<◌, ◌≤◌, List, [], ◌∷◌, ◌++◌, length, drop, set, IfSome, OnOk, Some, None, Ok, Err, Option, Result, sym, refl, ap, ◌∙◌, subst, ap₂, append_assoc, append-nil, arith, length-append}
use Rattle.std.specs.Option.{option_map, ok_or}
use Rattle.std.specs.List.{AllByRecursion}
use Rattle.std.proofs.ByRecursion.{All-push}
use Rattle.std.proofs.lemmas.List.{drop_more, set_at, map_push, length-map}
use Rattle.text.specs.declared.fault.Fault.{Fault}
use Rattle.text.specs.declared.fault.Fault.TheVariants.{TooLong, Grammar, Twice, NoRoom, Unknown}
use Rattle.grammar.specs.declared.instruction.Instruction.{Instruction}
use Rattle.text.specs.declared.lines.TextLine.{TextLine}
use Rattle.text.specs.declared.table.Label.{Label}
use Rattle.text.specs.declared.table.Table.{Table}
use Rattle.grammar.specs.Forms.{ins, Formed}
use Rattle.grammar.specs.Lines.{Says}
use Rattle.text.specs.Lines.{IsLine}
use Rattle.text.specs.Table.{word_in, WordFor}
use Rattle.text.specs.Outcome.{LineAt, Code, State, start, coded, Lines, none, then, Whole, Known, FirstLost}
use Rattle.text.specs.Passes.{CodeIn, words_of, Behind, WordOf, NextWord, LabelsRead, WordsRead}
use Rattle.text.proofs.FirstPass.{size_coded}
use Rattle.text.proofs.Outcomes.{line_one, whole_one, whole_step, whole_front, all_at}

pub formed_code : (o : Option Instruction) → IfSome (option_map ins o) Formed → IfSome o (λ x. Formed (ins x))
formed_code None f = tt
formed_code (Some x) f = f

pub begins : (text : List ℕ) (W L : ℕ) → Behind text W L 0 0 []
begins text W L = record { state = start; lines = none; at_is = refl; code_is = refl }

-- the instruction of a line
abbrev pub coded_on : ℕ → Option Instruction → List Code
coded_on number r = coded number (option_map ins r)

module _ {text : List ℕ} {W L at line : ℕ} {code : List Code} {s : State} (whole : Whole text W L s) (h : Behind text W L at line code) where
  -- the next line is good, and this is its code
  pub adds : (x : TextLine) (r : Option Instruction) (to n : ℕ) → IsLine text at (line + 1) x → CodeIn x.bytes.now r → to ≡ at + length x.bytes.now + 1 → n ≡ line + 1 → Behind text W L to n (code ++ coded_on n r) × (length code + length (coded_on n r) ≤ W)
  adds x r to n t said e f =
      let bytes = x.bytes.now in
      let (next, step) = whole_step line s h.state whole h.lines (omega (arith, h.at_is, t.inside)) in
      let same = line_one text h.state.at step.bytes bytes step.there (subst (λ m. LineAt text m bytes) h.at_is t.there) in
      let codes = said.1 step.label step.code (subst (λ b. Says b step.label step.code) same step.says) in
      let number : suc line ≡ n = omega arith in
      let one : coded (suc line) step.code ≡ coded_on n r = ap₂ coded number codes in (
        record {
          state = next;
          lines = subst (λ m. Lines text W L m next) number (then h.lines step);
          at_is = e ∙ sym (ap (λ x. x.at) step.is ∙ ap₂ (λ a b. a + length b + 1) (sym h.at_is) same);
          code_is = sym (ap (λ x. x.code) step.is ∙ ap₂ (λ a b. a ++ b) (sym h.code_is) one);
        },
        omega (arith, step.room.0, size_coded (suc line) step.code, ap length one, ap length h.code_is),
      )

  -- the line has no instruction
  pub passes : (x : TextLine) (to n : ℕ) → IsLine text at (line + 1) x → CodeIn x.bytes.now None → to ≡ at + length x.bytes.now + 1 → n ≡ line + 1 → Behind text W L to n code
  passes x to n t said e f = subst (Behind text W L to n) (append-nil code) (adds x None to n t said e f).0

  -- all lines are read again
  pub ends : length text < at → at ≤ length text + 1 → code ≡ s.code
  ends past last = h.code_is ∙ ap (λ t. t.code) (whole_one h.state s (record { short = whole.short; count = line; lines = h.lines; ended = omega (arith, h.at_is) }) whole)

  -- the first instruction that uses a label in vain
  pub lost : (c : Code) (n : ℕ) (front : List Code) → code ≡ front ++ c ∷ [] → AllByRecursion (Known text s) front → WordOf text s c (Err (Unknown n)) → FirstLost text s n
  lost c n front e known w =
      let (more, cut) = whole_front line h.state s h.lines whole in
      record {
        front = front;
        lost = c;
        back = more;
        cut = cut ∙ ap (λ l. l ++ more) (sym h.code_is ∙ e) ∙ append_assoc front (c ∷ []) more;
        known = known;
        unknown = w.0;
        number = w.1;
      }

-- lines without an instruction
abbrev pub Skips : List ℕ → ℕ → ℕ → ℕ → ℕ → Type 0
Skips text at line at' line' = (s : State) (W L : ℕ) (code : List Code) → Whole text W L s → Behind text W L at line code → Behind text W L at' line' code

module _ {text : List ℕ} {at line at' line' : ℕ} (skips : Skips text at line at' line') where
  pub skips_more : (x : TextLine) (to n : ℕ) → IsLine text at' (line' + 1) x → CodeIn x.bytes.now None → to ≡ at' + length x.bytes.now + 1 → n ≡ line' + 1 → Skips text at line to n
  skips_more x to n t said e f s W L code w b = passes w (skips s W L code w b) x to n t said e f

  -- no instruction is left
  pub none_left : (table : List Label) (to n : ℕ) → length text < at' → at' ≤ length text + 1 → NextWord text table at line None to n
  none_left table to n past last = record { gives = λ s W L code w labels b. ends w (skips s W L code w b) past last }

  -- the next instruction, with its word or its line
  pub next_left : (table : List Label) (x : TextLine) (i : Instruction) (r : Option ℕ) (to n : ℕ) → IsLine text at' (line' + 1) x → CodeIn x.bytes.now (Some i) → WordFor text table (ins i) r → to ≡ at' + length x.bytes.now + 1 → n ≡ line' + 1 → NextWord text table at line (Some (ok_or r (Unknown x.number))) to n
  next_left table x i r to n t said word e f = record { gives = gives }
    where
      word_of : (s : State) (c : Code) (r : Option ℕ) → c.ins ≡ ins i → x.number ≡ c.line → WordFor text s.defs (ins i) r → WordOf text s c (ok_or r (Unknown x.number))
      word_of s c None same number k = (rw same k, number)
      word_of s c (Some w) same number k = rw same k

      gives : (s : State) (W L : ℕ) (code : List Code) → Whole text W L s → table ≡ s.defs → Behind text W L at line code → (c : Code) × Behind text W L to n (code ++ c ∷ []) × (length code < W) × WordOf text s c (ok_or r (Unknown x.number))
      gives s W L code w labels b =
          let more = adds w (skips s W L code w b) x (Some i) to n t said e f in
          let c : Code = record { line = n; ins = ins i } in
          (c, more.0, omega (arith, more.1), word_of s c r refl (t.number_is ∙ sym f) (subst (λ l. WordFor text l (ins i) r) labels word))

-- the next word of this table
pub of_table : {left table : Table} {at line to n : ℕ} (r : Option (Result ℕ Fault)) → left ≡ table → NextWord left.text.now left.labels.now at line r to n → NextWord table.text.now table.labels.now at line r to n
of_table {left} {table} {at} {line} {to} {n} r e k = subst (λ t. NextWord t.text.now t.labels.now at line r to n) e k

-- the labels of the lines before place `at` are known
pub record Upto (text : List ℕ) (W L : ℕ) (s : State) (at line : ℕ) : Type 0 where
  pub code : List Code
  pub behind : Behind text W L at line code
  pub known : AllByRecursion (Known text s) code

abbrev pub upto_none : (text : List ℕ) (W L : ℕ) (s : State) → Upto text W L s 0 0
upto_none text W L s = record { code = []; behind = begins text W L; known = tt }

module _ {text : List ℕ} {table : List Label} {W L : ℕ} {s : State} {at line to n : ℕ} (whole : Whole text W L s) (labels : table ≡ s.defs) (h : Upto text W L s at line) where
  -- there is a place for the next word
  pub word_room : (w : ℕ) → NextWord text table at line (Some (Ok w)) to n → length h.code < W
  word_room w k = (k.gives s W L h.code whole labels h.behind).2

  -- its label is known
  abbrev pub upto_more : (w : ℕ) → NextWord text table at line (Some (Ok w)) to n → Upto text W L s to n
  upto_more w k =
      let more = k.gives s W L h.code whole labels h.behind in
      record { code = h.code ++ more.0 ∷ []; behind = more.1; known = All-push (Known text s) h.code more.0 h.known more.3.0 }

  -- its label is not known
  pub upto_lost : (f : Fault) → NextWord text table at line (Some (Err f)) to n → LabelsRead text s (Err f)
  upto_lost TooLong k = absurd (k.gives s W L h.code whole labels h.behind).3
  upto_lost (Grammar m) k = absurd (k.gives s W L h.code whole labels h.behind).3
  upto_lost (Twice m) k = absurd (k.gives s W L h.code whole labels h.behind).3
  upto_lost (NoRoom m) k = absurd (k.gives s W L h.code whole labels h.behind).3
  upto_lost (Unknown m) k =
      let more = k.gives s W L h.code whole labels h.behind in
      lost whole more.1 more.0 m h.code refl h.known more.3

  -- there is no more
  code_all : NextWord text table at line None to n → h.code ≡ s.code
  code_all k = k.gives s W L h.code whole labels h.behind

  pub upto_all : NextWord text table at line None to n → AllByRecursion (Known text s) s.code
  upto_all k = subst (AllByRecursion (Known text s)) (code_all k) h.known

-- one word more behind those that are written
pub word_more : (front old : List ℕ) (i w : ℕ) → i < length old → length front ≡ i → set (front ++ drop i old) i w ≡ (front ++ w ∷ []) ++ drop (i + 1) old
word_more front old i w h e = ap (λ l. set (front ++ l) i w) (drop_more old i 0 h) ∙ set_at front _ _ w i e ∙ sym (append_assoc front (w ∷ []) (drop (i + 1) old))

-- and their words are written
pub record Written (text : List ℕ) (L : ℕ) (s : State) (at line count : ℕ) (old words : List ℕ) : Type 0 where
  pub upto : Upto text (length old) L s at line
  pub count_is : count ≡ length upto.code
  pub words_are : words ≡ words_of text s upto.code ++ drop (length upto.code) old

pub written_none : (text : List ℕ) (L : ℕ) (s : State) (old : List ℕ) → Written text L s 0 0 0 old old
written_none text L s old = record { upto = upto_none text (length old) L s; count_is = refl; words_are = refl }

module _ {text : List ℕ} {table : List Label} {L : ℕ} {s : State} {at line to n count : ℕ} {old words : List ℕ} (whole : Whole text (length old) L s) (labels : table ≡ s.defs) (h : Written text L s at line count old words) where
  pub written_more : (i next w : ℕ) → NextWord text table at line (Some (Ok w)) to n → i ≡ count → next ≡ count + 1 → Written text L s to n next old (set words i w)
  written_more i next w k e f =
      let code = h.upto.code in
      let more = k.gives s (length old) L code whole labels h.upto.behind in
      let front = words_of text s code in
      let long : length front ≡ i = length-map code _ ∙ sym h.count_is ∙ sym e in
      let all : words_of text s (code ++ more.0 ∷ []) ≡ front ++ w ∷ [] = map_push (λ c. word_in text s.defs c.ins) code more.0 ∙ ap (λ v. front ++ v ∷ []) (sym more.3.1) in
      let size : i + 1 ≡ length (code ++ more.0 ∷ []) = omega (arith, h.count_is, length-append code (more.0 ∷ [])) in
      let at_i : length code ≡ i = sym (e ∙ h.count_is) in
      record {
        upto = upto_more whole labels h.upto w k;
        count_is = omega (arith, size);
        words_are = ap (λ l. set l i w) (h.words_are ∙ ap (λ m. front ++ drop m old) at_i) ∙ word_more front old i w (omega (arith, more.2, at_i)) long ∙ ap₂ (λ a b. a ++ drop b old) (sym all) size;
      }

  -- all words are written
  pub written_all : NextWord text table at line None to n → AllByRecursion (Known text s) s.code × (words ≡ words_of text s s.code ++ drop (length s.code) old)
  written_all k =
      let all = code_all whole labels h.upto k in
      (upto_all whole labels h.upto k, h.words_are ∙ ap (λ l. words_of text s l ++ drop (length l) old) all)

-- where all labels are known, the reading that writes does not stop
pub wrote : (text : List ℕ) (s : State) (r : Result (Unit {0}) Fault) (words words' : List ℕ) → AllByRecursion (Known text s) s.code → LabelsRead text s r × OnOk r (words' ≡ words_of text s s.code ++ drop (length s.code) words) → WordsRead text s r words words'
wrote text s (Ok u) words words' known k = k
wrote text s (Err TooLong) words words' known k = absurd k.0
wrote text s (Err (Grammar n)) words words' known k = absurd k.0
wrote text s (Err (Twice n)) words words' known k = absurd k.0
wrote text s (Err (NoRoom n)) words words' known k = absurd k.0
wrote text s (Err (Unknown n)) words words' known k =
    let first = k.0 in
    absurd (first.unknown (all_at (Known text s) first.lost first.front first.back (subst (AllByRecursion (Known text s)) first.cut known)))

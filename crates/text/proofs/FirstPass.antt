-- The first reading: the lines so far are good, and their labels are entered.
use Rattle.std.proofs.Common.{◌≡◌, ℕ, suc, ◌+◌, ◌≤◌, List, [], ◌∷◌, ◌++◌, length, take, drop, Some, None, Ok, Option, sym, refl, ap, ◌∙◌, subst, ap₂, append_assoc, arith, length-append}
use Rattle.std.proofs.lemmas.List.{take_at, drop_at, drop-drop}
use Rattle.std.proofs.ByRecursion.{All-append}
use Rattle.std.proofs.lemmas.List.Elements.{All-from_recursion}
use Rattle.std.specs.List.{prefix_len, All, AllByRecursion}
use Rattle.grammar.specs.declared.line.Line.{Line}
use Rattle.text.specs.declared.lines.TextLine.{TextLine}
use Rattle.text.specs.declared.table.Counts.{Counts}
use Rattle.text.specs.declared.table.Label.{Label}
use Rattle.grammar.specs.declared.token.Run.TheVariants as run
use Rattle.grammar.specs.Bytes.{goes_on}
use Rattle.grammar.specs.Forms.{Ins}
use Rattle.grammar.specs.Lines.{Says, label_in, code_in}
use Rattle.text.specs.Table.{Within}
use Rattle.text.specs.Outcome.{LineAt, State, start, size, labelled, defined, coded, Fresh, Places, Room, after, Lines, none, then, entered}
use Rattle.grammar.proofs.Fronts.{label_place}
use Rattle.text.specs.Lines.{IsLine}
use Rattle.text.specs.Passes.{Checked, counted}

-- the lines before place `at` are good, and counts and table stand for what they left
pub record Sofar (text : List ℕ) (W : ℕ) (old : List Label) (at line : ℕ) (c : Counts) (labels : List Label) : Type 0 where
  pub state : State
  pub lines : Lines text W (length old) line state
  pub at_is : at ≡ state.at
  pub words_are : c.words ≡ length state.code
  pub labels_are : c.labels ≡ length state.defs
  pub table : labels ≡ entered state old
  pub room : (length state.code ≤ W) × (length state.defs ≤ length old)
  pub few : (length state.code ≤ line) × (length state.defs ≤ line)

pub begins : (text : List ℕ) (W : ℕ) (old : List Label) → Sofar text W old 0 0 (record { words = 0; labels = 0 }) old
begins text W old = record {
  state = start;
  lines = none;
  at_is = refl;
  words_are = refl;
  labels_are = refl;
  table = refl;
  room = (omega arith, omega arith);
  few = (omega arith, omega arith);
}

size_defined : (at : ℕ) (bytes : List ℕ) (address : ℕ) (label : Option (List ℕ)) → length (defined at bytes address label) ≡ size label
size_defined at bytes address None = refl
size_defined at bytes address (Some n) = refl

pub size_coded : (line : ℕ) (code : Option Ins) → length (coded line code) ≡ size code
size_coded line None = refl
size_coded line (Some i) = refl

size_most : {X : Type 0} (o : Option X) → size o ≤ 1
size_most None = omega arith
size_most (Some x) = omega arith

-- the label of a line lies in the text
label_within : (text : List ℕ) (at : ℕ) (bytes : List ℕ) (address : ℕ) (label : Option (List ℕ)) (code : Option Ins) → LineAt text at bytes → Says bytes label code → AllByRecursion (Within text) (defined at bytes address label)
label_within text at bytes address None code t s = tt
label_within text at bytes address (Some n) code t s =
    let there = t.within in
    (omega (arith, (label_place bytes n _ s.spelled.1).1), tt)

-- so do the labels of all good lines
pub lines_names : (text : List ℕ) (W L n : ℕ) (s : State) → Lines text W L n s → AllByRecursion (Within text) s.defs
lines_names text W L n s none = tt
lines_names text W L n s (then {s = p} q a) =
    subst (λ x. AllByRecursion (Within text) x.defs) (sym a.is)
    (All-append (Within text) p.defs _ (lines_names text W L _ p q) (label_within text p.at a.bytes (length p.code) a.label a.code a.there a.says))

pub lines_within : (text : List ℕ) (W L n : ℕ) (s : State) → Lines text W L n s → All (Within text) s.defs
lines_within text W L n s q = All-from_recursion (Within text) s.defs (lines_names text W L n s q)

same_entry : (place at : ℕ) (bytes : List ℕ) (a b : ℕ) (label : Option (List ℕ)) → place ≡ at + prefix_len (goes_on run.Spaces) bytes → a ≡ b → labelled place a label ≡ defined at bytes b label
same_entry place at bytes a b None e f = refl
same_entry place at bytes a b (Some n) e f = ap₂ (λ x y. record { place = x; length = length n; address = y } ∷ []) e f

module _ {text : List ℕ} {W : ℕ} {old : List Label} {at line : ℕ} {c : Counts} {labels : List Label} (h : Sofar text W old at line c labels) where
  front_is : take c.labels labels ≡ h.state.defs
  front_is = ap (take c.labels) h.table ∙ take_at h.state.defs _ c.labels (sym h.labels_are)

  -- what is behind the labels stays
  behind : (k : ℕ) → drop (c.labels + k) labels ≡ drop (length h.state.defs + k) old
  behind k =
      let front = h.state.defs in
      sym (drop-drop k c.labels labels) ∙ ap (drop k) (ap (drop c.labels) h.table ∙ drop_at front _ c.labels (sym h.labels_are)) ∙ drop-drop k (length front) old

  -- the labels that are entered have their names in the text
  pub within : All (Within text) (take c.labels labels)
  within = rw front_is (lines_within text W (length old) line h.state h.lines)

  -- the facts of the code, at the state
  fresh_there : (label : Option (List ℕ)) → Fresh text (take c.labels labels) label → Fresh text h.state.defs label
  fresh_there label f = subst (λ l. Fresh text l label) front_is f

  room_there : (label : Option (List ℕ)) (code : Option Ins) → Places W (length old) c.words c.labels label code → Room W (length old) h.state label code
  room_there label code r = (omega (arith, h.words_are, r.0), omega (arith, h.labels_are, r.1))

  -- one more good line
  pub goes_on_lem : (x : TextLine) (said : Line) (place : ℕ) (labels' : List Label) → IsLine text at (line + 1) x → Checked text W (length old) (take c.labels labels) c x.bytes.now x.number (Ok said) → place ≡ x.place + prefix_len (goes_on run.Spaces) x.bytes.now → labels' ≡ take c.labels labels ++ (labelled place c.words (label_in said) ++ drop (c.labels + size (label_in said)) labels) → (to n : ℕ) → to ≡ at + length x.bytes.now + 1 → n ≡ line + 1 → Sofar text W old to n (counted c said) labels'
  goes_on_lem x said place labels' t k p write to n e f =
      let bytes = x.bytes.now in
      let label = label_in said in
      let code = code_in said in
      let new = defined h.state.at bytes (length h.state.code) label in
      let place_is : place ≡ h.state.at + prefix_len (goes_on run.Spaces) bytes = p ∙ ap (λ m. m + prefix_len (goes_on run.Spaces) bytes) (t.place_is ∙ h.at_is) in
      let entry = same_entry place h.state.at bytes c.words (length h.state.code) label place_is h.words_are in
      let there = subst (λ m. LineAt text m bytes) h.at_is t.there in
      let short = size_defined h.state.at bytes (length h.state.code) label in
      let long = length-append h.state.defs new in
      let more = length-append h.state.code (coded (suc line) code) in
      let fit = room_there label code k.2 in
      let total : length h.state.defs + size label ≡ length (h.state.defs ++ new) = omega (arith, long, short) in
      let next : suc line ≡ n = omega arith in
      record {
        state = after (suc line) h.state bytes label code;
        lines = subst (λ m. Lines text W (length old) m (after (suc line) h.state bytes label code)) next (then h.lines (record { bytes = bytes; label = label; code = code; there = there; says = k.0; fresh = fresh_there label k.1; room = fit; is = refl }));
        at_is = omega (arith, h.at_is);
        words_are = omega (arith, h.words_are, more, size_coded (suc line) code);
        labels_are = omega (arith, h.labels_are, long, short);
        table = write ∙ ap₂ (λ a b. a ++ b) front_is (ap₂ (λ a b. a ++ b) entry (behind (size label) ∙ ap (λ m. drop m old) total)) ∙ sym (append_assoc h.state.defs new _);
        room = (omega (arith, fit.0, more, size_coded (suc line) code), omega (arith, fit.1, long, short));
        few = (omega (arith, h.few.0, more, size_coded (suc line) code, size_most code), omega (arith, h.few.1, long, short, size_most label));
      }

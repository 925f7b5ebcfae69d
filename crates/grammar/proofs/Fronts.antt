-- The first token of a line: found by runs of bytes, and the only one.
use Rattle.std.proofs.Common.{◌≡◌, ℕ, suc, ◌+◌, ◌<◌, ◌≤◌, Bool, true, false, ◌⊎◌, List, [], ◌∷◌, ◌++◌, length, get_or, take, drop, Some, None, Option, sym, refl, ap, ◌∙◌, inl, inr, append_assoc, one-add, arith, length-append, length-drop, take-append-drop, MatchOption}
use Rattle.std.specs.List.{prefix_len}
use Rattle.std.proofs.ByRecursion.{All-append, All-get_or}
use Rattle.std.proofs.lemmas.List.{get_or_append_left, get_or-take, length-take-le, take_at, drop-drop}
use Rattle.std.proofs.lemmas.List.Sums.{prefix_len-drop_yes, prefix_len-le-length}
use Rattle.std.proofs.lemmas.Bool.Decides.{nat_tests}
use Rattle.std.proofs.lemmas.Bool.{both_ways, cases_Bool}
use Rattle.grammar.specs.Bytes.{class_of, goes_on, blank, wordy, numeric}
use Rattle.grammar.specs.declared.token.Class.{Class}
use Rattle.grammar.specs.declared.token.Class.TheVariants.{Letter, Digit, Underscore, Dollar, Comma, Colon, Semicolon, Space, Other}
use Rattle.grammar.specs.declared.token.Run.{Run}
use Rattle.grammar.specs.declared.token.Run.TheVariants.{Spaces, Name, Digits}
use Rattle.grammar.specs.declared.token.Rest.{Rest}
use Rattle.grammar.specs.declared.token.Token.{Token}
use Rattle.grammar.specs.Tokens.{Tok, name, number, register, comma, colon, Runs, Stops, Spells, Parted, Next, Silent, Ends, Spelled, seen, NoToken, Fronts, Opens}

-- the bytes that `leading` counts, and what is behind them
pub runs_leading : (run : Run) (bs : List ℕ) → Runs run (take (prefix_len (goes_on run) bs) bs) × Stops run (drop (prefix_len (goes_on run) bs) bs)
runs_leading run [] = (tt, tt)
runs_leading run (b ∷ bs) =
    elim (cases_Bool (goes_on run b)) [ inl e ↦ rw (e, one-add) ((e, (runs_leading run bs).0), (runs_leading run bs).1) | inr e ↦ rw e (tt, e) ]

-- a byte that goes on with the run does not stop it
no_stop : (run : Run) (x y : ℕ) (xs ys : List ℕ) → x ∷ xs ≡ y ∷ ys → goes_on run x ≡ true → goes_on run y ≡ false → ⊥
no_stop run x y xs ys e on off = both_ways (goes_on run x) (cc) on

-- a cut behind a whole run is at one place only
pub one_cut : (run : Run) (a b c d : List ℕ) → a ++ b ≡ c ++ d → Runs run a → Runs run c → Stops run b → Stops run d → (a ≡ c) × (b ≡ d)
one_cut run [] b [] d e ra rc sb sd = (refl, e)
one_cut run [] [] (y ∷ c) d e ra rc sb sd = absurd (omega (arith, ap length e))
one_cut run [] (x ∷ b) (y ∷ c) d e ra rc sb sd = absurd (no_stop run y x (c ++ d) b (sym e) rc.0 sb)
one_cut run (x ∷ a) b [] [] e ra rc sb sd = absurd (omega (arith, ap length e))
one_cut run (x ∷ a) b [] (y ∷ d) e ra rc sb sd = absurd (no_stop run x y (a ++ b) d e ra.0 sd)
one_cut run (x ∷ a) b (y ∷ c) d e ra rc sb sd =
    let h : (a ≡ c) × (b ≡ d) = one_cut run a b c d (cc) ra.1 rc.1 sb sd in
    let g : a ≡ c = h.0 in (cc, h.1)

-- a whole run at the front is what `leading` counts
pub cut_leading : (run : Run) (bs a b : List ℕ) → bs ≡ a ++ b → Runs run a → Stops run b → (take (prefix_len (goes_on run) bs) bs ≡ a) × (drop (prefix_len (goes_on run) bs) bs ≡ b)
cut_leading run bs a b e ra sb =
    one_cut run _ _ a b (take-append-drop (prefix_len (goes_on run) bs) bs ∙ e) (runs_leading run bs).0 ra (runs_leading run bs).1 sb

-- what is behind the spaces at the front
abbrev pub front : List ℕ → List ℕ
front bs = drop (prefix_len (goes_on Spaces) bs) bs

-- the class of a token's first byte
abbrev pub opens : Tok → Class
opens (name n) = Letter
opens (number n) = Digit
opens (register n) = Dollar
opens comma = Comma
opens colon = Colon

-- the classes that begin a token
abbrev pub begins : Class → Bool
begins Letter = true
begins Digit = true
begins Underscore = false
begins Dollar = true
begins Comma = true
begins Colon = true
begins Semicolon = false
begins Space = false
begins Other = false

opens_begins : (t : Tok) → (begins (opens t) ≡ true) × (blank (opens t) ≡ false)
opens_begins (name n) = (refl, refl)
opens_begins (number n) = (refl, refl)
opens_begins (register n) = (refl, refl)
opens_begins comma = (refl, refl)
opens_begins colon = (refl, refl)

numeric_digit : (c : Class) → numeric c ≡ true → c ≡ Digit
numeric_digit c e = grind arith

-- a spelling begins with the class of its token
spells_opens : (w : List ℕ) (t : Tok) → Spells w t → Opens (opens t) w
spells_opens w (name n) (e, h) = rw e (record { some = h.some; class = h.first })
spells_opens w (number n) (e, some, all) = rw e (record { some = some; class = numeric_digit _ (All-get_or (λ b. goes_on Digits b ≡ true) n 0 0 some all) })
spells_opens w (register n) (e, (ds, f, all)) = rw (e, f) (record { some = omega arith; class = refl })
spells_opens w comma e = rw e (record { some = omega arith; class = refl })
spells_opens w colon e = rw e (record { some = omega arith; class = refl })

spells_front : (w : List ℕ) (t : Tok) (r : List ℕ) → Spells w t → Opens (opens t) (w ++ r)
spells_front w t r s =
    let o = spells_opens w t s in
    let some : 0 < length w = o.some in
    record { some = simp length-append (omega arith); class = rw get_or_append_left o.class }

opens_stops : (c : Class) (bs : List ℕ) → Opens c bs → blank c ≡ false → Stops Spaces bs
opens_stops c [] o e = tt
opens_stops c (b ∷ bs) o e = ap blank o.class ∙ e

-- the bytes behind the spaces are those of the first token and the rest
next_front : (bs : List ℕ) (t : Tok) (r : List ℕ) (h : Next bs t r) → front bs ≡ h.spelling ++ r
next_front bs t r h =
    (cut_leading Spaces bs h.gap (h.spelling ++ r) h.whole h.spaces
    (opens_stops (opens t) _ (spells_front h.spelling t r h.spells) (opens_begins t).1)).1

next_opens : (bs : List ℕ) (t : Tok) (r : List ℕ) → Next bs t r → Opens (opens t) (front bs)
next_opens bs t r h = rw (next_front bs t r h) (spells_front h.spelling t r h.spells)

next_class : (bs : List ℕ) (t : Tok) (r : List ℕ) (c : Class) → Next bs t r → Opens c (front bs) → opens t ≡ c
next_class bs t r c h o = sym (next_opens bs t r h).class ∙ o.class

silent_stops : (bs : List ℕ) → Silent bs → Stops Spaces bs
silent_stops [] s = tt
silent_stops (b ∷ bs) s = rw s refl

ends_front : (bs : List ℕ) (h : Ends bs) → front bs ≡ h.rest
ends_front bs h = (cut_leading Spaces bs h.gap h.rest h.whole h.spaces (silent_stops _ h.silent)).1

silent_opens : (c : Class) (bs : List ℕ) → Silent bs → Opens c bs → c ≡ Semicolon
silent_opens c [] s o = absurd (omega (arith, o.some))
silent_opens c (b ∷ bs) s o = sym o.class ∙ rw s refl

ends_opens : (c : Class) (bs : List ℕ) → Ends bs → Opens c (front bs) → c ≡ Semicolon
ends_opens c bs h o = silent_opens c _ h.silent (rw (ends_front bs h) at o)

-- the bytes do not both end and have a token
pub next_or_end : (bs : List ℕ) (t : Tok) (r : List ℕ) → Next bs t r → Ends bs → ⊥
next_or_end bs t r h e =
    both_ways (begins (opens t)) (ap begins (ends_opens (opens t) bs e (next_opens bs t r h))) (opens_begins t).0

-- how many bytes a token of the class has
abbrev width : Class → List ℕ → ℕ
width Letter bs = prefix_len (goes_on Name) bs
width Digit bs = prefix_len (goes_on Digits) bs
width Underscore bs = 1
width Dollar bs = suc (prefix_len (goes_on Digits) (drop 1 bs))
width Comma bs = 1
width Colon bs = 1
width Semicolon bs = 1
width Space bs = 1
width Other bs = 1

-- the token of the class that the bytes spell
abbrev tok : Class → List ℕ → Tok
tok Letter w = name w
tok Digit w = number w
tok Underscore w = comma
tok Dollar w = register w
tok Comma w = comma
tok Colon w = colon
tok Semicolon w = comma
tok Space w = comma
tok Other w = comma

-- the bytes, cut behind the first token
record Cut (t : Tok) (bs w r : List ℕ) : Type 0 where
  word : take (width (opens t) bs) bs ≡ w
  rest : drop (width (opens t) bs) bs ≡ r
  token : t ≡ tok (opens t) w

spells_cut : (w : List ℕ) (t : Tok) (r : List ℕ) → Spells w t → Parted t r → Cut t (w ++ r) w r
spells_cut w (name n) r (e, h) p =
    let k = cut_leading Name (w ++ r) w r refl (rw e h.all) p in record { word = k.0; rest = k.1; token = ap name (sym e) }
spells_cut w (number n) r (e, some, all) p =
    let k = cut_leading Digits (w ++ r) w r refl (rw e all) p in record { word = k.0; rest = k.1; token = ap number (sym e) }
spells_cut w (register n) r (e, (ds, f, all)) p =
    let k = cut_leading Digits (ds ++ r) ds r refl all p in rw (e, f) (record { word = ap (λ xs. 36 ∷ xs) k.0; rest = k.1; token = refl })
spells_cut w comma r e p = rw e (record { word = refl; rest = refl; token = refl })
spells_cut w colon r e p = rw e (record { word = refl; rest = refl; token = refl })

next_cut : (bs : List ℕ) (t : Tok) (r : List ℕ) (h : Next bs t r) → Cut t (front bs) h.spelling r
next_cut bs t r h = rw (next_front bs t r h) (spells_cut h.spelling t r h.spells h.parted)

-- the first token is the only one
pub next_one : (bs : List ℕ) (t u : Tok) (r s : List ℕ) → Next bs t r → Next bs u s → (t ≡ u) × (r ≡ s)
next_one bs t u r s h k =
    let a = next_cut bs t r h in
    let b = next_cut bs u s k in
    let e : opens t ≡ opens u = next_class bs t r (opens u) h (next_opens bs u s k) in (cc, cc)

-- the bytes of a line spell one list of tokens
pub spelled_one : (bs : List ℕ) (ts us : List Tok) → Spelled bs ts → Spelled bs us → ts ≡ us
spelled_one bs [] [] h k = refl
spelled_one bs [] (u ∷ us) h k = absurd (next_or_end bs u k.0 k.1 h)
spelled_one bs (t ∷ ts) [] h k = absurd (next_or_end bs t h.0 h.1 k)
spelled_one bs (t ∷ ts) (u ∷ us) h k =
    let e = next_one bs t u h.0 k.0 h.1 k.1 in
    let same : t ≡ u = e.0 in
    let more : ts ≡ us = spelled_one h.0 ts us h.2 (rw e.1 k.2) in cc

-- a name at the front of a line stands behind the spaces
pub label_place : (bs n rest : List ℕ) → Next bs (name n) rest → (take (length n) (drop (prefix_len (goes_on Spaces) bs) bs) ≡ n) × (prefix_len (goes_on Spaces) bs + length n ≤ length bs)
label_place bs n rest h =
    let e : front bs ≡ n ++ rest = next_front bs (name n) rest h ∙ ap (λ w. w ++ rest) h.spells.0 in
    (rw e (take_at n rest (length n) refl), omega (arith, prefix_len-le-length (goes_on Spaces) bs, simp (length-drop, length-append) at (ap length e)))

-- a token at the very front of the bytes
next_made : (n : ℕ) (bs : List ℕ) (t : Tok) → Spells (take n bs) t → Parted t (drop n bs) → Next bs t (drop n bs)
next_made n bs t s p =
    record { gap = []; spelling = take n bs; whole = sym (take-append-drop n bs); spaces = tt; spells = s; parted = p }

-- the bytes that a run takes from the front, which begin with the class
record Taken (run : Run) (c : Class) (n : ℕ) (bs : List ℕ) : Type 0 where
  word : Opens c (take n bs)
  size : length (take n bs) ≡ n
  runs : Runs run (take n bs)
  stops : Stops run (drop n bs)

run_taken : (run : Run) (c : Class) (n : ℕ) (bs : List ℕ) → n ≡ prefix_len (goes_on run) bs → Opens c bs → goes_on run (get_or bs 0 0) ≡ true → Taken run c n bs
run_taken run c n bs e o on =
    let some : 0 < n = omega (arith, prefix_len-drop_yes (goes_on run) bs 0 0 o.some on) in
    let size : length (take n bs) ≡ n = length-take-le n bs (omega (arith, prefix_len-le-length (goes_on run) bs)) in
    record { word = record { some = rw size some; class = rw get_or-take o.class }; size = size; runs = rw e (runs_leading run bs).0; stops = rw e (runs_leading run bs).1 }

-- the first byte, where its class has no other
first_is : (c : Class) (x : ℕ) → ((b : ℕ) → class_of b ≡ c → b ≡ x) → (bs : List ℕ) → Opens c bs → bs ≡ x ∷ drop 1 bs
first_is c x only [] o = absurd (omega (arith, o.some))
first_is c x only (b ∷ bs) o = rw (only b o.class)

-- the tokens that runs make
module _ (bs : List ℕ) (n : ℕ) where
  pub next_name : n ≡ prefix_len (goes_on Name) bs → Opens Letter bs → n ≤ 16 → Next bs (name (take n bs)) (drop n bs)
  next_name e o short =
      let k = run_taken Name Letter n bs e o (ap wordy o.class) in
      next_made n bs (name (take n bs)) (refl, record { some = k.word.some; short = rw k.size short; first = k.word.class; all = k.runs }) k.stops

  pub next_number : n ≡ prefix_len (goes_on Digits) bs → Opens Digit bs → Next bs (number (take n bs)) (drop n bs)
  next_number e o =
      let k = run_taken Digits Digit n bs e o (ap numeric o.class) in
      next_made n bs (number (take n bs)) (refl, k.word.some, k.runs) k.stops

  pub next_register : n ≡ prefix_len (goes_on Digits) (drop 1 bs) → Opens Dollar bs → Next bs (register (take (1 + n) bs)) (drop (1 + n) bs)
  next_register e o =
      let k = runs_leading Digits (drop 1 bs) in
      let h : take (1 + n) bs ≡ 36 ∷ take n (drop 1 bs) = rw (one-add, first_is Dollar 36 (λ b q. grind (arith, nat_tests)) bs o) in
      next_made (1 + n) bs (register (take (1 + n) bs)) (refl, (take n (drop 1 bs), h, rw e k.0)) (rw (← drop-drop n 1 bs, e) k.1)

-- no spaces are at the front
front_same : (bs : List ℕ) → Stops Spaces bs → front bs ≡ bs
front_same bs s = (cut_leading Spaces bs [] bs refl tt s).1

-- a name has at most sixteen bytes
next_short : (bs : List ℕ) (t : Tok) (r : List ℕ) → Next bs t r → Opens Letter (front bs) → prefix_len (goes_on Name) (front bs) ≤ 16
next_short bs t r h o =
    let k = next_cut bs t r h in
    let c : opens t ≡ Letter = next_class bs t r Letter h o in
    let q : t ≡ name h.spelling = cc in
    omega (arith, (rw q at h.spells).1.short, ap length (rw c at k.word), length-take-le _ (front bs) (prefix_len-le-length (goes_on Name) (front bs)))

pub name_too_long : (bs : List ℕ) (n : ℕ) → n ≡ prefix_len (goes_on Name) bs → Opens Letter bs → 16 < n → NoToken bs
name_too_long bs n e o long =
    let f = front_same bs (opens_stops Letter bs o refl) in
    let p : Opens Letter (front bs) = rw f o in
    record {
      none = λ t r h. omega (arith, rw f at (next_short bs t r h p));
      goes = λ h. let c : Letter ≡ Semicolon = ends_opens Letter bs h p in grind arith;
    }

-- bytes that begin neither a token nor a comment
pub no_token : (bs : List ℕ) (c : Class) → Stops Spaces bs → Opens c bs → (c ≡ Underscore) ⊎ ((c ≡ Space) ⊎ (c ≡ Other)) → NoToken bs
no_token bs c s o idle =
    let p : Opens c (front bs) = rw (front_same bs s) o in
    let off : begins c ≡ false = grind arith in
    record {
      none = λ t r h. both_ways (begins c) off (rw (next_class bs t r c h p) at (opens_begins t).0);
      goes = λ h. let e : c ≡ Semicolon = ends_opens c bs h p in grind arith;
    }

-- what is said of the bytes behind the spaces is said of all of them
module _ (bs : List ℕ) where
  indent : List ℕ
  indent = take (prefix_len (goes_on Spaces) bs) bs

  whole_behind : (g r : List ℕ) → front bs ≡ g ++ r → bs ≡ (indent ++ g) ++ r
  unfolding indent
  whole_behind g r e = sym (take-append-drop (prefix_len (goes_on Spaces) bs) bs) ∙ rw (e, append_assoc)

  spaces_behind : (g : List ℕ) → Runs Spaces g → Runs Spaces (indent ++ g)
  unfolding indent
  spaces_behind g s = All-append (λ b. goes_on Spaces b ≡ true) _ g (runs_leading Spaces bs).0 s

  next_behind : (t : Tok) (r : List ℕ) → Next (front bs) t r → Next bs t r
  next_behind t r h =
      record {
        gap = indent ++ h.gap;
        spelling = h.spelling;
        whole = whole_behind h.gap _ h.whole;
        spaces = spaces_behind h.gap h.spaces;
        spells = h.spells;
        parted = h.parted;
      }

  ends_behind : Ends (front bs) → Ends bs
  ends_behind h =
      record { gap = indent ++ h.gap; rest = h.rest; whole = whole_behind h.gap _ h.whole; spaces = spaces_behind h.gap h.spaces; silent = h.silent }

  none_behind : NoToken (front bs) → NoToken bs
  none_behind h =
      record {
        none = λ t r k.
            h.none t r (record { gap = []; spelling = k.spelling; whole = next_front bs t r k; spaces = tt; spells = k.spells; parted = k.parted });
        goes = λ k. h.goes (record { gap = []; rest = k.rest; whole = ends_front bs k; spaces = tt; silent = k.silent });
      }

  lexes_behind : (o : Option Tok) (r : List ℕ) → MatchOption o (Ends (front bs)) (λ u. Next (front bs) u r) → MatchOption o (Ends bs) (λ u. Next bs u r)
  lexes_behind None r h = ends_behind h
  lexes_behind (Some u) r h = next_behind u r h

  pub fronts_behind : (o : Option (Token × Rest)) → Fronts (front bs) o → Fronts bs o
  fronts_behind None h = none_behind h
  fronts_behind (Some p) h = lexes_behind (seen p.0) _ h

-- The lines of a text.
use Rattle.std.proofs.Common.{◌≡◌, ℕ, ◌+◌, ◌<◌, ◌≤◌, List, [], ◌∷◌, ◌++◌, length, take, drop, set, Some, sym, ap, ◌∙◌, subst, add-one, arith, length-drop}
use Rattle.std.specs.List.{prefix_len}
use Rattle.std.proofs.lemmas.List.{length-take-le, drop-drop, set_split}
use Rattle.std.proofs.lemmas.List.Sums.{prefix_len-le-length}
use Rattle.grammar.specs.declared.token.Run.TheVariants.{Line}
use Rattle.grammar.specs.Bytes.{goes_on}
use Rattle.grammar.specs.Tokens.{Stops}
use Rattle.text.specs.declared.lines.TextLine.{TextLine}
use Rattle.text.specs.Lines.{IsLine, NextLine}
use Rattle.text.specs.Outcome.{LineAt}
use Rattle.grammar.proofs.Fronts.{runs_leading}

-- the bytes up to the next byte 10 are a line
pub line_there : (text : List ℕ) (at : ℕ) → at ≤ length text → LineAt text at (take (prefix_len (goes_on Line) (drop at text)) (drop at text))
line_there text at h =
    let rest = drop at text in
    let n = prefix_len (goes_on Line) rest in
    let long : length (take n rest) ≡ n = length-take-le n rest (prefix_len-le-length (goes_on Line) rest) in
    let cut = runs_leading Line rest in
    record {
      within = omega (arith, long, prefix_len-le-length (goes_on Line) rest, length-drop at text);
      there = ap (λ m. take m rest) long;
      solid = cut.0;
      ends = subst (Stops Line) (drop-drop n at text ∙ ap (λ m. drop (at + m) text) (sym long)) cut.1;
    }

-- the next line of this text
pub record Took (text : List ℕ) (at count : ℕ) (line : TextLine) (text' : List ℕ) (at' count' : ℕ) : Type 0 where
  pub same : text' ≡ text
  pub is : IsLine text at (count + 1) line
  pub at_is : at' ≡ at + length line.bytes.now + 1
  pub count_is : count' ≡ count + 1

pub took : {text left left' : List ℕ} {at count at' count' : ℕ} {line : TextLine} → left ≡ text → NextLine left at count (Some line) left' at' count' → Took text at count line left' at' count'
took {text} {left} {left'} {at} {count} {at'} {count'} {line} e h =
    record { same = h.0 ∙ e; is = subst (λ t. IsLine t at (count + 1) line) e h.1.0; at_is = h.1.1; count_is = h.1.2 }

-- behind the last line
pub past : {text left : List ℕ} {at : ℕ} → left ≡ text → length left < at → at ≤ length left + 1 → (length text < at) × (at ≤ length text + 1)
past e low high = (omega (arith, ap length e), omega (arith, ap length e))

-- one entry is written, and the others stay
pub enters : {X : Type 0} (xs : List X) (i : ℕ) (x : X) → i < length xs → set xs i x ≡ take i xs ++ ((x ∷ []) ++ drop (i + 1) xs)
enters xs i x h = set_split xs i x h ∙ ap (λ n. take i xs ++ x ∷ drop n xs) (sym (add-one i))

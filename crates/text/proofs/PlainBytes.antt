-- The bytes of plain lines: digits, labels and names of instructions.
use Rattle.std.proofs.Common.{◌≡◌, ℕ, ◌+◌, ◌%◌, ◌^◌, ◌<◌, ◌≤◌, Bool, true, false, ◌&&◌, leb, List, [], ◌∷◌, length, decimal, refl, ap, arith}
use Rattle.std.proofs.lemmas.Fmt.{decimal_by_steps, decimal_nonempty, length-decimal-le}
use Rattle.std.proofs.ByRecursion.{All-append, All-weaker}
use Rattle.std.proofs.lemmas.Bool.{and_parts, leb-true}
use Rattle.std.proofs.lemmas.Bool.Decides.{nat_tests}
use Rattle.grammar.specs.Bytes.{class_of, goes_on, letter, wordy}
use Rattle.operations.specs.declared.Binary.TheVariants.{Add, Sub, Mul, Div}
use Rattle.operations.specs.declared.Unary.TheVariants.{Floor, Abs, Sqrt}
use Rattle.grammar.specs.declared.instruction.Mnemonic.{Mnemonic}
use Rattle.grammar.specs.declared.instruction.Mnemonic.TheVariants as mnemonic
use Rattle.grammar.specs.declared.token.Class.TheVariants.{Letter}
use Rattle.grammar.specs.declared.token.Run.TheVariants.{Name, Digits, Line}
use Rattle.grammar.specs.Tokens.{Runs, IsName}
use Rattle.grammar.specs.Forms.{spelling}
use Rattle.text.specs.Plain.{label_name}

-- the byte of a digit
digit_runs : (n : ℕ) → n < 10 → goes_on Digits (48 + n) ≡ true
digit_runs n h = grind (arith, nat_tests)

-- a number is written in digits
pub digits_run : (v : ℕ) → v ≤ 65535 → Runs Digits (decimal v)
digits_run v h =
    decimal_by_steps (λ n ds. Runs Digits ds) (λ n l. (digit_runs n l, tt)) (λ n ds l r. All-append (λ b. goes_on Digits b ≡ true) ds _ r (digit_runs (n % 10) (omega arith), tt)) v (omega arith)

-- a digit goes on with a name, and what goes on with a name goes on with a line
pub digits_name : (bs : List ℕ) → Runs Digits bs → Runs Name bs
digits_name bs r = All-weaker (λ b. goes_on Digits b ≡ true) (λ b. goes_on Name b ≡ true) (λ b e. grind (arith, nat_tests)) bs r

pub name_line : (bs : List ℕ) → Runs Name bs → Runs Line bs
name_line bs r = All-weaker (λ b. goes_on Name b ≡ true) (λ b. goes_on Line b ≡ true) (λ b e. grind (arith, nat_tests)) bs r

-- a number has a digit, and no more than its bound allows
pub number_some : (v : ℕ) → v ≤ 65535 → 0 < length (decimal v)
number_some v h = decimal_nonempty v (omega arith)

pub number_short : (k v : ℕ) → 0 < k → v < 10 ^ k → v ≤ 65535 → length (decimal v) ≤ k
number_short k v some h w = length-decimal-le k v some h (omega arith)

-- the label of an address is a name of at most five bytes
pub label_short : (k : ℕ) → k ≤ 2048 → length (label_name k) ≤ 5
label_short k h = omega (arith, number_short 4 k (omega arith) (omega arith) (omega arith))

pub label_name_lem : (k : ℕ) → k ≤ 2048 → IsName (label_name k)
label_name_lem k h = record { some = omega arith; short = omega (arith, label_short k h); first = refl; all = (refl, digits_name _ (digits_run k (omega arith))) }

-- letters only
abbrev lettered : List ℕ → Bool
lettered [] = true
lettered (b ∷ bs) = letter b && lettered bs

-- one to five letters
abbrev plain : List ℕ → Bool
plain [] = false
plain (b ∷ bs) = letter b && (lettered bs && leb (length bs) 4)

letter_class : (b : ℕ) → letter b ≡ true → class_of b ≡ Letter
letter_class b e = grind (arith, nat_tests)

lettered_name : (bs : List ℕ) → lettered bs ≡ true → Runs Name bs
lettered_name [] e = tt
lettered_name (b ∷ bs) e = let h = and_parts (letter b) _ e in (ap wordy (letter_class b h.0), lettered_name bs h.1)

-- such bytes are a name
plain_name : (n : List ℕ) → plain n ≡ true → IsName n × (length n ≤ 5)
plain_name [] e = grind arith
plain_name (b ∷ bs) e =
    let h = and_parts (letter b) _ e in
    let k = and_parts (lettered bs) _ h.1 in
    let short : length bs ≤ 4 = omega (arith, leb-true (length bs) 4 k.1) in
    let first : class_of b ≡ Letter = letter_class b h.0 in
    (record { some = omega arith; short = omega arith; first = first; all = (ap wordy first, lettered_name bs k.0) }, omega arith)

-- the name of an instruction
spelling_plain : (m : Mnemonic) → plain (spelling m) ≡ true
spelling_plain (mnemonic.Binary Add) = refl
spelling_plain (mnemonic.Binary Sub) = refl
spelling_plain (mnemonic.Binary Mul) = refl
spelling_plain (mnemonic.Binary Div) = refl
spelling_plain (mnemonic.Unary Floor) = refl
spelling_plain (mnemonic.Unary Abs) = refl
spelling_plain (mnemonic.Unary Sqrt) = refl
spelling_plain mnemonic.Cmov = refl
spelling_plain mnemonic.Bltz = refl
spelling_plain mnemonic.Setx = refl
spelling_plain mnemonic.Loop = refl
spelling_plain mnemonic.Done = refl
spelling_plain mnemonic.Nop = refl

pub spelling_name : (m : Mnemonic) → IsName (spelling m) × (length (spelling m) ≤ 5)
spelling_name m = plain_name _ (spelling_plain m)

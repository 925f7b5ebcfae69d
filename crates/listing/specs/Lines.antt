-- The lines that the programs print, and what a word's line reads as. Assumes nothing.
use Rattle.std.specs.Prelude.{◌≡◌, ℕ, ◌+◌, ◌-◌, ◌/◌, ◌%◌, ◌^◌, ◌≤◌, cond, ◌⊎◌, List, [], ◌∷◌, ◌++◌, map, take, drop, codes, decimal, nat_lt}
use Rattle.std.specs.Int.Digits.{number_from_digits}
use Rattle.std.specs.List.{AllByRecursion}
use Rattle.listing.specs.declared.Layer.{Layer}
use Rattle.listing.specs.declared.Layer.TheVariants.{Text, Program}
use Rattle.listing.specs.declared.Refusal.{Refusal}

-- the lowercase digit of a number below 16
abbrev pub hex_digit : ℕ → ℕ
hex_digit n = cond (nat_lt n 10) (48 + n) (87 + n)

-- the five digits of the low twenty bits, the highest first, and the newline
abbrev pub word_line : ℕ → List ℕ
word_line word = hex_digit (word / 65536 % 16) ∷ hex_digit (word / 4096 % 16) ∷ hex_digit (word / 256 % 16) ∷ hex_digit (word / 16 % 16) ∷ hex_digit (word % 16) ∷ 10 ∷ []

-- one of 0-9 or a-f
abbrev pub LowerHex : ℕ → Type 0
LowerHex c = ((48 ≤ c) × (c ≤ 57)) ⊎ ((97 ≤ c) × (c ≤ 102))

-- what such a digit stands for
abbrev pub hex_value : ℕ → ℕ
hex_value c = cond (nat_lt c 97) (c - 48) (c - 87)

-- the line is five digits that read in base 16 as the low twenty bits of the word, and the newline
pub record Reads (word : ℕ) (line : List ℕ) : Type 0 where
  pub digits : AllByRecursion LowerHex (take 5 line)
  pub low : number_from_digits 16 (map hex_value (take 5 line)) ≡ word % 2 ^ 20
  pub ends : drop 5 line ≡ 10 ∷ []

-- what a place is called: a text's is a line, a program's an address
abbrev pub place_word : Layer → List ℕ
place_word Text = codes "line"
place_word Program = codes "address"

-- the number and the place in decimal
abbrev pub refusal_text : Refusal → List ℕ
refusal_text r = codes "refused " ++ (decimal r.number ++ (codes " at " ++ (place_word r.layer ++ (codes " " ++ decimal r.place))))

-- that, and the newline
abbrev pub refusal_line : Refusal → List ℕ
refusal_line r = refusal_text r ++ (10 ∷ [])

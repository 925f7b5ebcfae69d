-- What rounding has to be, in words that leave one answer only, for every precision of at least 2 and every greatest exponent of at least 1.
use Rattle.std.specs.Prelude.{◌≡◌, ℕ, suc, ◌+◌, ◌-◌, ◌*◌, ◌%◌, ◌^◌, ◌<◌, ◌≤◌, Bool, true, false, ℤ, pos, ◌≢◌}
use Rattle.ieee.specs.Formats.{Value, not_number, infinite, finite, low, infinity, sign_weight, quiet, signed, steps, decode}
use Rattle.ieee.specs.Rounding.{Exact, none, endless, fraction, root, word}
use Rattle.ieee.specs.Operations.{sum, opposite, unsigned, product, quotient, square_root, scaled, converted, add, sub, mul, div, sqrt, abs, number, floor, held_level, level_of}

-- |a - b|
abbrev pub apart : ℕ → ℕ → ℕ
apart a b = (a - b) + (b - a)

abbrev pub square : ℕ → ℕ
square a = a * a

-- twice the midpoint between the greatest value and the one that would follow it
abbrev pub twice_midpoint : ℕ → ℕ → ℕ
twice_midpoint p e = steps p (infinity p e - 1) + steps p (infinity p e)

-- The pattern m is the one to write for n / d smallest values.
pub record Nearest (p e n d m : ℕ) : Type 0 where
  pub held : m ≤ infinity p e
  pub nearest : m < infinity p e → (k : ℕ) → k < infinity p e → apart n (steps p m * d) ≤ apart n (steps p k * d)
  pub even : m < infinity p e → (k : ℕ) → k < infinity p e → (k ≢ m) → apart n (steps p m * d) ≡ apart n (steps p k * d) → m % 2 ≡ 0
  pub overflow : (m ≡ infinity p e → twice_midpoint p e * d ≤ 2 * n) × (twice_midpoint p e * d ≤ 2 * n → m ≡ infinity p e)

-- The pattern m is the one to write for √n smallest values: n is compared with the squares of midpoints.
pub record NearestRoot (p e n m : ℕ) : Type 0 where
  pub held : m ≤ infinity p e
  pub above : m < infinity p e → (k : ℕ) → k < m → square (steps p k + steps p m) ≤ 4 * n
  pub below : (k : ℕ) → m < k → k < infinity p e → 4 * n ≤ square (steps p m + steps p k)
  pub even : m < infinity p e → (k : ℕ) → k < infinity p e → (k ≢ m) → square (steps p m + steps p k) ≡ 4 * n → m % 2 ≡ 0
  pub overflow : (m ≡ infinity p e → square (twice_midpoint p e) ≤ 4 * n) × (square (twice_midpoint p e) ≤ 4 * n → m ≡ infinity p e)

-- The word w is the one to write for an exact result.
abbrev pub Right : ℕ → ℕ → Exact → ℕ → Type 0
Right p e none w = w ≡ quiet p e
Right p e (endless s) w = w ≡ signed p e s (infinity p e)
Right p e (fraction s n d) w = (m : ℕ) × (w ≡ signed p e s m) × Nearest p e n d m
Right p e (root n) w = NearestRoot p e n w

-- a fraction has a divisor
abbrev pub Proper : Exact → Type 0
Proper none = 0 ≤ 0
Proper (endless s) = 0 ≤ 0
Proper (fraction s n d) = 0 < d
Proper (root n) = 0 ≤ 0

-- A word is right for an exact result exactly where it is the one that rounding gives.
abbrev pub RoundingStands : Type 0
RoundingStands = (p e : ℕ) → 2 ≤ p → 1 ≤ e → (x : Exact) → Proper x → Right p e x (word p e x) × ((w : ℕ) → Right p e x w → w ≡ word p e x)

-- The values of a format are the numbers q * 2 ^ j smallest values with a q of at most p digits, below 2 ^ (e + 1), and no others; patterns are
-- in the order of their values.
pub record FormatStands (p e : ℕ) : Type 0 where
  pub reached : (q j : ℕ) → q < 2 ^ p → q * 2 ^ j < 2 ^ (low p e + suc e) → (m : ℕ) × (m < infinity p e) × (steps p m ≡ q * 2 ^ j)
  pub within : (m : ℕ) → m < infinity p e → (q : ℕ) × (j : ℕ) × (q < 2 ^ p) × (steps p m ≡ q * 2 ^ j) × (steps p m < 2 ^ (low p e + suc e))
  pub ordered : (m n : ℕ) → m < n → steps p m < steps p n
  pub read : (s : Bool) (m : ℕ) → m < infinity p e → decode p e (signed p e s m) ≡ finite s (steps p m)

abbrev pub FormatsStand : Type 0
FormatsStand = (p e : ℕ) → 2 ≤ p → 1 ≤ e → FormatStands p e

-- What each operation answers is the word to write for its exact result, and it has the format's width.
pub record OperationsStand (p e : ℕ) : Type 0 where
  pub sums : (a b : ℕ) → Right p e (sum (decode p e a) (decode p e b)) (add p e a b)
  pub differences : (a b : ℕ) → Right p e (sum (decode p e a) (opposite (decode p e b))) (sub p e a b)
  pub products : (a b : ℕ) → Right p e (product (low p e) (decode p e a) (decode p e b)) (mul p e a b)
  pub quotients : (a b : ℕ) → Right p e (quotient (low p e) (decode p e a) (decode p e b)) (div p e a b)
  pub roots : (a : ℕ) → Right p e (square_root (low p e) (decode p e a)) (sqrt p e a)
  pub numbers : (v : ℤ) → Right p e (scaled (low p e) v) (number p e v)
  pub conversions : (k : ℕ) (x : Value) → Right p e (converted k (low p e) x) (word p e (converted k (low p e) x))
  pub signs : (a : ℕ) → decode p e (abs p e a) ≡ unsigned (decode p e a)
  pub width : (x : Exact) → word p e x < 2 * sign_weight p e

abbrev pub AllOperationsStand : Type 0
AllOperationsStand = (p e : ℕ) → 2 ≤ p → 1 ≤ e → OperationsStand p e

-- ---- floor: the greatest whole number not above

-- of the magnitude a with the sign s: k is that whole number's magnitude
abbrev pub IsFloor : ℕ → Bool → ℕ → ℕ → Type 0
IsFloor l false a k = (k * 2 ^ l ≤ a) × ((j : ℕ) → j * 2 ^ l ≤ a → j ≤ k)
IsFloor l true a k = (a ≤ k * 2 ^ l) × ((j : ℕ) → a ≤ j * 2 ^ l → k ≤ j)

abbrev pub Floored : ℕ → ℕ → Value → ℕ → Type 0
Floored p e not_number w = w ≡ quiet p e
Floored p e (infinite s) w = w ≡ signed p e s (infinity p e)
Floored p e (finite s a) w = (k : ℕ) × IsFloor (low p e) s a k × (decode p e w ≡ finite s (k * 2 ^ low p e))

-- Where the format has all whole numbers up to 2 ^ (p - 1): the floor is that number's word, and no other word of the format is.
abbrev pub FloorStands : Type 0
FloorStands =
    (p e : ℕ) → 2 ≤ p → p ≤ suc e → (a : ℕ)
    → Floored p e (decode p e a) (floor p e a) × ((w : ℕ) → w < 2 * sign_weight p e → Floored p e (decode p e a) w → w ≡ floor p e a)

-- ---- level: the nearest whole number, a tie to the even one, held to -128..127

pub record NearestWhole (n d k : ℕ) : Type 0 where
  pub reach : (j : ℕ) → apart n (k * d) ≤ apart n (j * d)
  pub even : (j : ℕ) → (j ≢ k) → apart n (k * d) ≡ apart n (j * d) → k % 2 ≡ 0

abbrev pub Levelled : ℕ → Value → ℤ → Type 0
Levelled l not_number z = z ≡ pos 0
Levelled l (infinite s) z = z ≡ held_level s 128
Levelled l (finite s a) z = (k : ℕ) × NearestWhole a (2 ^ l) k × (z ≡ held_level s k)

abbrev pub LevelStands : Type 0
LevelStands = (l : ℕ) (x : Value) → Levelled l x (level_of l x) × ((z : ℤ) → Levelled l x z → z ≡ level_of l x)

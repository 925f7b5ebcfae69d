-- The operations. Each is an exact result of decoded values, and the word of that result. The smallest value is 2 ^ -l throughout.
use Rattle.std.specs.Prelude.{ℕ, suc, ◌+◌, ◌-◌, ◌*◌, ◌/◌, ◌%◌, ◌^◌, min, Bool, true, false, cond, not, ◌&&◌, ℤ, pos, negsuc, neg_ℤ, ◌==◌, nat_lt}
use Rattle.std.specs.Bool.{beq}
use Rattle.std.specs.Float.Ieee.Nearest.{closest}
use Rattle.ieee.specs.Formats.{Value, not_number, infinite, finite, low, sign_weight, decode}
use Rattle.ieee.specs.Rounding.{Exact, none, endless, fraction, root, word}

-- negative where one sign is and the other is not
abbrev pub unlike : Bool → Bool → Bool
unlike s t = not (beq s t)

abbrev pub opposite : Value → Value
opposite not_number = not_number
opposite (infinite s) = infinite (not s)
opposite (finite s a) = finite (not s) a

abbrev pub unsigned : Value → Value
unsigned not_number = not_number
unsigned (infinite s) = infinite false
unsigned (finite s a) = finite false a

-- a sum that is exactly zero is -0 where both are negative, and else +0
abbrev pub finite_sum : Bool → ℕ → Bool → ℕ → Exact
finite_sum s a t b = cond (beq s t) (fraction s (a + b) 1) (cond (nat_lt a b) (fraction t (b - a) 1) (fraction (s && nat_lt b a) (a - b) 1))

abbrev pub sum : Value → Value → Exact
sum not_number y = none
sum (infinite s) not_number = none
sum (infinite s) (infinite t) = cond (beq s t) (endless s) none
sum (infinite s) (finite t b) = endless s
sum (finite s a) not_number = none
sum (finite s a) (infinite t) = endless t
sum (finite s a) (finite t b) = finite_sum s a t b

abbrev pub product : ℕ → Value → Value → Exact
product l not_number y = none
product l (infinite s) not_number = none
product l (infinite s) (infinite t) = endless (unlike s t)
product l (infinite s) (finite t b) = cond (b == 0) none (endless (unlike s t))
product l (finite s a) not_number = none
product l (finite s a) (infinite t) = cond (a == 0) none (endless (unlike s t))
product l (finite s a) (finite t b) = fraction (unlike s t) (a * b) (2 ^ l)

abbrev pub quotient : ℕ → Value → Value → Exact
quotient l not_number y = none
quotient l (infinite s) not_number = none
quotient l (infinite s) (infinite t) = none
quotient l (infinite s) (finite t b) = endless (unlike s t)
quotient l (finite s a) not_number = none
quotient l (finite s a) (infinite t) = fraction (unlike s t) 0 1
quotient l (finite s a) (finite t b) =
    cond (b == 0) (cond (a == 0) none (endless (unlike s t))) (fraction (unlike s t) (a * 2 ^ l) b)

-- the root of -0 is -0
abbrev pub square_root : ℕ → Value → Exact
square_root l not_number = none
square_root l (infinite s) = cond s none (endless false)
square_root l (finite s a) = cond (a == 0) (fraction s 0 1) (cond s none (root (a * 2 ^ l)))

-- the greatest whole number that is not above: below 0 the magnitude goes up
abbrev pub whole_below : ℕ → Value → Exact
whole_below l not_number = none
whole_below l (infinite s) = endless s
whole_below l (finite s a) = fraction s (cond s ((a + 2 ^ l - 1) / 2 ^ l) (a / 2 ^ l) * 2 ^ l) 1

-- v / 65536
abbrev pub scaled : ℕ → ℤ → Exact
scaled l (pos n) = fraction false (n * 2 ^ l) 65536
scaled l (negsuc n) = fraction true (suc n * 2 ^ l) 65536

-- a value of a format with smallest value 2 ^ -k, for one with 2 ^ -l
abbrev pub converted : ℕ → ℕ → Value → Exact
converted k l not_number = none
converted k l (infinite s) = endless s
converted k l (finite s a) = fraction s (a * 2 ^ l) (2 ^ k)

-- The nearest whole number, ties to even, held to -128..127. What is not a number gives 0.
abbrev pub held_level : Bool → ℕ → ℤ
held_level true n = neg_ℤ (pos (min n 128))
held_level false n = pos (min n 127)

abbrev pub level_of : ℕ → Value → ℤ
level_of l not_number = pos 0
level_of l (infinite s) = held_level s 128
level_of l (finite s a) = held_level s (closest a (2 ^ l))

-- ---- on words

abbrev pub add : ℕ → ℕ → ℕ → ℕ → ℕ
add p e a b = word p e (sum (decode p e a) (decode p e b))

abbrev pub sub : ℕ → ℕ → ℕ → ℕ → ℕ
sub p e a b = word p e (sum (decode p e a) (opposite (decode p e b)))

abbrev pub mul : ℕ → ℕ → ℕ → ℕ → ℕ
mul p e a b = word p e (product (low p e) (decode p e a) (decode p e b))

abbrev pub div : ℕ → ℕ → ℕ → ℕ → ℕ
div p e a b = word p e (quotient (low p e) (decode p e a) (decode p e b))

abbrev pub sqrt : ℕ → ℕ → ℕ → ℕ
sqrt p e a = word p e (square_root (low p e) (decode p e a))

abbrev pub floor : ℕ → ℕ → ℕ → ℕ
floor p e a = word p e (whole_below (low p e) (decode p e a))

-- only the sign goes, of what is not a number too
abbrev pub abs : ℕ → ℕ → ℕ → ℕ
abs p e a = a % sign_weight p e

abbrev pub level : ℕ → ℕ → ℕ → ℤ
level p e a = level_of (low p e) (decode p e a)

-- v / 65536, rounded once
abbrev pub number : ℕ → ℕ → ℤ → ℕ
number p e v = word p e (scaled (low p e) v)

-- v / 65536, rounded to the format (q, g) first and then to (p, e)
abbrev pub number_through : ℕ → ℕ → ℕ → ℕ → ℤ → ℕ
number_through q g p e v = word p e (converted (low q g) (low p e) (decode q g (number q g v)))

-- Binary formats of IEEE 754. A format is a pair: its precision p, which is how many binary digits a significand has, and its
-- greatest exponent e. Half is (11, 15), single is (24, 127).
-- A magnitude goes by its pattern, a word's bits without the sign: the exponent's field above the p - 1 digits below the leading one.
use Rattle.std.specs.Prelude.{ℕ, ◌+◌, ◌-◌, ◌*◌, ◌/◌, ◌%◌, ◌^◌, Bool, cond, ◌==◌, nat_lt}

-- the weight of the exponent's field
abbrev pub hidden : ℕ → ℕ
hidden p = 2 ^ (p - 1)

-- the smallest value above 0 is 2 ^ -low
abbrev pub low : ℕ → ℕ → ℕ
low p e = e + p - 2

-- infinity's pattern: the field is all ones
abbrev pub infinity : ℕ → ℕ → ℕ
infinity p e = (2 * e + 1) * hidden p

-- the weight of the sign
abbrev pub sign_weight : ℕ → ℕ → ℕ
sign_weight p e = (2 * e + 2) * hidden p

-- the word that is written for what is not a number: of the digits only the highest is set
abbrev pub quiet : ℕ → ℕ → ℕ
quiet p e = infinity p e + hidden p / 2

abbrev pub signed : ℕ → ℕ → Bool → ℕ → ℕ
signed p e s m = cond s (sign_weight p e) 0 + m

abbrev pub pattern : ℕ → ℕ → ℕ → ℕ
pattern p e w = w % sign_weight p e

abbrev pub negative : ℕ → ℕ → ℕ → Bool
negative p e w = w / sign_weight p e % 2 == 1

-- How many smallest values a pattern stands for. A field of 0 has no leading digit, and counts as a field of 1.
unfoldable pub steps : ℕ → ℕ → ℕ
steps p m = cond (nat_lt m (hidden p)) m ((hidden p + m % hidden p) * 2 ^ (m / hidden p - 1))

-- What a word stands for: nothing, an infinity with its sign, or a sign and a count of smallest values.
pub data Value : Type 0 where
  not_number : Value
  infinite : Bool → Value
  finite : Bool → ℕ → Value

abbrev pub value_of : ℕ → ℕ → Bool → ℕ → Value
value_of p e s m = cond (nat_lt m (infinity p e)) (finite s (steps p m)) (cond (m == infinity p e) (infinite s) not_number)

-- bits above the format's width have no part in it
unfoldable pub decode : ℕ → ℕ → ℕ → Value
unfolding steps
decode p e w = value_of p e (negative p e w) (pattern p e w)

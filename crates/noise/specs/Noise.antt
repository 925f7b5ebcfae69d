-- Noise as a number below 2 ^ 144, and what is made of it.
use Rattle.std.specs.Prelude.{◌≡◌, ℕ, ◌+◌, ◌*◌, ◌/◌, ◌%◌, ◌^◌, ◌<◌, cond, ◌&&◌, List, [], ◌∷◌, ℤ, pos, negsuc, bit_xor, nat_lt, slice_index}
use Rattle.noise.specs.declared.register.Noise.{Noise}

-- bit j of a number
abbrev pub bit : ℕ → ℕ → ℕ
bit n j = n / 2 ^ j % 2

-- the number whose bits are the low `width` bits of each entry, the first entry's lowest
unfoldable pub number_of : ℕ → List ℕ → ℕ
number_of width [] = 0
number_of width (x ∷ xs) = number_of width xs * 2 ^ width + x % 2 ^ width

abbrev pub value : Noise → ℕ
value noise = number_of 9 noise.lanes

-- the new bit 0 of a step
unfoldable pub tapped : ℕ → ℕ
tapped n = bit_xor (bit_xor (bit_xor (bit n 143) (bit n 141)) (bit n 139)) (bit n 136)

-- one step: every bit moves up one, and the highest is lost
unfoldable pub stepped : ℕ → ℕ
stepped n = (n * 2 + tapped n) % 2 ^ 144

-- a step in terms of bits
pub record Stepped (before after : ℕ) : Type 0 where
  pub small : after < 2 ^ 144
  pub moved : (j : ℕ) → j < 143 → bit after (j + 1) ≡ bit before j
  pub fresh : bit after 0 ≡ bit_xor (bit_xor (bit_xor (bit before 143) (bit before 141)) (bit before 139)) (bit before 136)

-- the number of 18 bytes, the lowest first
abbrev pub seeded : List ℕ → ℕ
seeded bytes = number_of 8 bytes

-- a seed in terms of bits
pub record Seeded (bytes : List ℕ) (n : ℕ) : Type 0 where
  pub small : n < 2 ^ 144
  pub held : (j b : ℕ) → j < 18 → b < 8 → bit n (8 * j + b) ≡ bit (slice_index bytes j) b

-- the three bits of a channel of a lane
unfoldable pub channel_bits : ℕ → ℕ → ℕ → ℕ
channel_bits n lane channel = n / 2 ^ (9 * lane + 3 * channel) % 8

-- the same, and 0 where there is no such lane or channel
abbrev pub bits_of : ℕ → ℕ → ℕ → ℕ
bits_of n lane channel = cond (nat_lt lane 16 && nat_lt channel 3) (channel_bits n lane channel) 0

-- the channel of a level, with noise of three bits; what the noise has above them is not looked at
unfoldable pub channel_of : ℤ → ℕ → ℕ
channel_of (pos m) r = cond (nat_lt 120 m) 15 (m / 8 + cond (nat_lt (r % 8) (m % 8)) 1 0)
channel_of (negsuc m) r = 0

abbrev pub colour_of : ℕ → ℕ → ℕ → ℕ
colour_of red green blue = red * 256 + green * 16 + blue

-- What the nine bits of a lane say of the whole noise.
use Rattle.std.proofs.Common.{◌≡◌, ℕ, zero, suc, ◌+◌, ◌*◌, ◌/◌, ◌%◌, ◌^◌, ◌<◌, List, length, get_or, sym, ap, ◌∙◌, arith}
use lib.Bits.{bit_xor}
use Rattle.std.proofs.lemmas.Nat.{xor_mod, shr-shr}
use Rattle.noise.specs.Noise.{bit, number_of, tapped, channel_bits}
use Rattle.noise.proofs.Numbers.{bit_below, entry_is, made_up}

-- three of nine bits
triple : (m x k : ℕ) → k < 3 → m % 512 ≡ x % 512 → x / 2 ^ (3 * k) % 8 ≡ m / 2 ^ (3 * k) % 8
triple m x zero h e = omega arith
triple m x (suc zero) h e = omega arith
triple m x (suc (suc zero)) h e = omega arith
triple m x (suc (suc (suc k))) h e = absurd (omega arith)

pub channel_of_lane : (xs : List ℕ) (i k : ℕ) → k < 3 → get_or xs i 0 / 2 ^ (3 * k) % 8 ≡ channel_bits (number_of 9 xs) i k
unfolding channel_bits
channel_of_lane xs i k h =
    triple (number_of 9 xs / 2 ^ (9 * i)) (get_or xs i 0) k h (entry_is 9 xs i) ∙ ap (λ n. n % 8) (shr-shr (number_of 9 xs) (9 * i) (3 * k))

-- the taps are bits 8, 6, 4 and 1 of the last lane
module _ (xs : List ℕ) where
  xor_low : (a b a' b' : ℕ) → a % 2 ≡ a' → b % 2 ≡ b' → bit_xor a b % 2 ≡ bit_xor a' b'
  xor_low a b a' b' p q = let e : bit_xor a b % 2 ≡ bit_xor (a % 2) (b % 2) = xor_mod a b 1 in cc

  pub taps_of_lane : (x : ℕ) → x ≡ get_or xs 15 0 → bit_xor (bit_xor (bit_xor (x / 256) (x / 64)) (x / 16)) (x / 2) % 2 ≡ tapped (number_of 9 xs)
  unfolding tapped
  taps_of_lane x is =
      let n : ℕ = number_of 9 xs in
      let m : ℕ = n / 2 ^ 135 in
      let e : m % 2 ^ 9 ≡ x % 2 ^ 9 = entry_is 9 xs 15 ∙ ap (λ y. y % 2 ^ 9) (sym is) in
      let tap : (j : ℕ) → j < 9 → bit x j ≡ bit n (135 + j) = λ j h. sym (bit_below x 9 j h) ∙ (ap (λ y. bit y j) (sym e) ∙ (bit_below m 9 j h ∙ ap (λ y. y % 2) (shr-shr n 135 j))) in
      xor_low _ _ _ _ (xor_low _ _ _ _ (xor_low _ _ _ _ (tap 8 (omega arith)) (tap 6 (omega arith))) (tap 4 (omega arith))) (tap 1 (omega arith))

-- a lane of a number that is doubled: its low eight bits, above the bit that comes in
module _ (xs : List ℕ) (fresh : ℕ) (small : fresh < 2) where
  pub first_moved : get_or xs 0 0 % 256 * 2 + fresh ≡ (number_of 9 xs * 2 + fresh) / 2 ^ (9 * 0) % 512
  first_moved =
      let none : 9 * 0 ≡ 0 = omega arith in
      let low : number_of 9 xs / 2 ^ (9 * 0) % 2 ^ 9 ≡ get_or xs 0 0 % 2 ^ 9 = entry_is 9 xs 0 in
      let first = rw none at low in
      rw none (omega arith)

  pub lane_moved : (i j : ℕ) → j ≡ i + 1 → get_or xs j 0 % 256 * 2 + get_or xs i 0 / 256 % 2 ≡ (number_of 9 xs * 2 + fresh) / 2 ^ (9 * j) % 512
  lane_moved i j e =
      let n : ℕ = number_of 9 xs in
      let m : ℕ = n / 2 ^ (9 * i) in
      let half : (n * 2 + fresh) / 2 ≡ n = omega arith in
      let up : 9 * j ≡ 9 * i + 9 = omega arith in
      let down : 9 * j ≡ 1 + (9 * i + 8) = omega arith in
      let next : n / 2 ^ (9 * j) ≡ m / 512 = ap (λ x. n / 2 ^ x) up ∙ sym (shr-shr n (9 * i) 9) in
      let doubled : (n * 2 + fresh) / 2 ^ (9 * j) ≡ m / 256 =
      ap (λ x. (n * 2 + fresh) / 2 ^ x) down
      ∙ (sym (shr-shr (n * 2 + fresh) 1 (9 * i + 8)) ∙ (ap (λ x. x / 2 ^ (9 * i + 8)) half ∙ sym (shr-shr n (9 * i) 8))) in
      let low : m % 512 ≡ get_or xs i 0 % 512 = entry_is 9 xs i in
      let high : m / 512 % 512 ≡ get_or xs j 0 % 512 = ap (λ x. x % 512) (sym next) ∙ entry_is 9 xs j in
      rw doubled (omega arith)

-- sixteen lanes that are read off a number make up its low 144 bits
pub all_lanes : (xs : List ℕ) (n : ℕ) → length xs ≡ 16 → ((k : ℕ) → k < 16 → get_or xs k 0 ≡ n / 2 ^ (9 * k) % 512) → number_of 9 xs ≡ n % 2 ^ 144
all_lanes xs n l h =
    made_up 9 xs n (λ i b. let e = h i (omega arith) in omega arith) ∙ ap (λ k. n % 2 ^ (9 * k)) l

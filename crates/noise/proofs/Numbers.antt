-- Numbers made of entries of one width, and their bits.
use Rattle.std.proofs.Common.{◌≡◌, ℕ, zero, suc, ◌+◌, ◌-◌, ◌*◌, ◌/◌, ◌%◌, ◌^◌, ◌<◌, ◌≤◌, List, [], ◌∷◌, length, get_or, drop, sym, refl, ap, ◌∙◌, arith}
use native.Mathlib.Nat.{zero-div}
use lib.Arith.{digits_lt}
use lib.Pow.{mod-mod-pow}
use Rattle.std.proofs.lemmas.Nat.{pow_pos, pow-add, shr-shr, shr_high, mod_low, mod_below, mod-pow-add, field_of}
use Rattle.std.proofs.lemmas.List.{get_or-drop}
use Rattle.noise.specs.Noise.{bit, number_of}

-- w bits from bit j on are those of the low k bits
pub part_below : (n k j w : ℕ) → j + w ≤ k → n % 2 ^ k / 2 ^ j % 2 ^ w ≡ n / 2 ^ j % 2 ^ w
part_below n k j w h =
    let m : ℕ = k - j - w in
    let e : k ≡ m + w + j = omega arith in
    ap (λ x. n % 2 ^ x / 2 ^ j % 2 ^ w) e ∙ (ap (λ x. x % 2 ^ w) (field_of n (m + w) j) ∙ mod-mod-pow (n / 2 ^ j) m w)

pub bit_below : (n k j : ℕ) → j < k → bit (n % 2 ^ k) j ≡ bit n j
bit_below n k j h = part_below n k j 1 (omega arith)

-- a higher bit is a bit of the half
pub bit_half : (n j : ℕ) → bit n (j + 1) ≡ bit (n / 2) j
bit_half n j = let e : j + 1 ≡ 1 + j = omega arith in ap (bit n) e ∙ sym (ap (λ x. x % 2) (shr-shr n 1 j))

-- a number is fixed by its bits
pub same_bits : (k a b : ℕ) → a < 2 ^ k → b < 2 ^ k → ((j : ℕ) → j < k → bit a j ≡ bit b j) → a ≡ b
same_bits zero a b p q h = omega arith
same_bits (suc k) a b p q h =
    let s : suc k ≡ k + 1 = omega arith in
    let u : 2 ^ suc k ≡ 2 ^ k * 2 = ap (λ x. 2 ^ x) s ∙ pow-add 2 k 1 in
    let e : a / 2 ≡ b / 2 = same_bits k (a / 2) (b / 2) (omega arith) (omega arith) (λ j l. sym (bit_half a j) ∙ (h (j + 1) (omega arith) ∙ bit_half b j)) in
    let z : a / 2 ^ 0 % 2 ≡ b / 2 ^ 0 % 2 = h 0 (omega arith) in
    omega arith

module _ (w : ℕ) where
  -- one entry more is w bits more
  more : (i : ℕ) → w * suc i ≡ w * i + w
  more i = omega arith

  quotient_more : (n i : ℕ) → n / 2 ^ (w * suc i) ≡ n / 2 ^ w / 2 ^ (w * i)
  quotient_more n i = let e : w * suc i ≡ w + w * i = omega arith in ap (λ x. n / 2 ^ x) e ∙ sym (shr-shr n w (w * i))

  low_below : (x : ℕ) → x % 2 ^ w < 2 ^ w
  low_below x = mod_below x (2 ^ w) (pow_pos w)

  pub number_below : (xs : List ℕ) → number_of w xs < 2 ^ (w * length xs)
  unfolding number_of
  number_below [] = pow_pos (w * 0)
  number_below (x ∷ xs) =
      let e : 2 ^ (w * suc (length xs)) ≡ 2 ^ (w * length xs) * 2 ^ w = ap (λ k. 2 ^ k) (more (length xs)) ∙ pow-add 2 (w * length xs) w in
      rw e (digits_lt (number_below xs) (low_below x))

  number_drop : (i : ℕ) (xs : List ℕ) → number_of w xs / 2 ^ (w * i) ≡ number_of w (drop i xs)
  unfolding number_of
  number_drop zero xs = let e : w * 0 ≡ 0 = omega arith in rw e (omega arith)
  number_drop (suc i) [] = zero-div (2 ^ (w * suc i))
  number_drop (suc i) (x ∷ xs) =
      quotient_more (number_of w xs * 2 ^ w + x % 2 ^ w) i ∙ (ap (λ n. n / 2 ^ (w * i)) (shr_high (number_of w xs) w (x % 2 ^ w) (low_below x)) ∙ number_drop i xs)

  number_low : (xs : List ℕ) → number_of w xs % 2 ^ w ≡ get_or xs 0 0 % 2 ^ w
  unfolding number_of
  number_low [] = refl
  number_low (x ∷ xs) = mod_low (number_of w xs) w (x % 2 ^ w) (low_below x)

  -- an entry is read off by a quotient
  pub entry_is : (xs : List ℕ) (i : ℕ) → number_of w xs / 2 ^ (w * i) % 2 ^ w ≡ get_or xs i 0 % 2 ^ w
  entry_is xs i =
      let e : i + 0 ≡ i = omega arith in
      ap (λ n. n % 2 ^ w) (number_drop i xs) ∙ (number_low (drop i xs) ∙ ap (λ n. n % 2 ^ w) (get_or-drop i xs 0 0 ∙ ap (λ k. get_or xs k 0) e))

  -- entries that are read off a number make up its low bits
  pub made_up : (xs : List ℕ) (n : ℕ) → ((i : ℕ) → i < length xs → get_or xs i 0 % 2 ^ w ≡ n / 2 ^ (w * i) % 2 ^ w) → number_of w xs ≡ n % 2 ^ (w * length xs)
  unfolding number_of
  made_up [] n h = let e : w * 0 ≡ 0 = omega arith in rw e (omega arith)
  made_up (x ∷ xs) n h =
      let z : w * 0 ≡ 0 = omega arith in
      let first : x % 2 ^ w ≡ n / 2 ^ (w * 0) % 2 ^ w = h 0 (omega arith) in
      let here : x % 2 ^ w ≡ n % 2 ^ w = first ∙ rw z (ap (λ m. m % 2 ^ w) (omega arith)) in
      let rest : number_of w xs ≡ n / 2 ^ w % 2 ^ (w * length xs) = made_up xs (n / 2 ^ w) (λ i l. h (suc i) (omega arith) ∙ ap (λ m. m % 2 ^ w) (quotient_more n i)) in
      rw (more (length xs), mod-pow-add n (w * length xs) w, rest, here)

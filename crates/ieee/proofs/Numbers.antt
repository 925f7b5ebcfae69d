-- v / 65536 rounded to single, and on to half.
use Rattle.std.proofs.Common.{◌≡◌, ℕ, ◌+◌, ◌-◌, ◌*◌, ◌^◌, ◌<◌, ◌≤◌, Bool, false, sym, refl, ap, ◌∙◌, inr, le_of_lt, mul-le-mul_right, mul_assoc, mul_comm, mul-lt-mul_of_pos_right, mul-pos, arith}
use lib.Ieee.{size}
use lib.Ieee.Nearest.{closest, closest_same}
use Rattle.std.proofs.lemmas.Nat.{pow_pos}
use Rattle.ieee.specs.Formats.{hidden, infinity, signed, finite, steps, decode}
use Rattle.ieee.specs.Rounding.{near, round, word}
use Rattle.ieee.specs.Operations.{converted}
use Rattle.ieee.proofs.Closest.{closest_from, closest_upto}
use Rattle.ieee.proofs.Steps.{pow_join, steps_at, near_is, near_same, round_near, round_same}
use Rattle.ieee.proofs.FormatLaws.{read_finite}

-- ---- over every format: y = x * 2 ^ z has p + f digits, of which f are dropped

pow_swap : (y k f : ℕ) → y * 2 ^ k * 2 ^ f ≡ y * (2 ^ f * 2 ^ k)
pow_swap y k f = mul_assoc y (2 ^ k) (2 ^ f) ∙ ap (λ (u : ℕ). y * u) (mul_comm (2 ^ k) (2 ^ f))

-- the same product of powers
pow_same : (x a b c d f : ℕ) → a + b + c ≡ d + f → x * 2 ^ a * 2 ^ b * 2 ^ c ≡ x * 2 ^ d * 2 ^ f
pow_same x a b c d f h = ap (λ (u : ℕ). u * 2 ^ c) (pow_join x a b) ∙ pow_join x (a + b) c ∙ ap (λ (u : ℕ). x * 2 ^ u) h ∙ sym (pow_join x d f)

near_shifted : (p x z f a g k : ℕ) → 2 ≤ p → z + k + g ≡ a + f → hidden p * 2 ^ f ≤ x * 2 ^ z → x * 2 ^ z < 2 ^ p * 2 ^ f
    → near p (x * 2 ^ a) (2 ^ g) ≡ k * hidden p + closest (x * 2 ^ z) (2 ^ f)
near_shifted p x z f a g k P e l h =
    let y = x * 2 ^ z in
    near_same p (x * 2 ^ a) (2 ^ g) (y * 2 ^ k) (2 ^ f) (pow_pos g) (pow_pos f) (sym (pow_same x z k g a f e))
    ∙ near_is p (y * 2 ^ k) (2 ^ f) k P (pow_pos f) (inr (rw (← mul_assoc (hidden p) (2 ^ f) (2 ^ k)) (mul-le-mul_right (2 ^ k) l))) (rw (← mul_assoc (2 ^ p) (2 ^ f) (2 ^ k)) (mul-lt-mul_of_pos_right h (pow_pos k)))
    ∙ ap (λ (u : ℕ). k * hidden p + u) (closest_same (y * 2 ^ k) (2 ^ f * 2 ^ k) y (2 ^ f) (mul-pos (pow_pos f) (pow_pos k)) (pow_pos f) (pow_swap y k f))

-- ---- single and half

number_bound : (x z : ℕ) → z ≤ 31 → 2 ^ 31 ≤ x * 2 ^ z → x * 2 ^ z < 2 ^ 32
    → ((141 - z) * 2 ^ 23 + closest (x * 2 ^ z) (2 ^ 8) < infinity 24 127) × (closest (x * 2 ^ z) (2 ^ 8) ≤ 2 ^ 24)
number_bound x z Z l h =
    let r : closest (x * 2 ^ z) (2 ^ 8) ≤ 2 ^ 24 = closest_upto (x * 2 ^ z) (2 ^ 8) (2 ^ 24) (pow_pos 8) h in
    (omega arith, r)

pub number_single : (x z : ℕ) → z ≤ 31 → 2 ^ 31 ≤ x * 2 ^ z → x * 2 ^ z < 2 ^ 32 → round 24 127 (x * 2 ^ 149) 65536 ≡ (141 - z) * 2 ^ 23 + closest (x * 2 ^ z) (2 ^ 8)
number_single x z Z l h =
    round_near 24 127 (x * 2 ^ 149) 65536 ((141 - z) * 2 ^ 23 + closest (x * 2 ^ z) (2 ^ 8))
    (near_shifted 24 x z 8 149 16 (141 - z) (omega arith) (omega arith) l h) (le_of_lt (number_bound x z Z l h).0)

-- a value of one format in another
word_from : (p e q g i j : ℕ) (s : Bool) (m k c : ℕ) (n d : ℕ) → m < infinity q g → steps q m ≡ c * 2 ^ k → c * 2 ^ k * 2 ^ j * 2 ^ d ≡ c * 2 ^ n * 2 ^ i
    → word p e (converted i j (decode q g (signed q g s m))) ≡ signed p e s (round p e (c * 2 ^ n) (2 ^ d))
word_from p e q g i j s m k c n d l v h =
    ap (λ u. word p e (converted i j u)) (read_finite q g s m l ∙ ap (finite s) v)
    ∙ ap (signed p e s) (round_same p e (c * 2 ^ k * 2 ^ j) (2 ^ i) (c * 2 ^ n) (2 ^ d) (pow_pos i) (pow_pos d) h)

pub number_half : (x z : ℕ) → z ≤ 31 → 2 ^ 31 ≤ x * 2 ^ z → x * 2 ^ z < 2 ^ 32 → (s : Bool)
    → word 11 15 (converted 149 24 (decode 24 127 (signed 24 127 s (round 24 127 (x * 2 ^ 149) 65536)))) ≡ signed 11 15 s (round 11 15 (closest (x * 2 ^ z) (2 ^ 8) * 2 ^ 17) (2 ^ (z + 1)))
number_half x z Z l h s =
    let c = closest (x * 2 ^ z) (2 ^ 8) in
    ap (λ (u : ℕ). word 11 15 (converted 149 24 (decode 24 127 (signed 24 127 s u)))) (number_single x z Z l h)
    ∙ word_from 11 15 24 127 149 24 s ((141 - z) * 2 ^ 23 + c) (141 - z) c 17 (z + 1) (number_bound x z Z l h).0
    (steps_at 24 (141 - z) c (omega arith) (number_bound x z Z l h).1 (inr (closest_from (x * 2 ^ z) (2 ^ 8) (hidden 24) (pow_pos 8) l))) (pow_same c (141 - z) 24 (z + 1) 17 149 (omega arith))

pub number_zero_half : word 11 15 (converted 149 24 (decode 24 127 (signed 24 127 false (round 24 127 (0 * 2 ^ 149) 65536)))) ≡ 0
unfolding round near size decode
number_zero_half = refl

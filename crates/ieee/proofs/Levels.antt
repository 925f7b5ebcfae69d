-- The nearest whole number to c * 2 ^ k smallest values of 2 ^ -l.
use Rattle.std.proofs.Common.{◌≡◌, ℕ, ◌+◌, ◌-◌, ◌*◌, ◌^◌, ◌<◌, ◌≤◌, ap, ◌∙◌, mul-le-mul, arith, pow_mono}
use lib.Ieee.Nearest.{closest, closest_same}
use Rattle.std.proofs.lemmas.Nat.{pow_pos}
use Rattle.ieee.proofs.Closest.{closest_inside, closest_from}
use Rattle.ieee.proofs.Steps.{pow_join}

pub level_large : (l k c : ℕ) → l ≤ k → 128 ≤ c → 128 ≤ closest (c * 2 ^ k) (2 ^ l)
level_large l k c h C = closest_from (c * 2 ^ k) (2 ^ l) 128 (pow_pos l) (mul-le-mul C (pow_mono h))

pub level_cut : (l k c : ℕ) → k ≤ l → closest (c * 2 ^ k) (2 ^ l) ≡ closest c (2 ^ (l - k))
level_cut l k c h =
    let d : k + (l - k) ≡ l = omega arith in
    closest_same (c * 2 ^ k) (2 ^ l) c (2 ^ (l - k)) (pow_pos l) (pow_pos (l - k)) (pow_join c k (l - k) ∙ ap (λ (x : ℕ). c * 2 ^ x) d)

pub level_tiny : (c t : ℕ) → c < 2 ^ 24 → 26 ≤ t → closest c (2 ^ t) ≡ 0
level_tiny c t h g =
    let a : 2 ^ 26 ≤ 2 ^ t = pow_mono g in
    closest_inside c (2 ^ t) 0 (omega arith) (omega arith)

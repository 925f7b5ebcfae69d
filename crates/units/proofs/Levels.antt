-- The whole number nearest to a magnitude, as far as 128.
use Rattle.std.proofs.Common.{◌≡◌, ℕ, ◌+◌, ◌-◌, ◌*◌, ◌^◌, ◌<◌, ◌≤◌, min, ◌⊎◌, sym, ap, ◌∙◌, inl, inr, arith}
use lib.Ieee.Nearest.{closest}
use Rattle.std.proofs.lemmas.Bool.{cases_lt}
use Rattle.ieee.specs.Formats.{hidden, low, steps}
use Rattle.ieee.proofs.Steps.{pow_le}
use Rattle.ieee.proofs.Levels.{level_large, level_cut, level_tiny}

pub level_held : (p e m k d : ℕ) → 8 ≤ p → p ≤ e → steps p m ≡ d * 2 ^ k → (k ≡ 0) ⊎ (hidden p ≤ d) → e + p - 2 ≤ k → 128 ≡ min (closest (steps p m) (2 ^ low p e)) 128
level_held p e m k d P E v (inl z) h = omega arith
level_held p e m k d P E v (inr g) h =
    let a : 2 ^ 7 ≤ hidden p = pow_le 7 (p - 1) (omega arith) in
    let b : 128 ≤ closest (steps p m) (2 ^ low p e) = rw v (level_large (low p e) k d h (omega arith)) in
    omega arith

-- a shift of 60 and more leaves nothing
shift_held : (d t : ℕ) → d < 2 ^ 24 → closest d (2 ^ min t 60) ≡ closest d (2 ^ t)
shift_held d t h =
    elim (cases_lt t 60) [
      | inl l ↦ ap (λ (x : ℕ). closest d (2 ^ x)) (omega arith)
      | inr g ↦ level_tiny d (min t 60) h (omega arith) ∙ sym (level_tiny d t h (omega arith))
    ]

pub level_near : (p e m k d s r : ℕ) → p ≤ 24 → steps p m ≡ d * 2 ^ k → d < 2 ^ p → k < e + p - 2 → s ≡ min (e + p - 2 - k) 60 → r ≡ closest d (2 ^ s) → min r 128 ≡ min (closest (steps p m) (2 ^ low p e)) 128
level_near p e m k d s r P v D K a b =
    let f : d < 2 ^ 24 = omega (arith, pow_le p 24 P) in
    ap (λ (x : ℕ). min x 128) (b ∙ (ap (λ (x : ℕ). closest d (2 ^ x)) a ∙ (shift_held d (e + p - 2 - k) f ∙ (sym (level_cut (low p e) k d (omega arith)) ∙ ap (λ (x : ℕ). closest x (2 ^ low p e)) (sym v)))))

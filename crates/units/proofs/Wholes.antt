-- The pattern of a whole number, in the cases that the code parts.
use Rattle.std.proofs.Common.{◌≡◌, ℕ, ◌+◌, ◌-◌, ◌*◌, ◌%◌, ◌^◌, ◌<◌, ◌≤◌, Bool, true, false, ◌⊎◌, sym, inl, inr, mul-le-mul_right, arith}
use Rattle.ieee.specs.Formats.{hidden, infinity, low}
use Rattle.ieee.proofs.Steps.{Parts}
use Rattle.ieee.proofs.Whole.{whole_kept, whole_small_down, whole_small_zero, whole_small_up, whole_cut_down, whole_cut_exact, whole_cut_up, whole_bound}
use Rattle.units.specs.Patterns.{whole_pattern}

-- r is the pattern, and no more than infinity's
abbrev pub Whole : ℕ → ℕ → Bool → ℕ → ℕ → Type 0
Whole p e up m r = (r ≡ whole_pattern p e up m) × (r ≤ infinity p e)

pub kept : (p e m k c : ℕ) (up : Bool) → 2 ≤ p → m < infinity p e → Parts p m k c → low p e ≤ k → Whole p e up m m
kept p e m k c up P h x g = (sym (whole_kept p e m k c up P (omega arith) x g), omega arith)

pub one : (p e m k c : ℕ) (up : Bool) → 2 ≤ p → p ≤ e → Parts p m k c → 0 < m → k < low p e → p ≤ low p e - k → up ≡ true → Whole p e up m (e * hidden p)
one p e m k c up P E x M a b t =
    (rw t (sym (whole_small_up p e m k c P E x M a b)), mul-le-mul_right (hidden p) (omega arith))

pub none : (p e m k c : ℕ) (up : Bool) → 2 ≤ p → Parts p m k c → k < low p e → p ≤ low p e - k → (up ≡ false) ⊎ (m ≡ 0) → Whole p e up m 0
none p e m k c up P x a b (inl f) = (rw f (sym (whole_small_down p e m k c P x a b)), omega arith)
none p e m k c up P x a b (inr z) = (rw z (sym (whole_small_zero p e up P)), omega arith)

pub above : (p e m k c : ℕ) (up : Bool) → 2 ≤ p → m < infinity p e → Parts p m k c → k < low p e → low p e - k < p → up ≡ true → 0 < m % 2 ^ (low p e - k)
    → Whole p e up m (m - m % 2 ^ (low p e - k) + 2 ^ (low p e - k))
above p e m k c up P h x a b t r = (rw t (sym (whole_cut_up p e m k c P (omega arith) x a b r)), whole_bound p e m (low p e - k) b h)

pub below : (p e m k c : ℕ) (up : Bool) → 2 ≤ p → m < infinity p e → Parts p m k c → k < low p e → low p e - k < p → (up ≡ false) ⊎ (m % 2 ^ (low p e - k) ≡ 0)
    → Whole p e up m (m - m % 2 ^ (low p e - k))
below p e m k c up P h x a b (inl f) = (rw f (sym (whole_cut_down p e m k c P (omega arith) x a b)), omega arith)
below p e m k c true P h x a b (inr z) = (omega (arith, whole_cut_exact p e m k c P (omega arith) x a b z), omega arith)
below p e m k c false P h x a b (inr z) = (sym (whole_cut_down p e m k c P (omega arith) x a b), omega arith)

-- How large a format's patterns are.
use Rattle.std.proofs.Common.{◌≡◌, ℕ, suc, ◌+◌, ◌-◌, ◌*◌, ◌^◌, ◌≤◌, suc-mul, arith}
use Rattle.std.proofs.lemmas.Nat.{mul-le}
use Rattle.ieee.specs.Formats.{hidden, infinity, sign_weight}
use Rattle.ieee.proofs.Steps.{pow_le, hidden_pos}

pub record Sizes (p e : ℕ) : Type 0 where
  pub least : 1 ≤ hidden p
  pub few : hidden p ≤ 2 ^ 23
  pub sign : sign_weight p e ≡ infinity p e + hidden p
  pub most : sign_weight p e ≤ 2 ^ 31
  pub whole : e * hidden p ≤ 2 ^ 31

pub sizes : (p e : ℕ) → p ≤ 24 → e ≤ 127 → Sizes p e
sizes p e P E = record {
  least = hidden_pos p;
  few = pow_le (p - 1) 23 (omega arith);
  sign = let s : suc (2 * e + 1) * hidden p ≡ (2 * e + 1) * hidden p + hidden p = suc-mul (2 * e + 1) (hidden p) in omega arith;
  most = mul-le (2 * e + 2) (hidden p) 256 (2 ^ 23) (omega arith) (pow_le (p - 1) 23 (omega arith));
  whole = mul-le e (hidden p) 256 (2 ^ 23) (omega arith) (pow_le (p - 1) 23 (omega arith));
}

pub sign_fits : (p e : ℕ) → p ≤ 24 → e ≤ 127 → (2 * e + 2) * hidden p ≤ 2 ^ 31
sign_fits p e P E = (sizes p e P E).most

pub infinity_fits : (p e : ℕ) → p ≤ 24 → e ≤ 127 → (2 * e + 1) * hidden p + hidden p ≤ 2 ^ 31
infinity_fits p e P E = let z = sizes p e P E in omega arith

-- what the code's sums and products of them ask
pub ruleset fits = (sign_fits, infinity_fits)

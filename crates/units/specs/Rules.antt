-- The meaning of a unit: ten fixed rules from arguments to answer.
use Rattle.std.specs.Prelude.{ℕ, Bool, ℤ}
use Rattle.ieee.specs.Formats as Formats
use Rattle.ieee.specs.Operations as Operations

pub record Rules : Type 0 where
  pub number : ℤ → ℕ
  pub add : ℕ → ℕ → ℕ
  pub sub : ℕ → ℕ → ℕ
  pub mul : ℕ → ℕ → ℕ
  pub div : ℕ → ℕ → ℕ
  pub floor : ℕ → ℕ
  pub abs : ℕ → ℕ
  pub sqrt : ℕ → ℕ
  pub negative : ℕ → Bool
  pub level : ℕ → ℤ

-- those of the format (p, e), but for number
abbrev pub standard : ℕ → ℕ → (ℤ → ℕ) → Rules
standard p e n = record {
  number = n;
  add = Operations.add p e;
  sub = Operations.sub p e;
  mul = Operations.mul p e;
  div = Operations.div p e;
  floor = Operations.floor p e;
  abs = Operations.abs p e;
  sqrt = Operations.sqrt p e;
  negative = Formats.negative p e;
  level = Operations.level p e;
}

-- number of a half is rounded to single first
abbrev pub half : Rules
half = standard 11 15 (Operations.number_through 24 127 11 15)

abbrev pub single : Rules
single = standard 24 127 (Operations.number 24 127)

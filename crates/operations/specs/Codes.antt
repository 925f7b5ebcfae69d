-- The codes of the functions, in a word's bits 19 to 16.
use Rattle.std.specs.Prelude.{◌≡◌, ◌≢◌, ℕ, Result, MatchResult}
use Rattle.operations.specs.declared.Binary.{Binary}
use Rattle.operations.specs.declared.Binary.TheVariants.{Add, Sub, Mul, Div}
use Rattle.operations.specs.declared.Unary.{Unary}
use Rattle.operations.specs.declared.Unary.TheVariants.{Floor, Abs, Sqrt}
use Rattle.operations.specs.declared.UnknownCode.{UnknownCode}

abbrev pub binary_code : Binary → ℕ
binary_code Add = 0
binary_code Sub = 1
binary_code Mul = 2
binary_code Div = 3

abbrev pub unary_code : Unary → ℕ
unary_code Floor = 4
unary_code Abs = 5
unary_code Sqrt = 6

-- the value with this code, or the code where none has it
abbrev pub Names : {K : Type 0} → (K → ℕ) → ℕ → Result K UnknownCode → Type 0
Names {K} code_of code r = MatchResult r (λ op. code_of op ≡ code) (λ e. (e.0 ≡ code) × ((op : K) → code_of op ≢ code))

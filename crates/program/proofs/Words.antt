-- Each of the codes 0 to 6 names a function.
use Rattle.std.proofs.Common.{ℕ, ◌<◌, ◌≤◌, refl, Ok, Err, arith}
use Rattle.std.specs.Prelude.{Result, IsOk}
use Rattle.operations.specs.declared.Binary.{Binary}
use Rattle.operations.specs.declared.Binary.TheVariants.{Add, Sub, Mul, Div}
use Rattle.operations.specs.declared.Unary.{Unary}
use Rattle.operations.specs.declared.Unary.TheVariants.{Floor, Abs, Sqrt}
use Rattle.operations.specs.declared.UnknownCode.{UnknownCode}
use Rattle.operations.specs.Codes.{binary_code, unary_code, Names}

pub binary_known : (code : ℕ) (r : Result Binary UnknownCode) → Names binary_code code r → code < 4 → IsOk r
binary_known code (Ok op) named h = refl
binary_known code (Err e) named h = absurd (omega (arith, named.1 Add, named.1 Sub, named.1 Mul, named.1 Div))

pub unary_known : (code : ℕ) (r : Result Unary UnknownCode) → Names unary_code code r → 4 ≤ code → code < 7 → IsOk r
unary_known code (Ok op) named low high = refl
unary_known code (Err e) named low high = absurd (omega (arith, named.1 Floor, named.1 Abs, named.1 Sqrt))

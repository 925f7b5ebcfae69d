-- That the answers by the rules are right and have the format's width, for the two units' methods.
use Rattle.std.proofs.Common.{◌≡◌, ℕ, ℤ, ◌^◌, ◌<◌, ◌≤◌, suc, sym, subst, ◌∙◌, arith}
use lib.Ieee.{Format, Float, binary32, of_bits, to_bits}
use lib.Ieee as Ieee
use Rattle.ieee.specs.Formats.{low, decode}
use Rattle.ieee.specs.Rounding.{Exact, word}
use Rattle.ieee.specs.Operations.{sum, opposite, product, quotient, square_root, scaled, unsigned, add, sub, mul, div, sqrt, floor, abs, number, number_through}
use Rattle.ieee.specs.Laws.{OperationsStand, Right, Floored}
use Rattle.ieee.proofs.OperationLaws.{operations_stand}
use Rattle.ieee.proofs.FloorLaws.{floor_stands}
use Rattle.ieee.proofs.Library.{adds, subs, muls, divs}
use Rattle.units.specs.Laws.{Twice}

pub halves : OperationsStand 11 15
halves = operations_stand 11 15 (omega arith) (omega arith)

pub singles : OperationsStand 24 127
singles = operations_stand 24 127 (omega arith) (omega arith)

pub right_sum : (p e a b r : ℕ) → 2 ≤ p → 1 ≤ e → r ≡ add p e a b → Right p e (sum (decode p e a) (decode p e b)) r
right_sum p e a b r P E h = rw h ((operations_stand p e P E).sums a b)

pub right_difference : (p e a b r : ℕ) → 2 ≤ p → 1 ≤ e → r ≡ sub p e a b → Right p e (sum (decode p e a) (opposite (decode p e b))) r
right_difference p e a b r P E h = rw h ((operations_stand p e P E).differences a b)

pub right_product : (p e a b r : ℕ) → 2 ≤ p → 1 ≤ e → r ≡ mul p e a b → Right p e (product (low p e) (decode p e a) (decode p e b)) r
right_product p e a b r P E h = rw h ((operations_stand p e P E).products a b)

pub right_quotient : (p e a b r : ℕ) → 2 ≤ p → 1 ≤ e → r ≡ div p e a b → Right p e (quotient (low p e) (decode p e a) (decode p e b)) r
right_quotient p e a b r P E h = rw h ((operations_stand p e P E).quotients a b)

pub right_root : (p e a r : ℕ) → 2 ≤ p → 1 ≤ e → r ≡ sqrt p e a → Right p e (square_root (low p e) (decode p e a)) r
right_root p e a r P E h = rw h ((operations_stand p e P E).roots a)

pub right_number : (p e : ℕ) (v : ℤ) (r : ℕ) → 2 ≤ p → 1 ≤ e → r ≡ number p e v → Right p e (scaled (low p e) v) r
right_number p e v r P E h = rw h ((operations_stand p e P E).numbers v)

pub right_floor : (p e a r : ℕ) → 2 ≤ p → p ≤ suc e → r ≡ floor p e a → Floored p e (decode p e a) r
right_floor p e a r P E h = subst (λ (x : ℕ). Floored p e (decode p e a) x) (sym h) (floor_stands p e P E a).0

pub right_abs : (p e a r : ℕ) → 2 ≤ p → 1 ≤ e → r ≡ abs p e a → decode p e r ≡ unsigned (decode p e a)
right_abs p e a r P E h = rw h ((operations_stand p e P E).signs a)

pub twice : (v : ℤ) (r : ℕ) → r ≡ number_through 24 127 11 15 v → Twice v r
twice v r e =
    subst (Twice v) (sym e) (record { wide = number 24 127 v; first = singles.numbers v; second = halves.conversions 149 (decode 24 127 (number 24 127 v)) })

pub width : (x : Exact) (r : ℕ) → r ≡ word 11 15 x → r < 2 ^ 16
width x r e = rw e (halves.width x)

-- what follows from the rule of a method
pub ruleset rights = (right_sum, right_difference, right_product, right_quotient, right_root, right_number, right_floor, right_abs, twice, width)

-- ---- the language's f32

pub by_sum : (a b r : ℕ) (x y : Float) → a < 2 ^ 32 → b < 2 ^ 32 → x ≡ of_bits binary32 a → y ≡ of_bits binary32 b → r ≡ to_bits binary32 (Ieee.add binary32 x y) → r ≡ add 24 127 a b
by_sum a b r x y A B u v e = e ∙ rw (u, v) (adds binary32 a b (omega arith) (omega arith))

pub by_difference : (a b r : ℕ) (x y : Float) → a < 2 ^ 32 → b < 2 ^ 32 → x ≡ of_bits binary32 a → y ≡ of_bits binary32 b → r ≡ to_bits binary32 (Ieee.sub binary32 x y) → r ≡ sub 24 127 a b
by_difference a b r x y A B u v e = e ∙ rw (u, v) (subs binary32 a b (omega arith) (omega arith))

pub by_product : (a b r : ℕ) (x y : Float) → a < 2 ^ 32 → b < 2 ^ 32 → x ≡ of_bits binary32 a → y ≡ of_bits binary32 b → r ≡ to_bits binary32 (Ieee.mul binary32 x y) → r ≡ mul 24 127 a b
by_product a b r x y A B u v e = e ∙ rw (u, v) (muls binary32 a b (omega arith) (omega arith))

pub by_quotient : (a b r : ℕ) (x y : Float) → a < 2 ^ 32 → b < 2 ^ 32 → x ≡ of_bits binary32 a → y ≡ of_bits binary32 b → r ≡ to_bits binary32 (Ieee.div binary32 x y) → r ≡ div 24 127 a b
by_quotient a b r x y A B u v e = e ∙ rw (u, v) (divs binary32 a b (omega arith) (omega arith))

pub ruleset floats = (by_sum, by_difference, by_product, by_quotient, rights)

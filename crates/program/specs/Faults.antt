-- The number and the address of a refusal.
use Rattle.std.specs.Prelude.{ℕ}
use Rattle.listing.specs.declared.Layer.TheVariants.{Program}
use Rattle.listing.specs.declared.Refusal.{Refusal}
use Rattle.program.specs.declared.fault.Fault.{Fault}
use Rattle.program.specs.declared.fault.Fault.TheVariants.{Length, Word, Ending, Target, SetxSkipped, Feeding, IntoLoop}

abbrev pub rule_of : Fault → ℕ
rule_of Length = 1
rule_of (Word a) = 2
rule_of (Ending a) = 3
rule_of (Target a) = 4
rule_of (SetxSkipped a) = 5
rule_of (Feeding a) = 6
rule_of (IntoLoop a) = 7

abbrev pub address_of : Fault → ℕ
address_of Length = 0
address_of (Word a) = a
address_of (Ending a) = a
address_of (Target a) = a
address_of (SetxSkipped a) = a
address_of (Feeding a) = a
address_of (IntoLoop a) = a

abbrev pub refusal_of : Fault → Refusal
refusal_of f = record { number = rule_of f; layer = Program; place = address_of f }

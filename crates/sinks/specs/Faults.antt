-- The numbers of the refusals.
use Rattle.std.specs.Prelude.{ℕ}
use Rattle.sinks.specs.declared.fault.Fault.{Fault}
use Rattle.sinks.specs.declared.fault.Fault.TheVariants.{Place, Lane}

abbrev pub number_of : Fault → ℕ
number_of Place = 13
number_of Lane = 14

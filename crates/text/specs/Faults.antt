-- The refusals of a text, case by case.
use Rattle.listing.specs.declared.Layer.TheVariants.{Text}
use Rattle.listing.specs.declared.Refusal.{Refusal}
use Rattle.text.specs.declared.fault.Fault.{Fault}
use Rattle.text.specs.declared.fault.Fault.TheVariants.{TooLong, Grammar, Twice, NoRoom, Unknown}

-- number, layer and line; the line is 0 where the whole text is refused
abbrev pub refusal_of : Fault → Refusal
refusal_of TooLong = record { number = 20; layer = Text; place = 0 }
refusal_of (Grammar line) = record { number = 21; layer = Text; place = line }
refusal_of (Twice line) = record { number = 22; layer = Text; place = line }
refusal_of (NoRoom line) = record { number = 23; layer = Text; place = line }
refusal_of (Unknown line) = record { number = 24; layer = Text; place = line }

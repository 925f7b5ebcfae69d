-- The classes of bytes, and the runs that they make.
use Rattle.std.specs.Prelude.{ℕ, Bool, true, false, cond, not, ◌&&◌, ◌||◌, ◌==◌, nat_le}
use Rattle.grammar.specs.declared.token.Class.{Class}
use Rattle.grammar.specs.declared.token.Class.TheVariants.{Letter, Digit, Underscore, Dollar, Comma, Colon, Semicolon, Space, Other}
use Rattle.grammar.specs.declared.token.Run.{Run}
use Rattle.grammar.specs.declared.token.Run.TheVariants.{Spaces, Name, Digits, Line}

abbrev pub letter : ℕ → Bool
letter b = (nat_le 65 b && nat_le b 90) || (nat_le 97 b && nat_le b 122)

abbrev pub digit : ℕ → Bool
digit b = nat_le 48 b && nat_le b 57

-- the class of a byte; spaces are bytes 32 and 9
abbrev pub class_of : ℕ → Class
class_of b =
    cond (letter b) Letter
    (cond (digit b) Digit
    (cond (b == 95) Underscore
    (cond (b == 36) Dollar
    (cond (b == 44) Comma
    (cond (b == 58) Colon
    (cond (b == 59) Semicolon
    (cond (b == 32 || b == 9) Space Other)))))))

abbrev pub blank : Class → Bool
blank Letter = false
blank Digit = false
blank Underscore = false
blank Dollar = false
blank Comma = false
blank Colon = false
blank Semicolon = false
blank Space = true
blank Other = false

-- what goes on with a name
abbrev pub wordy : Class → Bool
wordy Letter = true
wordy Digit = true
wordy Underscore = true
wordy Dollar = false
wordy Comma = false
wordy Colon = false
wordy Semicolon = false
wordy Space = false
wordy Other = false

abbrev pub numeric : Class → Bool
numeric Letter = false
numeric Digit = true
numeric Underscore = false
numeric Dollar = false
numeric Comma = false
numeric Colon = false
numeric Semicolon = false
numeric Space = false
numeric Other = false

-- byte 10 ends a line
abbrev pub goes_on : Run → ℕ → Bool
goes_on Spaces b = blank (class_of b)
goes_on Name b = wordy (class_of b)
goes_on Digits b = numeric (class_of b)
goes_on Line b = not (b == 10)

-- The text so far has the lines of the numbers before this one.
use Rattle.std.proofs.Common.{◌≡◌, string_bytes}
use Rattle.text_cases.specs.Lines.{label_lines}
use Rattle.text_cases.proofs.numbered.Given as goal

abbrev pub invariant-loop-i : goal.invariant-loop-i
invariant-loop-i l = string_bytes l.text ≡ label_lines l.i

-- Lines that each define a label of their own: l0, l1 and so on.
use Rattle.std.specs.Prelude.{ℕ, zero, suc, List, [], ◌∷◌, ◌++◌, decimal}

abbrev pub label_line : ℕ → List ℕ
label_line n = 108 ∷ (decimal n ++ (58 ∷ 10 ∷ []))

abbrev pub label_lines : ℕ → List ℕ
label_lines zero = []
label_lines (suc n) = label_lines n ++ label_line n

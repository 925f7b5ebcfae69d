-- A label is found by its name.
use Rattle.std.proofs.Common.{◌≡◌, ℕ, List, [], ◌∷◌, refl, inl, inr}
use Rattle.std.specs.List.{find}
use Rattle.std.specs.Option.{option_map}
use Rattle.std.specs.Str.{bytes_eq}
use Rattle.std.proofs.lemmas.Bool.{cases_Bool}
use Rattle.text.specs.declared.table.Label.{Label}
use Rattle.text.specs.Table.{name_in, address_of}

-- the address is that of the first label with the name
pub found : (text name : List ℕ) (es : List Label) → address_of text es name ≡ option_map (λ e. e.address) (find (λ e. bytes_eq (name_in text e) name) es)
found text name [] = refl
found text name (e ∷ es) =
    elim (cases_Bool (bytes_eq (name_in text e) name)) [ inl q ↦ rw q refl | inr q ↦ rw q (found text name es) ]

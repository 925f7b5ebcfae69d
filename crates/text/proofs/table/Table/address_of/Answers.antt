use Rattle.std.proofs.Common.{rules}
use Rattle.std.specs.Str.{bytes_eq}
use Rattle.std.proofs.lemmas.Iterator.{YieldsList-from_slice}
use Rattle.std.proofs.lemmas.Iterator.Search.{find_from_yields_List}
use Rattle.text.specs.Table.{name_in}
use Rattle.text.proofs.Labels.{found}
use Rattle.text.proofs.table.Table.address_of.Goals as goal

pub returns : goal.returns
returns c =
    let table = c.args.self.now in
    let first = find_from_yields_List (λ e. bytes_eq (name_in table.text.now e) c.args.name.now) _ _ c.find.result c.find.ensures.ran (YieldsList-from_slice table.labels.now cc) (λ x b q k. search rules) in
    rw (found table.text.now c.args.name.now table.labels.now, ← first) (search rules)

use Rattle.std.proofs.Common.{rules}
use Rattle.grammar.proofs.Readings.{labelled_none, unlabelled_none}
use Rattle.grammar.proofs.line.read_line.Goals as goal

pub returns-in_err-code_from-in-Some-clause-reading : goal.returns-in_err-code_from-in-Some-clause-reading
returns-in_err-code_from-in-Some-clause-reading c =
    let label = c.in-Some.ensures in
    rw c.from_residual.ensures (labelled_none c.args.bytes.now c.in-Some.name.now label.0 c.in-Some.rest.bytes.now label.1 label.2 c.in_err-code_from-in-Some.ensures)

pub returns-in_err-code_from-in-None-clause-reading : goal.returns-in_err-code_from-in-None-clause-reading
returns-in_err-code_from-in-None-clause-reading c =
    rw c.from_residual-in_err-code_from-in-None.ensures (search (rules, unlabelled_none))

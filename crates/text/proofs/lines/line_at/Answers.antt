use Rattle.std.proofs.lemmas.List.{take_rest}
use Rattle.text.proofs.Cuts.{line_there}
use Rattle.text.proofs.lines.line_at.Goals as goal

pub returns : goal.returns
returns c =
    let n = c.run_len-n.ensures.value in
    rw (n, take_rest c.args.text.now c.args.at) (line_there c.args.text.now c.args.at c.requires)

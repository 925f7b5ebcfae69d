use Rattle.grammar.specs.Lines.{label_in, code_in}
use Rattle.grammar.proofs.Readings.{says_one}
use Rattle.text.proofs.SecondPass.{formed_code}
use Rattle.text.proofs.words.code_of.Goals as goal

pub returns : goal.returns
returns c =
    let said = c.in_ok-read_line.field-0 in
    let told = c.in_ok-read_line.ensures.reading in
    (formed_code said.code told.formed, λ label code s. (says_one c.args.line.bytes.now label (label_in said) code (code_in said) s told).1)

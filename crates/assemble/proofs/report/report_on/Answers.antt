use Rattle.assemble.proofs.report.report_on.Goals as goal

pub returns-in_ok-word_lines-in-Ok : goal.returns-in_ok-word_lines-in-Ok
returns-in_ok-word_lines-in-Ok c = (c.in-Ok.counts, (c.assemble.new.words, (c.assemble.new.labels, c.in-Ok.ensures.outcome, c.in_ok-word_lines-in-Ok.ensures)))

pub returns-in_ok-refusal_line-in-Err : goal.returns-in_ok-refusal_line-in-Err
returns-in_ok-refusal_line-in-Err c = (c.in-Err.fault, (c.assemble.new.words, (c.assemble.new.labels, c.in-Err.ensures.outcome, rw c.into.ensures at c.in_ok-refusal_line-in-Err.ensures)))

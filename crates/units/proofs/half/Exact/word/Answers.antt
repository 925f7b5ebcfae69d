use Rattle.units.proofs.half.Exact.word.Goals as goal
use Rattle.std.proofs.Common.{sym, ap, ◌∙◌}
use Rattle.ieee.specs.Formats.{signed}
use Rattle.ieee.proofs.Scaled.{round_whole}

pub returns : goal.returns
returns c = c.signed.ensures ∙ ap (signed 11 15 c.args.self.negative) (c.rounded.ensures.value ∙ sym (round_whole 11 15 c.args.self.n))

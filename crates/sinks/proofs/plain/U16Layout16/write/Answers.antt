-- All sixteen lanes are written.
use Rattle.std.proofs.Common.{sym, ◌∙◌, arith}
use Rattle.std.proofs.lemmas.List.{ext_get_or, length-map, get_or-map}
use Rattle.sinks.specs.Pictures.{colour_of}
use Rattle.sinks.proofs.plain.U16Layout16.write.Goals as goal

pub returns : goal.returns
returns c =
    let (long, before) = c.loop-lane.invariant in
    ext_get_or 0 _ _ (omega (arith, long, length-map c.args.colours.now colour_of)) (λ k h. before k (omega arith) ∙ sym (get_or-map colour_of c.args.colours.now k 0 0 (omega arith)))

-- The count is that of the labels, and they stand at the front.
use Rattle.std.proofs.Common.{eqb-true}
use Rattle.text_cases.proofs.Passed.{passed, entered}
use Rattle.text_cases.proofs.expect.enters.Goals as goal

pub returns : goal.returns
returns c =
    passed (entered _ _ _ _ _ (eqb-true _ _ c.in_ok-check.ensures.only) c.in_ok-counts.ensures) c.hold.result c.hold.ensures.only

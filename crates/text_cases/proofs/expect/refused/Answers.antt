-- The refusal is the one that was told.
use Rattle.text_cases.proofs.Passed.{passed, turned}
use Rattle.text_cases.proofs.expect.refused.Goals as goal

pub returns : goal.returns
returns c =
    passed (turned _ _ _ _ _ c.in_ok-is_told.ensures.only c.in-Err.ensures) c.hold.result c.hold.ensures.only

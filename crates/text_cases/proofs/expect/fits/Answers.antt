-- The counts are those of the places.
use Rattle.std.proofs.Common.{◌≡◌, rules}
use Rattle.std.specs.Bool.{IsTrue}
use Rattle.text_cases.proofs.Passed.{passed, fitted}
use Rattle.text_cases.proofs.expect.fits.Goals as goal

pub returns : goal.returns
returns c =
    let same : IsTrue c.eq.result → c.in_ok-counts.counts ≡ c.args.room = λ h. search rules in
    passed (λ h. fitted _ _ _ _ _ (same h) c.in_ok-counts.ensures) c.check-2.result c.check-2.ensures.only

-- The word of an exact result is right for it, and no other word is.
use Rattle.std.proofs.Common.{ℕ, refl, ap, ◌∙◌}
use Rattle.ieee.specs.Formats.{signed}
use Rattle.ieee.specs.Rounding.{none, endless, fraction, root, round, round_root}
use Rattle.ieee.specs.Laws.{RoundingStands}
use Rattle.ieee.proofs.NearestLaws.{round_nearest, nearest_one}
use Rattle.ieee.proofs.Roots.{root_nearest, root_one}

pub rounding_stands : RoundingStands
rounding_stands p e P E none D = (refl, λ w h. h)
rounding_stands p e P E (endless s) D = (refl, λ w h. h)
rounding_stands p e P E (fraction s n d) D =
    let r = round_nearest p e n d P E D in
    ((round p e n d, refl, r), λ w h. h.1 ∙ ap (λ (m : ℕ). signed p e s m) (nearest_one p e n d h.0 (round p e n d) P E D h.2 r))
rounding_stands p e P E (root n) D =
    let r = root_nearest p e n P E in
    (r, λ w h. root_one p e n w (round_root p e n) P E h r)

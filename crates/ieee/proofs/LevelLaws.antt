-- The level of a value is the nearest whole number to it, and no other number is.
use Rattle.std.proofs.Common.{◌≡◌, ℕ, ◌*◌, ◌^◌, ◌<◌, ◌⊎◌, refl, ap, ◌∙◌, inl, inr, arith}
use lib.Ieee.Nearest.{closest}
use Rattle.std.proofs.lemmas.Nat.{pow_pos}
use Rattle.std.proofs.lemmas.Bool.{cases_order}
use Rattle.ieee.specs.Formats.{not_number, infinite, finite}
use Rattle.ieee.specs.Operations.{held_level}
use Rattle.ieee.specs.Laws.{NearestWhole, LevelStands}
use Rattle.ieee.proofs.NearestLaws.{central_nearest, central_even, none_two, whole_increasing, closest_central}

closest_nearest : (n d : ℕ) → 0 < d → NearestWhole n d (closest n d)
closest_nearest n d D =
    record {
      reach = central_nearest (λ j. j * d) (whole_increasing d D) n (closest n d) (closest_central n d D);
      even = central_even (λ j. j * d) (whole_increasing d D) n (closest n d) (closest_central n d D);
    }

whole_not_less : (n d k j : ℕ) → 0 < d → NearestWhole n d k → NearestWhole n d j → k < j → ⊥
whole_not_less n d k j D a b l =
    none_two (λ i. i * d) (whole_increasing d D) n k j l (λ i _. a.reach i) (b.reach k) (a.even j (λ s. omega arith)) (b.even k (λ s. omega arith))

whole_one : (n d k j : ℕ) → 0 < d → NearestWhole n d k → NearestWhole n d j → k ≡ j
whole_one n d k j D a b = go (cases_order k j)
  where
    go : (k ≡ j) ⊎ ((k < j) ⊎ (j < k)) → k ≡ j
    go (inl s) = s
    go (inr (inl s)) = absurd (whole_not_less n d k j D a b s)
    go (inr (inr s)) = absurd (whole_not_less n d j k D b a s)

pub level_stands : LevelStands
level_stands l not_number = (refl, λ z h. h)
level_stands l (infinite s) = (refl, λ z h. h)
level_stands l (finite s a) =
    let D = pow_pos l in
    let c = closest_nearest a (2 ^ l) D in
    ((closest a (2 ^ l), c, refl), λ z h. h.2 ∙ ap (held_level s) (whole_one a (2 ^ l) h.0 (closest a (2 ^ l)) D h.1 c))

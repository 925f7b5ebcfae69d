-- Blocks of one number for each lane.
use Rattle.std.specs.Prelude.{◌≡◌, ℕ, ◌+◌, ◌*◌, ◌<◌, ◌≤◌, List, [], ◌∷◌, length, drop, slice_index, refl}
use Rattle.std.proofs.Common.{sym, ap, ◌∙◌, arith}
use Rattle.std.specs.List.{AllByRecursion}
use Rattle.std.proofs.lemmas.List.{length-map, get_or-map, get_or-take, get_or-drop, length-take, length-drop}
use Rattle.sinks.specs.Pictures.{GoodBlock, colour_of}
use Rattle.sinks.specs.Memories.{part_at, plain_block}

pub plain_length : (values : List ℕ) → length values ≡ 16 → length (plain_block values) ≡ 16
plain_length values l = length-map values colour_of ∙ l

pub plain_twice : (values : List ℕ) → plain_block (plain_block values) ≡ plain_block values
plain_twice [] = refl
plain_twice (v ∷ vs) = rw (plain_twice vs) (ap (λ n. n ∷ plain_block vs) (omega arith))

below : (values : List ℕ) → AllByRecursion (λ c. c < 4096) (plain_block values)
below [] = tt
below (v ∷ vs) = (omega arith, below vs)

pub plain_good : (part : List ℕ) → length part ≡ 16 → GoodBlock (plain_block part)
plain_good part l = (plain_length part l, below part)

-- where a lane lies in the whole memory
pub plain_lane : (place lane : ℕ) (memory : List ℕ) → 16 * place + 16 ≤ length memory → lane < 16 → colour_of (slice_index memory (16 * place + lane)) ≡ slice_index (plain_block (part_at 16 place memory)) lane
plain_lane place lane memory i l =
    sym (get_or-map colour_of (part_at 16 place memory) lane 0 0 (simp (length-take, length-drop) (omega arith)) ∙ rw (get_or-take 16 (drop (16 * place) memory) lane 0 l, get_or-drop))

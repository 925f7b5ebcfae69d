-- Sixteen lanes are all.
use Rattle.std.proofs.Common.{◌≡◌, ◌∙◌, arith}
use Rattle.noise.specs.Noise.{number_of}
use Rattle.noise.proofs.Lanes.{all_lanes}
use Rattle.noise.proofs.Seeds.{seed_below, seed_bits}
use Rattle.noise.proofs.register.Noise.seeded.Goals as goal

pub returns : goal.returns
returns c =
    let bytes = c.args.bytes.now in
    let lanes = c.loop-lane.nine-items in
    let small = seed_below bytes c.told-bytes in
    let e : number_of 9 lanes ≡ number_of 8 bytes = all_lanes lanes (number_of 8 bytes) c.loop-lane-test.array_long (λ k h. c.loop-lane.invariant k (omega arith)) ∙ omega arith in
    record { number = e; bits = rw e (seed_bits bytes c.told-bytes) }

-- The four ways, each by its case of the level.
use Rattle.std.proofs.Common.{◌≡◌, ◌+◌, ◌/◌, nat_abs, ap, ◌∙◌, w8, to_z, of_z}
use Rattle.std.proofs.lemmas.Int.{to_z-of_z}
use Rattle.noise.specs.Noise.{channel_of}
use Rattle.noise.proofs.Channels.{channel_below, channel_under, channel_over, channel_up, channel_down}
use Rattle.noise.proofs.dither.channel.Goals as goal

pub returns-then-level-lt0 : goal.returns-then-level-lt0
returns-then-level-lt0 c =
    let e = to_z-of_z w8 c.args.level c.ranges.level in
    let n = channel_under c.args.level c.args.noise (simp e at c.if-level-lt0.true) in
    record { number = n; small = channel_below c.args.level c.args.noise _ n }

pub returns-then-level-gt-FULL : goal.returns-then-level-gt-FULL
returns-then-level-gt-FULL c =
    let e = to_z-of_z w8 c.args.level c.ranges.level in
    let n = channel_over c.args.level c.args.noise (simp e at c.if-level-gt-FULL.true) in
    record { number = n; small = channel_below c.args.level c.args.noise _ n }

pub returns-then-eighths-noise : goal.returns-then-eighths-noise
returns-then-eighths-noise c =
    let e = to_z-of_z w8 c.args.level c.ranges.level in
    let m = channel_up c.args.level c.args.noise (simp e at c.if-level-lt0.false) (simp e at c.if-level-gt-FULL.false) (simp e at c.if-eighths-noise.true) in
    let n : nat_abs (to_z w8 (of_z w8 c.args.level)) / 8 + 1 ≡ channel_of c.args.level c.args.noise = ap (λ z. nat_abs z / 8 + 1) e ∙ m in
    record { number = n; small = channel_below c.args.level c.args.noise _ n }

pub returns-else-eighths-noise : goal.returns-else-eighths-noise
returns-else-eighths-noise c =
    let e = to_z-of_z w8 c.args.level c.ranges.level in
    let m = channel_down c.args.level c.args.noise (simp e at c.if-level-lt0.false) (simp e at c.if-level-gt-FULL.false) (simp e at c.if-eighths-noise.false) in
    let n : nat_abs (to_z w8 (of_z w8 c.args.level)) / 8 ≡ channel_of c.args.level c.args.noise = ap (λ z. nat_abs z / 8) e ∙ m in
    record { number = n; small = channel_below c.args.level c.args.noise _ n }

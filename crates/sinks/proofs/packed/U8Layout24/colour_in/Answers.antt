-- The lane lies in its three bytes.
use Rattle.std.proofs.Common.{[], ◌∙◌, arith}
use Rattle.sinks.specs.PackedBlocks.{no_lane, lane_low, lane_high}
use Rattle.sinks.proofs.packed.U8Layout24.colour_in.Goals as goal

pub returns-in_err-low : goal.returns-in_err-low
returns-in_err-low c = c.from_residual.ensures ∙ no_lane c.args.block.now c.args.lane (omega (arith, c.in_err-low.ensures.lookup.3))

pub returns-then-lane-eq0 : goal.returns-then-lane-eq0
returns-then-lane-eq0 c =
    let there = c.in_ok-low.ensures.lookup.3 in
    lane_low c.args.block.now _ _ c.args.lane c.told-block c.as_chunks.ensures.front (omega (arith, there.0)) (there.1 []) c.fits-block (omega arith)

pub returns-else-lane-eq0 : goal.returns-else-lane-eq0
returns-else-lane-eq0 c =
    let there = c.in_ok-low.ensures.lookup.3 in
    lane_high c.args.block.now _ _ c.args.lane c.told-block c.as_chunks.ensures.front (omega (arith, there.0)) (there.1 []) c.fits-block c.if-lane-eq0.false

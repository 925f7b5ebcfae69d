-- Each turn writes three bytes, the last turn the last of 24.
use Rattle.std.proofs.Common.{◌≡◌, ℕ, ◌+◌, ◌*◌, ◌<◌, [], get_or, add-zero, arith}
use Rattle.std.proofs.lemmas.List.{length-set}
use Rattle.sinks.specs.PackedBlocks.{byte_0, byte_1, byte_2, chunk_at, packed_more, packed_all}
use Rattle.sinks.proofs.packed.U8Layout24.write.Goals as goal

pub loop-pair-preserved : goal.loop-pair-preserved
loop-pair-preserved c =
    let values = c.args.colours.now in
    let j = c.loop-pair.pair in
    let at = λ (i : ℕ) (h : i < 2). chunk_at 2 values _ j i c.as_chunks.ensures.front (omega arith) h in
    let first : get_or (get_or c.as_chunks.result.0.now j []) 0 0 ≡ get_or values (2 * j) 0 = rw add-zero at (at 0 (omega arith)) in
    let second : get_or (get_or c.as_chunks.result.0.now j []) 1 0 ≡ get_or values (2 * j + 1) 0 = at 1 (omega arith) in
    record {
      long = simp length-set (omega arith);
      written = packed_more values c.loop-pair.block j _ _ _ (rw (first, byte_0 values j)) (rw (first, second, byte_1 values j)) (rw (second, byte_2 values j)) (omega arith) c.loop-pair.invariant.written;
    }

pub returns : goal.returns
returns c = packed_all c.args.colours.now c.loop-pair.block (omega arith) (λ k h. c.loop-pair.invariant.written k (omega arith))

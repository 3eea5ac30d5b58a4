-- The bytes that were counted, and those that the pieces left hold, are all.
use Rattle.std.proofs.Common.{◌≡◌, ◌+◌, ◌≤◌, length}
use Rattle.stream_blocks.specs.Reading.{pieces_content}
use Rattle.stream_blocks.proofs.strings.pieces_len.Given as goal

abbrev pub invariant-pieces : goal.invariant-pieces
invariant-pieces l = record {
  within : l.len + length l.rest ≤ length l.bytes;
  so_far : l.len + length (pieces_content (length l.rest + 1) l.rest) ≡ length (pieces_content (length l.bytes + 1) l.bytes);
}

abbrev pub decreases-pieces : goal.decreases-pieces
decreases-pieces l = length l.rest

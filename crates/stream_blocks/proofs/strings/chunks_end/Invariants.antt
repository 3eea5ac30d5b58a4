-- The chunks that are left end where all of them do.
use Rattle.std.proofs.Common.{◌≡◌, ◌+◌, ◌≤◌, length}
use Rattle.stream_blocks.specs.Reading.{chunks_end}
use Rattle.stream_blocks.proofs.strings.chunks_end.Given as goal

abbrev pub invariant-chunks : goal.invariant-chunks
invariant-chunks l = record {
  within : length l.rest ≤ length l.bytes;
  so_far : chunks_end l.major (length l.rest + 1) l.rest ≡ chunks_end l.major (length l.bytes + 1) l.bytes;
}

abbrev pub decreases-chunks : goal.decreases-chunks
decreases-chunks l = length l.rest

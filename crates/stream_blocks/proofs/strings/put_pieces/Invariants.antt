-- What was put, and what the pieces left hold, is all.
use Rattle.std.proofs.Common.{◌≡◌, ◌+◌, ◌≤◌, ◌++◌, length, take, drop}
use Rattle.stream_blocks.specs.Reading.{pieces_content}
use Rattle.stream_blocks.proofs.strings.put_pieces.Given as goal

abbrev pub invariant-pieces : goal.invariant-pieces
invariant-pieces l = record {
  len : length l.out ≡ length l.initial.out;
  room : l.at + length (pieces_content (length l.rest + 1) l.rest) ≤ length l.out;
  so_far : take l.at l.out ++ pieces_content (length l.rest + 1) l.rest ≡ pieces_content (length l.bytes + 1) l.bytes;
  back : drop l.at l.out ≡ drop l.at l.initial.out;
}

abbrev pub decreases-pieces : goal.decreases-pieces
decreases-pieces l = length l.rest

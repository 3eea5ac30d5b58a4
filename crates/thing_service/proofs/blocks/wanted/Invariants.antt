-- What the bytes that are left name comes behind what was found.
use Rattle.std.proofs.Common.{◌≡◌, ◌+◌, ◌*◌, drop}
use Rattle.std.specs.List.{flat_map}
use Rattle.stream_blocks.specs.Sets.{bits}
use Rattle.thing_service.specs.Blocks.{more, wanted}
use Rattle.thing_service.proofs.blocks.wanted.Given as goal

abbrev pub invariant-loop-byte : goal.invariant-loop-byte
invariant-loop-byte l = record {
  place : l.at ≡ l.request.offset + 8 * l.byte-index;
  so_far : more l.request.number l.blocks l.at l.found.items (flat_map (bits 8) (drop l.byte-index l.request.map.items)) ≡ wanted l.request.number l.blocks l.request.offset l.request.map.items;
}

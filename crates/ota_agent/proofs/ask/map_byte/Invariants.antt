-- The flags from the last one down are taken, the latest one lowest.
use Rattle.std.proofs.Common.{◌≡◌, ℕ, ◌+◌, ◌-◌, ◌*◌, ◌^◌, ◌<◌, false, get_or}
use Rattle.stream_blocks.specs.Sets.{bits}
use Rattle.ota_agent.specs.Requests.{window}
use Rattle.ota_agent.proofs.ask.map_byte.Given as goal

abbrev pub invariant-loop-taken : goal.invariant-loop-taken
invariant-loop-taken g l = record {
  small : l.byte < 2 ^ l.taken;
  flags : (j : ℕ) → j < l.taken → get_or (bits l.taken l.byte) j false ≡ get_or (window l.offset l.m) (8 * l.place + 8 - l.taken + j) false;
}

-- The bytes so far have the flags so far, and they are counted.
use Rattle.std.proofs.Common.{◌≡◌, ℕ, ◌*◌, ◌<◌, false, get_or, length}
use Rattle.stream_blocks.specs.Sets.{count}
use Rattle.ota_agent.specs.Requests.{window, map_flags}
use Rattle.ota_agent.proofs.ask.next_ask.Given as goal

abbrev pub invariant-loop-place : goal.invariant-loop-place
invariant-loop-place g l = record {
  len : length l.map.items ≡ l.place;
  flags : (j : ℕ) → j < 8 * l.place → get_or (map_flags l.map.items) j false ≡ get_or (window l.offset l.m) j false;
  counted : l.number ≡ count (map_flags l.map.items);
}

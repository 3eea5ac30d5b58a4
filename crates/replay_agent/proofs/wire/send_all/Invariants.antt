-- So many bytes were taken.
use Rattle.std.proofs.Common.{◌≡◌, ◌≤◌, ◌-◌, length, take}
use Rattle.agent_link.specs.Wires.{onto_last}
use Rattle.broker_tape.specs.Playing.{counts, fitting, room_behind}
use Rattle.replay_agent.proofs.wire.send_all.Given as goal

abbrev pub invariant-pieces : goal.invariant-pieces
invariant-pieces l = record {
  fits : l.sent ≤ fitting l.fn.link.room (length l.bytes);
  taken : l.link.taken ≡ onto_last l.fn.link.taken (take l.sent l.bytes);
  room : l.link.room ≡ room_behind l.fn.link.room l.sent;
  given : l.link.given ≡ l.fn.link.given;
  left : l.link.left ≡ l.fn.link.left;
  counted : counts l.link ≡ counts l.fn.link;
}

abbrev pub decreases-pieces : goal.decreases-pieces
decreases-pieces l = length l.bytes - l.sent

-- What the code of a world keeps.
use Rattle.agent_journal.specs.Wires.{sends}
use Rattle.session_world.specs.declared.parts.Parts.{Parts}
use Rattle.session_world.specs.Kept.{Kept}
use Rattle.session_world.specs.Queued.{items_in}

abbrev pub kept_in : Parts → Kept
kept_in p = record {
  core = p.core;
  broker = p.broker;
  up = sends (items_in p.up);
  down = items_in p.down;
  notes = p.notes;
  events = p.events;
  own = p.own;
  breaks = p.breaks;
}

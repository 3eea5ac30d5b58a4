-- What holds of each world that events lead to.
use Rattle.std.specs.Prelude.{◌≡◌, ◌≤◌, true, length}
use Rattle.std.specs.List.{AllByRecursion}
use Rattle.mqtt_packet.specs.Spelling.{is_sound}
use Rattle.agent_journal.specs.declared.setup.Setup.{Setup}
use Rattle.agent_journal.specs.declared.setup.Phase.TheVariants.{Down}
use Rattle.agent_table.specs.Histories.{IsLegalPast, phase_of}
use Rattle.agent_table.specs.Sizes.{Sizes}
use Rattle.broker_core.specs.declared.link.Link.TheVariants.{Gone}
use Rattle.session_world.specs.World.{World, Rising, entries, kept}

abbrev pub Rises : Rising → Type 0
Rises x = is_sound x.packet ≡ true

-- The journal is a history of the agent, the packets on their way up have spellings, and in Down the broker has no
-- connection.
pub record IsSteady (s : Setup) (l : Sizes) (w : World) : Type 0 where
  pub legal : IsLegalPast s l (entries w)
  pub sound : AllByRecursion Rises w.up
  pub gone : phase_of s l (entries w) ≡ Down → (kept w).link ≡ Gone

-- No more was noted and counted than there were events.
pub record IsReady (s : Setup) (l : Sizes) (w : World) : Type 0 where
  pub steady : IsSteady s l w
  pub entries : length w.past ≤ w.events
  pub own : w.own ≤ w.events
  pub breaks : w.breaks ≤ w.events

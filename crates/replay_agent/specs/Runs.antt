-- The world that a run of the code stands for.
use Rattle.std.specs.Prelude.{◌≡◌, ℕ, ◌*◌, ◌^◌, ◌≤◌, true, List, reverse, drop, length}
use Rattle.broker_tape.specs.Playing.{counts}
use Rattle.agent_journal.specs.declared.entry.Entry.{Entry}
use Rattle.agent_script.specs.declared.script.Line.{Line}
use Rattle.agent_journal.specs.declared.setup.Setup.{Setup}
use Rattle.agent_journal.specs.Projections.{messages_of}
use Rattle.agent_journal.specs.Readings.{takes_of, has_left}
use Rattle.agent_journal.specs.Setups.{is_client}
use Rattle.agent_core.specs.Kept.{Kept}
use Rattle.agent_core.specs.Stands.{StandsFor}
use Rattle.replay_rounds.specs.World.{World}
use Rattle.replay_rounds.specs.Lines.{closed_of}
use Rattle.agent_table.specs.Endings.{ending_of}
use Rattle.agent_table.specs.Sizes.{Sizes}
use Rattle.replay_agent.specs.declared.notes.Notes.{Notes}
use Rattle.replay_agent.specs.declared.run.Run.{Run}

abbrev pub world : Kept → Run → List Line → World
world core run lines =
    record {
      setup = core.setup;
      sizes = core.sizes;
      clock = run.clock;
      past = reverse run.journal;
      lines = drop run.gone lines;
      listened = run.listened;
      items = run.link.left;
      room = run.link.room;
      taken = run.link.taken;
      given = run.link.given;
      stream = run.splitter;
      idle = run.idle;
      counts = counts run.link;
    }

-- what the run knows of its journal
pub record IsNoted (setup : Setup) (sizes : Sizes) (notes : Notes) (past : List Entry) : Type 0 where
  pub taken_is : notes.taken ≡ takes_of 0 past
  pub messages_is : notes.messages ≡ messages_of 0 past
  pub closed_is : notes.closed ≡ closed_of past
  pub left_is : notes.left ≡ has_left 0 past
  pub ending_is : notes.ending ≡ ending_of setup sizes past

-- The core stands for the journal so far, and what the run keeps is read off it.
pub record IsSound (core : Kept) (run : Run) : Type 0 where
  pub client : is_client core.setup.client ≡ true
  pub stands : StandsFor core (reverse run.journal)
  pub noted : IsNoted core.setup core.sizes run.notes (reverse run.journal)
  pub few : run.notes.messages ≤ length run.journal * 2 ^ 64
  pub listens : run.listened ≤ run.gone * 2 ^ 32

abbrev pub sizes_of : ℕ → ℕ → ℕ → Sizes
sizes_of acks inbound routes = record { acks = acks; inbound = inbound; routes = routes }

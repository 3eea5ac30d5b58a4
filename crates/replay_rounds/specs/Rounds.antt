-- What a replay does, round by round, and when it ends.
use Rattle.std.specs.Prelude.{ℕ, zero, suc, Bool, true, false, ◌&&◌, List, [], ◌∷◌, ◌++◌, Option, Some, None, if◌then◌else◌}
use Rattle.agent_link.specs.Clocks.{step_reading, after_reading}
use Rattle.agent_link.specs.Counts.{uncounted}
use Rattle.broker_tape.specs.declared.tape.Item.{Item}
use Rattle.broker_tape.specs.Playing.{opens, room_at}
use Rattle.agent_journal.specs.declared.entry.Cause.{Cause}
use Rattle.agent_journal.specs.declared.entry.Cause.TheVariants as c
use Rattle.agent_journal.specs.declared.entry.Why.TheVariants as why
use Rattle.agent_script.specs.declared.script.Line.{Line}
use Rattle.agent_journal.specs.declared.setup.Setup.{Setup}
use Rattle.agent_journal.specs.declared.setup.Phase.{Phase}
use Rattle.agent_journal.specs.declared.setup.Phase.TheVariants.{Down, Opening, Up, Spilled, Off}
use Rattle.agent_journal.specs.Endings.{is_off}
use Rattle.agent_journal.specs.Readings.{has_left}
use Rattle.agent_table.specs.Histories.{due_by, readings}
use Rattle.agent_table.specs.Sizes.{Sizes}
use Rattle.agent_ties.specs.Seen.{fresh}
use Rattle.replay_rounds.specs.World.{World, phase_in}
use Rattle.replay_rounds.specs.Entering.{entered, noted, failed}
use Rattle.replay_rounds.specs.Receiving.{receives}
use Rattle.replay_rounds.specs.Lines.{takes, ends}

abbrev pub opened_by : World → ℕ → Bool × List Item → World
opened_by w at (true, rest) =
    entered (record w { items = rest; room = room_at rest; taken = w.taken ++ [] ∷ []; given = w.given ++ [] ∷ []; stream = fresh; idle = 0 }) at c.Opened
opened_by w at (false, rest) = noted (failed (record w { items = rest })) at (c.Broke why.Fault)

-- In Down the tape's next connection is opened.
unfoldable pub opening : World → ℕ → World
opening w at = opened_by w at (opens w.items)

abbrev pub acts_in : World → ℕ → Phase → World
acts_in w at Down = opening w at
acts_in w at Opening = receives w at
acts_in w at Up = takes w at
acts_in w at Spilled = w
acts_in w at Off = ends w at

abbrev pub acts_by : World → ℕ → Option Cause → World
acts_by w at None = acts_in w at (phase_in w)
acts_by w at (Some cause) = entered w at cause

-- What is due comes first.
abbrev pub acts : World → ℕ → World
acts w at = acts_by w at (due_by w.setup w.sizes (readings w.setup w.sizes w.past) at)

-- A round reads the clock once: round k, from 0, has the time k ticks, or the greatest u64 where that is larger.
abbrev pub round : World → World
round w = acts (record w { clock = after_reading w.clock }) (step_reading w.clock.step w.clock.calls)

-- The Leave was taken, and the phase is Off.
abbrev pub has_ended : World → Bool
has_ended w = is_off (phase_in w) && has_left 0 w.past

-- so many rounds, but none behind the end
abbrev pub after : ℕ → World → World
after zero w = w
after (suc n) w = if has_ended w then w else after n (round w)

-- a replay before its first round
abbrev pub begun : Setup → Sizes → ℕ → List Line → List Item → World
begun setup sizes tick lines items =
    record {
      setup = setup;
      sizes = sizes;
      clock = record { step = tick; calls = 0 };
      past = [];
      lines = lines;
      listened = 0;
      items = items;
      room = Some 0;
      taken = [];
      given = [];
      stream = fresh;
      idle = 0;
      counts = uncounted;
    }

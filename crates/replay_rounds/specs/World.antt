-- A moment of a replay: plain data. It knows no core, no splitter and no arrays.
use Rattle.std.specs.Prelude.{ℕ, List, Option, Some}
use Rattle.mqtt_packet.specs.Splitting.{Kept}
use Rattle.agent_link.specs.Clocks.{Stepping}
use Rattle.agent_link.specs.Counts.{LinkCounts}
use Rattle.broker_tape.specs.declared.tape.Item.{Item}
use Rattle.broker_tape.specs.Playing.{closed}
use Rattle.agent_journal.specs.declared.entry.Cause.{Cause}
use Rattle.agent_journal.specs.declared.entry.Entry.{Entry}
use Rattle.agent_script.specs.declared.script.Line.{Line}
use Rattle.agent_journal.specs.declared.setup.Setup.{Setup}
use Rattle.agent_journal.specs.declared.setup.Phase.{Phase}
use Rattle.agent_journal.specs.declared.setup.Phase.TheVariants.{Down, Opening, Up, Spilled, Off}
use Rattle.agent_table.specs.Histories.{phase_of, row}
use Rattle.agent_table.specs.Rows.{Row}
use Rattle.agent_table.specs.Sizes.{Sizes}

pub record World : Type 0 where
  pub setup : Setup
  pub sizes : Sizes
  -- the clock, which is read once a round
  pub clock : Stepping
  -- the entries, newest first
  pub past : List Entry
  -- the script's lines that weren't gone past, and how many messages those ask for that are gone past
  pub lines : List Line
  pub listened : ℕ
  -- the tape's items that weren't used, and how many bytes the present connection still takes, where that is bounded
  pub items : List Item
  pub room : Option ℕ
  -- the bytes that each connection took and gave, the present one last
  pub taken : List (List ℕ)
  pub given : List (List ℕ)
  -- what the present connection gave that wasn't handed in as packets yet
  pub stream : Kept
  -- how often in a row nothing was heard on it, at most 10,000
  pub idle : ℕ
  -- what the link has counted: calls that failed, ends, and receives that heard nothing
  pub counts : LinkCounts

abbrev pub phase_in : World → Phase
phase_in w = phase_of w.setup w.sizes w.past

-- the row that the table has for a cause now
abbrev pub row_in : World → ℕ → Cause → Option Row
row_in w at cause = row w.setup w.sizes w.past at cause

-- The present connection is ended: it takes nothing more, and what it left unused is gone.
abbrev pub shut : World → World
shut w = record w { items = closed w.items; room = Some 0 }

abbrev pub shut_in : World → Phase → World
shut_in w Down = shut w
shut_in w Opening = w
shut_in w Up = w
shut_in w Spilled = w
shut_in w Off = shut w

-- In Down and Off there is no connection.
abbrev pub settled : World → World
settled w = shut_in w (phase_in w)

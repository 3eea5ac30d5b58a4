-- What a journal's ties see of an agent: its entries, what each connection took and gave, and what was kept of the present one.
use Rattle.std.specs.Prelude.{ℕ, List, [], ◌∷◌, Option, None}
use Rattle.mqtt_packet.specs.Splitting.{Kept as Stream}
use Rattle.agent_link.specs.Wires.{onto_last}
use Rattle.agent_journal.specs.declared.entry.Cause.{Cause}
use Rattle.agent_journal.specs.declared.entry.Entry.{Entry}
use Rattle.agent_journal.specs.declared.setup.Phase.{Phase}
use Rattle.agent_journal.specs.declared.setup.Setup.{Setup}
use Rattle.agent_table.specs.Histories.{phase_of, row}
use Rattle.agent_table.specs.Rows.{Row}
use Rattle.agent_table.specs.Sizes.{Sizes}

pub record Seen : Type 0 where
  pub setup : Setup
  pub sizes : Sizes
  -- the entries, newest first
  pub past : List Entry
  -- the bytes that each connection took and gave, the present one last
  pub taken : List (List ℕ)
  pub given : List (List ℕ)
  -- what the present connection gave that wasn't handed in as packets yet
  pub stream : Stream

abbrev pub phase_seen : Seen → Phase
phase_seen v = phase_of v.setup v.sizes v.past

abbrev pub row_seen : Seen → ℕ → Cause → Option Row
row_seen v at cause = row v.setup v.sizes v.past at cause

-- the entry that a row makes of its cause
abbrev pub entry : ℕ → Cause → Row → Entry
entry at cause row = record { at = at; cause = cause; effects = row.effects }

-- an entry more
abbrev pub with_entry : Seen → ℕ → Cause → Row → Seen
with_entry v at cause found = record v { past = entry at cause found ∷ v.past }

-- The present connection took these bytes besides.
abbrev pub with_bytes : Seen → List ℕ → Seen
with_bytes v bytes = record v { taken = onto_last v.taken bytes }

-- a stream of which nothing has come
abbrev pub fresh : Stream
fresh = record { rest = []; at = 0; verdict = None }

-- Entries of a replay: what the table gives, with its packets on the wire.
use Rattle.std.specs.Prelude.{ℕ, List, [], ◌∷◌, length, take, Option, Some, None, if◌then◌else◌, nat_lt}
use Rattle.agent_link.specs.Counts.{with_fault}
use Rattle.agent_link.specs.Wires.{onto_last}
use Rattle.broker_tape.specs.Playing.{fitting, room_behind}
use Rattle.agent_journal.specs.declared.entry.Cause.{Cause}
use Rattle.agent_journal.specs.declared.entry.Cause.TheVariants as c
use Rattle.agent_journal.specs.declared.entry.Why.TheVariants as why
use Rattle.agent_journal.specs.Wires.{sent_in}
use Rattle.agent_table.specs.Rows.{Row}
use Rattle.agent_ties.specs.Seen.{entry}
use Rattle.replay_rounds.specs.World.{World, row_in, settled}

abbrev pub noted_by : World → ℕ → Cause → Option Row → World
noted_by w at cause None = w
noted_by w at cause (Some row) = settled (record w { past = entry at cause row ∷ w.past })

-- the entry of a cause that sends nothing, where the table has a row
abbrev pub noted : World → ℕ → Cause → World
noted w at cause = noted_by w at cause (row_in w at cause)

-- The present connection took these bytes.
abbrev pub onto_wire : World → List ℕ → World
onto_wire w bytes = record w { taken = onto_last w.taken bytes; room = room_behind w.room (length bytes) }

-- A call of the link failed.
abbrev pub failed : World → World
failed w = record w { counts = with_fault w.counts }

-- It takes as many of them as it has room for. Where that isn't all, the link fails, in the same round.
abbrev pub sends_some : World → ℕ → List ℕ → ℕ → World
sends_some w at bytes fits = if nat_lt fits (length bytes) then noted (failed (onto_wire w (take fits bytes))) at (c.Broke why.Fault) else settled (onto_wire w bytes)

-- Where something is sent, the count of receives that heard nothing begins anew.
abbrev pub sends : World → ℕ → List ℕ → World
sends w at [] = settled w
sends w at (b ∷ bytes) = sends_some (record w { idle = 0 }) at (b ∷ bytes) (fitting w.room (length (b ∷ bytes)))

abbrev pub entered_by : World → ℕ → Cause → Option Row → World
entered_by w at cause None = w
entered_by w at cause (Some row) = sends (record w { past = entry at cause row ∷ w.past }) at (sent_in row.effects)

-- the entry that the table makes of this cause, where it has a row, and its packets
abbrev pub entered : World → ℕ → Cause → World
entered w at cause = entered_by w at cause (row_in w at cause)

-- The table of the sequential agent: what it does at each cause. The delivery rules are those of MQTT 3.1.1, sections 3 and
-- 4; the phases, the counts, the times and the order of effects are the project's own.
use Rattle.std.specs.Prelude.{ℕ, nat_le, Option}
use Rattle.agent_journal.specs.declared.entry.Cause.{Cause}
use Rattle.agent_journal.specs.declared.entry.Cause.TheVariants as c
use Rattle.agent_journal.specs.declared.setup.Setup.{Setup}
use Rattle.agent_table.specs.Arrivals.{arrived_row}
use Rattle.agent_table.specs.Breaks.{opened_row, broke_row, tick_row, gave_up_row, finish_row}
use Rattle.agent_table.specs.Readings.{Readings}
use Rattle.agent_table.specs.Rows.{Row, when}
use Rattle.agent_table.specs.Sizes.{Sizes}
use Rattle.agent_table.specs.Takes.{take_row}

abbrev pub cause_row : Setup → Sizes → Readings → ℕ → Cause → Option Row
cause_row s l r at c.Opened = opened_row s r r.phase
cause_row s l r at (c.Take task seq request) = take_row s l r task seq request
cause_row s l r at (c.Arrived packet) = arrived_row s l r packet
cause_row s l r at (c.Broke why) = broke_row s r at why
cause_row s l r at c.Tick = tick_row s r at r.phase
cause_row s l r at c.GaveUp = gave_up_row s r r.phase
cause_row s l r at c.Finish = finish_row s r r.phase

-- The row of a cause at a time, which doesn't fall.
unfoldable pub row_of : Setup → Sizes → Readings → ℕ → Cause → Option Row
row_of s l r at cause = when (nat_le r.last_time at) (cause_row s l r at cause)

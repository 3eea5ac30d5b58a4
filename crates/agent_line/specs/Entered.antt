-- What an entry whose packets are sent leaves.
use Rattle.std.specs.Prelude.{◌≡◌, ◌⊎◌, ℕ, ◌+◌, ◌<◌, length, take, Some, None, if◌then◌else◌, nat_le, nat_lt}
use Rattle.mqtt_packet.specs.declared.packet.Packet.{Packet}
use Rattle.agent_link.specs.Counts.{LinkCounts, Rose, with_fault}
use Rattle.agent_journal.specs.declared.entry.Cause.{Cause}
use Rattle.agent_journal.specs.declared.entry.Cause.TheVariants as c
use Rattle.agent_journal.specs.declared.entry.Why.TheVariants as why
use Rattle.agent_journal.specs.Wires.{sent_in}
use Rattle.agent_table.specs.Readings.{at_most}
use Rattle.agent_table.specs.Rows.{Row}
use Rattle.agent_ties.specs.Counting.{IsLater}
use Rattle.agent_line.specs.Recorded.{Recorded, row_in, with_row, noted}
use Rattle.agent_line.specs.Told.{Told, more_on}

-- All of its packets were sent.
pub record IsWhole (old : Recorded) (at : ℕ) (cause : Cause) (found : Row) (before : Told) (new : Recorded) (now : Told) : Type 0 where
  pub newest : new ≡ with_row old at cause found
  pub taken : now.taken ≡ more_on before.taken (sent_in found.effects)

-- The first k bytes of them were, and a fault stands behind it.
pub record IsPart (old : Recorded) (at : ℕ) (cause : Cause) (found : Row) (before : Told) (new : Recorded) (now : Told) : Type 0 where
  pub k : ℕ
  pub short : k < length (sent_in found.effects)
  pub second : Row
  pub is : row_in (with_row old at cause found) at (c.Broke why.Fault) ≡ Some second
  pub newest : new ≡ with_row (with_row old at cause found) at (c.Broke why.Fault) second
  pub taken : now.taken ≡ more_on before.taken (take k (sent_in found.effects))
  pub rose : Rose before.counts.faults now.counts.faults

pub record IsEntered (old : Recorded) (at : ℕ) (cause : Cause) (before : Told) (new : Recorded) (now : Told) : Type 0 where
  pub found : Row
  pub is : row_in old at cause ≡ Some found
  pub sent : IsWhole old at cause found before new now ⊎ IsPart old at cause found before new now
  pub given : now.given ≡ before.given
  pub later : IsLater before.counts now.counts

-- A packet arrived: its entry was made, and its packets sent, or there is no row for it.
abbrev pub Arrives : Recorded → ℕ → Packet → Told → Recorded → Told → Type 0
Arrives old at packet before new now =
    ((row_in old at (c.Arrived packet) ≡ None) × (new ≡ old) × (now ≡ before)) ⊎ IsEntered old at (c.Arrived packet) before new now

-- how often in a row nothing was heard behind one time more, at most 10,000
abbrev pub one_more : ℕ → ℕ
one_more idle = at_most 10000 (idle + 1)

-- Nothing was heard so often in a row. Ten thousand times, and it is a break, where the table has a row.
abbrev pub idled : Recorded → ℕ → ℕ → Recorded
idled old idle at = if nat_le 10000 idle then noted old at (c.Broke why.Idle) else old

-- the counts of a link that took so many of len bytes: where that isn't all, a call failed
abbrev pub counts_behind : ℕ → ℕ → LinkCounts → LinkCounts
counts_behind sent len counts = if nat_lt sent len then with_fault counts else counts

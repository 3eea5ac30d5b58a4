-- What a link's counts have to do with a journal, at each moment of an agent.
use Rattle.std.specs.Prelude.{◌≡◌, ℕ, ◌+◌, ◌*◌, false, List, if◌then◌else◌}
use Rattle.agent_link.specs.Counts.{LinkCounts, RoseBy}
use Rattle.agent_journal.specs.declared.entry.Cause.{Cause}
use Rattle.agent_journal.specs.declared.entry.Entry.{Entry}
use Rattle.agent_journal.specs.declared.setup.Phase.{Phase}
use Rattle.agent_journal.specs.declared.setup.Setup.{Setup}
use Rattle.agent_journal.specs.Wires.{is_opened}
use Rattle.agent_table.specs.Histories.{phase_of}
use Rattle.agent_table.specs.Sizes.{Sizes}
use Rattle.agent_table.specs.Ties.{listens, is_fault, is_end, is_idle, is_break_for, breaks_for}

-- No count fell, or it stands at the greatest u64.
pub record IsLater (before now : LinkCounts) : Type 0 where
  pub faults : RoseBy 0 before.faults now.faults
  pub ends : RoseBy 0 before.ends now.ends
  pub nothings : RoseBy 0 before.nothings now.nothings

-- how many receives heard nothing on the present connection, in a row, while the agent listens
abbrev pub waited : Phase → ℕ → ℕ
waited phase idle = if listens phase then idle else 0

-- The counts rose by what the journal says, at least, and by the receives that heard nothing since the last bytes.
pub record HasCounted (s : Setup) (l : Sizes) (past : List Entry) (idle : ℕ) (first now : LinkCounts) : Type 0 where
  pub faults : RoseBy (breaks_for is_fault past) first.faults now.faults
  pub ends : RoseBy (breaks_for is_end past) first.ends now.ends
  pub nothings : RoseBy (10000 * breaks_for is_idle past + waited (phase_of s l past) idle) first.nothings now.nothings

-- a cause with which nothing is counted, and no connection begins
pub record IsUncounted (cause : Cause) : Type 0 where
  pub opened : is_opened cause ≡ false
  pub fault : is_break_for is_fault cause ≡ false
  pub end : is_break_for is_end cause ≡ false
  pub idle : is_break_for is_idle cause ≡ false

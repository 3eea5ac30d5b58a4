-- How a run ends: by the entry behind which the phase was Off for the first time.
use Rattle.std.specs.Prelude.{ℕ, Bool, true, false, List, Option, Some, None, if◌then◌else◌, codes}
use Rattle.agent_journal.specs.declared.entry.Cause.{Cause}
use Rattle.agent_journal.specs.declared.ending.Ending.{Ending}
use Rattle.agent_journal.specs.declared.ending.Ending.TheVariants as e
use Rattle.agent_journal.specs.declared.off.OffBy.{OffBy}
use Rattle.agent_journal.specs.declared.off.OffBy.TheVariants as by
use Rattle.agent_journal.specs.declared.setup.Phase.{Phase}
use Rattle.agent_journal.specs.declared.setup.Phase.TheVariants.{Down, Opening, Up, Spilled, Off}
use Rattle.agent_journal.specs.Offs.{by_cause}

-- told by how the agent came to Off
abbrev pub ending_of : OffBy → Ending
ending_of by.Finish = e.Done
ending_of by.Disconnect = e.Done
ending_of by.Terminate = e.Done
ending_of by.GaveUp = e.GaveUp
ending_of (by.Refused code) = e.Refused code
ending_of by.Bytes = e.Bytes
ending_of by.Wrong = e.Bytes
ending_of by.Held = e.Held

-- by a cause that came in this phase and led to Off
abbrev pub ending_by : Phase → Cause → Ending
ending_by phase cause = ending_of (by_cause phase cause)

abbrev pub is_off : Phase → Bool
is_off Down = false
is_off Opening = false
is_off Up = false
is_off Spilled = false
is_off Off = true

-- how the agent came to Off behind one more entry, with the phases before and behind it; None where it isn't there
abbrev pub off_behind : Phase → Phase → Cause → Option OffBy → Option OffBy
off_behind before behind cause off = if is_off before then off else if is_off behind then Some (by_cause before cause) else None

-- and the ending
abbrev pub ending_behind : Phase → Phase → Cause → Option Ending → Option Ending
ending_behind before behind cause ending = if is_off before then ending else if is_off behind then Some (ending_by before cause) else None

-- the exit status
abbrev pub status : Ending → ℕ
status e.Done = 0
status e.GaveUp = 3
status (e.Refused code) = 4
status e.Bytes = 5
status e.Held = 6

-- the word of the last line that is printed, and the code behind it
abbrev pub last_word : Ending → List ℕ
last_word e.Done = codes "ok"
last_word e.GaveUp = codes "fault link"
last_word (e.Refused code) = codes "fault refused "
last_word e.Bytes = codes "fault bytes"
last_word e.Held = codes "fault held"

abbrev pub last_code : Ending → Option ℕ
last_code (e.Refused code) = Some code
last_code _ = None

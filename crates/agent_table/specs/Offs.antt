-- How the agent came to the phase Off, and where it can go.
use Rattle.std.specs.Prelude.{◌≡◌, ◌⊎◌, ℕ, ◌+◌, ◌≤◌, Bool, true, false, List, [], ◌∷◌, Option, Some, None, is_some}
use Rattle.agent_journal.specs.declared.entry.Cause.{Cause}
use Rattle.agent_journal.specs.declared.entry.Cause.TheVariants as c
use Rattle.agent_journal.specs.declared.entry.Entry.{Entry}
use Rattle.agent_journal.specs.declared.off.OffBy.{OffBy}
use Rattle.agent_journal.specs.declared.setup.Phase.{Phase}
use Rattle.agent_journal.specs.declared.setup.Phase.TheVariants.{Down, Opening, Up, Spilled, Off}
use Rattle.agent_journal.specs.declared.setup.Setup.{Setup}
use Rattle.agent_journal.specs.Endings.{off_behind, is_off}
use Rattle.agent_journal.specs.Offs.{is_terminated}
use Rattle.agent_journal.specs.Readings.{breaks_of, takes_of, has_left, pending_of}
use Rattle.agent_table.specs.Histories.{IsLegalPast, phase_of, row}
use Rattle.agent_table.specs.Rows.{Row}
use Rattle.agent_table.specs.Sizes.{Sizes}
use Rattle.agent_table.specs.Terminations.{terminated_of}

-- by the entry behind which the phase was Off for the first time
abbrev pub off_of : Setup → Sizes → List Entry → Option OffBy
off_of s l [] = None
off_of s l (e ∷ past) = off_behind (phase_of s l past) (phase_of s l (e ∷ past)) e.cause (off_of s l past)

-- whether there is a connection that can send
abbrev pub is_connected : Phase → Bool
is_connected Down = false
is_connected Opening = true
is_connected Up = true
is_connected Spilled = false
is_connected Off = false

-- ---- Laws

-- In a legal journal it is told how the agent came to Off exactly where it is there.
abbrev pub OffIsTold : Type 0
OffIsTold = (s : Setup) (l : Sizes) (past : List Entry) → IsLegalPast s l past → is_some (off_of s l past) ≡ is_off (phase_of s l past)

-- In a legal journal a Terminate was taken in Up exactly where the agent came to Off by it.
abbrev pub TerminatedIsTold : Type 0
TerminatedIsTold = (s : Setup) (l : Sizes) (past : List Entry) → IsLegalPast s l past → terminated_of past ≡ is_terminated (off_of s l past)

-- From a phase without a connection only Opened leads to one with it.
abbrev pub OnlyOpenedConnects : Type 0
OnlyOpenedConnects = (s : Setup) (l : Sizes) (past : List Entry) (at : ℕ) (cause : Cause) (found : Row) → row s l past at cause ≡ Some found → is_connected found.phase ≡ true
    → (is_connected (phase_of s l past) ≡ true) ⊎ (cause ≡ c.Opened)

-- In a legal journal connections and openings break at most once more than they may be opened again. So with a reopen of at
-- most 4,294,967,294 their number since the last accepted CONNACK is one of 32 bits.
abbrev pub BreaksAreFew : Type 0
BreaksAreFew = (s : Setup) (l : Sizes) (past : List Entry) → IsLegalPast s l past → breaks_of past ≤ s.reopen + 1

-- Nothing was taken by task t.
pub record TakesNothing (t : ℕ) (past : List Entry) : Type 0 where
  pub takes : takes_of t past ≡ 0
  pub left : has_left t past ≡ false

-- In a legal journal only tasks below `tasks` take anything.
abbrev pub OnlyTasksTake : Type 0
OnlyTasksTake = (s : Setup) (l : Sizes) (past : List Entry) (t : ℕ) → IsLegalPast s l past → s.tasks ≤ t → TakesNothing t past

-- In Off nothing is open, whichever tasks have left.
abbrev pub NoneIsOpenInOff : Type 0
NoneIsOpenInOff = (s : Setup) (l : Sizes) (past : List Entry) → IsLegalPast s l past → phase_of s l past ≡ Off → pending_of past ≡ []

-- Whether the agent was terminated.
use Rattle.std.specs.Prelude.{Bool, true, false, ◌&&◌, ◌||◌, List, [], ◌∷◌}
use Rattle.agent_journal.specs.declared.request.Request.{Request}
use Rattle.agent_journal.specs.declared.request.Request.TheVariants as requests
use Rattle.agent_journal.specs.declared.entry.Cause.{Cause}
use Rattle.agent_journal.specs.declared.entry.Cause.TheVariants as c
use Rattle.agent_journal.specs.declared.entry.Entry.{Entry}
use Rattle.agent_table.specs.Sends.{has_send}

abbrev pub is_terminate : Request → Bool
is_terminate requests.Terminate = true
is_terminate _ = false

abbrev pub takes_terminate : Cause → Bool
takes_terminate (c.Take task seq request) = is_terminate request
takes_terminate _ = false

-- A Terminate was taken in Up, where it sends DISCONNECT and ends the agent. In Off it sends nothing.
abbrev pub terminated_of : List Entry → Bool
terminated_of [] = false
terminated_of (e ∷ past) = (takes_terminate e.cause && has_send e.effects) || terminated_of past

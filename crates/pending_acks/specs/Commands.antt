-- Open commands by their identifiers.
use Rattle.std.specs.Prelude.{ℕ, ◌≢◌, ◌==◌, ◌&&◌, Bool, not, List, filter}
use Rattle.std.specs.List.{AllPairs}
use Rattle.agent_journal.specs.Readings.{Pending}

-- whether a command's packet has the identifier n
abbrev pub has_id : ℕ → Pending → Bool
has_id n command = command.id == n

-- whether it is the one that the task submitted with this number
abbrev pub is_command : ℕ → ℕ → Pending → Bool
is_command task seq command = command.task == task && command.seq == seq

-- the commands of all other identifiers, in their order
abbrev pub others : ℕ → List Pending → List Pending
others n commands = filter (λ command. not (has_id n command)) commands

-- no two commands have one identifier
abbrev pub Differ : List Pending → Type 0
Differ commands = AllPairs (λ one other. one.id ≢ other.id) commands

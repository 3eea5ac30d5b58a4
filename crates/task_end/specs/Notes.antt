-- What a task makes of the notes that it took in, which stand in the order in which they came.
use Rattle.std.specs.Prelude.{◌≡◌, ℕ, ◌+◌, ◌^◌, ◌-◌, Bool, true, false, List, [], ◌∷◌, map, max, min, length}
use Rattle.std.specs.List.{flat_map, list_any}
use Rattle.front_board.specs.Ends.{Marked}
use Rattle.agent_journal.specs.declared.message.Message.{Message}
use Rattle.agent_journal.specs.declared.outcome.Outcome.{Outcome}
use Rattle.task_queues.specs.declared.note.Note.{Note}
use Rattle.task_queues.specs.declared.note.Note.TheVariants as notes
use Rattle.task_queues.specs.Fronts.{front_in, number_in}

-- the completion that a note tells: the command's number, and how it ended
abbrev pub outcome_in : Note → List (ℕ × Outcome)
outcome_in (notes.Done seq outcome at front) = (seq, outcome) ∷ []
outcome_in (notes.Message message at front) = []
outcome_in (notes.Closed at front) = []

-- the message that it tells, and when it came
abbrev pub message_in : Note → List (Message × ℕ)
message_in (notes.Done seq outcome at front) = []
message_in (notes.Message message at front) = (message, at) ∷ []
message_in (notes.Closed at front) = []

-- whether it says that no more messages will come
abbrev pub closes : Note → Bool
closes (notes.Done seq outcome at front) = false
closes (notes.Message message at front) = false
closes (notes.Closed at front) = true

abbrev pub outcomes_in : List Note → List (ℕ × Outcome)
outcomes_in all = flat_map outcome_in all

abbrev pub messages_in : List Note → List (Message × ℕ)
messages_in all = flat_map message_in all

abbrev pub has_closed : List Note → Bool
has_closed all = list_any closes all

-- the numbers of the commands that were completed
abbrev pub completed_in : List Note → List ℕ
completed_in all = map (λ done. done.0) (outcomes_in all)

-- How much of the journal a task knows of that was told these notes: as much as the farthest of their marks says.
abbrev pub seen_by : List Note → ℕ
seen_by [] = 0
seen_by (note ∷ others) = max (number_in (front_in note)) (seen_by others)

-- a count, which stands still at the end of its type
abbrev pub counted : {A : Type 0} → List A → ℕ
counted all = min (length all) (2 ^ 64 - 1)

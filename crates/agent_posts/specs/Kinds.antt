-- The kinds of notes, and the notes that an agent puts whose memory ran out.
use Rattle.std.specs.Prelude.{ℕ, None}
use Rattle.agent_journal.specs.declared.outcome.Outcome.TheVariants as outcomes
use Rattle.task_queues.specs.declared.note.Note.{Note}
use Rattle.task_queues.specs.declared.note.Note.TheVariants as notes
use Rattle.agent_posts.specs.declared.kind.Kind.{Kind}
use Rattle.agent_posts.specs.declared.kind.Kind.TheVariants as kinds

abbrev pub kind_of : Note → Kind
kind_of (notes.Done seq outcome at front) = kinds.Done seq
kind_of (notes.Message message at front) = kinds.Message
kind_of (notes.Closed at front) = kinds.Closed

-- Where memory ran out a command fails so, and a task is closed so. No entry of the journal tells it, so there is no mark.
abbrev pub failed : ℕ → ℕ → Note
failed seq at = notes.Done seq outcomes.NoMemory at None

abbrev pub closed : ℕ → Note
closed at = notes.Closed at None

-- Laws of the definitions.
use Rattle.std.specs.Prelude.{◌≡◌, ℕ, List, [], ◌++◌, map, reverse, Some, None, slice_get}
use Rattle.agent_journal.specs.declared.entry.Entry.{Entry}
use Rattle.agent_journal.specs.Notes.{notes_of}
use Rattle.task_queues.specs.MailboxPasses.{Putting}
use Rattle.agent_posts.specs.Waiting.{waiting}
use Rattle.agent_posts.specs.Mail.{Mail, said, held_for, IsPosted}

-- What was put for a task, then the note that is held for it, then what waits for it, are the journal's notes for it.
abbrev pub PostedAreNotes : Type 0
PostedAreNotes =
    (entries : List Entry) (m : Mail) (t : ℕ) (p : Putting) → IsPosted entries m → slice_get m.putters t ≡ Some p
    → map said (p.put ++ held_for t m.next) ++ map (λ w. w.note) (waiting t entries m.place) ≡ notes_of t (reverse entries)

-- A journal that grows only lets more wait.
abbrev pub GrowthIsPosted : Type 0
GrowthIsPosted = (entries more : List Entry) (m : Mail) → IsPosted entries m → IsPosted (entries ++ more) m

-- Before the first entry nothing was put, and nothing waits.
abbrev pub NothingIsPosted : Type 0
NothingIsPosted = (putters : List Putting) → ((t : ℕ) (p : Putting) → slice_get putters t ≡ Some p → p.put ≡ []) → IsPosted [] (record { putters = putters; place = record { entry = 0; effects = 0 }; next = None })

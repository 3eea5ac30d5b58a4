-- The agent's end, as contracts see it.
use Rattle.std.specs.Prelude.{◌≡◌, List, length, reverse, Bool, false}
use Rattle.agent_journal.specs.declared.entry.Entry.{Entry}
use Rattle.agent_posts.specs.Mail.{Mail, IsPosted}
use Rattle.agent_requests.specs.Intake.{Taking, IsServed}

-- Its journal and what it took from the queue; what it put into the mailboxes; and whether memory ran out in a turn.
pub record Serving : Type 0 where
  pub taking : Taking
  pub mail : Mail
  pub short : Bool

-- the journal, oldest entry first
abbrev pub journal_in : Serving → List Entry
journal_in a = reverse a.taking.recorded.past

-- What holds between two calls. Until memory ran out, what was taken from the queue are the journal's Takes, in their order; and what
-- was put for each task, then the note that is held for it, then what waits for it, is all that the journal tells it.
pub record IsServing (a : Serving) : Type 0 where
  pub served : a.short ≡ false → IsServed a.taking
  pub posted : a.short ≡ false → IsPosted (journal_in a) a.mail
  pub tasks : length a.mail.putters ≡ a.taking.recorded.setup.tasks

-- The ends of an agent and of its tasks, before any call.
use Rattle.std.specs.Prelude.{◌≡◌, ℕ, ◌+◌, List, [], ◌∷◌, map, length, None, false}
use Rattle.atomic_table.specs.Seated.{TableId}
use Rattle.agent_journal.specs.declared.setup.Setup.{Setup}
use Rattle.agent_table.specs.Sizes.{Sizes}
use Rattle.agent_ties.specs.Seen.{fresh}
use Rattle.task_queues.specs.QueuePasses.{fresh_sender, fresh_receiver}
use Rattle.task_queues.specs.MailboxPasses.{Putting, fresh_putter, fresh_getter}
use Rattle.task_end.specs.Sides.{Tasking}
use Rattle.agent_end.specs.Serving.{Serving}

-- The agent's: its journal is empty, and nothing was taken from the queue or put into the mailboxes.
abbrev pub fresh_agent : Setup → Sizes → TableId → List TableId → Serving
fresh_agent setup sizes queue mailboxes = record {
  taking = record { recorded = record { setup = setup; sizes = sizes; past = [] }; stream = fresh; idle = 0; receiver = fresh_receiver queue setup.tasks };
  mail = record { putters = map fresh_putter mailboxes; place = record { entry = 0; effects = 0 }; next = None };
  short = false;
}

-- A task's: it holds nothing, and sent and got nothing.
abbrev pub fresh_task : TableId → TableId → ℕ → TableId → Tasking
fresh_task pool queue task mailbox = record {
  side = record {
    permits = record { pool = pool; held = []; steps = [] };
    sender = fresh_sender queue task;
    getter = fresh_getter mailbox;
    out = [];
    fronts = [];
  };
  kept = [];
}

-- the tasks' ends from task k on, each with a mailbox of its own, and with one pool and one queue in common
abbrev pub fresh_tasks : TableId → TableId → ℕ → List TableId → List Tasking
fresh_tasks pool queue k [] = []
fresh_tasks pool queue k (mailbox ∷ mailboxes) = fresh_task pool queue k mailbox ∷ fresh_tasks pool queue (k + 1) mailboxes

-- The ends of so many tasks, and of each the agent's end of its mailbox.
pub record AreEnds (pool queue : TableId) (count : ℕ) (mailboxes : List TableId) (tasks : List Tasking) (putters : List Putting) : Type 0 where
  pub counted : length mailboxes ≡ count
  pub each : tasks ≡ fresh_tasks pool queue 0 mailboxes
  pub theirs : putters ≡ map fresh_putter mailboxes

-- The ends of an agent of this setup and of its tasks, by their numbers: the agent's end of each mailbox is that of the same one.
pub record AreOpened (setup : Setup) (sizes : Sizes) (agent : Serving) (tasks : List Tasking) : Type 0 where
  pub pool : TableId
  pub queue : TableId
  pub mailboxes : List TableId
  pub counted : length mailboxes ≡ setup.tasks
  pub agents : agent ≡ fresh_agent setup sizes queue mailboxes
  pub each : tasks ≡ fresh_tasks pool queue 0 mailboxes

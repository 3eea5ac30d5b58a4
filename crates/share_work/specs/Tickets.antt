-- A task's end, and the tickets of its commands.
use Rattle.std.specs.Prelude.{◌≡◌, ℕ, List, [], ◌∷◌, ◌++◌, map}
use Rattle.std.specs.List.{AllByRecursion, sum_by}
use Rattle.task_queues.specs.declared.note.Note.{Note}
use Rattle.task_end.specs.declared.ticket.Ticket.{Ticket}
use Rattle.task_end.specs.Notes.{messages_in}
use Rattle.task_end.specs.Sides.{TaskSide, Tasking, IsBehind, IsSameSent}
use Rattle.share_work.specs.declared.tried.Tried.{Tried}
use Rattle.share_work.specs.declared.tried.Tried.TheVariants as tried
use Rattle.share_work.specs.Steps.{IsOver}

-- A task's end, and the tickets that it hasn't collected, the next to be tried first.
pub record Ticketed : Type 0 where
  pub tasking : Tasking
  pub tickets : List Ticket

-- a ticket as an end keeps it: its command's number, and its permit's
abbrev pub key_of : Ticket → ℕ × ℕ
key_of t = (t.seq, t.permit.id)

abbrev pub seqs_of : List Ticket → List ℕ
seqs_of tickets = map (λ t. t.seq) tickets

-- These are the tickets that are out, in any order: whatever weight each has, both lists weigh the same.
pub record AreOut (side : TaskSide) (tickets : List Ticket) : Type 0 where
  pub pools : AllByRecursion (λ t. t.permit.pool ≡ side.permits.pool) tickets
  pub weights : (weight : ℕ × ℕ → ℕ) → sum_by weight (map key_of tickets) ≡ sum_by weight side.out

-- It has the same mailbox and pool.
pub record IsSameTask (old new : TaskSide) : Type 0 where
  pub mailbox : new.getter.mailbox ≡ old.getter.mailbox
  pub joined : new.getter.joined ≡ old.getter.joined
  pub pool : new.permits.pool ≡ old.permits.pool

-- Some notes were taken in, whose messages are kept, and nothing was sent.
pub record TakesIn (old new : Tasking) : Type 0 where
  pub more : List Note
  pub looks : ℕ
  pub got : IsBehind more looks old.side new.side
  pub kept : new.kept ≡ old.kept ++ messages_in more
  pub sent : IsSameSent old.side new.side
  pub pool : new.side.permits.pool ≡ old.side.permits.pool

-- The first ticket was collected, or is the last one now.
abbrev pub IsTried : Tried → Ticketed → Ticketed → Type 0
IsTried (tried.Got number) old new = (t : Ticket) × (old.tickets ≡ t ∷ new.tickets) × (t.seq ≡ number) × IsOver new.tasking.side.getter.got number
IsTried _ old new = (t : Ticket) × (rest : List Ticket) × (old.tickets ≡ t ∷ rest) × (new.tickets ≡ rest ++ t ∷ [])

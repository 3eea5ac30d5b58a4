-- The rule of a mailbox, over what it holds, oldest first, and the views of its passes, by their numbers. It holds
-- between any two steps of any number of passes.
use Rattle.std.specs.Prelude.{◌≡◌, ℕ, true, List, ◌++◌, IfSome}
use Rattle.std.specs.List.{AllByRecursion}
use mathlib.Core.Option.{Option, some, none}
use Rattle.task_queues.specs.declared.note.Note.{Note}
use Rattle.task_queues.specs.declared.end.End.{End}
use Rattle.task_queues.specs.Moments.{IsView}
use Rattle.atomic_table.specs.Seated.{TableId}
use Rattle.task_queues.specs.Fronts.{IsSoundNote}

-- Pass p is the one that puts, and the view v has what was put.
pub record IsPutter (writer : Option ℕ) (put : List Note) (p : ℕ) (v : End) : Type 0 where
  pub one_pass : writer ≡ some p
  pub knows_put : v.put ≡ put

-- Pass p is the one that gets, and the view v has what was got. Where the pass that put was joined, there is none that
-- puts any more, and v has all that was put.
pub record IsGetter (reader : ℕ) (writer : Option ℕ) (put got : List Note) (p : ℕ) (v : End) : Type 0 where
  pub one_pass : p ≡ reader
  pub knows_got : v.got ≡ got
  pub knows_joined : IfSome v.joined (λ all. (writer ≡ none) × (all ≡ put))

-- What was put is what was got, followed by what is held, which is sound. The one that puts and the one that gets know of
-- it what is theirs.
pub record IsHandedOver (board : TableId) (items : List Note) (views : List End) : Type 0 where
  pub reader : ℕ
  pub writer : Option ℕ
  pub put : List Note
  pub got : List Note
  pub in_all : put ≡ got ++ items
  pub sound : AllByRecursion (IsSoundNote board) items
  pub putters : (p : ℕ) (v : End) → IsView views p v → v.puts ≡ true → IsPutter writer put p v
  pub getters : (p : ℕ) (v : End) → IsView views p v → v.gets ≡ true → IsGetter reader writer put got p v

-- A listener over memory: callers that tapes play.
use Rattle.std.specs.Prelude.{◌≡◌, ℕ, List, [], ◌∷◌, ◌++◌, Contains}
use Rattle.agent_link.specs.Plans.{Planned}
use Rattle.broker_tape.specs.declared.tape.Item.{Item}
use Rattle.broker_tape.specs.declared.tape.Item.TheVariants as items
use Rattle.broker_tape.specs.Playing.{Playing, unplayed, opens, room_at}

pub record Listening : Type 0 where
  -- the callers that are still to come, in order
  pub waiting : List Playing
  -- those that came back
  pub served : List Playing
  pub out : ℕ
  pub faults : ℕ
  pub plan : Planned

-- The tape begins with a connection.
abbrev pub Calls : List Item → Type 0
Calls tape = (rest : List Item) × (tape ≡ items.Open ∷ rest)

-- A tape that wasn't begun and that begins with a connection.
pub record IsCaller (caller : Playing) : Type 0 where
  pub rest : List Item
  pub is : caller ≡ unplayed (items.Open ∷ rest)

-- the caller with its connection open
abbrev pub opened : Playing → Playing
opened caller = record caller {
  left = (opens caller.left).1;
  room = room_at (opens caller.left).1;
  taken = caller.taken ++ [] ∷ [];
  given = caller.given ++ [] ∷ [];
}

-- The first of those that were waiting is given, with its connection open.
pub record Gives (old : Listening) (given : Playing) (new : Listening) : Type 0 where
  pub first : Playing
  pub waiting : old.waiting ≡ first ∷ new.waiting
  pub is : given ≡ opened first

-- A call that fails: one that is planned to, and a `next` with no caller left.
abbrev pub IsPlanned : Listening → Type 0
IsPlanned listening = Contains listening.plan.fails listening.plan.call

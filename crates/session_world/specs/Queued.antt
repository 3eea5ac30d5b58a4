-- What a queue of pieces holds.
use Rattle.std.specs.Prelude.{ℕ, ◌<◌, List, ◌++◌, reverse}
use Rattle.std.specs.List.{flat_map}
use Rattle.std.specs.Vec.{vec_len, vec_capacity}
use Rattle.std.specs.VecDeque.{deque_len, deque_capacity}
use Rattle.session_world.specs.declared.queue.Queue.{Queue}

module _ {X : Type 0} where
  abbrev pub items_in : Queue X → List X
  items_in q = reverse q.first.items ++ flat_map (λ piece. piece.items) q.rest.items

  -- for one more piece
  abbrev pub HasRoom : Queue X → Type 0
  HasRoom q = deque_len q.rest < deque_capacity q.rest

  -- for one more item of the first piece
  abbrev pub HasSpare : Queue X → Type 0
  HasSpare q = vec_len q.first < vec_capacity q.first

-- Pieces that have ended are left behind.
use Rattle.std.proofs.Common.{◌≡◌}
use Rattle.std.specs.VecDeque.{deque_len}
use Rattle.session_world.specs.Queued.{items_in}
use Rattle.session_world.proofs.queue.Queue.turn.Given as goal

abbrev pub invariant-pieces : goal.invariant-pieces
invariant-pieces g l = items_in l.self ≡ items_in l.initial.self

abbrev pub decreases-pieces : goal.decreases-pieces
decreases-pieces g l = deque_len l.self.rest

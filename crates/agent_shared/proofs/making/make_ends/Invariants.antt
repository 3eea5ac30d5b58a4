-- The ends so far, and the passes for the rest.
use Rattle.std.proofs.Common.{◌≡◌, length}
use Rattle.std.specs.Arc.{arc_value}
use Rattle.std.specs.Vec.Iter.{into_iter_items, into_iter_len}
use Rattle.agent_shared.proofs.Fresh.{IsMaking}
use Rattle.agent_shared.proofs.making.make_ends.Given as goal

abbrev pub invariant-loop-sender : goal.invariant-loop-sender
invariant-loop-sender g l = record {
  making : IsMaking (arc_value l.common.pool) (arc_value l.common.queue) g.J.Named.board (length l.fn.fronts.items) (into_iter_items l.sender-iterator) (into_iter_items l.fronts) l.tasks.items l.posts.items;
  counted : into_iter_len l.sender-iterator ≡ length (into_iter_items l.sender-iterator);
  pool : l.permits.pool ≡ arc_value l.common.pool;
}

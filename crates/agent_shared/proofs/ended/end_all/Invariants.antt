-- What is left of the ends so far, and room for the rest.
use Rattle.std.proofs.Common.{◌≡◌, ◌+◌, ◌≤◌, length}
use Rattle.std.specs.Vec.{vec_capacity}
use Rattle.std.specs.Vec.Iter.{into_iter_items, into_iter_len}
use Rattle.agent_shared.specs.Gathered.{joined_with}
use Rattle.agent_shared.proofs.Ends.{IsEnding}
use Rattle.agent_shared.proofs.ended.end_all.Given as goal

abbrev pub invariant-loop-end : goal.invariant-loop-end
invariant-loop-end g l = record {
  ending : IsEnding l.queue l.fn.posts.items l.fn.ends.items (joined_with l.fn.ends.items l.initial.receiver.joined) (into_iter_items l.posts) (into_iter_items l.end-iterator) l.tasks.items l.receiver.joined;
  counted : into_iter_len l.end-iterator ≡ length (into_iter_items l.end-iterator);
  receiver : l.receiver ≡ record l.initial.receiver { joined = l.receiver.joined };
  room : length l.tasks.items + length (into_iter_items l.end-iterator) ≤ vec_capacity l.tasks;
}

use Rattle.std.proofs.Common.{◌≡◌, ◌+◌, ◌≤◌}
use Rattle.std.specs.Vec.{vec_len, vec_capacity}
use Rattle.std.specs.Vec.Iter.{into_iter_items, into_iter_len}
use Rattle.broker_core.specs.Subscribed as spec
use Rattle.broker_core.proofs.subscribed.enter_all.Given as goal

abbrev pub invariant-loop-ask : goal.invariant-loop-ask
invariant-loop-ask l = record {
  entered : spec.all_entered (into_iter_items l.ask-iterator) l.held.items ≡ spec.all_entered l.fn.asks.items l.initial.held.items;
  room : vec_len l.held + into_iter_len l.ask-iterator ≤ vec_capacity l.held;
}

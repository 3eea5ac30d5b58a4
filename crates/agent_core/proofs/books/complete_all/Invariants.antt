use Rattle.std.proofs.Common.{◌≡◌, take}
use Rattle.agent_core.specs.Completions.{books, all_ended}
use Rattle.agent_core.specs.Tied.{IsTied}
use Rattle.agent_core.proofs.books.complete_all.Given as goal

abbrev pub invariant-loop-effect : goal.invariant-loop-effect
invariant-loop-effect g l = record {
  tied : IsTied l.pending l.qos;
  held : l.qos.held ≡ l.fn.qos.held;
  books : books l.pending l.qos.released l.subscriptions ≡ all_ended (books l.fn.pending l.fn.qos.released l.fn.subscriptions) (take l.effect-index l.effects);
}

-- The events so far, and behind them those that are still to be drawn, are the whole list.
use Rattle.std.proofs.Common.{◌≡◌, ◌-◌, ◌≤◌, ◌++◌}
use Rattle.session_world.specs.Generating.{all_drawn, generated}
use Rattle.session_world.proofs.draws.generate.Given as goal

abbrev pub invariant-loop : goal.invariant-loop
invariant-loop l = record {
  whole : l.events.items ++ all_drawn (l.n - l.counter) l.draws ≡ generated l.seed l.n;
  few : l.draws.published ≤ l.counter;
}

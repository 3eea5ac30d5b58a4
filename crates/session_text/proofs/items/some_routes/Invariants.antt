use Rattle.std.proofs.Common.{◌≡◌, ◌-◌}
use Rattle.session_text.specs.Reading.{items_at, route_at}
use Rattle.session_text.proofs.Counted.{with_front}
use Rattle.session_text.proofs.items.some_routes.Given as goal

abbrev pub invariant-loop : goal.invariant-loop
invariant-loop l = with_front l.items (items_at route_at (l.count - l.counter) l.rest) ≡ items_at route_at l.count l.bytes

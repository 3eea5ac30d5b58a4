use Rattle.std.proofs.Common.{◌≡◌, ◌-◌}
use Rattle.session_text.specs.Reading.{items_at, command_at}
use Rattle.session_text.proofs.Counted.{with_front}
use Rattle.session_text.proofs.items.some_commands.Given as goal

abbrev pub invariant-loop : goal.invariant-loop
invariant-loop l = with_front l.items (items_at command_at (l.count - l.counter) l.rest) ≡ items_at command_at l.count l.bytes

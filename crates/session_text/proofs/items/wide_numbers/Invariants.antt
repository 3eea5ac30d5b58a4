use Rattle.std.proofs.Common.{◌≡◌, ◌-◌}
use Rattle.std.specs.Int.{w64}
use Rattle.session_text.specs.Reading.{wide_at, items_at}
use Rattle.session_text.proofs.Counted.{with_front}
use Rattle.session_text.proofs.items.wide_numbers.Given as goal

abbrev pub invariant-loop : goal.invariant-loop
invariant-loop l = with_front l.items (items_at (wide_at w64) (l.count - l.counter) l.rest) ≡ items_at (wide_at w64) l.count l.bytes

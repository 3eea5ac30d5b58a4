use Rattle.std.proofs.Common.{◌≡◌, []}
use Rattle.std.specs.Prelude.{replicate}
use Rattle.share_work.proofs.parting.none_of.Given as goal

abbrev pub invariant-loop : goal.invariant-loop
invariant-loop l = l.parts.items ≡ replicate l.counter []

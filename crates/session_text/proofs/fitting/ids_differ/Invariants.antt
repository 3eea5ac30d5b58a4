use Rattle.std.proofs.Common.{◌≡◌, length}
use Rattle.session_text.specs.Fitting.{ids_differ}
use Rattle.session_text.proofs.fitting.ids_differ.Given as goal

abbrev pub invariant-loop-rest : goal.invariant-loop-rest
invariant-loop-rest l = ids_differ l.rest ≡ ids_differ l.commands

abbrev pub decreases-loop-rest : goal.decreases-loop-rest
decreases-loop-rest l = length l.rest

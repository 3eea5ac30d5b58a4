use Rattle.std.proofs.Common.{refl}
use Rattle.agent_line.proofs.Growing.{enters_one}
use Rattle.agent_line.proofs.Turns.{entry_tied}
use Rattle.agent_line.proofs.Since.{of_same}
use Rattle.agent_line.proofs.line.Line.take.Goals as goal

pub returns-clause-tied : goal.returns-clause-tied
returns-clause-tied g c =
    λ first since.
    entry_tied (record { opened = refl; fault = refl; end = refl; idle = refl }) (refl, refl) c.in_ok-enter.ensures.idle c.in_ok-enter.ensures.stream c.in_ok-enter.ensures.entered (of_same c.settle.ensures.same) since

pub returns-clause-taken : goal.returns-clause-taken
returns-clause-taken g c = enters_one _ _ _ _ _ _ c.in_ok-enter.ensures.entered

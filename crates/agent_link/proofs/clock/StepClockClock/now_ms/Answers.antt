use Rattle.std.proofs.Common.{subst}
use Rattle.agent_link.specs.Clocks.{AddsReading, Stepping, told_readings}
use Rattle.agent_link.proofs.Readings.{told_on}
use Rattle.agent_link.proofs.clock.StepClockClock.now_ms.Goals as goal

pub returns-clause-told : goal.returns-clause-told
returns-clause-told c =
    subst (λ (k : Stepping). AddsReading (told_readings k) (told_readings (record { step = c.self.inside.step; calls = c.saturating_add-self-inside-2.result })) c.self.inside.next) c.self.view_is
    (rw c.saturating_add-self-inside-2.ensures (told_on c.self.inside.step c.self.inside.calls c.self.inside.next c.self.invariant))

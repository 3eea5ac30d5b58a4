-- What the code knows when it passes lines over.
use Rattle.std.specs.Prelude.{◌≡◌, ℕ, ◌+◌, ◌||◌, nat_le, List, drop, Option, Some, None, if◌then◌else◌}
use Rattle.agent_script.specs.declared.script.Line.{Line}
use Rattle.agent_script.specs.declared.script.Step.{Step}
use Rattle.agent_script.specs.declared.script.Step.TheVariants as steps
use Rattle.replay_rounds.specs.World.{World}
use Rattle.replay_rounds.specs.Lines.{Told, passes}
use Rattle.replay_agent.specs.declared.run.take.Told.{Told as Known}

abbrev pub told_by : Known → Told
told_by known = record { settled = known.settled; messages = known.messages; closed = known.closed }

-- Where a line is passed over: for how many messages the lines up to it ask together.
abbrev pub asked_behind : Told → ℕ → Step → Option ℕ
asked_behind told asked (steps.Do request) = None
asked_behind told asked (steps.Shadow op name payload) = Some asked
asked_behind told asked (steps.Jobs op job payload) = Some asked
asked_behind told asked steps.Wait = if told.settled then Some asked else None
asked_behind told asked (steps.Listen count) = if told.closed || nat_le (asked + count) told.messages then Some (asked + count) else None

-- the lines behind a line that is passed over, or that line
abbrev pub passed_on : World → ℕ → (World → World) → List Line → Option ℕ → World
passed_on w asked rest lines None = record w { lines = lines; listened = asked }
passed_on w asked rest lines (Some more) = rest (record w { listened = more })

-- Lines from one place on are passed over up to another, where so many messages were asked for.
abbrev pub Stops : Told → List Line → ℕ → ℕ → ℕ → ℕ → Type 0
Stops told lines gone listened next asked = (w : World) → w.listened ≡ listened → passes told (drop gone lines) w ≡ record w { lines = drop next lines; listened = asked }

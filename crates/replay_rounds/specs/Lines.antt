-- The script's lines in a replay: which are passed over, and what is taken.
use Rattle.std.specs.Prelude.{ℕ, ◌+◌, Bool, true, false, ◌||◌, ◌==◌, List, [], ◌∷◌, length, if◌then◌else◌, nat_le}
use Rattle.std.specs.List.{list_any}
use Rattle.agent_journal.specs.declared.entry.Cause.TheVariants as c
use Rattle.agent_journal.specs.declared.entry.Entry.{Entry}
use Rattle.agent_journal.specs.declared.effect.Effect.{Effect}
use Rattle.agent_journal.specs.declared.effect.Effect.TheVariants as f
use Rattle.agent_journal.specs.declared.request.Request.{Request}
use Rattle.agent_journal.specs.declared.request.Request.TheVariants as requests
use Rattle.agent_script.specs.declared.script.Line.{Line}
use Rattle.agent_script.specs.declared.script.Step.{Step}
use Rattle.agent_script.specs.declared.script.Step.TheVariants as steps
use Rattle.agent_journal.specs.Projections.{messages_of}
use Rattle.agent_journal.specs.Readings.{takes_of, pending_of}
use Rattle.replay_rounds.specs.World.{World}
use Rattle.replay_rounds.specs.Entering.{entered}
use Rattle.replay_rounds.specs.Receiving.{receives}

-- whether the task was told that the agent has ended
abbrev pub is_closed : Effect → Bool
is_closed (f.Closed task) = task == 0
is_closed _ = false

abbrev pub closed_of : List Entry → Bool
closed_of [] = false
closed_of (e ∷ past) = list_any is_closed e.effects || closed_of past

-- What decides which lines are passed over: whether nothing is open, how many messages came, and whether there will be no
-- more.
pub record Told : Type 0 where
  pub settled : Bool
  pub messages : ℕ
  pub closed : Bool

-- A line is passed over, and then those behind it, or it is the next.
abbrev pub passes_step : Told → World → (World → World) → List Line → Step → World
passes_step told w others lines (steps.Do request) = record w { lines = lines }
passes_step told w others lines (steps.Shadow op name payload) = others w
passes_step told w others lines (steps.Jobs op job payload) = others w
passes_step told w others lines steps.Wait = if told.settled then others w else record w { lines = lines }
passes_step told w others lines (steps.Listen count) =
    if told.closed || nat_le (w.listened + count) told.messages then others (record w { listened = w.listened + count }) else record w { lines = lines }

abbrev pub passes : Told → List Line → World → World
passes told [] w = record w { lines = [] }
passes told (line ∷ lines) w = passes_step told w (passes told lines) (line ∷ lines) line.step

-- the task's next request
abbrev pub submits : World → ℕ → Request → World
submits w at request = entered w at (c.Take 0 (takes_of 0 w.past) request)

abbrev pub is_none_open : World → Bool
is_none_open w = length (pending_of w.past) == 0

-- In Up: a request is taken, and at any other line it receives. Where no line is left, it receives while something is open,
-- and takes Leave where nothing is.
abbrev pub takes_step : World → ℕ → List Line → Step → World
takes_step w at lines (steps.Do request) = submits (record w { lines = lines }) at request
takes_step w at lines _ = receives w at

abbrev pub takes_by : World → ℕ → List Line → World
takes_by w at [] = if is_none_open w then submits w at requests.Leave else receives w at
takes_by w at (line ∷ lines) = takes_step w at lines line.step

-- A `wait` with nothing open is passed over, and a `listen` for which enough messages came, or no more will.
abbrev pub told_up : World → Told
told_up w = record { settled = is_none_open w; messages = messages_of 0 w.past; closed = closed_of w.past }

abbrev pub takes_at : World → ℕ → World
takes_at w at = takes_by w at w.lines

unfoldable pub takes : World → ℕ → World
takes w at = takes_at (passes (told_up w) w.lines w) at

-- In Off every `wait` and `listen` is passed over, and behind the last line Leave is taken.
abbrev pub told_off : Told
told_off = record { settled = true; messages = 0; closed = true }

abbrev pub ends_step : World → ℕ → List Line → Step → World
ends_step w at lines (steps.Do request) = submits (record w { lines = lines }) at request
ends_step w at lines _ = record w { lines = lines }

abbrev pub ends_by : World → ℕ → List Line → World
ends_by w at [] = submits w at requests.Leave
ends_by w at (line ∷ lines) = ends_step w at lines line.step

abbrev pub ends_at : World → ℕ → World
ends_at w at = ends_by w at w.lines

unfoldable pub ends : World → ℕ → World
ends w at = ends_at (passes told_off w.lines w) at

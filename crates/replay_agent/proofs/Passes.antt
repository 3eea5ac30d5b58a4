-- Lines that are passed over, one by one.
use Rattle.std.proofs.Common.{◌≡◌, ℕ, ◌+◌, ◌<◌, ◌≤◌, Bool, true, false, cond, List, length, drop, get_or, Option, Some, None, refl, sym, ap, ◌∙◌}
use Rattle.std.specs.Prelude.{◌||◌, nat_le}
use Rattle.std.proofs.lemmas.List.{drop_more, drop_all}
use Rattle.agent_script.specs.declared.script.Line.{Line}
use Rattle.agent_script.specs.declared.script.Step.{Step}
use Rattle.agent_script.specs.declared.script.Step.TheVariants as steps
use Rattle.replay_rounds.specs.World.{World}
use Rattle.replay_rounds.specs.Lines.{Told, passes, passes_step}
use Rattle.replay_agent.specs.Takes.{asked_behind, passed_on, Stops}

-- From this line on, with so many messages asked for, the lines that are passed over leave what they leave in all.
abbrev pub IsPassing : Told → List Line → ℕ → ℕ → ℕ → ℕ → Type 0
IsPassing told lines gone listened next asked = (w : World) → w.listened ≡ listened → passes told (drop next lines) (record w { listened = asked }) ≡ passes told (drop gone lines) w

-- the step of the line at a place
at_line : (told : Told) (lines : List Line) (next asked : ℕ) (d : Line) (w : World) → next < length lines
    → passes told (drop next lines) (record w { listened = asked })
    ≡ passes_step told (record w { listened = asked }) (passes told (drop (next + 1) lines)) (drop next lines) (get_or lines next d).step
at_line told lines next asked d w within =
    let here = drop_more lines next d within in
    ap (λ ls. passes told ls (record w { listened = asked })) here
    ∙ ap (λ ls. passes_step told (record w { listened = asked }) (passes told (drop (next + 1) lines)) ls (get_or lines next d).step) (sym here)

-- a line by what it does
by_line : (told : Told) (asked : ℕ) (step : Step) (w : World) (rest : World → World) (lines : List Line) → passes_step told (record w { listened = asked }) rest lines step ≡ passed_on w asked rest lines (asked_behind told asked step)
by_line told asked (steps.Do request) w rest lines = refl
by_line told asked (steps.Shadow op name payload) w rest lines = refl
by_line told asked (steps.Jobs op job payload) w rest lines = refl
by_line told asked steps.Wait w rest lines = by told.settled
  where
    by : (b : Bool) → cond b (rest (record w { listened = asked })) (record w { lines = lines; listened = asked }) ≡ passed_on w asked rest lines (cond b (Some asked) None)
    by true = refl
    by false = refl
by_line told asked (steps.Listen count) w rest lines = by (told.closed || nat_le (asked + count) told.messages)
  where
    by : (b : Bool) → cond b (rest (record w { listened = asked + count })) (record w { lines = lines; listened = asked }) ≡ passed_on w asked rest lines (cond b (Some (asked + count)) None)
    by true = refl
    by false = refl

at_place : (told : Told) (lines : List Line) (next asked : ℕ) (line : Line) (after : Option ℕ) (w : World) → next < length lines → line ≡ get_or lines next line → asked_behind told asked line.step ≡ after
    → passes told (drop next lines) (record w { listened = asked }) ≡ passed_on w asked (passes told (drop (next + 1) lines)) (drop next lines) after
at_place told lines next asked line after w within here is =
    at_line told lines next asked line w within ∙ by_line told asked (get_or lines next line).step w (passes told (drop (next + 1) lines)) (drop next lines)
    ∙ ap (passed_on w asked (passes told (drop (next + 1) lines)) (drop next lines)) (ap (λ l. asked_behind told asked l.step) (sym here) ∙ is)

-- a line is passed over
pub passes_more : (told : Told) (lines : List Line) (gone listened next asked more : ℕ) (line : Line) → IsPassing told lines gone listened next asked → next < length lines → line ≡ get_or lines next line
    → asked_behind told asked line.step ≡ Some more → IsPassing told lines gone listened (next + 1) more
passes_more told lines gone listened next asked more line passing within here is w e = sym (at_place told lines next asked line (Some more) w within here is) ∙ passing w e

-- a line stops
pub stops_at : (told : Told) (lines : List Line) (gone listened next asked : ℕ) (line : Line) → IsPassing told lines gone listened next asked → next < length lines → line ≡ get_or lines next line
    → asked_behind told asked line.step ≡ None → Stops told lines gone listened next asked
stops_at told lines gone listened next asked line passing within here is w e = sym (passing w e) ∙ at_place told lines next asked line None w within here is

-- behind the last line
pub stops_end : (told : Told) (lines : List Line) (gone listened next asked : ℕ) → IsPassing told lines gone listened next asked → length lines ≤ next → Stops told lines gone listened next asked
stops_end told lines gone listened next asked passing end w e =
    sym (passing w e) ∙ ap (λ ls. passes told ls (record w { listened = asked })) (drop_all next lines end) ∙ ap (λ ls. record w { lines = ls; listened = asked }) (sym (drop_all next lines end))

pub passes_none : (told : Told) (lines : List Line) (gone listened : ℕ) (w : World) → w.listened ≡ listened → passes told (drop gone lines) (record w { listened = listened }) ≡ passes told (drop gone lines) w
passes_none told lines gone listened w e = ap (λ n. passes told (drop gone lines) (record w { listened = n })) (sym e)

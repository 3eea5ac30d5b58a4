-- Lines that are passed over and requests that are taken leave fewer rounds.
use Rattle.std.proofs.Common.{◌≡◌, ◌⊎◌, ℕ, ◌+◌, ◌*◌, ◌<◌, ◌≤◌, Bool, true, false, cond, List, [], ◌∷◌, length, Option, Some, None, is_some, refl, sym, ap, ◌∙◌, subst, arith, inl, inr}
use Rattle.std.specs.Prelude.{◌&&◌, ◌||◌, not, nat_le, nat_eq, nat_lt}
use Rattle.std.proofs.lemmas.Bool.{lt-ltb, eq-eqb, eqb-true}
use Rattle.agent_journal.specs.declared.entry.Cause.{Cause}
use Rattle.agent_journal.specs.declared.entry.Cause.TheVariants as c
use Rattle.agent_journal.specs.declared.entry.Why.TheVariants.{InFull}
use Rattle.agent_journal.specs.declared.request.Request.{Request}
use Rattle.agent_journal.specs.declared.request.Request.TheVariants as requests
use Rattle.agent_script.specs.declared.script.Line.{Line}
use Rattle.agent_script.specs.declared.script.Step.{Step}
use Rattle.agent_script.specs.declared.script.Step.TheVariants as steps
use Rattle.agent_journal.specs.declared.setup.Phase.{Phase}
use Rattle.agent_journal.specs.declared.setup.Phase.TheVariants.{Down, Opening, Up, Spilled, Off}
use Rattle.agent_journal.specs.Readings.{Pending, takes_of, has_left, pending_of}
use Rattle.agent_journal.specs.Requests.{is_valid}
use Rattle.agent_table.specs.Breaks.{all_left, is_none}
use Rattle.agent_table.specs.Histories.{readings}
use Rattle.agent_table.specs.Rows.{Row}
use Rattle.agent_table.specs.Sends.{sends_ping}
use Rattle.agent_table.specs.Sessions.{ping_of, or_at}
use Rattle.agent_table.specs.Takes.{may_take}
use Rattle.replay_rounds.specs.World.{World, phase_in, row_in, shut_in}
use Rattle.agent_ties.specs.Seen.{entry}
use Rattle.replay_rounds.specs.Entering.{entered_by}
use Rattle.replay_rounds.specs.Receiving.{receives}
use Rattle.replay_rounds.specs.Lines.{Told, passes, passes_step, submits, is_none_open, takes_step, takes_by, takes, told_up, told_off, ends_step, ends_by, ends}
use Rattle.replay_rounds.specs.Bound.{ping_weight, leave_weight, weights, bound}
use Rattle.replay_rounds.proofs.Dues.{NoneDue, leads_off}
use Rattle.replay_rounds.proofs.Kept.{Any, entered_on}
use Rattle.replay_rounds.proofs.Moments.{IsTimely, Lands, entered_lands, timely_kept}
use Rattle.replay_rounds.proofs.Receives.{receives_fewer}
use Rattle.agent_ties.proofs.Rows.{TakenIn, take_leads, in_time, finish_there, leave_up, leave_off, fault_phase}
use Rattle.replay_rounds.proofs.Tamed.{Tamed, tamed, itself, Fewer, by_rest, rounds_in, down_weighs, off_weighs, up_weighs}

-- ---- Lines that are passed over

-- what passing lines over leaves
pub record Passed (w : World) (most : ℕ) (u : World) : Type 0 where
  pub setup : u.setup ≡ w.setup
  pub sizes : u.sizes ≡ w.sizes
  pub clock : u.clock ≡ w.clock
  pub past : u.past ≡ w.past
  pub items : u.items ≡ w.items
  pub lines : length u.lines ≤ most

chosen : (b : Bool) (w : World) (most : ℕ) (u v : World) → Passed w most u → Passed w most v → Passed w most (cond b u v)
chosen true w most u v h g = h
chosen false w most u v h g = g

stays : (w u : World) (lines : List Line) → Passed w (length lines) u → Passed w (length lines) (record u { lines = lines })
stays w u lines h = record { setup = h.setup; sizes = h.sizes; clock = h.clock; past = h.past; items = h.items; lines = omega arith }

more_lines : (w u : World) (n m : ℕ) → n ≤ m → Passed w n u → Passed w m u
more_lines w u n m less h = record { setup = h.setup; sizes = h.sizes; clock = h.clock; past = h.past; items = h.items; lines = omega (arith, less, h.lines) }

-- a world with the same of all but the lines
abbrev Same : World → World → Type 0
Same w u = (u.setup ≡ w.setup) × (u.sizes ≡ w.sizes) × (u.clock ≡ w.clock) × (u.past ≡ w.past) × (u.items ≡ w.items)

at_line : (w u : World) (lines : List Line) → Same w u → Passed w (length lines) (record u { lines = lines })
at_line w u lines h = record { setup = h.0; sizes = h.1; clock = h.2; past = h.3; items = h.4; lines = omega arith }

step_passed : (told : Told) (w u : World) (rest : World → World) (line : Line) (lines : List Line) (step : Step) → Same w u → ((v : World) → Same w v → Passed w (length lines) (rest v))
    → Passed w (length (line ∷ lines)) (passes_step told u rest (line ∷ lines) step)
step_passed told w u rest line lines (steps.Do request) h goes = at_line w u (line ∷ lines) h
step_passed told w u rest line lines (steps.Shadow op name payload) h goes = more_lines w (rest u) (length lines) (length (line ∷ lines)) (omega arith) (goes u h)
step_passed told w u rest line lines (steps.Jobs op job payload) h goes = more_lines w (rest u) (length lines) (length (line ∷ lines)) (omega arith) (goes u h)
step_passed told w u rest line lines steps.Wait h goes =
    chosen told.settled w (length (line ∷ lines)) (rest u) (record u { lines = line ∷ lines }) (more_lines w (rest u) (length lines) (length (line ∷ lines)) (omega arith) (goes u h))
    (at_line w u (line ∷ lines) h)
step_passed told w u rest line lines (steps.Listen count) h goes =
    let v = record u { listened = u.listened + count } in
    chosen (told.closed || nat_le (u.listened + count) told.messages) w (length (line ∷ lines)) (rest v) (record u { lines = line ∷ lines })
    (more_lines w (rest v) (length lines) (length (line ∷ lines)) (omega arith) (goes v h)) (at_line w u (line ∷ lines) h)

passed_from : (told : Told) (w : World) (lines : List Line) (u : World) → Same w u → Passed w (length lines) (passes told lines u)
passed_from told w [] u h = at_line w u [] h
passed_from told w (line ∷ lines) u h = step_passed told w u (passes told lines) line lines line.step h (passed_from told w lines)

pub passed : (told : Told) (w : World) → Passed w (length w.lines) (passes told w.lines w)
passed told w = passed_from told w w.lines w (refl, refl, refl, refl, refl)

rounds_same : (w u : World) (most : ℕ) → Passed w most u → rounds_in u ≡ rounds_in w
rounds_same w u most h =
    ap (λ setup. rounds_in (record u { setup = setup })) h.setup ∙ ap (λ sizes. rounds_in (record u { setup = w.setup; sizes = sizes })) h.sizes
    ∙ ap (λ past. rounds_in (record u { setup = w.setup; sizes = w.sizes; past = past })) h.past

pub phase_same : (w u : World) (most : ℕ) → Passed w most u → phase_in u ≡ phase_in w
phase_same w u most h =
    ap (λ setup. phase_in (record u { setup = setup })) h.setup ∙ ap (λ sizes. phase_in (record u { setup = w.setup; sizes = sizes })) h.sizes
    ∙ ap (λ past. phase_in (record u { setup = w.setup; sizes = w.sizes; past = past })) h.past

-- what leaves fewer rounds behind lines that were passed over leaves fewer in all
pub behind_passed : (w u v : World) → Passed w (length w.lines) u → weights v.items ≤ weights u.items → v.setup ≡ u.setup → v.clock ≡ u.clock
    → rounds_in v + length v.lines + leave_weight (has_left 0 v.past) < rounds_in u + length u.lines + leave_weight (has_left 0 u.past) → Fewer w v
behind_passed w u v h less s c lower =
    let same = rounds_same w u (length w.lines) h in
    let left : leave_weight (has_left 0 u.past) ≡ leave_weight (has_left 0 w.past) = ap (λ past. leave_weight (has_left 0 past)) h.past in
    let lines = h.lines in
    let weight : weights u.items ≡ weights w.items = ap weights h.items in
    by_rest w v (s ∙ h.setup) (c ∙ h.clock) (omega (arith, less, weight)) (omega (arith, lower, same, left, lines))

pub bound_passed : (w u : World) → Passed w (length w.lines) u → bound u ≤ bound w
bound_passed w u h =
    let product : (6 + u.setup.reopen) * weights u.items ≡ (6 + w.setup.reopen) * weights w.items =
    ap (λ setup. (6 + setup.reopen) * weights u.items) h.setup ∙ ap (λ items. (6 + w.setup.reopen) * weights items) h.items
    in
    let same = rounds_same w u (length w.lines) h in
    let left : leave_weight (has_left 0 u.past) ≡ leave_weight (has_left 0 w.past) = ap (λ past. leave_weight (has_left 0 past)) h.past in
    let lines = h.lines in
    omega (arith, product, same, left, lines)

then_fewer : (w u v : World) → Passed w (length w.lines) u → Fewer u v → Fewer w v
then_fewer w u v h g = let less = bound_passed w u h in let lower = g.less in record { setup = g.setup ∙ h.setup; clock = g.clock ∙ h.clock; less = omega (arith, less, lower) }

-- ---- A request

-- a Take that sends no PINGREQ answers none either
ping_less : (sends : Bool) (ping : Option ℕ) (now : ℕ) → ping_weight (cond sends (Some (or_at ping now)) ping) ≤ ping_weight ping
ping_less true ping now = by ping
  where
    by : (ping : Option ℕ) → 0 ≤ ping_weight ping
    by ping = omega arith
ping_less false ping now = omega arith

module _ (now : ℕ) (w : World) (request : Request) where
  follows : Tamed w (submits w now request)
  follows = entered_on now Any (Tamed w) (tamed now w) w (c.Take 0 (takes_of 0 w.past) request) tt (itself w)

  reopen_same : (submits w now request).setup.reopen ≡ w.setup.reopen
  reopen_same = ap (λ setup. setup.reopen) follows.setup

  light_up : (found : Row) → (found.phase ≡ Up) ⊎ (found.phase ≡ Off) → phase_in w ≡ Up → Lands (entry now (c.Take 0 (takes_of 0 w.past) request) found ∷ w.past) found.phase (submits w now request)
      → rounds_in (submits w now request) ≤ rounds_in w
  light_up found (inl up) here (inl lands) =
      let v = submits w now request in
      let ping : ping_weight (ping_of v.past) ≤ ping_weight (ping_of w.past) =
      subst (λ past. ping_weight (ping_of past) ≤ ping_weight (ping_of w.past)) (sym lands.0) (ping_less (sends_ping found.effects) (ping_of w.past) now)
      in
      let light = up_weighs v (lands.1 ∙ up) in let heavy = up_weighs w here in let same = reopen_same in omega (arith, ping, light, heavy, same)
  light_up found (inl up) here (inr fault) =
      let v = submits w now request in let light = down_weighs v (fault ∙ ap fault_phase up) in let heavy = up_weighs w here in let same = reopen_same in omega (arith, light, heavy, same)
  light_up found (inr off) here lands =
      let v = submits w now request in
      let light = off_weighs v (leads_off (entry now (c.Take 0 (takes_of 0 w.past) request) found ∷ w.past) found.phase v off lands) in
      omega (arith, light)

  -- by the phase in which it is taken
  light_in : (found : Row) (phase : Phase) → phase_in w ≡ phase → TakenIn found phase
      → Lands (entry now (c.Take 0 (takes_of 0 w.past) request) found ∷ w.past) found.phase (submits w now request) → rounds_in (submits w now request) ≤ rounds_in w
  light_in found Down e taken lands = absurd taken
  light_in found Opening e taken lands = absurd taken
  light_in found Up e taken lands = light_up found taken e lands
  light_in found Spilled e taken lands = absurd taken
  light_in found Off e taken lands =
      let v = submits w now request in
      let light = off_weighs v (leads_off (entry now (c.Take 0 (takes_of 0 w.past) request) found ∷ w.past) found.phase v taken lands) in
      omega (arith, light)

  light_by : (r : Option Row) → row_in w now (c.Take 0 (takes_of 0 w.past) request) ≡ r → rounds_in (submits w now request) ≤ rounds_in w
  light_by None e = subst (λ r. rounds_in (entered_by w now (c.Take 0 (takes_of 0 w.past) request) r) ≤ rounds_in w) (sym e) (omega arith)
  light_by (Some found) e =
      light_in found (phase_in w) refl
      (take_leads w.setup w.sizes (readings w.setup w.sizes w.past) now found 0 (takes_of 0 w.past) request
      (in_time w.setup w.sizes (readings w.setup w.sizes w.past) now (c.Take 0 (takes_of 0 w.past) request) found e)) (entered_lands now w (c.Take 0 (takes_of 0 w.past) request) found e)

  -- a Take never makes more of the phase
  pub light : rounds_in (submits w now request) ≤ rounds_in w
  light = light_by (row_in w now (c.Take 0 (takes_of 0 w.past) request)) refl

-- the line of a request is gone past
pub line_taken : (now : ℕ) (w : World) (line : Line) (lines : List Line) (request : Request) → w.lines ≡ line ∷ lines → Fewer w (submits (record w { lines = lines }) now request)
line_taken now w line lines request e =
    let u = record w { lines = lines } in
    let v = submits u now request in
    let goes = follows now u request in
    let less = light now u request in
    let fewer : length v.lines ≡ length lines = ap length goes.lines in
    let more : length w.lines ≡ length (line ∷ lines) = ap length e in
    by_rest w v goes.setup goes.clock goes.weight (omega (arith, less, fewer, more, goes.leave))

-- ---- Leave

may_leave : (tasks seq : ℕ) (left valid : Bool) → tasks ≡ 1 → left ≡ false → valid ≡ true → nat_lt 0 tasks && not left && nat_eq seq seq && valid ≡ true
may_leave tasks seq left valid one e is = rw (lt-ltb 0 tasks (omega (arith, one)), e, is, same seq) refl
  where
    same : (n : ℕ) → nat_eq n n ≡ true
    same n = eq-eqb n n refl

leave_is_valid : is_valid requests.Leave ≡ true
unfolding is_valid
leave_is_valid = refl

pub may_leave_now : (now : ℕ) (w : World) → IsTimely now w → has_left 0 w.past ≡ false → may_take w.setup (readings w.setup w.sizes w.past) 0 (takes_of 0 w.past) requests.Leave ≡ true
unfolding may_take
may_leave_now now w h e = may_leave w.setup.tasks (takes_of 0 w.past) (has_left 0 w.past) (is_valid requests.Leave) h.one e leave_is_valid

settled_leave : (w : World) (phase : Phase) → has_left 0 w.past ≡ true → leave_weight (has_left 0 (shut_in w phase).past) ≡ 0
settled_leave w Down e = ap leave_weight e
settled_leave w Opening e = ap leave_weight e
settled_leave w Up e = ap leave_weight e
settled_leave w Spilled e = ap leave_weight e
settled_leave w Off e = ap leave_weight e

left_behind : (now : ℕ) (w : World) (phase : Phase) → row_in w now (c.Take 0 (takes_of 0 w.past) requests.Leave) ≡ Some (record { effects = []; phase = phase })
    → leave_weight (has_left 0 (submits w now requests.Leave).past) ≡ 0
left_behind now w phase e =
    let found : Row = record { effects = []; phase = phase } in
    let behind = record w { past = entry now (c.Take 0 (takes_of 0 w.past) requests.Leave) found ∷ w.past } in
    ap (λ r. leave_weight (has_left 0 (entered_by w now (c.Take 0 (takes_of 0 w.past) requests.Leave) r).past)) e ∙ settled_leave behind (phase_in behind) refl

pub leave_taken : (now : ℕ) (w : World) (phase : Phase) → row_in w now (c.Take 0 (takes_of 0 w.past) requests.Leave) ≡ Some (record { effects = []; phase = phase }) → has_left 0 w.past ≡ false
    → Fewer w (submits w now requests.Leave)
leave_taken now w phase e left =
    let v = submits w now requests.Leave in
    let goes = follows now w requests.Leave in
    let less = light now w requests.Leave in
    let gone = left_behind now w phase e in
    let there : leave_weight (has_left 0 w.past) ≡ 1 = ap leave_weight left in
    let same : length v.lines ≡ length w.lines = ap length goes.lines in
    by_rest w v goes.setup goes.clock goes.weight (omega (arith, less, gone, there, same))

-- ---- In Up

-- Nothing is due, and nothing is open: the task hasn't left.
pub not_left : (now : ℕ) (w : World) → IsTimely now w → NoneDue now w → phase_in w ≡ Up → is_none (pending_of w.past) ≡ true → has_left 0 w.past ≡ false
not_left now w h due up none = by (has_left 0 w.past) refl
  where
    all : (tasks : ℕ) → tasks ≡ 1 → has_left 0 w.past ≡ true → all_left tasks (λ t. has_left t w.past) ≡ true
    all tasks one e = ap (λ n. all_left n (λ t. has_left t w.past)) one ∙ rw e refl

    by : (b : Bool) → has_left 0 w.past ≡ b → b ≡ false
    by true e = absurd (cc (sym due.finish ∙ finish_there w.setup w.sizes (readings w.setup w.sizes w.past) now h.time up (all w.setup.tasks h.one e) none))
    by false e = refl

pub none_open : (w : World) → is_none_open w ≡ true → is_none (pending_of w.past) ≡ true
none_open w e = by (pending_of w.past) e
  where
    by : (commands : List Pending) → nat_eq (length commands) 0 ≡ true → is_none commands ≡ true
    by [] e = refl
    by (command ∷ commands) e = let none = eqb-true (length (command ∷ commands)) 0 e in absurd (omega (arith, none))

module _ (now : ℕ) (w : World) (h : IsTimely now w) (due : NoneDue now w) (up : phase_in w ≡ Up) where
  leaves : is_none_open w ≡ true → Fewer w (submits w now requests.Leave)
  leaves none =
      let left = not_left now w h due up (none_open w none) in
      leave_taken now w Up (leave_up w.setup w.sizes (readings w.setup w.sizes w.past) now h.time (takes_of 0 w.past) up (may_leave_now now w h left)) left

  by_none : (b : Bool) → is_none_open w ≡ b → Fewer w (cond b (submits w now requests.Leave) (receives w now))
  by_none true e = leaves e
  by_none false e = receives_fewer now w h (inr up)

  step_fewer : (line : Line) (lines : List Line) (step : Step) → w.lines ≡ line ∷ lines → Fewer w (takes_step w now lines step)
  step_fewer line lines (steps.Do request) e = line_taken now w line lines request e
  step_fewer line lines (steps.Shadow op name payload) e = receives_fewer now w h (inr up)
  step_fewer line lines (steps.Jobs op job payload) e = receives_fewer now w h (inr up)
  step_fewer line lines steps.Wait e = receives_fewer now w h (inr up)
  step_fewer line lines (steps.Listen count) e = receives_fewer now w h (inr up)

  lines_fewer : (lines : List Line) → w.lines ≡ lines → Fewer w (takes_by w now lines)
  lines_fewer [] e = by_none (is_none_open w) refl
  lines_fewer (line ∷ lines) e = step_fewer line lines line.step e

pub due_moves : (now : ℕ) (w u : World) (most : ℕ) → Passed w most u → NoneDue now w → NoneDue now u
due_moves now w u most h due =
    let same : (cause : Cause) → row_in w now cause ≡ row_in u now cause =
    λ cause. sym (ap (λ setup. row_in (record u { setup = setup }) now cause) h.setup ∙ ap (λ sizes. row_in (record u { setup = w.setup; sizes = sizes }) now cause) h.sizes
    ∙ ap (λ past. row_in (record u { setup = w.setup; sizes = w.sizes; past = past }) now cause) h.past)
    in
    record {
      finish = sym (ap is_some (same c.Finish)) ∙ due.finish;
      gave_up = sym (ap is_some (same c.GaveUp)) ∙ due.gave_up;
      in_full = sym (ap is_some (same (c.Broke InFull))) ∙ due.in_full;
    }

pub timely_passed : (now : ℕ) (w u : World) (most : ℕ) → Passed w most u → IsTimely now w → IsTimely now u
timely_passed now w u most g h = (timely_kept now).others w u (sym g.setup) (sym g.sizes) (sym g.past) h

pub takes_fewer : (now : ℕ) (w : World) → IsTimely now w → NoneDue now w → phase_in w ≡ Up → Fewer w (takes w now)
unfolding takes
takes_fewer now w h due up =
    let u = passes (told_up w) w.lines w in
    let goes = passed (told_up w) w in
    then_fewer w u (takes_by u now u.lines) goes
    (lines_fewer now u (timely_passed now w u (length w.lines) goes h) (due_moves now w u (length w.lines) goes due) (phase_same w u (length w.lines) goes ∙ up) u.lines refl)

-- ---- In Off

dropped : (w : World) (line : Line) (lines : List Line) → w.lines ≡ line ∷ lines → Fewer w (record w { lines = lines })
dropped w line lines e = let more : length w.lines ≡ length (line ∷ lines) = ap length e in by_rest w (record w { lines = lines }) refl refl (omega arith) (omega (arith, more))

module _ (now : ℕ) (w : World) (h : IsTimely now w) (off : phase_in w ≡ Off) (left : has_left 0 w.past ≡ false) where
  ended_step : (line : Line) (lines : List Line) (step : Step) → w.lines ≡ line ∷ lines → Fewer w (ends_step w now lines step)
  ended_step line lines (steps.Do request) e = line_taken now w line lines request e
  ended_step line lines (steps.Shadow op name payload) e = dropped w line lines e
  ended_step line lines (steps.Jobs op job payload) e = dropped w line lines e
  ended_step line lines steps.Wait e = dropped w line lines e
  ended_step line lines (steps.Listen count) e = dropped w line lines e

  ended_lines : (lines : List Line) → w.lines ≡ lines → Fewer w (ends_by w now lines)
  ended_lines [] e = leave_taken now w Off (leave_off w.setup w.sizes (readings w.setup w.sizes w.past) now h.time (takes_of 0 w.past) off (may_leave_now now w h left)) left
  ended_lines (line ∷ lines) e = ended_step line lines line.step e

pub ends_fewer : (now : ℕ) (w : World) → IsTimely now w → phase_in w ≡ Off → has_left 0 w.past ≡ false → Fewer w (ends w now)
unfolding ends
ends_fewer now w h off left =
    let u = passes told_off w.lines w in
    let goes = passed told_off w in
    then_fewer w u (ends_by u now u.lines) goes
    (ended_lines now u (timely_passed now w u (length w.lines) goes h) (phase_same w u (length w.lines) goes ∙ off) (ap (has_left 0) goes.past ∙ left) u.lines refl)

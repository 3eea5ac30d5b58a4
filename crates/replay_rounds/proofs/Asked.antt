-- What is taken, and behind it what the script still asks, is what it asks.
use Rattle.std.proofs.Common.{◌≡◌, ℕ, ◌+◌, ◌≤◌, Bool, true, false, cond, List, [], ◌∷◌, ◌++◌, length, take, Option, Some, None, is_some, refl, sym, ap, ◌∙◌, subst, arith, append_assoc, append-nil, inl, inr}
use Rattle.std.specs.Prelude.{◌&&◌, ◌||◌, nat_le, nat_eq}
use Rattle.std.specs.List.{AllByRecursion}
use Rattle.mqtt_packet.specs.declared.packet.Packet.{Packet}
use Rattle.mqtt_packet.specs.Steps.{fed_to}
use Rattle.agent_link.specs.declared.link.Heard.{Heard}
use Rattle.agent_link.specs.declared.link.Heard.TheVariants as heard
use Rattle.agent_link.specs.Counts.{with_end, with_nothing}
use Rattle.agent_link.specs.Wires.{onto_last}
use Rattle.broker_tape.specs.declared.tape.Item.{Item}
use Rattle.broker_tape.specs.Playing.{opens, room_at, hears, present}
use Rattle.agent_journal.specs.declared.entry.Cause.{Cause}
use Rattle.agent_journal.specs.declared.entry.Cause.TheVariants as c
use Rattle.agent_journal.specs.declared.entry.Why.TheVariants as why
use Rattle.agent_journal.specs.declared.request.Request.{Request}
use Rattle.agent_journal.specs.declared.request.Request.TheVariants as requests
use Rattle.agent_script.specs.declared.script.Line.{Line}
use Rattle.agent_script.specs.declared.script.Step.{Step}
use Rattle.agent_script.specs.declared.script.Step.TheVariants as steps
use Rattle.agent_journal.specs.declared.setup.Phase.{Phase}
use Rattle.agent_journal.specs.declared.setup.Phase.TheVariants.{Down, Opening, Up, Spilled, Off}
use Rattle.agent_journal.specs.Endings.{is_off}
use Rattle.agent_journal.specs.Projections.{requests_of, request_in}
use Rattle.agent_journal.specs.Readings.{takes_of, takes_by as takes_cause, has_left, leaves_by, is_leave}
use Rattle.agent_journal.specs.Requests.{is_valid}
use Rattle.agent_script.specs.Asked.{asked_by, asked_in}
use Rattle.agent_journal.specs.Wires.{sent_in}
use Rattle.agent_table.specs.Histories.{readings, due_by}
use Rattle.agent_table.specs.Readings.{at_most}
use Rattle.agent_table.specs.Rows.{Row}
use Rattle.replay_rounds.specs.Asked.{IsValidLine, IsValidStep, leave_of, taken_and_left}
use Rattle.replay_rounds.specs.World.{World, phase_in, row_in}
use Rattle.agent_ties.specs.Seen.{entry, fresh}
use Rattle.replay_rounds.specs.Entering.{noted, failed, entered, entered_by}
use Rattle.replay_rounds.specs.Receiving.{hands, idles, received_by, receives}
use Rattle.replay_rounds.specs.Lines.{Told, passes, passes_step, submits, is_none_open, takes_step, takes_by, takes, told_up, told_off, ends_step, ends_by, ends}
use Rattle.replay_rounds.specs.Rounds.{opened_by, opening, acts_in, acts_by, acts, has_ended}
use Rattle.replay_rounds.proofs.Dues.{NoneDue, none_due}
use Rattle.agent_ties.proofs.Dues.{IsDue, one_of}
use Rattle.agent_ties.proofs.Seen.{found_by}
use Rattle.replay_rounds.proofs.Kept.{IsCarried, noted_on, sends_on, entered_on, hands_on, idles_on}
use Rattle.replay_rounds.proofs.Moments.{IsTimely}
use Rattle.replay_rounds.proofs.Takes.{passed, phase_same, timely_passed, due_moves, not_left, none_open}
use Rattle.agent_ties.proofs.TakeRows.{taken_up, taken_off}

-- ---- Entries that take nothing

abbrev pub TakesNone : Cause → Type 0
TakesNone cause = takes_cause 0 cause ≡ false

pub record Asks (w v : World) : Type 0 where
  pub lines : v.lines ≡ w.lines
  pub takes : takes_of 0 v.past ≡ takes_of 0 w.past
  pub requests : requests_of 0 v.past ≡ requests_of 0 w.past
  pub left : has_left 0 v.past ≡ has_left 0 w.past

pub none_asked : (cause : Cause) → TakesNone cause → (request_in 0 cause ≡ []) × (leaves_by 0 cause ≡ false)
none_asked c.Opened none = (refl, refl)
none_asked (c.Take task seq request) none = (ap (λ b. cond b (request ∷ []) []) none, ap (λ b. b && is_leave request) none)
none_asked (c.Arrived packet) none = (refl, refl)
none_asked (c.Broke reason) none = (refl, refl)
none_asked c.Tick none = (refl, refl)
none_asked c.GaveUp none = (refl, refl)
none_asked c.Finish none = (refl, refl)

asks_entry : (w v : World) (now : ℕ) (cause : Cause) (found : Row) → TakesNone cause → Asks w v → Asks w (record v { past = entry now cause found ∷ v.past })
asks_entry w v now cause found none h =
    let nothing = none_asked cause none in
    record {
      lines = h.lines;
      takes = ap (λ b. cond b (takes_of 0 v.past + 1) (takes_of 0 v.past)) none ∙ h.takes;
      requests = ap (λ more. requests_of 0 v.past ++ more) nothing.0 ∙ append-nil (requests_of 0 v.past) ∙ h.requests;
      left = ap (λ b. b || has_left 0 v.past) nothing.1 ∙ h.left;
    }

carried : (now : ℕ) (w : World) → IsCarried now TakesNone (Asks w)
carried now w =
    record {
      arrived = λ packet. refl;
      rejected = λ reason bad. refl;
      entry_on = λ v cause found none e h. asks_entry w v now cause found none h;
      failed_on = λ v h. record { lines = h.lines; takes = h.takes; requests = h.requests; left = h.left };
      fault_on = λ v found e h. asks_entry w (failed v) now (c.Broke why.Fault) found refl (record { lines = h.lines; takes = h.takes; requests = h.requests; left = h.left });
      shut_on = λ v h. record { lines = h.lines; takes = h.takes; requests = h.requests; left = h.left };
      wire_on = λ v bytes h. record { lines = h.lines; takes = h.takes; requests = h.requests; left = h.left };
      stream_on = λ v stream h. record { lines = h.lines; takes = h.takes; requests = h.requests; left = h.left };
      busy_on = λ v h. record { lines = h.lines; takes = h.takes; requests = h.requests; left = h.left };
    }

itself : (w : World) → Asks w w
itself w = record { lines = refl; takes = refl; requests = refl; left = refl }

-- an arrived packet takes no request
pub arrived_takes_none : (now : ℕ) (w : World) (packet : Packet) → takes_of 0 (entered w now (c.Arrived packet)).past ≡ takes_of 0 w.past
arrived_takes_none now w packet = (entered_on now TakesNone (Asks w) (carried now w) w (c.Arrived packet) refl (itself w)).takes

-- a world with the same past and lines
same : (w u v : World) → u.lines ≡ w.lines → u.past ≡ w.past → Asks u v → Asks w v
same w u v l p h = record { lines = h.lines ∙ l; takes = h.takes ∙ ap (takes_of 0) p; requests = h.requests ∙ ap (requests_of 0) p; left = h.left ∙ ap (has_left 0) p }

-- ---- What is taken, and what is left

-- The lines that are left are valid, and none is left behind the Leave.
pub record IsAsking (w : World) : Type 0 where
  pub valid : AllByRecursion IsValidLine w.lines
  pub none_behind : has_left 0 w.past ≡ true → w.lines ≡ []

-- Behind an act all is asked as before it.
pub record GoesOn (w v : World) : Type 0 where
  pub asking : IsAsking v
  pub total : taken_and_left v ≡ taken_and_left w

keeps_on : (w v : World) → IsAsking w → Asks w v → GoesOn w v
keeps_on w v h a =
    record {
      asking = record { valid = subst (AllByRecursion IsValidLine) (sym a.lines) h.valid; none_behind = λ e. a.lines ∙ h.none_behind (sym a.left ∙ e) };
      total = λ i. a.requests i ++ (asked_in 0 (a.lines i) ++ leave_of (a.left i));
    }

then_on : (w u v : World) → GoesOn w u → GoesOn u v → GoesOn w v
then_on w u v g h = record { asking = h.asking; total = h.total ∙ g.total }

-- ---- Lines that are passed over

-- the lines that are left are valid, and ask the same
abbrev LeftOver : List Line → World → Type 0
LeftOver lines v = AllByRecursion IsValidLine v.lines × (asked_in 0 v.lines ≡ asked_in 0 lines)

asks_nothing : (b : Bool) (lines : List Line) → cond b [] [] ++ asked_in 0 lines ≡ asked_in 0 lines
asks_nothing true lines = refl
asks_nothing false lines = refl

-- a line that asks for nothing is passed over
over : (line : Line) (lines : List Line) (v : World) → asked_by line.step ≡ [] → LeftOver lines v → LeftOver (line ∷ lines) v
over line lines v none h = (h.0, h.1 ∙ sym (ap (λ xs. cond (nat_eq line.task 0) xs [] ++ asked_in 0 lines) none ∙ asks_nothing (nat_eq line.task 0) lines))

by_choice : (b : Bool) (lines : List Line) (u v : World) → LeftOver lines u → LeftOver lines v → LeftOver lines (cond b u v)
by_choice true lines u v h g = h
by_choice false lines u v h g = g

step_over : (told : Told) (line : Line) (lines : List Line) (step : Step) (w : World) (rest : World → World) → line.step ≡ step → AllByRecursion IsValidLine (line ∷ lines)
    → ((v : World) → LeftOver lines (rest v)) → LeftOver (line ∷ lines) (passes_step told w rest (line ∷ lines) step)
step_over told line lines (steps.Do request) w rest e valid goes = (valid, refl)
step_over told line lines (steps.Shadow op name payload) w rest e valid goes = over line lines (rest w) (ap asked_by e) (goes w)
step_over told line lines (steps.Jobs op job payload) w rest e valid goes = over line lines (rest w) (ap asked_by e) (goes w)
step_over told line lines steps.Wait w rest e valid goes =
    by_choice told.settled (line ∷ lines) (rest w) (record w { lines = line ∷ lines }) (over line lines (rest w) (ap asked_by e) (goes w)) (valid, refl)
step_over told line lines (steps.Listen count) w rest e valid goes =
    let v = record w { listened = w.listened + count } in
    by_choice (told.closed || nat_le (w.listened + count) told.messages) (line ∷ lines) (rest v) (record w { lines = line ∷ lines }) (over line lines (rest v) (ap asked_by e) (goes v)) (valid, refl)

passed_over : (told : Told) (lines : List Line) (w : World) → AllByRecursion IsValidLine lines → LeftOver lines (passes told lines w)
passed_over told [] w valid = (tt, refl)
passed_over told (line ∷ lines) w valid = step_over told line lines line.step w (passes told lines) refl valid (λ v. passed_over told lines v valid.1)

passed_on : (told : Told) (w : World) → IsAsking w → GoesOn w (passes told w.lines w)
passed_on told w h =
    let u = passes told w.lines w in
    let left = passed_over told w.lines w h.valid in
    let goes = passed told w in
    record {
      asking = record { valid = left.0; none_behind = λ e. none_left u.lines (goes.lines) (ap length (h.none_behind (sym (ap (has_left 0) goes.past) ∙ e))) };
      total = λ i. requests_of 0 (goes.past i) ++ (left.1 i ++ leave_of (has_left 0 (goes.past i)));
    }
  where
    none_left : (lines : List Line) → length lines ≤ length w.lines → length w.lines ≡ 0 → lines ≡ []
    none_left [] less none = refl
    none_left (line ∷ lines) less none = absurd (omega (arith, less, none))

leave_valid : is_valid requests.Leave ≡ true
unfolding is_valid
leave_valid = refl

-- ---- A request is taken

module _ (now : ℕ) (w : World) (request : Request) where
  taken_by : (found : Row) → row_in w now (c.Take 0 (takes_of 0 w.past) request) ≡ Some found
      → Asks (record w { past = entry now (c.Take 0 (takes_of 0 w.past) request) found ∷ w.past }) (submits w now request)
  taken_by found e =
      let u = record w { past = entry now (c.Take 0 (takes_of 0 w.past) request) found ∷ w.past } in
      subst (λ r. Asks u (entered_by w now (c.Take 0 (takes_of 0 w.past) request) r)) (sym e) (sends_on now TakesNone (Asks u) (carried now u) u (sent_in found.effects) (itself u))

  -- the requests and the Leave with it
  pub taken_one : is_some (row_in w now (c.Take 0 (takes_of 0 w.past) request)) ≡ true
      → (requests_of 0 (submits w now request).past ≡ requests_of 0 w.past ++ request ∷ []) × (has_left 0 (submits w now request).past ≡ (is_leave request || has_left 0 w.past))
      × ((submits w now request).lines ≡ w.lines)
  taken_one some = let found = found_by (row_in w now (c.Take 0 (takes_of 0 w.past) request)) some in let h = taken_by found.0 found.1 in (h.requests, h.left, h.lines)

valid_request : (line : Line) (request : Request) → IsValidLine line → line.step ≡ steps.Do request → (is_valid request ≡ true) × (is_leave request ≡ false)
valid_request line request h e = subst IsValidStep e h.step

own_line : (line : Line) (lines : List Line) (request : Request) → line.task ≡ 0 → line.step ≡ steps.Do request → asked_in 0 (line ∷ lines) ≡ request ∷ asked_in 0 lines
own_line line lines request task is =
    ap (λ t. cond (nat_eq t 0) (asked_by line.step) [] ++ asked_in 0 lines) task ∙ ap (λ step. asked_by step ++ asked_in 0 lines) is

-- where a line is left, the task hasn't left
still_there : (w : World) (line : Line) (lines : List Line) → IsAsking w → w.lines ≡ line ∷ lines → has_left 0 w.past ≡ false
still_there w line lines h e = by (has_left 0 w.past) refl
  where
    by : (b : Bool) → has_left 0 w.past ≡ b → b ≡ false
    by true is = absurd (cc (sym (h.none_behind is) ∙ e))
    by false is = refl

-- a line's request
line_asked : (now : ℕ) (w : World) (line : Line) (lines : List Line) (request : Request) → IsAsking w → w.lines ≡ line ∷ lines → line.step ≡ steps.Do request
    → is_some (row_in w now (c.Take 0 (takes_of 0 w.past) request)) ≡ true → GoesOn w (submits (record w { lines = lines }) now request)
line_asked now w line lines request h e is some =
    let u : World = record w { lines = lines } in
    let v = submits u now request in
    let one = taken_one now u request some in
    let valid = subst (AllByRecursion IsValidLine) e h.valid in
    let ok = valid_request line request valid.0 is in
    let there = still_there w line lines h e in
    let left : has_left 0 v.past ≡ false = one.1 ∙ rw (ok.1, there) refl in
    let asked : asked_in 0 w.lines ≡ request ∷ asked_in 0 lines = ap (asked_in 0) e ∙ own_line line lines request valid.0.task is in
    record {
      asking = record { valid = subst (AllByRecursion IsValidLine) (sym one.2) valid.1; none_behind = λ gone. absurd (cc (sym left ∙ gone)) };
      total =
          (λ i. one.0 i ++ (asked_in 0 (one.2 i) ++ leave_of (left i))) ∙ append_assoc (requests_of 0 w.past) (request ∷ []) (asked_in 0 lines ++ leave_of false)
          ∙ sym (λ i. requests_of 0 w.past ++ (asked i ++ leave_of (there i)));
    }

-- the Leave, behind the last line
leave_asked : (now : ℕ) (w : World) → w.lines ≡ [] → is_some (row_in w now (c.Take 0 (takes_of 0 w.past) requests.Leave)) ≡ true → has_left 0 w.past ≡ false → GoesOn w (submits w now requests.Leave)
leave_asked now w e some there =
    let v = submits w now requests.Leave in
    let one = taken_one now w requests.Leave some in
    let none : v.lines ≡ [] = one.2 ∙ e in
    record {
      asking = record { valid = subst (AllByRecursion IsValidLine) (sym none) tt; none_behind = λ gone. none };
      total =
          (λ i. one.0 i ++ (asked_in 0 (none i) ++ leave_of (one.1 i))) ∙ append-nil (requests_of 0 w.past ++ requests.Leave ∷ [])
          ∙ sym (λ i. requests_of 0 w.past ++ (asked_in 0 (e i) ++ leave_of (there i)));
    }

-- ---- Receives

received_on : (now : ℕ) (w : World) (bytes : List ℕ) (answer : Option Heard) (rest : List Item) → Asks w (received_by w now bytes (answer, rest))
received_on now w bytes (Some (heard.Bytes n)) rest =
    let u : World = record w { items = rest; given = onto_last w.given (take n bytes); stream = fed_to w.stream (take n bytes); idle = 0 } in
    let fuel = length u.stream.rest + 1 in
    same w u (hands fuel u now) refl refl (hands_on now TakesNone (Asks u) (carried now u) fuel u (itself u))
received_on now w bytes (Some heard.Nothing) rest =
    let u : World = record w { items = rest; idle = at_most 10000 (w.idle + 1); counts = with_nothing w.counts } in
    same w u (idles u now) refl refl (idles_on now TakesNone (Asks u) (carried now u) u refl (itself u))
received_on now w bytes (Some heard.End) rest =
    let u : World = record w { items = rest; counts = with_end w.counts } in same w u (noted u now (c.Broke why.End)) refl refl (noted_on now TakesNone (Asks u) (carried now u) u (c.Broke why.End) refl (itself u))
received_on now w bytes None rest =
    let u : World = failed (record w { items = rest }) in same w u (noted u now (c.Broke why.Fault)) refl refl (noted_on now TakesNone (Asks u) (carried now u) u (c.Broke why.Fault) refl (itself u))

receives_on : (now : ℕ) (w : World) → IsAsking w → GoesOn w (receives w now)
unfolding receives
receives_on now w h = keeps_on w (received_by w now (present w.items) (hears 4096 w.items)) h (received_on now w (present w.items) (hears 4096 w.items).0 (hears 4096 w.items).1)

-- ---- In Up and in Off

module _ (now : ℕ) (w : World) (h : IsAsking w) (timely : IsTimely now w) where
  row_up : (request : Request) → phase_in w ≡ Up → has_left 0 w.past ≡ false → is_valid request ≡ true → is_some (row_in w now (c.Take 0 (takes_of 0 w.past) request)) ≡ true
  row_up request up left valid = taken_up w.setup w.sizes (readings w.setup w.sizes w.past) now timely.time request timely.one left valid up

  row_off : (request : Request) → phase_in w ≡ Off → has_left 0 w.past ≡ false → is_valid request ≡ true → is_some (row_in w now (c.Take 0 (takes_of 0 w.past) request)) ≡ true
  row_off request off left valid = taken_off w.setup w.sizes (readings w.setup w.sizes w.past) now timely.time request timely.one left valid off

  step_up : (line : Line) (lines : List Line) (step : Step) → phase_in w ≡ Up → w.lines ≡ line ∷ lines → line.step ≡ step → GoesOn w (takes_step w now lines step)
  step_up line lines (steps.Do request) up e is =
      let ok = valid_request line request (subst (AllByRecursion IsValidLine) e h.valid).0 is in line_asked now w line lines request h e is (row_up request up (still_there w line lines h e) ok.0)
  step_up line lines (steps.Shadow op name payload) up e is = receives_on now w h
  step_up line lines (steps.Jobs op job payload) up e is = receives_on now w h
  step_up line lines steps.Wait up e is = receives_on now w h
  step_up line lines (steps.Listen count) up e is = receives_on now w h

  by_none : (b : Bool) → is_none_open w ≡ b → NoneDue now w → phase_in w ≡ Up → w.lines ≡ [] → GoesOn w (cond b (submits w now requests.Leave) (receives w now))
  by_none true none due up e = let there = not_left now w timely due up (none_open w none) in leave_asked now w e (row_up requests.Leave up there leave_valid) there
  by_none false none due up e = receives_on now w h

  lines_up : (lines : List Line) → w.lines ≡ lines → NoneDue now w → phase_in w ≡ Up → GoesOn w (takes_by w now lines)
  lines_up [] e due up = by_none (is_none_open w) refl due up e
  lines_up (line ∷ lines) e due up = step_up line lines line.step up e refl

  dropped : (line : Line) (lines : List Line) → w.lines ≡ line ∷ lines → asked_by line.step ≡ [] → GoesOn w (record w { lines = lines })
  dropped line lines e none =
      let valid = subst (AllByRecursion IsValidLine) e h.valid in
      let there = still_there w line lines h e in
      let nothing : asked_in 0 w.lines ≡ asked_in 0 lines = ap (asked_in 0) e ∙ ap (λ xs. cond (nat_eq line.task 0) xs [] ++ asked_in 0 lines) none ∙ asks_nothing (nat_eq line.task 0) lines in
      record {
        asking = record { valid = valid.1; none_behind = λ gone. absurd (cc (sym there ∙ gone)) };
        total = ap (λ xs. requests_of 0 w.past ++ (xs ++ leave_of (has_left 0 w.past))) (sym nothing);
      }

  step_off : (line : Line) (lines : List Line) (step : Step) → phase_in w ≡ Off → w.lines ≡ line ∷ lines → line.step ≡ step → GoesOn w (ends_step w now lines step)
  step_off line lines (steps.Do request) off e is =
      let ok = valid_request line request (subst (AllByRecursion IsValidLine) e h.valid).0 is in line_asked now w line lines request h e is (row_off request off (still_there w line lines h e) ok.0)
  step_off line lines (steps.Shadow op name payload) off e is = dropped line lines e (ap asked_by is)
  step_off line lines (steps.Jobs op job payload) off e is = dropped line lines e (ap asked_by is)
  step_off line lines steps.Wait off e is = dropped line lines e (ap asked_by is)
  step_off line lines (steps.Listen count) off e is = dropped line lines e (ap asked_by is)

  lines_off : (lines : List Line) → w.lines ≡ lines → phase_in w ≡ Off → has_left 0 w.past ≡ false → GoesOn w (ends_by w now lines)
  lines_off [] e off left = leave_asked now w e (row_off requests.Leave off left leave_valid) left
  lines_off (line ∷ lines) e off left = step_off line lines line.step off e refl

takes_on : (now : ℕ) (w : World) → IsAsking w → IsTimely now w → NoneDue now w → phase_in w ≡ Up → GoesOn w (takes w now)
unfolding takes
takes_on now w h timely due up =
    let u = passes (told_up w) w.lines w in
    let goes = passed (told_up w) w in
    let on = passed_on (told_up w) w h in
    then_on w u (takes_by u now u.lines) on
    (lines_up now u on.asking (timely_passed now w u (length w.lines) goes timely) u.lines refl (due_moves now w u (length w.lines) goes due) (phase_same w u (length w.lines) goes ∙ up))

ends_on : (now : ℕ) (w : World) → IsAsking w → IsTimely now w → phase_in w ≡ Off → has_left 0 w.past ≡ false → GoesOn w (ends w now)
unfolding ends
ends_on now w h timely off left =
    let u = passes told_off w.lines w in
    let goes = passed told_off w in
    let on = passed_on told_off w h in
    then_on w u (ends_by u now u.lines) on
    (lines_off now u on.asking (timely_passed now w u (length w.lines) goes timely) u.lines refl (phase_same w u (length w.lines) goes ∙ off) (ap (has_left 0) goes.past ∙ left))

-- ---- Rounds

opened_on : (now : ℕ) (w : World) (begins : Bool) (rest : List Item) → Asks w (opened_by w now (begins, rest))
opened_on now w true rest =
    let u : World = record w { items = rest; room = room_at rest; taken = w.taken ++ [] ∷ []; given = w.given ++ [] ∷ []; stream = fresh; idle = 0 } in
    same w u (entered u now c.Opened) refl refl (entered_on now TakesNone (Asks u) (carried now u) u c.Opened refl (itself u))
opened_on now w false rest =
    let u : World = failed (record w { items = rest }) in same w u (noted u now (c.Broke why.Fault)) refl refl (noted_on now TakesNone (Asks u) (carried now u) u (c.Broke why.Fault) refl (itself u))

opening_on : (now : ℕ) (w : World) → IsAsking w → GoesOn w (opening w now)
unfolding opening
opening_on now w h = keeps_on w (opened_by w now (opens w.items)) h (opened_on now w (opens w.items).0 (opens w.items).1)

due_takes_none : (found : Cause → Bool) (cause : Cause) → IsDue found cause → TakesNone cause
due_takes_none found cause (inl h) = ap (takes_cause 0) h.0
due_takes_none found cause (inr (inl h)) = ap (takes_cause 0) h.0
due_takes_none found cause (inr (inr (inl h))) = ap (takes_cause 0) h.0
due_takes_none found cause (inr (inr (inr (inl h)))) = ap (takes_cause 0) h.0
due_takes_none found cause (inr (inr (inr (inr h)))) = ap (takes_cause 0) h.0

module _ (now : ℕ) (w : World) (h : IsAsking w) (timely : IsTimely now w) (going : has_ended w ≡ false) where
  in_on : (phase : Phase) → phase_in w ≡ phase → NoneDue now w → GoesOn w (acts_in w now phase)
  in_on Down e due = opening_on now w h
  in_on Opening e due = receives_on now w h
  in_on Up e due = takes_on now w h timely due e
  in_on Spilled e due = record { asking = h; total = refl }
  in_on Off e due = ends_on now w h timely e (ap (λ phase. is_off phase && has_left 0 w.past) (sym e) ∙ going)

  due_on : (cause : Cause) → due_by w.setup w.sizes (readings w.setup w.sizes w.past) now ≡ Some cause → GoesOn w (entered w now cause)
  due_on cause e =
      let found : Cause → Bool = λ x. is_some (row_in w now x) in
      let is = one_of found (found c.Finish) (found (c.Broke why.KeepAlive)) (found c.Tick) (found c.GaveUp) (found (c.Broke why.InFull)) cause refl refl refl refl refl e in
      keeps_on w (entered w now cause) h (entered_on now TakesNone (Asks w) (carried now w) w cause (due_takes_none found cause is) (itself w))

  by_due : (due : Option Cause) → due_by w.setup w.sizes (readings w.setup w.sizes w.past) now ≡ due → GoesOn w (acts_by w now due)
  by_due None e = in_on (phase_in w) refl (none_due now w e)
  by_due (Some cause) e = due_on cause e

  pub acts_go_on : GoesOn w (acts w now)
  acts_go_on = by_due (due_by w.setup w.sizes (readings w.setup w.sizes w.past) now) refl

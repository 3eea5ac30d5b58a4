-- A replay takes what its script asks.
use Rattle.std.proofs.Common.{◌≡◌, ℕ, zero, suc, ◌+◌, ◌≤◌, Bool, true, false, cond, List, [], ◌∷◌, ◌++◌, length, Option, Some, None, is_some, refl, sym, ap, ◌∙◌, subst, arith, append-nil, length-append}
use Rattle.std.specs.Prelude.{◌&&◌, nat_eq}
use Rattle.std.specs.List.{AllByRecursion}
use Rattle.agent_link.specs.Clocks.{after_reading}
use Rattle.broker_tape.specs.declared.tape.Item.{Item}
use Rattle.agent_journal.specs.declared.ending.Ending.{Ending}
use Rattle.agent_journal.specs.declared.entry.Cause.{Cause}
use Rattle.agent_journal.specs.declared.entry.Cause.TheVariants as c
use Rattle.agent_journal.specs.declared.entry.Entry.{Entry}
use Rattle.agent_journal.specs.declared.request.Request.TheVariants as requests
use Rattle.agent_script.specs.declared.script.Line.{Line}
use Rattle.agent_script.specs.declared.script.Step.{Step}
use Rattle.agent_script.specs.declared.script.Step.TheVariants as steps
use Rattle.agent_journal.specs.declared.setup.Setup.{Setup}
use Rattle.agent_journal.specs.Endings.{is_off, ending_by as ending_by_cause}
use Rattle.agent_journal.specs.Projections.{requests_of, request_in}
use Rattle.agent_journal.specs.Readings.{has_left, takes_of, takes_by as takes_cause}
use Rattle.agent_script.specs.Asked.{asked_in, asked_by}
use Rattle.agent_table.specs.Histories.{phase_of}
use Rattle.agent_table.specs.Sizes.{Sizes}
use Rattle.replay_rounds.specs.Asked.{IsValidLine, leave_of, taken_and_left}
use Rattle.replay_rounds.specs.World.{World, phase_in}
use Rattle.replay_rounds.specs.Rounds.{round, has_ended, after, begun}
use Rattle.replay_rounds.specs.Laws.{ReplaysTakeAll}
use Rattle.agent_table.specs.Endings.{ending_of}
use Rattle.replay_rounds.proofs.Asked.{IsAsking, GoesOn, acts_go_on, none_asked}
use Rattle.replay_rounds.proofs.Ends.{IsSteady, round_steady, begun_steady, next_time}
use Rattle.replay_rounds.proofs.Moments.{timely_kept}

-- a round takes what is asked for
pub round_goes_on : (w : World) → IsSteady w → IsAsking w → has_ended w ≡ false → GoesOn w (round w)
round_goes_on w h asks going =
    let u : World = record w { clock = after_reading w.clock } in
    let on = acts_go_on (next_time w) u (record { valid = asks.valid; none_behind = asks.none_behind }) ((timely_kept (next_time w)).others w u refl refl refl h.timely) going in
    record { asking = on.asking; total = on.total }

goes_by : (b : Bool) (w v : World) → GoesOn w w → GoesOn w v → GoesOn w (cond b w v)
goes_by true w v h g = h
goes_by false w v h g = g

-- one round more, or none behind the end
next_goes_on : (n : ℕ) (w : World) (b : Bool) → has_ended w ≡ b → IsSteady w → IsAsking w → ((v : World) → IsSteady v → IsAsking v → GoesOn v (after n v)) → GoesOn w (cond b w (after n (round w)))
next_goes_on n w true e h asks rest = record { asking = asks; total = refl }
next_goes_on n w false e h asks rest =
    let one = round_goes_on w h asks e in
    let more = rest (round w) (round_steady w h e) one.asking in
    record { asking = more.asking; total = more.total ∙ one.total }

pub after_goes_on : (n : ℕ) (w : World) → IsSteady w → IsAsking w → GoesOn w (after n w)
after_goes_on zero w h asks = record { asking = asks; total = refl }
after_goes_on (suc n) w h asks = next_goes_on n w (has_ended w) refl h asks (after_goes_on n)

ended_left : (w : World) → has_ended w ≡ true → has_left 0 w.past ≡ true
ended_left w e = by (is_off (phase_in w)) (has_left 0 w.past) e
  where
    by : (off left : Bool) → (off && left) ≡ true → left ≡ true
    by true left e = e
    by false left e = absurd (cc e)

all_taken_after : (n : ℕ) (setup : Setup) (sizes : Sizes) (tick : ℕ) (lines : List Line) (items : List Item) → setup.tasks ≡ 1 → AllByRecursion IsValidLine lines
    → (let v = after n (begun setup sizes tick lines items) in has_ended v ≡ true → requests_of 0 v.past ≡ asked_in 0 lines ++ requests.Leave ∷ [])
all_taken_after n setup sizes tick lines items one valid ended =
    let w = begun setup sizes tick lines items in
    let v = after n w in
    let goes = after_goes_on n w (begun_steady setup sizes tick lines items one) (record { valid = valid; none_behind = λ e. absurd (cc e) }) in
    let left = ended_left v ended in
    let none = goes.asking.none_behind left in
    sym (append-nil (requests_of 0 v.past)) ∙ sym (λ i. requests_of 0 v.past ++ (asked_in 0 (none i) ++ leave_of (left i))) ∙ goes.total

pub replays_take_all : ReplaysTakeAll
replays_take_all setup sizes tick lines items w one valid leads =
    subst (λ (v : World). requests_of 0 v.past ≡ asked_in 0 lines ++ requests.Leave ∷ []) leads.is
    (all_taken_after leads.rounds setup sizes tick lines items one valid (ap has_ended leads.is ∙ leads.ended))

-- ---- How many requests are taken

one_request : (cause : Cause) → takes_cause 0 cause ≡ true → length (request_in 0 cause) ≡ 1
one_request c.Opened is = absurd (cc is)
one_request (c.Take task seq request) is = ap (λ b. length (cond b (request ∷ []) [])) is
one_request (c.Arrived packet) is = absurd (cc is)
one_request (c.Broke reason) is = absurd (cc is)
one_request c.Tick is = absurd (cc is)
one_request c.GaveUp is = absurd (cc is)
one_request c.Finish is = absurd (cc is)

count_more : (b : Bool) (e : Entry) (past : List Entry) (n : ℕ) → takes_cause 0 e.cause ≡ b → n ≡ length (requests_of 0 past) → cond b (n + 1) n ≡ length (requests_of 0 past ++ request_in 0 e.cause)
count_more true e past n is h = let own = one_request e.cause is in let more = length-append (requests_of 0 past) (request_in 0 e.cause) in omega (arith, own, more, h)
count_more false e past n is h = h ∙ ap length (sym (append-nil (requests_of 0 past)) ∙ ap (λ xs. requests_of 0 past ++ xs) (sym (none_asked e.cause is).0))

count_of : (past : List Entry) → takes_of 0 past ≡ length (requests_of 0 past)
count_of [] = refl
count_of (e ∷ past) = count_more (takes_cause 0 e.cause) e past (takes_of 0 past) refl (count_of past)

-- no more are taken than were and are asked for
pub few_takes : (w : World) → takes_of 0 w.past ≤ length (taken_and_left w)
few_takes w =
    let count = count_of w.past in
    let all = length-append (requests_of 0 w.past) (asked_in 0 w.lines ++ leave_of (has_left 0 w.past)) in
    omega (arith, count, all)

one_step : (step : Step) → length (asked_by step) ≤ 1
one_step (steps.Do request) = omega arith
one_step (steps.Shadow op name payload) = omega arith
one_step (steps.Jobs op job payload) = omega arith
one_step steps.Wait = omega arith
one_step (steps.Listen count) = omega arith

one_line : (b : Bool) (step : Step) → length (cond b (asked_by step) []) ≤ 1
one_line true step = one_step step
one_line false step = omega arith

-- a line asks for one request at most
pub few_asked : (lines : List Line) → length (asked_in 0 lines) ≤ length lines
few_asked [] = omega arith
few_asked (line ∷ lines) =
    let one = one_line (nat_eq line.task 0) line.step in
    let rest = few_asked lines in
    let all = length-append (cond (nat_eq line.task 0) (asked_by line.step) []) (asked_in 0 lines) in
    omega (arith, one, rest, all)

-- ---- The ending

ending_by : (before behind : Bool) (here : Ending) (ending : Option Ending) → behind ≡ true → (before ≡ true → is_some ending ≡ true) → is_some (cond before ending (cond behind (Some here) None)) ≡ true
ending_by true behind here ending e h = h refl
ending_by false behind here ending e h = ap (λ b. is_some (cond b (Some here) None)) e

-- an agent in Off has ended somehow
pub off_has_ending : (s : Setup) (l : Sizes) (past : List Entry) → is_off (phase_of s l past) ≡ true → is_some (ending_of s l past) ≡ true
off_has_ending s l [] e = absurd (cc e)
off_has_ending s l (entry ∷ past) e =
    ending_by (is_off (phase_of s l past)) (is_off (phase_of s l (entry ∷ past))) (ending_by_cause (phase_of s l past) entry.cause) (ending_of s l past) e (off_has_ending s l past)

pub ended_is_off : (w : World) → has_ended w ≡ true → is_off (phase_in w) ≡ true
ended_is_off w e = by (is_off (phase_in w)) (has_left 0 w.past) e
  where
    by : (off left : Bool) → (off && left) ≡ true → off ≡ true
    by true left e = refl
    by false left e = e

-- The ties of a journal to its link, followed through all rounds.
use Rattle.std.proofs.Common.{◌≡◌, ℕ, zero, suc, ◌+◌, ◌<◌, ◌≤◌, Bool, true, false, cond, List, [], ◌∷◌, ◌++◌, length, take, Option, Some, None, is_some, refl, sym, ap, subst, arith}
use Rattle.std.specs.Prelude.{nat_le}
use Rattle.mqtt_packet.specs.declared.splitter.Next.{Next}
use Rattle.mqtt_packet.specs.Splitting.{Kept as Stream}
use Rattle.mqtt_packet.specs.Steps.{next_of, fed_to}
use Rattle.mqtt_packet.specs.Stream.{AreBytes}
use Rattle.agent_link.specs.declared.link.Heard.{Heard}
use Rattle.agent_link.specs.declared.link.Heard.TheVariants as heard
use Rattle.agent_link.specs.Clocks.{after_reading}
use Rattle.agent_link.specs.Counts.{with_end, with_nothing}
use Rattle.agent_link.specs.Wires.{onto_last}
use Rattle.broker_tape.specs.declared.tape.Item.{Item}
use Rattle.broker_tape.specs.Playing.{hears, present, opens, room_at}
use Rattle.agent_journal.specs.declared.entry.Cause.{Cause}
use Rattle.agent_journal.specs.declared.entry.Cause.TheVariants as c
use Rattle.agent_journal.specs.declared.entry.Why.TheVariants as why
use Rattle.agent_journal.specs.declared.request.Request.{Request}
use Rattle.agent_journal.specs.declared.request.Request.TheVariants as requests
use Rattle.agent_script.specs.declared.script.Line.{Line}
use Rattle.agent_script.specs.declared.script.Step.{Step}
use Rattle.agent_script.specs.declared.script.Step.TheVariants as steps
use Rattle.agent_journal.specs.declared.setup.Phase.{Phase}
use Rattle.agent_journal.specs.declared.setup.Phase.TheVariants.{Down, Opening, Up, Spilled, Off}
use Rattle.agent_journal.specs.Readings.{last_time_of, takes_of}
use Rattle.agent_table.specs.Histories.{readings, due_by}
use Rattle.agent_table.specs.Readings.{at_most}
use Rattle.agent_table.specs.Ties.{listens}
use Rattle.agent_ties.proofs.Present.{going_there, opened_there}
use Rattle.agent_ties.proofs.Keeping.{first_whole, first_part}
use Rattle.replay_rounds.specs.World.{World, phase_in, row_in}
use Rattle.replay_rounds.specs.Entering.{entered, noted, failed}
use Rattle.broker_tape.specs.Given.{GivesBytes}
use Rattle.replay_rounds.specs.Lines.{told_up, told_off, passes, submits, is_none_open, takes_step, takes_by, takes, ends_step, ends_by, ends}
use Rattle.replay_rounds.specs.Receiving.{handed, hands, idles, received_by, receives}
use Rattle.agent_ties.specs.Seen.{fresh}
use Rattle.replay_rounds.specs.Rounds.{opened_by, opening, acts_in, acts_by, acts, round, has_ended, after}
use Rattle.replay_rounds.proofs.Dues.{NoneDue, none_due}
use Rattle.agent_ties.proofs.Dues.{one_of, due_plain}
use Rattle.replay_rounds.proofs.Ends.{IsSteady, next_time, round_steady}
use Rattle.replay_rounds.proofs.Given.{opens_gives, hears_gives, present_gives}
use Rattle.agent_ties.proofs.Handed.{fed_on, stopped}
use Rattle.agent_ties.specs.Heard.{AreHanding}
use Rattle.replay_rounds.proofs.Kept.{Any, entered_on, hands_on, passes_with, by_choice}
use Rattle.replay_rounds.proofs.Moments.{IsTimely, timely_kept}
use Rattle.replay_rounds.proofs.Openings.{may_fail}
use Rattle.replay_rounds.proofs.Seen.{seen, entered_seen}
use Rattle.agent_ties.specs.Ties.{Ties}
use Rattle.replay_rounds.proofs.Tied.{Holds, gives_on, entered_holds, noted_holds, handed_in}
use Rattle.agent_ties.specs.Wired.{AreWired}

module _ (now : ℕ) where
  -- ---- Receives

  module _ (w : World) (wired : AreWired (seen w)) (handing : AreHanding (seen w)) (time : last_time_of w.past ≤ now) where
    goes_on : (rest : World → World) → ((v : World) → AreWired (seen v) → AreHanding (seen v) → last_time_of v.past ≤ now → length v.stream.rest < length w.stream.rest → Ties (seen (rest v))) → listens (phase_in w) ≡ true
        → (answer : Next × Stream) → answer ≡ next_of w.stream → Ties (seen (handed w now rest answer))
    goes_on rest on_rest on answer e =
        let (ms, bs, going) = going_there (seen w) on handing in
        handed_in now w answer.1 on wired handing time ms bs going rest answer.0 e
        (λ v g shorter. on_rest v g.wired g.handing g.time (let same : length v.stream.rest ≡ length answer.1.rest = ap (λ (s : Stream). length s.rest) g.same in omega (arith, shorter, same)))

    hands_by : (rest : World → World) → ((v : World) → AreWired (seen v) → AreHanding (seen v) → last_time_of v.past ≤ now → length v.stream.rest < length w.stream.rest → Ties (seen (rest v)))
        → (b : Bool) → listens (phase_in w) ≡ b → Ties (seen (cond b (handed w now rest (next_of w.stream)) w))
    hands_by rest on_rest true on = goes_on rest on_rest on (next_of w.stream) refl
    hands_by rest on_rest false off = record { wired = wired; heard = stopped (seen w) off handing }

  ties_hands : (n : ℕ) (w : World) → AreWired (seen w) → AreHanding (seen w) → last_time_of w.past ≤ now → length w.stream.rest < n → Ties (seen (hands n w now))
  ties_hands zero w wired handing time less = absurd (omega (arith, less))
  ties_hands (suc n) w wired handing time less =
      hands_by w wired handing time (λ v. hands n v now) (λ v x y z shorter. ties_hands n v x y z (omega (arith, less, shorter))) (listens (phase_in w)) refl

  idles_holds : (w : World) → Holds w → Holds (idles w now)
  idles_holds w h = by_choice Holds (nat_le 10000 w.idle) (noted w now (c.Broke why.Idle)) w (noted_holds now w why.Idle refl h) h

  received_holds : (w : World) (bytes : List ℕ) (answer : Option Heard × List Item) → listens (phase_in w) ≡ true → last_time_of w.past ≤ now → bytes ≡ present w.items → GivesBytes answer.1 → Holds w
      → Holds (received_by w now bytes answer)
  received_holds w bytes (Some (heard.Bytes n), rest) on time is gives h =
      let u = record w { items = rest; given = onto_last w.given (take n bytes); stream = fed_to w.stream (take n bytes); idle = 0 } in
      record {
        ties =
            ties_hands (length u.stream.rest + 1) u h.ties.wired (fed_on (seen w) on (take n bytes) (subst (λ bs. AreBytes (take n bs)) (sym is) (present_gives n w.items h.gives)) h.ties.heard) time (omega arith);
        gives = hands_on now Any (λ v. GivesBytes v.items) (gives_on now) (length u.stream.rest + 1) u gives;
      }
  received_holds w bytes (Some heard.Nothing, rest) on time is gives h =
      idles_holds (record w { items = rest; idle = at_most 10000 (w.idle + 1); counts = with_nothing w.counts }) (record { ties = h.ties; gives = gives })
  received_holds w bytes (Some heard.End, rest) on time is gives h = noted_holds now (record w { items = rest; counts = with_end w.counts }) why.End refl (record { ties = h.ties; gives = gives })
  received_holds w bytes (None, rest) on time is gives h = noted_holds now (failed (record w { items = rest })) why.Fault refl (record { ties = h.ties; gives = gives })

  receives_holds : (w : World) → listens (phase_in w) ≡ true → last_time_of w.past ≤ now → Holds w → Holds (receives w now)
  unfolding receives
  receives_holds w on time h = received_holds w (present w.items) (hears 4096 w.items) on time refl (hears_gives 4096 w.items h.gives) h

  -- ---- Lines

  record IsUp (w : World) : Type 0 where
    pub holds : Holds w
    pub up : listens (phase_in w) ≡ true
    pub time : last_time_of w.past ≤ now

  up_lines : (w : World) (lines : List Line) → IsUp w → IsUp (record w { lines = lines })
  up_lines w lines h = record { holds = record { ties = h.holds.ties; gives = h.holds.gives }; up = h.up; time = h.time }

  up_listened : (w : World) (count : ℕ) → IsUp w → IsUp (record w { listened = count })
  up_listened w count h = record { holds = record { ties = h.holds.ties; gives = h.holds.gives }; up = h.up; time = h.time }

  submits_holds : (w : World) (request : Request) → Holds w → Holds (submits w now request)
  submits_holds w request h = entered_holds now w (c.Take 0 (takes_of 0 w.past) request) refl (refl, refl) h

  takes_step_holds : (w : World) (lines : List Line) (step : Step) → IsUp w → Holds (takes_step w now lines step)
  takes_step_holds w lines (steps.Do request) h = submits_holds (record w { lines = lines }) request (up_lines w lines h).holds
  takes_step_holds w lines (steps.Shadow op name payload) h = receives_holds w h.up h.time h.holds
  takes_step_holds w lines (steps.Jobs op job payload) h = receives_holds w h.up h.time h.holds
  takes_step_holds w lines steps.Wait h = receives_holds w h.up h.time h.holds
  takes_step_holds w lines (steps.Listen count) h = receives_holds w h.up h.time h.holds

  takes_by_holds : (w : World) (lines : List Line) → IsUp w → Holds (takes_by w now lines)
  takes_by_holds w [] h = by_choice Holds (is_none_open w) (submits w now requests.Leave) (receives w now) (submits_holds w requests.Leave h.holds) (receives_holds w h.up h.time h.holds)
  takes_by_holds w (line ∷ lines) h = takes_step_holds w lines line.step h

  takes_holds : (w : World) → IsUp w → Holds (takes w now)
  unfolding takes
  takes_holds w h = let v = passes (told_up w) w.lines w in takes_by_holds v v.lines (passes_with IsUp up_lines up_listened (told_up w) w.lines w h)

  off_lines : (w : World) (lines : List Line) → Holds w → Holds (record w { lines = lines })
  off_lines w lines h = record { ties = h.ties; gives = h.gives }

  off_listened : (w : World) (count : ℕ) → Holds w → Holds (record w { listened = count })
  off_listened w count h = record { ties = h.ties; gives = h.gives }

  ends_step_holds : (w : World) (lines : List Line) (step : Step) → Holds w → Holds (ends_step w now lines step)
  ends_step_holds w lines (steps.Do request) h = submits_holds (record w { lines = lines }) request (off_lines w lines h)
  ends_step_holds w lines (steps.Shadow op name payload) h = off_lines w lines h
  ends_step_holds w lines (steps.Jobs op job payload) h = off_lines w lines h
  ends_step_holds w lines steps.Wait h = off_lines w lines h
  ends_step_holds w lines (steps.Listen count) h = off_lines w lines h

  ends_by_holds : (w : World) (lines : List Line) → Holds w → Holds (ends_by w now lines)
  ends_by_holds w [] h = submits_holds w requests.Leave h
  ends_by_holds w (line ∷ lines) h = ends_step_holds w lines line.step h

  ends_holds : (w : World) → Holds w → Holds (ends w now)
  unfolding ends
  ends_holds w h = let v = passes told_off w.lines w in ends_by_holds v v.lines (passes_with Holds off_lines off_listened told_off w.lines w h)

  -- ---- Openings

  module _ (w : World) (h : IsTimely now w) (due : NoneDue now w) (down : phase_in w ≡ Down) where
    opened_ties : (rest : List Item) → Ties (seen w)
        → Ties (seen (entered (record w { items = rest; room = room_at rest; taken = w.taken ++ [] ∷ []; given = w.given ++ [] ∷ []; stream = fresh; idle = 0 }) now c.Opened))
    opened_ties rest t =
        let u = record w { items = rest; room = room_at rest; taken = w.taken ++ [] ∷ []; given = w.given ++ [] ∷ []; stream = fresh; idle = 0 } in
        let (found, e) = opened_there now (seen w) h.time down (may_fail now w h due down) in
        entered_seen now u c.Opened found e Ties (first_whole now (seen w) found e t) (first_part now (seen w) found e t)

    opened_holds : (next : Bool × List Item) → GivesBytes next.1 → Holds w → Holds (opened_by w now next)
    opened_holds (true, rest) gives holds =
        let u = record w { items = rest; room = room_at rest; taken = w.taken ++ [] ∷ []; given = w.given ++ [] ∷ []; stream = fresh; idle = 0 } in
        record { ties = opened_ties rest holds.ties; gives = entered_on now Any (λ v. GivesBytes v.items) (gives_on now) u c.Opened tt gives }
    opened_holds (false, rest) gives holds = noted_holds now (failed (record w { items = rest })) why.Fault refl (record { ties = holds.ties; gives = gives })

    opening_holds : Holds w → Holds (opening w now)
    unfolding opening
    opening_holds holds = opened_holds (opens w.items) (opens_gives w.items holds.gives) holds

  -- ---- Rounds

  module _ (w : World) (h : IsTimely now w) (holds : Holds w) where
    in_holds : (phase : Phase) → phase_in w ≡ phase → NoneDue now w → Holds (acts_in w now phase)
    in_holds Down is due = opening_holds w h due is holds
    in_holds Opening is due = receives_holds w (ap listens is) h.time holds
    in_holds Up is due = takes_holds w (record { holds = holds; up = ap listens is; time = h.time })
    in_holds Spilled is due = holds
    in_holds Off is due = ends_holds w holds

    by_due : (due : Option Cause) → due_by w.setup w.sizes (readings w.setup w.sizes w.past) now ≡ due → Holds (acts_by w now due)
    by_due None e = in_holds (phase_in w) refl (none_due now w e)
    by_due (Some cause) e =
        let plain =
        due_plain (λ x. is_some (row_in w now x)) cause
        (one_of (λ x. is_some (row_in w now x)) (is_some (row_in w now c.Finish)) (is_some (row_in w now (c.Broke why.KeepAlive))) (is_some (row_in w now c.Tick)) (is_some (row_in w now c.GaveUp))
        (is_some (row_in w now (c.Broke why.InFull))) cause refl refl refl refl refl e) in
        entered_holds now w cause plain.0 plain.1 holds

    acts_holds : Holds (acts w now)
    acts_holds = by_due (due_by w.setup w.sizes (readings w.setup w.sizes w.past) now) refl

round_holds : (w : World) → IsSteady w → Holds w → Holds (round w)
round_holds w h holds =
    let u = record w { clock = after_reading w.clock } in
    acts_holds (next_time w) u ((timely_kept (next_time w)).others w u refl refl refl h.timely) (record { ties = holds.ties; gives = holds.gives })

after_holds : (n : ℕ) (w : World) → IsSteady w → Holds w → Holds (after n w)
after_holds zero w h holds = holds
after_holds (suc n) w h holds = by (has_ended w) refl (λ going. after_holds n (round w) (round_steady w h going) (round_holds w h holds))
  where
    by : (b : Bool) → has_ended w ≡ b → (has_ended w ≡ false → Holds (after n (round w))) → Holds (cond b w (after n (round w)))
    by true ended next = holds
    by false going next = next going

-- what holds of a journal holds of it behind so many rounds
pub ties_after : (n : ℕ) (w : World) → IsSteady w → Ties (seen w) → GivesBytes w.items → Ties (seen (after n w))
ties_after n w h ties gives = (after_holds n w h (record { ties = ties; gives = gives })).ties

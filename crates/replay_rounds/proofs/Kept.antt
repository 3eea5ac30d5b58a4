-- What each entry keeps, a round keeps: a property of the setup, the sizes and the past is followed through a round.
use Rattle.std.proofs.Common.{◌≡◌, ℕ, zero, suc, ◌+◌, Bool, true, false, cond, List, [], ◌∷◌, ◌++◌, length, take, Option, Some, None, refl}
use Rattle.std.specs.Prelude.{nat_le, nat_lt, ◌||◌}
use Rattle.mqtt_packet.specs.declared.packet.Packet.{Packet}
use Rattle.mqtt_packet.specs.declared.splitter.Next.{Next}
use Rattle.mqtt_packet.specs.declared.splitter.Next.TheVariants as answers
use Rattle.mqtt_packet.specs.Splitting.{Kept as Stream}
use Rattle.mqtt_packet.specs.Steps.{next_of, fed_to}
use Rattle.agent_link.specs.declared.link.Heard.{Heard}
use Rattle.agent_link.specs.declared.link.Heard.TheVariants as heard
use Rattle.agent_link.specs.Counts.{with_end, with_nothing}
use Rattle.agent_link.specs.Wires.{onto_last}
use Rattle.broker_tape.specs.declared.tape.Item.{Item}
use Rattle.broker_tape.specs.Playing.{opens, room_at, fitting, hears, present}
use Rattle.agent_journal.specs.declared.entry.Cause.{Cause}
use Rattle.agent_journal.specs.declared.entry.Cause.TheVariants as c
use Rattle.agent_journal.specs.declared.entry.Why.{Why}
use Rattle.agent_journal.specs.declared.entry.Why.TheVariants as why
use Rattle.agent_journal.specs.declared.request.Request.{Request}
use Rattle.agent_journal.specs.declared.request.Request.TheVariants as requests
use Rattle.agent_script.specs.declared.script.Line.{Line}
use Rattle.agent_script.specs.declared.script.Step.{Step}
use Rattle.agent_script.specs.declared.script.Step.TheVariants as steps
use Rattle.agent_journal.specs.declared.setup.Phase.{Phase}
use Rattle.agent_journal.specs.declared.setup.Phase.TheVariants.{Down, Opening, Up, Spilled, Off}
use Rattle.agent_journal.specs.Wires.{sent_in}
use Rattle.agent_table.specs.Histories.{readings, due_by}
use Rattle.agent_table.specs.Readings.{at_most}
use Rattle.agent_table.specs.Rows.{Row}
use Rattle.agent_table.specs.Ties.{listens, is_bad_bytes}
use Rattle.replay_rounds.specs.World.{World, phase_in, row_in, shut, shut_in, settled}
use Rattle.agent_ties.specs.Seen.{entry, fresh}
use Rattle.replay_rounds.specs.Entering.{noted, noted_by, failed, onto_wire, sends, entered, entered_by}
use Rattle.replay_rounds.specs.Receiving.{handed, hands, idles, received_by, receives}
use Rattle.replay_rounds.specs.Lines.{Told, passes, passes_step, submits, is_none_open, takes_step, takes_by, takes, told_up, told_off, ends_step, ends_by, ends}
use Rattle.replay_rounds.specs.Rounds.{opened_by, opening, acts_in, acts_by, acts}

-- A property that entries of rows at this time carry on, for such causes, and what is sent and heard leaves. An arrived
-- packet is such a cause, and so are bytes that are none. The entry of a fault stands behind the link's count of it.
pub record IsCarried (now : ℕ) (Of : Cause → Type 0) (Holds : World → Type 0) : Type 1 where
  pub arrived : (packet : Packet) → Of (c.Arrived packet)
  pub rejected : (reason : Why) → is_bad_bytes reason ≡ true → Of (c.Broke reason)
  pub entry_on : (w : World) (cause : Cause) (found : Row) → Of cause → row_in w now cause ≡ Some found → Holds w → Holds (record w { past = entry now cause found ∷ w.past })
  -- a call that failed, without an entry of it and with one
  pub failed_on : (w : World) → Holds w → Holds (failed w)
  pub fault_on : (w : World) (found : Row) → row_in w now (c.Broke why.Fault) ≡ Some found → Holds w → Holds (record (failed w) { past = entry now (c.Broke why.Fault) found ∷ w.past })
  pub shut_on : (w : World) → Holds w → Holds (shut w)
  pub wire_on : (w : World) (bytes : List ℕ) → Holds w → Holds (onto_wire w bytes)
  pub stream_on : (w : World) (stream : Stream) → Holds w → Holds (record w { stream = stream })
  pub busy_on : (w : World) → Holds w → Holds (record w { idle = 0 })

-- any cause
abbrev pub Any : Cause → Type 0
Any cause = Unit {0}

module _ (now : ℕ) (Of : Cause → Type 0) (Holds : World → Type 0) (k : IsCarried now Of Holds) where
  settled_in : (w : World) (phase : Phase) → Holds w → Holds (shut_in w phase)
  settled_in w Down h = k.shut_on w h
  settled_in w Opening h = h
  settled_in w Up h = h
  settled_in w Spilled h = h
  settled_in w Off h = k.shut_on w h

  settled_on : (w : World) → Holds w → Holds (settled w)
  settled_on w h = settled_in w (phase_in w) h

  noted_by_with : (w : World) (cause : Cause) (r : Option Row) → row_in w now cause ≡ r → Holds w → ((found : Row) → row_in w now cause ≡ Some found → Holds (record w { past = entry now cause found ∷ w.past }))
      → Holds (noted_by w now cause r)
  noted_by_with w cause None e h on = h
  noted_by_with w cause (Some found) e h on = settled_on (record w { past = entry now cause found ∷ w.past }) (on found e)

  -- an entry that carries it on, whatever the cause is
  pub noted_with : (w : World) (cause : Cause) → Holds w → ((found : Row) → row_in w now cause ≡ Some found → Holds (record w { past = entry now cause found ∷ w.past })) → Holds (noted w now cause)
  noted_with w cause h on = noted_by_with w cause (row_in w now cause) refl h on

  pub noted_on : (w : World) (cause : Cause) → Of cause → Holds w → Holds (noted w now cause)
  noted_on w cause of h = noted_with w cause h (λ found e. k.entry_on w cause found of e h)

  -- a call of the link failed
  pub faulted_on : (w : World) → Holds w → Holds (noted (failed w) now (c.Broke why.Fault))
  faulted_on w h = noted_with (failed w) (c.Broke why.Fault) (k.failed_on w h) (λ found e. k.fault_on w found e h)

  some_by : (less : Bool) (w v : World) → Holds w → Holds v → Holds (cond less w v)
  some_by true w v h g = h
  some_by false w v h g = g

  pub sends_on : (w : World) (bytes : List ℕ) → Holds w → Holds (sends w now bytes)
  sends_on w [] h = settled_on w h
  sends_on w (b ∷ bytes) h =
      let fits = fitting w.room (length (b ∷ bytes)) in
      let u = record w { idle = 0 } in
      some_by (nat_lt fits (length (b ∷ bytes))) (noted (failed (onto_wire u (take fits (b ∷ bytes)))) now (c.Broke why.Fault)) (settled (onto_wire u (b ∷ bytes)))
      (faulted_on (onto_wire u (take fits (b ∷ bytes))) (k.wire_on u (take fits (b ∷ bytes)) (k.busy_on w h))) (settled_on (onto_wire u (b ∷ bytes)) (k.wire_on u (b ∷ bytes) (k.busy_on w h)))

  entered_by_with : (w : World) (cause : Cause) (r : Option Row) → row_in w now cause ≡ r → Holds w → ((found : Row) → row_in w now cause ≡ Some found → Holds (record w { past = entry now cause found ∷ w.past }))
      → Holds (entered_by w now cause r)
  entered_by_with w cause None e h on = h
  entered_by_with w cause (Some found) e h on = sends_on (record w { past = entry now cause found ∷ w.past }) (sent_in found.effects) (on found e)

  pub entered_with : (w : World) (cause : Cause) → Holds w → ((found : Row) → row_in w now cause ≡ Some found → Holds (record w { past = entry now cause found ∷ w.past })) → Holds (entered w now cause)
  entered_with w cause h on = entered_by_with w cause (row_in w now cause) refl h on

  pub entered_on : (w : World) (cause : Cause) → Of cause → Holds w → Holds (entered w now cause)
  entered_on w cause of h = entered_with w cause h (λ found e. k.entry_on w cause found of e h)

  -- ---- Receives

  handed_on : (w : World) (rest : World → World) (answer : Next × Stream) → ((v : World) → Holds v → Holds (rest v)) → Holds w → Holds (handed w now rest answer)
  handed_on w rest (answers.Packet packet, stream) goes h =
      goes (entered (record w { stream = stream }) now (c.Arrived packet)) (entered_on (record w { stream = stream }) (c.Arrived packet) (k.arrived packet) (k.stream_on w stream h))
  handed_on w rest (answers.More, stream) goes h = k.stream_on w stream h
  handed_on w rest (answers.Bad offset, stream) goes h = noted_on (record w { stream = stream }) (c.Broke (why.Bad offset)) (k.rejected (why.Bad offset) refl) (k.stream_on w stream h)
  handed_on w rest (answers.TooLong offset len, stream) goes h =
      noted_on (record w { stream = stream }) (c.Broke (why.TooLong len)) (k.rejected (why.TooLong len) refl) (k.stream_on w stream h)

  pub hands_on : (n : ℕ) (w : World) → Holds w → Holds (hands n w now)
  hands_on zero w h = h
  hands_on (suc n) w h = some_by (listens (phase_in w)) (handed w now (λ v. hands n v now) (next_of w.stream)) w (handed_on w (λ v. hands n v now) (next_of w.stream) (hands_on n) h) h

  pub idles_on : (w : World) → Of (c.Broke why.Idle) → Holds w → Holds (idles w now)
  idles_on w of h = some_by (nat_le 10000 w.idle) (noted w now (c.Broke why.Idle)) w (noted_on w (c.Broke why.Idle) of h) h

pub by_choice : (Holds : World → Type 0) (b : Bool) (w v : World) → Holds w → Holds v → Holds (cond b w v)
by_choice Holds true w v h g = h
by_choice Holds false w v h g = g

-- what the lines that are passed over leave
module _ (Holds : World → Type 0) (lines_on : (w : World) (lines : List Line) → Holds w → Holds (record w { lines = lines })) (listened_on : (w : World) (count : ℕ) → Holds w → Holds (record w { listened = count })) where
  passes_step_with : (told : Told) (w : World) (rest : World → World) (lines : List Line) (step : Step) → ((v : World) → Holds v → Holds (rest v)) → Holds w → Holds (passes_step told w rest lines step)
  passes_step_with told w rest lines (steps.Do request) goes h = lines_on w lines h
  passes_step_with told w rest lines (steps.Shadow op name payload) goes h = goes w h
  passes_step_with told w rest lines (steps.Jobs op job payload) goes h = goes w h
  passes_step_with told w rest lines steps.Wait goes h = by_choice Holds told.settled (rest w) (record w { lines = lines }) (goes w h) (lines_on w lines h)
  passes_step_with told w rest lines (steps.Listen count) goes h =
      by_choice Holds (told.closed || nat_le (w.listened + count) told.messages) (rest (record w { listened = w.listened + count })) (record w { lines = lines })
      (goes (record w { listened = w.listened + count }) (listened_on w (w.listened + count) h)) (lines_on w lines h)

  pub passes_with : (told : Told) (lines : List Line) (w : World) → Holds w → Holds (passes told lines w)
  passes_with told [] w h = lines_on w [] h
  passes_with told (line ∷ lines) w h = passes_step_with told w (passes told lines) (line ∷ lines) line.step (passes_with told lines) h

-- A property that each part of a round carries on.
pub record IsWalked (now : ℕ) (Holds : World → Type 0) : Type 1 where
  pub due_on : (w : World) (cause : Cause) → due_by w.setup w.sizes (readings w.setup w.sizes w.past) now ≡ Some cause → Holds w → Holds (entered w now cause)
  pub submits_on : (w : World) (request : Request) → Holds w → Holds (submits w now request)
  pub receives_on : (w : World) → Holds w → Holds (receives w now)
  pub opening_on : (w : World) → Holds w → Holds (opening w now)
  pub lines_on : (w : World) (lines : List Line) → Holds w → Holds (record w { lines = lines })
  pub listened_on : (w : World) (count : ℕ) → Holds w → Holds (record w { listened = count })

module _ (now : ℕ) (Holds : World → Type 0) (k : IsWalked now Holds) where
  takes_step_on : (w : World) (lines : List Line) (step : Step) → Holds w → Holds (takes_step w now lines step)
  takes_step_on w lines (steps.Do request) h = k.submits_on (record w { lines = lines }) request (k.lines_on w lines h)
  takes_step_on w lines _ h = k.receives_on w h

  takes_by_on : (w : World) (lines : List Line) → Holds w → Holds (takes_by w now lines)
  takes_by_on w [] h = by_choice Holds (is_none_open w) (submits w now requests.Leave) (receives w now) (k.submits_on w requests.Leave h) (k.receives_on w h)
  takes_by_on w (line ∷ lines) h = takes_step_on w lines line.step h

  takes_on : (w : World) → Holds w → Holds (takes w now)
  unfolding takes
  takes_on w h = let v = passes (told_up w) w.lines w in takes_by_on v v.lines (passes_with Holds k.lines_on k.listened_on (told_up w) w.lines w h)

  ends_step_on : (w : World) (lines : List Line) (step : Step) → Holds w → Holds (ends_step w now lines step)
  ends_step_on w lines (steps.Do request) h = k.submits_on (record w { lines = lines }) request (k.lines_on w lines h)
  ends_step_on w lines _ h = k.lines_on w lines h

  ends_by_on : (w : World) (lines : List Line) → Holds w → Holds (ends_by w now lines)
  ends_by_on w [] h = k.submits_on w requests.Leave h
  ends_by_on w (line ∷ lines) h = ends_step_on w lines line.step h

  ends_on : (w : World) → Holds w → Holds (ends w now)
  unfolding ends
  ends_on w h = let v = passes told_off w.lines w in ends_by_on v v.lines (passes_with Holds k.lines_on k.listened_on told_off w.lines w h)

  in_on : (w : World) (phase : Phase) → Holds w → Holds (acts_in w now phase)
  in_on w Down h = k.opening_on w h
  in_on w Opening h = k.receives_on w h
  in_on w Up h = takes_on w h
  in_on w Spilled h = h
  in_on w Off h = ends_on w h

  by_on : (w : World) (due : Option Cause) → due_by w.setup w.sizes (readings w.setup w.sizes w.past) now ≡ due → Holds w → Holds (acts_by w now due)
  by_on w None e h = in_on w (phase_in w) h
  by_on w (Some cause) e h = k.due_on w cause e h

  pub walk_on : (w : World) → Holds w → Holds (acts w now)
  walk_on w h = by_on w (due_by w.setup w.sizes (readings w.setup w.sizes w.past) now) refl h

-- A property of the setup, the sizes and the past that entries of rows at this time carry on.
pub record IsKept (now : ℕ) (Holds : World → Type 0) : Type 1 where
  pub entry_on : (w : World) (cause : Cause) (found : Row) → row_in w now cause ≡ Some found → Holds w → Holds (record w { past = entry now cause found ∷ w.past })
  pub others : (w v : World) → w.setup ≡ v.setup → w.sizes ≡ v.sizes → w.past ≡ v.past → Holds w → Holds v

module _ (now : ℕ) (Holds : World → Type 0) (k : IsKept now Holds) where
  carried : IsCarried now Any Holds
  carried =
      record {
        arrived = λ packet. tt;
        rejected = λ reason bad. tt;
        entry_on = λ w cause found of e h. k.entry_on w cause found e h;
        failed_on = λ w h. k.others w (failed w) refl refl refl h;
        fault_on = λ w found e h. k.entry_on (failed w) (c.Broke why.Fault) found e (k.others w (failed w) refl refl refl h);
        shut_on = λ w h. k.others w (shut w) refl refl refl h;
        wire_on = λ w bytes h. k.others w (onto_wire w bytes) refl refl refl h;
        stream_on = λ w stream h. k.others w (record w { stream = stream }) refl refl refl h;
        busy_on = λ w h. k.others w (record w { idle = 0 }) refl refl refl h;
      }

  enters : (w : World) (cause : Cause) → Holds w → Holds (entered w now cause)
  enters w cause h = entered_on now Any Holds carried w cause tt h

  notes : (w : World) (cause : Cause) → Holds w → Holds (noted w now cause)
  notes w cause h = noted_on now Any Holds carried w cause tt h

  received_on : (w : World) (bytes : List ℕ) (answer : Option Heard × List Item) → Holds w → Holds (received_by w now bytes answer)
  received_on w bytes (Some (heard.Bytes n), rest) h =
      let v = record w { items = rest; given = onto_last w.given (take n bytes); stream = fed_to w.stream (take n bytes); idle = 0 } in
      hands_on now Any Holds carried (length v.stream.rest + 1) v (k.others w v refl refl refl h)
  received_on w bytes (Some heard.Nothing, rest) h =
      let v = record w { items = rest; idle = at_most 10000 (w.idle + 1); counts = with_nothing w.counts } in idles_on now Any Holds carried v tt (k.others w v refl refl refl h)
  received_on w bytes (Some heard.End, rest) h = let v = record w { items = rest; counts = with_end w.counts } in notes v (c.Broke why.End) (k.others w v refl refl refl h)
  received_on w bytes (None, rest) h = let v = failed (record w { items = rest }) in notes v (c.Broke why.Fault) (k.others w v refl refl refl h)

  receives_on : (w : World) → Holds w → Holds (receives w now)
  unfolding receives
  receives_on w h = received_on w (present w.items) (hears 4096 w.items) h

  opened_on : (w : World) (next : Bool × List Item) → Holds w → Holds (opened_by w now next)
  opened_on w (true, rest) h =
      let v = record w { items = rest; room = room_at rest; taken = w.taken ++ [] ∷ []; given = w.given ++ [] ∷ []; stream = fresh; idle = 0 } in
      enters v c.Opened (k.others w v refl refl refl h)
  opened_on w (false, rest) h = let v = failed (record w { items = rest }) in notes v (c.Broke why.Fault) (k.others w v refl refl refl h)

  opening_on : (w : World) → Holds w → Holds (opening w now)
  unfolding opening
  opening_on w h = opened_on w (opens w.items) h

  -- what every entry of a round keeps, the round keeps
  pub acts_on : (w : World) → Holds w → Holds (acts w now)
  acts_on w h =
      walk_on now Holds
      (record {
        due_on = λ v cause e g. enters v cause g;
        submits_on = λ v request g. enters v _ g;
        receives_on = receives_on;
        opening_on = opening_on;
        lines_on = λ v lines g. k.others v (record v { lines = lines }) refl refl refl g;
        listened_on = λ v count g. k.others v (record v { listened = count }) refl refl refl g;
      }) w h

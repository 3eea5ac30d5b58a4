-- What each connection of a replay gave is a front of what the tape has for it.
use Rattle.std.proofs.Common.{◌≡◌, ℕ, zero, suc, ◌+◌, Bool, true, false, cond, List, [], ◌∷◌, ◌++◌, length, take, drop, Option, Some, None, refl, sym, ap, ◌∙◌, subst}
use Rattle.std.specs.Prelude.{min, ◌==◌}
use Rattle.std.proofs.lemmas.List.{append-nil, append_assoc, take-append-drop}
use Rattle.mqtt_packet.specs.Steps.{fed_to}
use Rattle.agent_link.specs.Clocks.{step_reading, after_reading}
use Rattle.agent_link.specs.Counts.{with_end, with_nothing}
use Rattle.agent_link.specs.Wires.{onto_last}
use Rattle.agent_link.specs.declared.link.Heard.{Heard}
use Rattle.agent_link.specs.declared.link.Heard.TheVariants as heard
use Rattle.broker_tape.specs.declared.tape.Item.{Item}
use Rattle.agent_journal.specs.declared.setup.Setup.{Setup}
use Rattle.agent_script.specs.declared.script.Line.{Line}
use Rattle.agent_table.specs.Sizes.{Sizes}
use Rattle.broker_tape.specs.declared.tape.Item.TheVariants as items
use Rattle.broker_tape.specs.Playing.{closed, opens_at, opens, room_at, next, hears_of, hears_at, hears, bytes_of, bytes_at, present}
use Rattle.broker_tape.specs.Given.{bytes_in, wires, IsFront, AreFronts}
use Rattle.agent_journal.specs.declared.entry.Cause.TheVariants as c
use Rattle.agent_journal.specs.declared.entry.Why.TheVariants as why
use Rattle.agent_table.specs.Readings.{at_most}
use Rattle.agent_table.specs.Ties.{EachTied}
use Rattle.replay_rounds.specs.World.{World}
use Rattle.replay_rounds.specs.Entering.{failed}
use Rattle.replay_rounds.specs.Receiving.{received_by, receives}
use Rattle.agent_ties.specs.Seen.{fresh}
use Rattle.replay_rounds.specs.Rounds.{opened_by, opening, round, has_ended, after, begun}
use Rattle.replay_rounds.specs.Laws.{ReplaysHearTheirTape}
use Rattle.replay_rounds.proofs.Kept.{IsCarried, Any, entered_on, noted_on, hands_on, idles_on, IsWalked, walk_on}
use Rattle.agent_ties.specs.Wired.{TiedBut}
use Rattle.agent_ties.proofs.Wires.{each_tied, one_more, turned, bytes_on}

-- ---- Items

-- what is closed has the same connections behind it, and nothing more to give
wires_closed : (left : List Item) → wires (closed left) ≡ wires left
wires_closed [] = refl
wires_closed (items.Open ∷ rest) = refl
wires_closed (items.Refuse ∷ rest) = refl
wires_closed (items.Room count ∷ rest) = wires_closed rest
wires_closed (items.Hear bytes ∷ rest) = wires_closed rest
wires_closed (items.Quiet count ∷ rest) = wires_closed rest
wires_closed (items.End ∷ rest) = wires_closed rest
wires_closed (items.Fail ∷ rest) = wires_closed rest

none_closed : (left : List Item) → bytes_in (closed left) ≡ []
none_closed [] = refl
none_closed (items.Open ∷ rest) = refl
none_closed (items.Refuse ∷ rest) = refl
none_closed (items.Room count ∷ rest) = none_closed rest
none_closed (items.Hear bytes ∷ rest) = none_closed rest
none_closed (items.Quiet count ∷ rest) = none_closed rest
none_closed (items.End ∷ rest) = none_closed rest
none_closed (items.Fail ∷ rest) = none_closed rest

-- These have the same connections and the same bytes to give.
record Same (xs ys : List Item) : Type 0 where
  wires_same : wires xs ≡ wires ys
  bytes_same : bytes_in xs ≡ bytes_in ys

same : (xs : List Item) → Same xs xs
same xs = record { wires_same = refl; bytes_same = refl }

quiet_by : (used : Bool) (count : ℕ) (rest : List Item) → Same (next rest) rest → Same (cond used (next rest) (items.Quiet count ∷ rest)) (items.Quiet count ∷ rest)
quiet_by true count rest h = record { wires_same = h.wires_same; bytes_same = h.bytes_same }
quiet_by false count rest h = same (items.Quiet count ∷ rest)

next_same : (left : List Item) → Same (next left) left
next_same [] = same []
next_same (items.Open ∷ rest) = same (items.Open ∷ rest)
next_same (items.Refuse ∷ rest) = same (items.Refuse ∷ rest)
next_same (items.Room count ∷ rest) = record { wires_same = (next_same rest).wires_same; bytes_same = (next_same rest).bytes_same }
next_same (items.Hear [] ∷ rest) = record { wires_same = (next_same rest).wires_same; bytes_same = (next_same rest).bytes_same }
next_same (items.Hear (b ∷ bytes) ∷ rest) = same (items.Hear (b ∷ bytes) ∷ rest)
next_same (items.Quiet count ∷ rest) = quiet_by (count == 0) count rest (next_same rest)
next_same (items.End ∷ rest) = same (items.End ∷ rest)
next_same (items.Fail ∷ rest) = same (items.Fail ∷ rest)

-- what a receive gave of the bytes that came next
abbrev gave : Option Heard → List ℕ → List ℕ
gave None bytes = []
gave (Some (heard.Bytes n)) bytes = take n bytes
gave (Some heard.Nothing) bytes = []
gave (Some heard.End) bytes = []

-- A receive leaves the connections behind, and of this one what it didn't give.
record Leaves (left : List Item) (bytes : List ℕ) (answer : Option Heard × List Item) : Type 0 where
  wires_left : wires left ≡ wires answer.1
  bytes_left : bytes_in left ≡ gave answer.0 bytes ++ bytes_in answer.1

of_leaves : (space : ℕ) (item : Item) (rest : List Item) → Leaves (item ∷ rest) (bytes_of item) (hears_of space item rest)
of_leaves space items.Open rest = record { wires_left = refl; bytes_left = refl }
of_leaves space items.Refuse rest = record { wires_left = refl; bytes_left = refl }
of_leaves space (items.Room count) rest = record { wires_left = refl; bytes_left = refl }
of_leaves space (items.Hear bytes) rest =
    let n = min (length bytes) space in
    record { wires_left = refl; bytes_left = ap (λ bs. bs ++ bytes_in rest) (sym (take-append-drop n bytes)) ∙ append_assoc (take n bytes) (drop n bytes) (bytes_in rest) }
of_leaves space (items.Quiet count) rest = record { wires_left = refl; bytes_left = refl }
of_leaves space items.End rest = record { wires_left = refl; bytes_left = refl }
of_leaves space items.Fail rest = record { wires_left = refl; bytes_left = refl }

at_leaves : (space : ℕ) (left : List Item) → Leaves left (bytes_at left) (hears_at space left)
at_leaves space [] = record { wires_left = refl; bytes_left = refl }
at_leaves space (item ∷ rest) = of_leaves space item rest

hears_leaves : (space : ℕ) (left : List Item) → Leaves left (present left) (hears space left)
hears_leaves space left =
    let h = at_leaves space (next left) in
    let to = next_same left in
    record { wires_left = sym to.wires_same ∙ h.wires_left; bytes_left = sym to.bytes_same ∙ h.bytes_left }

-- An opening that succeeds begins the next connection, and one that fails stands at the next opening.
abbrev Begins : List Item → Bool × List Item → Type 0
Begins left (true, rest) = wires left ≡ bytes_in rest ∷ wires rest
Begins left (false, rest) = (wires left ≡ wires rest) × (bytes_in rest ≡ [])

begins_at : (left : List Item) → Begins left (opens_at left)
begins_at [] = (refl, refl)
begins_at (items.Open ∷ rest) = refl
begins_at (items.Refuse ∷ rest) = (sym (wires_closed rest), none_closed rest)
begins_at (items.Room count ∷ rest) = (sym (wires_closed rest), none_closed rest)
begins_at (items.Hear bytes ∷ rest) = (sym (wires_closed rest), none_closed rest)
begins_at (items.Quiet count ∷ rest) = (sym (wires_closed rest), none_closed rest)
begins_at (items.End ∷ rest) = (sym (wires_closed rest), none_closed rest)
begins_at (items.Fail ∷ rest) = (sym (wires_closed rest), none_closed rest)

begins_as : (left others : List Item) (answer : Bool × List Item) → wires left ≡ wires others → Begins others answer → Begins left answer
begins_as left others (true, rest) e h = e ∙ h
begins_as left others (false, rest) e h = (e ∙ h.0, h.1)

opens_begins : (left : List Item) → Begins left (opens left)
opens_begins left = begins_as left (closed left) (opens left) (sym (wires_closed left)) (begins_at (closed left))

-- ---- What was given so far

abbrev Front : List ℕ → List ℕ → Type 0
Front bytes front = IsFront front bytes

-- the present connection gave a front, and what is left follows it
abbrev Last : List Item → List ℕ → List ℕ → Type 0
Last left bytes front = IsFront (front ++ bytes_in left) bytes

shorter : (left : List Item) (bytes front : List ℕ) → Last left bytes front → Front bytes front
shorter left bytes front (rest, e) = (bytes_in left ++ rest, e ∙ append_assoc front (bytes_in left) rest)

-- The connections that were begun, and those that are left, are those of the tape.
record IsFronting (tape left : List Item) (given : List (List ℕ)) : Type 0 where
  begun_ones : List (List ℕ)
  all : wires tape ≡ begun_ones ++ wires left
  fronts : TiedBut Front (Last left) begun_ones given

-- none of the present connection's bytes, or some of them
goes_on : (left rest : List Item) (some : List ℕ) (bytes front : List ℕ) → bytes_in left ≡ some ++ bytes_in rest → Last left bytes front → Last rest bytes (front ++ some)
goes_on left rest some bytes front e (more, is) = (more, is ∙ ap (λ bs. (front ++ bs) ++ more) e ∙ ap (λ bs. bs ++ more) (sym (append_assoc front some (bytes_in rest))))

stays_on : (left rest : List Item) (bytes front : List ℕ) → bytes_in left ≡ bytes_in rest → Last left bytes front → Last rest bytes front
stays_on left rest bytes front e (more, is) = (more, is ∙ ap (λ bs. (front ++ bs) ++ more) e)

ends_on : (left rest : List Item) (bytes front : List ℕ) → bytes_in rest ≡ [] → Last left bytes front → Last rest bytes front
ends_on left rest bytes front none h =
    let (more, is) = shorter left bytes front h in
    (more, is ∙ ap (λ bs. bs ++ more) (sym (append-nil front) ∙ ap (λ bs. front ++ bs) (sym none)))

module _ (tape : List Item) where
  abbrev Holds : World → Type 0
  Holds w = IsFronting tape w.items w.given

  -- what was left unused is gone
  emptied_on : (left rest : List Item) (given : List (List ℕ)) → wires left ≡ wires rest → bytes_in rest ≡ [] → IsFronting tape left given → IsFronting tape rest given
  emptied_on left rest given connections none h =
      record {
        begun_ones = h.begun_ones;
        all = h.all ∙ ap (λ ws. h.begun_ones ++ ws) connections;
        fronts = turned Front (Last left) (Last rest) (λ whole front. ends_on left rest whole front none) h.begun_ones given h.fronts;
      }

  quiet_on : (left rest : List Item) (given : List (List ℕ)) → wires left ≡ wires rest → bytes_in left ≡ bytes_in rest → IsFronting tape left given → IsFronting tape rest given
  quiet_on left rest given connections bytes h =
      record {
        begun_ones = h.begun_ones;
        all = h.all ∙ ap (λ ws. h.begun_ones ++ ws) connections;
        fronts = turned Front (Last left) (Last rest) (λ whole front. stays_on left rest whole front bytes) h.begun_ones given h.fronts;
      }

  given_on : (left rest : List Item) (given : List (List ℕ)) (some : List ℕ) → wires left ≡ wires rest → bytes_in left ≡ some ++ bytes_in rest → IsFronting tape left given → IsFronting tape rest (onto_last given some)
  given_on left rest given some connections bytes h =
      record {
        begun_ones = h.begun_ones;
        all = h.all ∙ ap (λ ws. h.begun_ones ++ ws) connections;
        fronts = bytes_on Front (Last left) (Last rest) some (λ whole front. goes_on left rest some whole front bytes) h.begun_ones given h.fronts;
      }

  begun_on : (left rest : List Item) (given : List (List ℕ)) → wires left ≡ bytes_in rest ∷ wires rest → IsFronting tape left given → IsFronting tape rest (given ++ [] ∷ [])
  begun_on left rest given connections h =
      record {
        begun_ones = h.begun_ones ++ bytes_in rest ∷ [];
        all = h.all ∙ ap (λ ws. h.begun_ones ++ ws) connections ∙ sym (append_assoc h.begun_ones (bytes_in rest ∷ []) (wires rest));
        fronts = one_more Front (Last left) (Last rest) (bytes_in rest) [] (shorter left) ([], sym (append-nil (bytes_in rest))) h.begun_ones given h.fronts;
      }

  carried : (now : ℕ) → IsCarried now Any Holds
  carried now =
      record {
        arrived = λ packet. tt;
        rejected = λ reason bad. tt;
        entry_on = λ w cause found of e h. h;
        failed_on = λ w h. h;
        fault_on = λ w found e h. h;
        shut_on = λ w h. emptied_on w.items (closed w.items) w.given (sym (wires_closed w.items)) (none_closed w.items) h;
        wire_on = λ w bytes h. h;
        stream_on = λ w stream h. h;
        busy_on = λ w h. h;
      }

  received_on : (now : ℕ) (w : World) (bytes : List ℕ) (answer : Option Heard × List Item) → Leaves w.items bytes answer → Holds w → Holds (received_by w now bytes answer)
  received_on now w bytes (Some (heard.Bytes n), rest) leaves h =
      let v = record w { items = rest; given = onto_last w.given (take n bytes); stream = fed_to w.stream (take n bytes); idle = 0 } in
      hands_on now Any Holds (carried now) (length v.stream.rest + 1) v (given_on w.items rest w.given (take n bytes) leaves.wires_left leaves.bytes_left h)
  received_on now w bytes (Some heard.Nothing, rest) leaves h =
      idles_on now Any Holds (carried now) (record w { items = rest; idle = at_most 10000 (w.idle + 1); counts = with_nothing w.counts }) tt (quiet_on w.items rest w.given leaves.wires_left leaves.bytes_left h)
  received_on now w bytes (Some heard.End, rest) leaves h =
      noted_on now Any Holds (carried now) (record w { items = rest; counts = with_end w.counts }) (c.Broke why.End) tt (quiet_on w.items rest w.given leaves.wires_left leaves.bytes_left h)
  received_on now w bytes (None, rest) leaves h =
      noted_on now Any Holds (carried now) (failed (record w { items = rest })) (c.Broke why.Fault) tt (quiet_on w.items rest w.given leaves.wires_left leaves.bytes_left h)

  receives_on : (now : ℕ) (w : World) → Holds w → Holds (receives w now)
  unfolding receives
  receives_on now w h = received_on now w (present w.items) (hears 4096 w.items) (hears_leaves 4096 w.items) h

  opened_on : (now : ℕ) (w : World) (answer : Bool × List Item) → Begins w.items answer → Holds w → Holds (opened_by w now answer)
  opened_on now w (true, rest) begins h =
      let v = record w { items = rest; room = room_at rest; taken = w.taken ++ [] ∷ []; given = w.given ++ [] ∷ []; stream = fresh; idle = 0 } in
      entered_on now Any Holds (carried now) v c.Opened tt (begun_on w.items rest w.given begins h)
  opened_on now w (false, rest) begins h =
      noted_on now Any Holds (carried now) (failed (record w { items = rest })) (c.Broke why.Fault) tt (emptied_on w.items rest w.given begins.0 begins.1 h)

  opening_on : (now : ℕ) (w : World) → Holds w → Holds (opening w now)
  unfolding opening
  opening_on now w h = opened_on now w (opens w.items) (opens_begins w.items) h

  walked : (now : ℕ) → IsWalked now Holds
  walked now =
      record {
        due_on = λ w cause e h. entered_on now Any Holds (carried now) w cause tt h;
        submits_on = λ w request h. entered_on now Any Holds (carried now) w _ tt h;
        receives_on = receives_on now;
        opening_on = opening_on now;
        lines_on = λ w lines h. h;
        listened_on = λ w count h. h;
      }

  round_on : (w : World) → Holds w → Holds (round w)
  round_on w h = let now = step_reading w.clock.step w.clock.calls in walk_on now Holds (walked now) (record w { clock = after_reading w.clock }) h

  by_end : (ended : Bool) (w v : World) → Holds w → Holds v → Holds (cond ended w v)
  by_end true w v h g = h
  by_end false w v h g = g

  after_on : (n : ℕ) (w : World) → Holds w → Holds (after n w)
  after_on zero w h = h
  after_on (suc n) w h = by_end (has_ended w) w (after n (round w)) h (after_on n (round w) (round_on w h))

-- ---- The law

fronts_of : (wholes others fronts : List (List ℕ)) → EachTied Front wholes fronts → AreFronts fronts (wholes ++ others)
fronts_of [] others [] h = tt
fronts_of [] others (front ∷ fronts) h = absurd h
fronts_of (whole ∷ wholes) others [] h = tt
fronts_of (whole ∷ wholes) others (front ∷ fronts) h = (h.0, fronts_of wholes others fronts h.1)

heard_after : (n : ℕ) (setup : Setup) (sizes : Sizes) (tick : ℕ) (lines : List Line) (tape : List Item) → AreFronts (after n (begun setup sizes tick lines tape)).given (wires tape)
heard_after n setup sizes tick lines tape =
    let start = begun setup sizes tick lines tape in
    let w = after n start in
    let h : IsFronting tape w.items w.given = after_on tape n start (record { begun_ones = []; all = refl; fronts = tt }) in
    subst (AreFronts w.given) (sym h.all) (fronts_of h.begun_ones (wires w.items) w.given (each_tied Front (Last w.items) (shorter w.items) h.begun_ones w.given h.fronts))

pub replays_hear_their_tape : ReplaysHearTheirTape
replays_hear_their_tape setup sizes tick lines tape w leads = subst (λ (v : World). AreFronts v.given (wires tape)) leads.is (heard_after leads.rounds setup sizes tick lines tape)

-- The link's counts rose by what the journal says.
use Rattle.std.proofs.Common.{◌≡◌, ℕ, zero, suc, ◌+◌, Bool, true, false, cond, List, [], ◌∷◌, ◌++◌, length, take, Option, Some, None, is_some, refl, arith}
use Rattle.std.specs.Prelude.{nat_le}
use Rattle.std.proofs.lemmas.Bool.{leb-true}
use Rattle.mqtt_packet.specs.Steps.{fed_to}
use Rattle.agent_link.specs.declared.link.Heard.{Heard}
use Rattle.agent_link.specs.declared.link.Heard.TheVariants as heard
use Rattle.agent_link.specs.Clocks.{step_reading, after_reading}
use Rattle.agent_link.specs.Counts.{with_end, with_fault, with_nothing, uncounted}
use Rattle.agent_link.specs.Wires.{onto_last}
use Rattle.broker_tape.specs.declared.tape.Item.{Item}
use Rattle.broker_tape.specs.Playing.{hears, present, opens, room_at}
use Rattle.agent_journal.specs.declared.entry.Cause.{Cause}
use Rattle.agent_journal.specs.declared.entry.Cause.TheVariants as c
use Rattle.agent_journal.specs.declared.entry.Why.TheVariants as why
use Rattle.agent_journal.specs.declared.request.Request.{Request}
use Rattle.agent_journal.specs.Readings.{takes_of}
use Rattle.agent_table.specs.Histories.{readings, due_by}
use Rattle.agent_table.specs.Readings.{at_most}
use Rattle.agent_table.specs.Ties.{IsCounted}
use Rattle.replay_rounds.specs.World.{World, row_in}
use Rattle.agent_ties.specs.Seen.{fresh}
use Rattle.replay_rounds.specs.Entering.{noted, failed, entered}
use Rattle.replay_rounds.specs.Lines.{submits}
use Rattle.replay_rounds.specs.Receiving.{idles, received_by, receives}
use Rattle.replay_rounds.specs.Rounds.{opened_by, opening, round, has_ended, after}
use Rattle.agent_ties.specs.Counting.{HasCounted, IsUncounted}
use Rattle.agent_ties.proofs.Counting.{no_less, same_later, bad_uncounted, due_uncounted, later_counted, failed_counted, ended_counted, nothing_counted, is_counted, plain_counted, fault_counted, end_counted, idle_counted, opened_counted}
use Rattle.agent_ties.proofs.Dues.{due_is}
use Rattle.replay_rounds.proofs.Kept.{IsCarried, noted_with, faulted_on, entered_with, entered_on, hands_on, by_choice, IsWalked, walk_on}

-- The link's counts rose by what the journal says, at least.
abbrev pub Counts : World → Type 0
Counts w = HasCounted w.setup w.sizes w.past w.idle uncounted w.counts

-- the present connection has been silent for no longer
busy : (w : World) → Counts w → Counts (record w { idle = 0 })
busy w h = later_counted w.setup w.sizes w.past uncounted w.idle 0 w.counts w.counts (omega arith) (same_later w.counts) h

module _ (now : ℕ) where
  carried : IsCarried now IsUncounted Counts
  carried =
      record {
        arrived = λ packet. record { opened = refl; fault = refl; end = refl; idle = refl };
        rejected = bad_uncounted;
        entry_on = λ w cause found other e h. plain_counted w.setup w.sizes w.past uncounted now cause found e w.idle w.counts other h;
        failed_on = λ w h. failed_counted w.setup w.sizes w.past uncounted w.idle w.counts h;
        fault_on = λ w found e h. fault_counted w.setup w.sizes w.past uncounted now found e w.idle w.counts (with_fault w.counts) (omega arith) (no_less w.counts.ends) (no_less w.counts.nothings) h;
        shut_on = λ w h. h;
        wire_on = λ w bytes h. h;
        stream_on = λ w stream h. h;
        busy_on = λ w h. busy w h;
      }

  fails : (w : World) → Counts w → Counts (noted (failed w) now (c.Broke why.Fault))
  fails w h = faulted_on now IsUncounted Counts carried w h

  enters : (w : World) (cause : Cause) → IsUncounted cause → Counts w → Counts (entered w now cause)
  enters w cause other h = entered_on now IsUncounted Counts carried w cause other h

  -- ---- Receives

  -- the connection has ended
  ended : (w : World) → Counts w → (let u = record w { counts = with_end w.counts } in Counts (noted u now (c.Broke why.End)))
  ended w h =
      let u = record w { counts = with_end w.counts } in
      noted_with now IsUncounted Counts carried u (c.Broke why.End) (ended_counted w.setup w.sizes w.past uncounted w.idle w.counts h)
      (λ found e. end_counted w.setup w.sizes w.past uncounted now found e w.idle w.counts (with_end w.counts) (no_less w.counts.faults) (omega arith) (no_less w.counts.nothings) h)

  -- nothing was heard
  silent : (w : World) → Counts w → Counts (record w { idle = at_most 10000 (w.idle + 1); counts = with_nothing w.counts })
  silent w h = nothing_counted w.setup w.sizes w.past uncounted w.idle w.counts (with_nothing w.counts) (no_less w.counts.faults) (no_less w.counts.ends) (omega arith) h

  -- ten thousand times in a row, and the connection counts as broken
  idles_counted : (w : World) → Counts w → Counts (idles w now)
  idles_counted w h = by (nat_le 10000 w.idle) refl
    where
      by : (b : Bool) → nat_le 10000 w.idle ≡ b → Counts (cond b (noted w now (c.Broke why.Idle)) w)
      by true e = noted_with now IsUncounted Counts carried w (c.Broke why.Idle) h (λ found is. idle_counted w.setup w.sizes w.past uncounted now found is w.idle w.counts (leb-true 10000 w.idle e) h)
      by false e = h

  received_counted : (w : World) (bytes : List ℕ) (answer : Option Heard × List Item) → Counts w → Counts (received_by w now bytes answer)
  received_counted w bytes (Some (heard.Bytes n), rest) h =
      let u = record w { items = rest; given = onto_last w.given (take n bytes); stream = fed_to w.stream (take n bytes); idle = 0 } in
      hands_on now IsUncounted Counts carried (length u.stream.rest + 1) u (busy w h)
  received_counted w bytes (Some heard.Nothing, rest) h = idles_counted (record w { items = rest; idle = at_most 10000 (w.idle + 1); counts = with_nothing w.counts }) (silent w h)
  received_counted w bytes (Some heard.End, rest) h = ended (record w { items = rest }) h
  received_counted w bytes (None, rest) h = fails (record w { items = rest }) h

  receives_counted : (w : World) → Counts w → Counts (receives w now)
  unfolding receives
  receives_counted w h = received_counted w (present w.items) (hears 4096 w.items) h

  -- ---- Lines

  submits_counted : (w : World) (request : Request) → Counts w → Counts (submits w now request)
  submits_counted w request h = enters w (c.Take 0 (takes_of 0 w.past) request) (record { opened = refl; fault = refl; end = refl; idle = refl }) h

  -- ---- Openings

  opened_counted_by : (w : World) (next : Bool × List Item) → Counts w → Counts (opened_by w now next)
  opened_counted_by w (true, rest) h =
      let u = record w { items = rest; room = room_at rest; taken = w.taken ++ [] ∷ []; given = w.given ++ [] ∷ []; stream = fresh; idle = 0 } in
      entered_with now IsUncounted Counts carried u c.Opened (busy w h) (λ found e. opened_counted w.setup w.sizes w.past uncounted now found e w.idle w.counts h)
  opened_counted_by w (false, rest) h = fails (record w { items = rest }) h

  opening_counted : (w : World) → Counts w → Counts (opening w now)
  unfolding opening
  opening_counted w h = opened_counted_by w (opens w.items) h

  -- ---- Rounds

  due_counted : (w : World) (cause : Cause) → due_by w.setup w.sizes (readings w.setup w.sizes w.past) now ≡ Some cause → Counts w → Counts (entered w now cause)
  due_counted w cause e h =
      enters w cause (due_uncounted (λ x. is_some (row_in w now x)) cause (due_is w.setup w.sizes (readings w.setup w.sizes w.past) now cause e)) h

  walked : IsWalked now Counts
  walked =
      record {
        due_on = due_counted;
        submits_on = submits_counted;
        receives_on = receives_counted;
        opening_on = opening_counted;
        lines_on = λ w lines h. h;
        listened_on = λ w count h. h;
      }

round_counted : (w : World) → Counts w → Counts (round w)
round_counted w h = let now = step_reading w.clock.step w.clock.calls in walk_on now Counts (walked now) (record w { clock = after_reading w.clock }) h

after_counted : (n : ℕ) (w : World) → Counts w → Counts (after n w)
after_counted zero w h = h
after_counted (suc n) w h = by_choice Counts (has_ended w) w (after n (round w)) h (after_counted n (round w) (round_counted w h))

-- what the link of a replay has counted behind so many rounds
pub counted_after : (n : ℕ) (w : World) → Counts w → IsCounted (after n w).past uncounted (after n w).counts
counted_after n w h = let v = after n w in is_counted v.setup v.sizes v.past uncounted v.idle v.counts (after_counted n w h)

-- The ties of a journal to its link, followed through a round.
use Rattle.std.proofs.Common.{◌≡◌, ℕ, ◌<◌, ◌≤◌, true, false, List, length, Option, Some, None, refl, sym, subst}
use Rattle.mqtt_packet.specs.declared.packet.Packet.{Packet}
use Rattle.mqtt_packet.specs.declared.splitter.Next.{Next}
use Rattle.mqtt_packet.specs.declared.splitter.Next.TheVariants as answers
use Rattle.mqtt_packet.specs.Splitting.{Kept as Stream}
use Rattle.mqtt_packet.specs.Steps.{next_of}
use Rattle.agent_journal.specs.declared.entry.Cause.{Cause}
use Rattle.agent_journal.specs.declared.entry.Cause.TheVariants as c
use Rattle.agent_journal.specs.declared.entry.Why.{Why}
use Rattle.agent_journal.specs.declared.entry.Why.TheVariants as why
use Rattle.agent_journal.specs.Readings.{last_time_of}
use Rattle.agent_journal.specs.Wires.{is_opened}
use Rattle.agent_table.specs.Rows.{Row}
use Rattle.agent_table.specs.Ties.{Moment, arrived, listens, is_bad_bytes, Rejects}
use Rattle.agent_ties.specs.Ties.{Ties, Handing}
use Rattle.agent_ties.proofs.Present.{packet_row}
use Rattle.agent_ties.proofs.Keeping.{plain_whole, plain_part, broke_ties, packet_whole, packet_part}
use Rattle.agent_ties.proofs.Rejecting.{rejected_there, rejected_ties}
use Rattle.replay_rounds.specs.World.{World, phase_in, row_in}
use Rattle.replay_rounds.specs.Entering.{entered, entered_by, noted}
use Rattle.broker_tape.specs.Given.{GivesBytes}
use Rattle.replay_rounds.specs.Receiving.{handed}
use Rattle.replay_rounds.proofs.Given.{closed_gives}
use Rattle.agent_ties.proofs.Handed.{shorter, next_bad, next_long, none_left}
use Rattle.agent_ties.specs.Heard.{AreHanding, IsGoing, IsPlain}
use Rattle.replay_rounds.proofs.Kept.{IsCarried, Any, entered_on, noted_on}
use Rattle.replay_rounds.proofs.Seen.{seen, noted_seen, entered_seen}
use Rattle.agent_ties.specs.Wired.{AreWired}

pub record Holds (w : World) : Type 0 where
  pub ties : Ties (seen w)
  pub gives : GivesBytes w.items

module _ (now : ℕ) where
  pub gives_on : IsCarried now Any (λ w. GivesBytes w.items)
  gives_on =
      record {
        arrived = λ packet. tt;
        rejected = λ reason bad. tt;
        entry_on = λ w cause found of e h. h;
        failed_on = λ w h. h;
        fault_on = λ w found e h. h;
        shut_on = λ w h. closed_gives w.items h;
        wire_on = λ w bytes h. h;
        stream_on = λ w stream h. h;
        busy_on = λ w h. h;
      }

  -- ---- Plain entries

  entered_ties : (w : World) (cause : Cause) (found : Row) → row_in w now cause ≡ Some found → is_opened cause ≡ false → IsPlain cause → Ties (seen w) → Ties (seen (entered w now cause))
  entered_ties w cause found e other plain h =
      entered_seen now w cause found e Ties (plain_whole now (seen w) cause found e other plain h) (plain_part now (seen w) cause found e other plain h)

  entered_of : (w : World) (cause : Cause) (r : Option Row) → row_in w now cause ≡ r → is_opened cause ≡ false → IsPlain cause → Ties (seen w) → Ties (seen (entered w now cause))
  entered_of w cause None e other plain h = subst (λ r. Ties (seen (entered_by w now cause r))) (sym e) h
  entered_of w cause (Some found) e other plain h = entered_ties w cause found e other plain h

  pub entered_holds : (w : World) (cause : Cause) → is_opened cause ≡ false → IsPlain cause → Holds w → Holds (entered w now cause)
  entered_holds w cause other plain h =
      record { ties = entered_of w cause (row_in w now cause) refl other plain h.ties; gives = entered_on now Any (λ v. GivesBytes v.items) gives_on w cause tt h.gives }

  pub noted_holds : (w : World) (reason : Why) → is_bad_bytes reason ≡ false → Holds w → Holds (noted w now (c.Broke reason))
  noted_holds w reason plain h =
      record {
        ties =
            noted_seen Ties now w (c.Broke reason) (λ none. h.ties)
            (λ found e. broke_ties now (seen w) reason found e plain h.ties);
        gives = noted_on now Any (λ v. GivesBytes v.items) gives_on w (c.Broke reason) tt h.gives;
      }

  -- ---- Packets that are handed in

  module _ (w : World) (new : Stream) (on : listens (phase_in w) ≡ true) (wired : AreWired (seen w)) (handing : AreHanding (seen w)) (time : last_time_of w.past ≤ now)
      (ms : List Moment) (bs : List ℕ) (going : IsGoing w.stream ms bs) where
    abbrev u : World
    u = record w { stream = new }

    packet_in : (packet : Packet) → (answers.Packet packet, new) ≡ next_of w.stream → Handing now new (seen (entered u now (c.Arrived packet)))
    packet_in packet e =
        let (found, is) = packet_row now (seen w) new on time ms bs going packet e in
        entered_seen now u (c.Arrived packet) found is (Handing now new) (packet_whole now (seen w) new packet found on wired handing e is) (packet_part now (seen w) new packet found on wired handing e is)

    bad_in : (reason : Why) → is_bad_bytes reason ≡ true → ((xs : List Moment) (ys : List ℕ) → IsGoing w.stream xs ys → Rejects ys (arrived xs) reason) → Ties (seen (noted u now (c.Broke reason)))
    bad_in reason bad says =
        noted_seen Ties now u (c.Broke reason) (λ none. absurd (rejected_there now (seen w) on time reason bad none)) (λ found e. rejected_ties now (seen w) new on wired handing reason bad says found e)

    pub handed_in : (rest : World → World) (next : Next) → (next, new) ≡ next_of w.stream → ((v : World) → Handing now new (seen v) → length new.rest < length w.stream.rest → Ties (seen (rest v))) → Ties (seen (handed w now rest (next, new)))
    handed_in rest (answers.Packet packet) e on_rest = on_rest (entered u now (c.Arrived packet)) (packet_in packet e) (shorter w.stream new ms bs packet going e)
    handed_in rest answers.More e on_rest = record { wired = wired; heard = none_left (seen w) on new handing e }
    handed_in rest (answers.Bad at) e on_rest = bad_in (why.Bad at) refl (λ xs ys g. next_bad w.stream new xs ys g at e)
    handed_in rest (answers.TooLong at len) e on_rest = bad_in (why.TooLong len) refl (λ xs ys g. next_long w.stream new xs ys g at len e)

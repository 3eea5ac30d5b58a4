-- What an entry leaves of the ties: all of its packets on the wire, or less and a fault behind it.
use Rattle.std.proofs.Common.{◌≡◌, ℕ, ◌<◌, true, false, [], ◌∷◌, ◌++◌, length, take, Some, refl, arith}
use Rattle.mqtt_packet.specs.declared.packet.Packet.{Packet}
use Rattle.mqtt_packet.specs.declared.splitter.Next.TheVariants as answers
use Rattle.mqtt_packet.specs.Splitting.{Kept as Stream}
use Rattle.mqtt_packet.specs.Steps.{next_of}
use Rattle.agent_link.specs.Wires.{onto_last}
use Rattle.agent_journal.specs.declared.entry.Cause.{Cause}
use Rattle.agent_journal.specs.declared.entry.Cause.TheVariants as c
use Rattle.agent_journal.specs.declared.entry.Why.{Why}
use Rattle.agent_journal.specs.declared.entry.Why.TheVariants as why
use Rattle.agent_journal.specs.Wires.{is_opened, sent_in}
use Rattle.agent_table.specs.Rows.{Row}
use Rattle.agent_table.specs.Ties.{is_bad_bytes, listens}
use Rattle.agent_ties.specs.Heard.{AreHanding, IsPlain}
use Rattle.agent_ties.specs.Seen.{Seen, phase_seen, row_seen, with_entry, with_bytes, fresh}
use Rattle.agent_ties.specs.Ties.{Ties, Handing}
use Rattle.agent_ties.specs.Wired.{AreWired}
use Rattle.agent_ties.proofs.Handed.{one_left, arrived_on, arrived_cut, opened_heard}
use Rattle.agent_ties.proofs.Heard.{heard_on}
use Rattle.agent_ties.proofs.Wired.{wired_on, parts_on, cut_on, noted_wired, opened_whole, opened_part}

-- ---- An entry of no packet, no connection and no bad bytes

module _ (now : ℕ) (v : Seen) (cause : Cause) (found : Row) (e : row_seen v now cause ≡ Some found) (other : is_opened cause ≡ false) (plain : IsPlain cause) (h : Ties v) where
  pub plain_whole : Ties (with_bytes (with_entry v now cause found) (sent_in found.effects))
  plain_whole = record { wired = wired_on now v cause found e other h.wired; heard = heard_on now v cause found e other plain h.heard }

  pub plain_part : (k : ℕ) (second : Row) → k < length (sent_in found.effects) → row_seen (with_entry v now cause found) now (c.Broke why.Fault) ≡ Some second
      → Ties (with_entry (with_bytes (with_entry v now cause found) (take k (sent_in found.effects))) now (c.Broke why.Fault) second)
  plain_part k second less is =
      record {
        wired = cut_on now v cause found e k second (onto_last v.taken (take k (sent_in found.effects))) less is (parts_on now v cause found e other h.wired k less);
        heard = heard_on now (with_entry v now cause found) (c.Broke why.Fault) second is refl (refl, refl) (heard_on now v cause found e other plain h.heard);
      }

-- a break that no bytes caused
pub broke_ties : (now : ℕ) (v : Seen) (reason : Why) (found : Row) → row_seen v now (c.Broke reason) ≡ Some found → is_bad_bytes reason ≡ false → Ties v → Ties (with_entry v now (c.Broke reason) found)
broke_ties now v reason found e plain h = record { wired = noted_wired now v reason found e h.wired; heard = heard_on now v (c.Broke reason) found e refl (refl, plain) h.heard }

-- ---- The entry of a packet, of which the stream is told

module _ (now : ℕ) (v : Seen) (new : Stream) (packet : Packet) (found : Row) (on : listens (phase_seen v) ≡ true) (wired : AreWired v) (handing : AreHanding v) (next : (answers.Packet packet, new) ≡ next_of v.stream)
    (e : row_seen v now (c.Arrived packet) ≡ Some found) where
  abbrev told : Seen
  told = record v { stream = new }

  pub packet_whole : Handing now new (with_bytes (with_entry told now (c.Arrived packet) found) (sent_in found.effects))
  packet_whole =
      record {
        wired = wired_on now told (c.Arrived packet) found e refl wired;
        handing = arrived_on now told packet found e (one_left v on new handing packet next);
        same = refl;
        time = omega arith;
      }

  pub packet_part : (k : ℕ) (second : Row) → k < length (sent_in found.effects) → row_seen (with_entry told now (c.Arrived packet) found) now (c.Broke why.Fault) ≡ Some second
      → Handing now new (with_entry (with_bytes (with_entry told now (c.Arrived packet) found) (take k (sent_in found.effects))) now (c.Broke why.Fault) second)
  packet_part k second less is =
      record {
        wired = cut_on now told (c.Arrived packet) found e k second (onto_last v.taken (take k (sent_in found.effects))) less is (parts_on now told (c.Arrived packet) found e refl wired k less);
        handing = arrived_cut now told packet found e (one_left v on new handing packet next) (onto_last v.taken (take k (sent_in found.effects))) second is;
        same = refl;
        time = omega arith;
      }

-- ---- The entry of a connection

module _ (now : ℕ) (v : Seen) (found : Row) (e : row_seen v now c.Opened ≡ Some found) (h : Ties v) where
  abbrev begun : Seen
  begun = record v { taken = v.taken ++ [] ∷ []; given = v.given ++ [] ∷ []; stream = fresh }

  pub first_whole : Ties (with_bytes (with_entry begun now c.Opened found) (sent_in found.effects))
  first_whole = record { wired = opened_whole now v found e h.wired; heard = opened_heard now v found e h.heard }

  pub first_part : (k : ℕ) (second : Row) → k < length (sent_in found.effects) → row_seen (with_entry begun now c.Opened found) now (c.Broke why.Fault) ≡ Some second
      → Ties (with_entry (with_bytes (with_entry begun now c.Opened found) (take k (sent_in found.effects))) now (c.Broke why.Fault) second)
  first_part k second less is =
      record {
        wired = cut_on now begun c.Opened found e k second (onto_last (v.taken ++ [] ∷ []) (take k (sent_in found.effects))) less is (opened_part now v found e h.wired k);
        heard = heard_on now (with_entry begun now c.Opened found) (c.Broke why.Fault) second is refl (refl, refl) (opened_heard now v found e h.heard);
      }

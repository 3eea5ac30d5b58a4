-- The entry of what is no packet, or too long a one.
use Rattle.std.proofs.Common.{◌≡◌, ℕ, ◌≤◌, true, false, List, Some, None, is_some, sym, ap, ◌∙◌}
use Rattle.mqtt_packet.specs.Splitting.{Kept as Stream}
use Rattle.agent_journal.specs.declared.entry.Cause.TheVariants as c
use Rattle.agent_journal.specs.declared.entry.Why.{Why}
use Rattle.agent_journal.specs.declared.entry.Why.TheVariants as why
use Rattle.agent_journal.specs.Readings.{last_time_of}
use Rattle.agent_table.specs.Histories.{readings}
use Rattle.agent_table.specs.Readings.{Readings}
use Rattle.agent_table.specs.Rows.{Row}
use Rattle.agent_table.specs.Ties.{Moment, arrived, listens, is_bad_bytes, Rejects}
use Rattle.agent_ties.specs.Heard.{AreHanding, IsGoing}
use Rattle.agent_ties.specs.Seen.{Seen, phase_seen, row_seen, with_entry}
use Rattle.agent_ties.specs.Ties.{Ties}
use Rattle.agent_ties.specs.Wired.{AreWired}
use Rattle.agent_ties.proofs.Handed.{rejected, rejected_on}
use Rattle.agent_ties.proofs.Listening.{bytes_some, bytes_away}
use Rattle.agent_ties.proofs.Rows.{timely, in_time}
use Rattle.agent_ties.proofs.Wired.{noted_wired}

module _ (now : ℕ) (v : Seen) where
  abbrev r : Readings
  r = readings v.setup v.sizes v.past

  -- the agent listens no more behind it
  away : (reason : Why) → is_bad_bytes reason ≡ true → (found : Row) → row_seen v now (c.Broke reason) ≡ Some found → listens found.phase ≡ false
  away why.Fault bad found e = absurd (cc bad)
  away why.End bad found e = absurd (cc bad)
  away why.Idle bad found e = absurd (cc bad)
  away (why.Bad offset) bad found e = bytes_away v.setup v.sizes r found r.phase (in_time v.setup v.sizes r now (c.Broke (why.Bad offset)) found e)
  away (why.TooLong size) bad found e = bytes_away v.setup v.sizes r found r.phase (in_time v.setup v.sizes r now (c.Broke (why.TooLong size)) found e)
  away why.KeepAlive bad found e = absurd (cc bad)
  away why.InFull bad found e = absurd (cc bad)

  module _ (on : listens (phase_seen v) ≡ true) where
    -- it has a row
    pub rejected_there : last_time_of v.past ≤ now → (reason : Why) → is_bad_bytes reason ≡ true → row_seen v now (c.Broke reason) ≡ None → ⊥
    rejected_there time why.Fault bad none = cc bad
    rejected_there time why.End bad none = cc bad
    rejected_there time why.Idle bad none = cc bad
    rejected_there time (why.Bad offset) bad none = cc (sym (bytes_some v.setup v.sizes r on) ∙ ap is_some (sym (timely v.setup v.sizes r now (c.Broke (why.Bad offset)) time) ∙ none))
    rejected_there time (why.TooLong size) bad none = cc (sym (bytes_some v.setup v.sizes r on) ∙ ap is_some (sym (timely v.setup v.sizes r now (c.Broke (why.TooLong size)) time) ∙ none))
    rejected_there time why.KeepAlive bad none = cc bad
    rejected_there time why.InFull bad none = cc bad

module _ (now : ℕ) (v : Seen) (new : Stream) (on : listens (phase_seen v) ≡ true) (wired : AreWired v) (handing : AreHanding v) where
  pub rejected_ties : (reason : Why) → is_bad_bytes reason ≡ true → ((ms : List Moment) (bs : List ℕ) → IsGoing v.stream ms bs → Rejects bs (arrived ms) reason) → (found : Row) → row_seen v now (c.Broke reason) ≡ Some found
      → Ties (with_entry (record v { stream = new }) now (c.Broke reason) found)
  rejected_ties reason bad says found e =
      let u = record v { stream = new } in
      record { wired = noted_wired now u reason found e wired; heard = rejected_on now u reason found e (away now v reason bad found e) (rejected v on new handing reason says) }

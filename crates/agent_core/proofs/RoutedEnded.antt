-- An agent that has ended stays so.
use Rattle.std.proofs.Common.{◌≡◌, ◌≢◌, ℕ, Bool, true, false, List, [], ◌∷◌, Option, Some, None, refl, sym, subst}
use Rattle.std.specs.Prelude.{nat_le}
use Rattle.mqtt_packet.specs.Spelling.{is_sound}
use Rattle.agent_journal.specs.declared.request.Request.{Request}
use Rattle.agent_journal.specs.declared.request.Request.TheVariants as requests
use Rattle.agent_journal.specs.declared.entry.Cause.{Cause}
use Rattle.agent_journal.specs.declared.entry.Cause.TheVariants as c
use Rattle.agent_journal.specs.declared.entry.Why.{Why}
use Rattle.agent_journal.specs.declared.entry.Why.TheVariants as w
use Rattle.agent_journal.specs.declared.entry.Entry.{Entry}
use Rattle.agent_journal.specs.declared.setup.Setup.{Setup}
use Rattle.agent_journal.specs.declared.setup.Phase.{Phase}
use Rattle.agent_journal.specs.declared.setup.Phase.TheVariants.{Off}
use Rattle.agent_table.specs.Arrivals.{arrived_row, arrived_in}
use Rattle.agent_table.specs.Breaks as breaks
use Rattle.agent_table.specs.Histories.{readings, row, phase_of, phase_by}
use Rattle.agent_table.specs.Readings.{Readings}
use Rattle.agent_table.specs.Rows.{Row, when, to}
use Rattle.agent_table.specs.Sizes.{Sizes}
use Rattle.agent_table.specs.Table.{row_of, cause_row}
use Rattle.agent_table.specs.Takes as takes

abbrev OffRow : Option Row → Type 0
OffRow None = Unit {0}
OffRow (Some row) = row.phase ≡ Off

off_when : (b : Bool) (row : Option Row) → OffRow row → OffRow (when b row)
off_when true row h = h
off_when false row h = tt

module _ (s : Setup) (l : Sizes) (r : Readings) where
  off_taken : (task seq : ℕ) (request : Request) → OffRow (takes.off_row r task seq request)
  off_taken task seq (requests.Publish qos topic payload) = refl
  off_taken task seq (requests.Subscribe asks) = refl
  off_taken task seq (requests.Unsubscribe filters) = refl
  off_taken task seq requests.Ping = refl
  off_taken task seq requests.Disconnect = refl
  off_taken task seq requests.Terminate = refl
  off_taken task seq requests.Leave = refl

  off_broke : (time : ℕ) (why : Why) → r.phase ≡ Off → OffRow (breaks.broke_row s r time why)
  unfolding breaks.fault_row breaks.end_row breaks.idle_row breaks.bytes_row breaks.keep_alive_row breaks.in_full_row
  off_broke time w.Fault is = subst (λ (x : Phase). OffRow (breaks.fault_row s r x)) (sym is) (off_when r.just_sent (to Off []) refl)
  off_broke time w.End is = subst (λ (x : Phase). OffRow (breaks.end_row r x)) (sym is) tt
  off_broke time w.Idle is = subst (λ (x : Phase). OffRow (breaks.idle_row r x)) (sym is) tt
  off_broke time (w.Bad offset) is = subst (λ (x : Phase). OffRow (breaks.bytes_row s r x)) (sym is) tt
  off_broke time (w.TooLong size) is = subst (λ (x : Phase). OffRow (breaks.bytes_row s r x)) (sym is) tt
  off_broke time w.KeepAlive is = subst (λ (x : Phase). OffRow (breaks.keep_alive_row r time x)) (sym is) tt
  off_broke time w.InFull is = subst (λ (x : Phase). OffRow (breaks.in_full_row r x)) (sym is) tt

  off_cause : (time : ℕ) (cause : Cause) → r.phase ≡ Off → OffRow (cause_row s l r time cause)
  unfolding breaks.opened_row breaks.tick_row breaks.gave_up_row breaks.finish_row takes.take_row arrived_row
  off_cause time c.Opened is = subst (λ (x : Phase). OffRow (breaks.opened_row s r x)) (sym is) tt
  off_cause time (c.Take task seq request) is =
      off_when (takes.may_take s r task seq request) (takes.take_in s l r task seq request r.phase) (subst (λ (x : Phase). OffRow (takes.take_in s l r task seq request x)) (sym is) (off_taken task seq request))
  off_cause time (c.Arrived packet) is = off_when (is_sound packet) (arrived_in s l r packet r.phase) (subst (λ (x : Phase). OffRow (arrived_in s l r packet x)) (sym is) tt)
  off_cause time (c.Broke why) is = off_broke time why is
  off_cause time c.Tick is = subst (λ (x : Phase). OffRow (breaks.tick_row s r time x)) (sym is) tt
  off_cause time c.GaveUp is = subst (λ (x : Phase). OffRow (breaks.gave_up_row s r x)) (sym is) tt
  off_cause time c.Finish is = subst (λ (x : Phase). OffRow (breaks.finish_row s r x)) (sym is) tt

  off_row : (time : ℕ) (cause : Cause) → r.phase ≡ Off → OffRow (row_of s l r time cause)
  unfolding row_of
  off_row time cause is = off_when (nat_le r.last_time time) (cause_row s l r time cause) (off_cause time cause is)

off_then : (found : Option Row) (phase : Phase) → phase ≡ Off → OffRow found → phase_by found phase ≡ Off
off_then None phase is h = is
off_then (Some found) phase is h = h

-- Where it hasn't ended behind an entry, it hadn't before.
pub not_ended : (s : Setup) (l : Sizes) (past : List Entry) (e : Entry) → phase_of s l (e ∷ past) ≢ Off → phase_of s l past ≢ Off
not_ended s l past e goes is = goes (off_then (row s l past e.at e.cause) (phase_of s l past) is (off_row s l (readings s l past) e.at e.cause is))

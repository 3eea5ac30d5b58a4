-- How the agent came to Off is told in Off alone, and a Terminate by it.
use Rattle.std.proofs.Common.{◌≡◌, ◌≢◌, ℕ, Bool, true, false, cond, List, [], ◌∷◌, ◌++◌, map, Option, Some, None, is_some, refl, sym, ap, ◌∙◌, subst}
use Rattle.std.specs.Prelude.{◌&&◌, ◌||◌, ◌==◌, nat_le}
use Rattle.mqtt_packet.specs.declared.packet.Packet.{Packet}
use Rattle.mqtt_packet.specs.declared.packet.Packet.TheVariants as p
use Rattle.agent_journal.specs.declared.request.Request.{Request}
use Rattle.agent_journal.specs.declared.request.Request.TheVariants as requests
use Rattle.agent_journal.specs.declared.entry.Cause.{Cause}
use Rattle.agent_journal.specs.declared.entry.Cause.TheVariants as c
use Rattle.agent_journal.specs.declared.entry.Entry.{Entry}
use Rattle.agent_journal.specs.declared.effect.Effect.{Effect}
use Rattle.agent_journal.specs.declared.effect.Effect.TheVariants as f
use Rattle.agent_journal.specs.declared.off.OffBy.{OffBy}
use Rattle.agent_journal.specs.declared.off.OffBy.TheVariants as by
use Rattle.agent_journal.specs.declared.outcome.Outcome.{Outcome}
use Rattle.agent_journal.specs.declared.outcome.Outcome.TheVariants as o
use Rattle.agent_journal.specs.declared.setup.Setup.{Setup}
use Rattle.agent_journal.specs.declared.setup.Phase.{Phase}
use Rattle.agent_journal.specs.declared.setup.Phase.TheVariants.{Down, Opening, Up, Spilled, Off}
use Rattle.agent_journal.specs.Endings.{off_behind, is_off}
use Rattle.agent_journal.specs.Offs.{by_cause, by_packet, by_first_packet, is_terminated}
use Rattle.agent_journal.specs.Readings.{Pending}
use Rattle.agent_journal.specs.Wires.{sends}
use Rattle.agent_table.specs.Effects.{done, cancel_all, close}
use Rattle.agent_table.specs.Histories.{IsLegalPast, phase_of, phase_by, readings, row, effects_of}
use Rattle.agent_table.specs.Offs.{off_of, OffIsTold, TerminatedIsTold}
use Rattle.agent_table.specs.Readings.{Readings}
use Rattle.agent_table.specs.Rows.{Row, when}
use Rattle.agent_table.specs.Sends.{has_send, is_some_packet}
use Rattle.agent_table.specs.Sizes.{Sizes}
use Rattle.agent_table.specs.Table.{row_of, cause_row}
use Rattle.agent_table.specs.Takes as takes
use Rattle.agent_table.specs.Terminations.{terminated_of, takes_terminate, is_terminate}
use Rattle.agent_table.proofs.Staying.{StaysOff, off_row}

-- ---- A Terminate

-- one that is taken elsewhere than in Off sends and leads there
abbrev Terminates : Cause → Option Row → Type 0
Terminates cause None = Unit {0}
Terminates cause (Some row) = takes_terminate cause ≡ true → (has_send row.effects ≡ true) × (row.phase ≡ Off)

terminates_when : (cause : Cause) (b : Bool) (row : Option Row) → Terminates cause row → Terminates cause (when b row)
terminates_when cause true row h = h
terminates_when cause false row h = tt

not_terminate : (cause : Cause) (row : Option Row) → takes_terminate cause ≡ false → Terminates cause row
not_terminate cause None nay = tt
not_terminate cause (Some row) nay = λ e. absurd (cc (sym e ∙ nay))

pub sends_behind : (outcome : Outcome) (commands : List Pending) (rest : List Effect) → sends (map (done outcome) commands ++ rest) ≡ sends rest
sends_behind outcome [] rest = refl
sends_behind outcome (command ∷ commands) rest = sends_behind outcome commands rest

module _ (s : Setup) (l : Sizes) (r : Readings) where
  terminates_up : (task seq : ℕ) (request : Request) → Terminates (c.Take task seq request) (takes.up_row s l r task seq request)
  unfolding takes.disconnect_row
  terminates_up task seq (requests.Publish qos topic payload) = not_terminate (c.Take task seq (requests.Publish qos topic payload)) (takes.up_row s l r task seq (requests.Publish qos topic payload)) refl
  terminates_up task seq (requests.Subscribe asks) = not_terminate (c.Take task seq (requests.Subscribe asks)) (takes.up_row s l r task seq (requests.Subscribe asks)) refl
  terminates_up task seq (requests.Unsubscribe filters) = not_terminate (c.Take task seq (requests.Unsubscribe filters)) (takes.up_row s l r task seq (requests.Unsubscribe filters)) refl
  terminates_up task seq requests.Ping = not_terminate (c.Take task seq requests.Ping) (takes.up_row s l r task seq requests.Ping) refl
  terminates_up task seq requests.Disconnect = not_terminate (c.Take task seq requests.Disconnect) (takes.up_row s l r task seq requests.Disconnect) refl
  terminates_up task seq requests.Terminate = λ e. (ap is_some_packet (sends_behind o.Cancelled r.pending (f.Send p.Disconnect ∷ f.Done task seq o.Done ∷ close s r)), refl)
  terminates_up task seq requests.Leave = not_terminate (c.Take task seq requests.Leave) (takes.up_row s l r task seq requests.Leave) refl

  terminates_in : (task seq : ℕ) (request : Request) (phase : Phase) → is_off phase ≡ false → Terminates (c.Take task seq request) (takes.take_in s l r task seq request phase)
  terminates_in task seq request Down on = tt
  terminates_in task seq request Opening on = tt
  terminates_in task seq request Up on = terminates_up task seq request
  terminates_in task seq request Spilled on = tt
  terminates_in task seq request Off on = absurd (cc on)

  terminates_cause : (at : ℕ) (cause : Cause) → is_off r.phase ≡ false → Terminates cause (cause_row s l r at cause)
  unfolding takes.take_row
  terminates_cause at c.Opened on = not_terminate c.Opened (cause_row s l r at c.Opened) refl
  terminates_cause at (c.Take task seq request) on = terminates_when (c.Take task seq request) (takes.may_take s r task seq request) (takes.take_in s l r task seq request r.phase) (terminates_in task seq request r.phase on)
  terminates_cause at (c.Arrived packet) on = not_terminate (c.Arrived packet) (cause_row s l r at (c.Arrived packet)) refl
  terminates_cause at (c.Broke why) on = not_terminate (c.Broke why) (cause_row s l r at (c.Broke why)) refl
  terminates_cause at c.Tick on = not_terminate c.Tick (cause_row s l r at c.Tick) refl
  terminates_cause at c.GaveUp on = not_terminate c.GaveUp (cause_row s l r at c.GaveUp) refl
  terminates_cause at c.Finish on = not_terminate c.Finish (cause_row s l r at c.Finish) refl

  terminates : (at : ℕ) (cause : Cause) → is_off r.phase ≡ false → Terminates cause (row_of s l r at cause)
  unfolding row_of
  terminates at cause on = terminates_when cause (nat_le r.last_time at) (cause_row s l r at cause) (terminates_cause at cause on)

-- ---- What is told of a cause

code_told : (b : Bool) (code : ℕ) → is_terminated (Some (cond b by.Held (by.Refused code))) ≡ false
code_told true code = refl
code_told false code = refl

first_told : (packet : Packet) → is_terminated (Some (by_first_packet packet)) ≡ false
first_told (p.Connect clean keep_alive client will user password) = refl
first_told (p.ConnAck present code) = code_told (code == 0) code
first_told (p.Publish dup qos retain topic id payload) = refl
first_told (p.PubAck id) = refl
first_told (p.PubRec id) = refl
first_told (p.PubRel id) = refl
first_told (p.PubComp id) = refl
first_told (p.Subscribe id asks) = refl
first_told (p.SubAck id codes) = refl
first_told (p.Unsubscribe id filters) = refl
first_told (p.UnsubAck id) = refl
first_told p.PingReq = refl
first_told p.PingResp = refl
first_told p.Disconnect = refl

packet_told : (phase : Phase) (packet : Packet) → is_terminated (Some (by_packet phase packet)) ≡ false
packet_told Down packet = refl
packet_told Opening packet = first_told packet
packet_told Up packet = refl
packet_told Spilled packet = refl
packet_told Off packet = refl

cause_told : (phase : Phase) (cause : Cause) → is_terminated (Some (by_cause phase cause)) ≡ takes_terminate cause
cause_told phase c.Opened = refl
cause_told phase (c.Take task seq (requests.Publish qos topic payload)) = refl
cause_told phase (c.Take task seq (requests.Subscribe asks)) = refl
cause_told phase (c.Take task seq (requests.Unsubscribe filters)) = refl
cause_told phase (c.Take task seq requests.Ping) = refl
cause_told phase (c.Take task seq requests.Disconnect) = refl
cause_told phase (c.Take task seq requests.Terminate) = refl
cause_told phase (c.Take task seq requests.Leave) = refl
cause_told phase (c.Arrived packet) = packet_told phase packet
cause_told phase (c.Broke why) = refl
cause_told phase c.Tick = refl
cause_told phase c.GaveUp = refl
cause_told phase c.Finish = refl

-- ---- Of an entry

is_the_end : (phase : Phase) → is_off phase ≡ true → phase ≡ Off
is_the_end Down e = absurd (cc e)
is_the_end Opening e = absurd (cc e)
is_the_end Up e = absurd (cc e)
is_the_end Spilled e = absurd (cc e)
is_the_end Off e = refl

module _ (s : Setup) (l : Sizes) (e : Entry) (past : List Entry) (legal : effects_of (row s l past e.at e.cause) ≡ Some e.effects) where
  -- an agent that has ended stays so, and sends nothing
  stays_ended : is_off (phase_of s l past) ≡ true → (is_off (phase_of s l (e ∷ past)) ≡ true) × (has_send e.effects ≡ false)
  stays_ended was = go (row s l past e.at e.cause) refl legal
    where
      go : (found : Option Row) → row s l past e.at e.cause ≡ found → effects_of found ≡ Some e.effects → (is_off (phase_of s l (e ∷ past)) ≡ true) × (has_send e.effects ≡ false)
      go None made has = absurd (cc has)
      go (Some found) made has =
          let stays : StaysOff (Some found) = subst StaysOff made (off_row s l (readings s l past) e.at e.cause (is_the_end (phase_of s l past) was)) in
          let same : found.effects ≡ e.effects = cc in
          (ap (λ (x : Option Row). is_off (phase_by x (phase_of s l past))) made ∙ ap is_off stays.0, ap has_send (sym same) ∙ ap is_some_packet stays.1)

  -- a Terminate sends and ends
  ends_by : is_off (phase_of s l past) ≡ false → takes_terminate e.cause ≡ true → (has_send e.effects ≡ true) × (is_off (phase_of s l (e ∷ past)) ≡ true)
  ends_by on takes = go (row s l past e.at e.cause) refl legal
    where
      go : (found : Option Row) → row s l past e.at e.cause ≡ found → effects_of found ≡ Some e.effects → (has_send e.effects ≡ true) × (is_off (phase_of s l (e ∷ past)) ≡ true)
      go None made has = absurd (cc has)
      go (Some found) made has =
          let its : Terminates e.cause (Some found) = subst (Terminates e.cause) made (terminates s l (readings s l past) e.at e.cause on) in
          let same : found.effects ≡ e.effects = cc in
          (ap has_send (sym same) ∙ (its takes).0, ap (λ (x : Option Row). is_off (phase_by x (phase_of s l past))) made ∙ ap is_off (its takes).1)

-- ---- Of a journal

told_behind : (before behind : Bool) (here : OffBy) (off : Option OffBy) → is_some off ≡ before → (before ≡ true → behind ≡ true) → is_some (cond before off (cond behind (Some here) None)) ≡ behind
told_behind true behind here off e stays = e ∙ sym (stays refl)
told_behind false true here off e stays = refl
told_behind false false here off e stays = refl

pub off_is_told : OffIsTold
off_is_told s l [] legal = refl
off_is_told s l (e ∷ past) legal =
    told_behind (is_off (phase_of s l past)) (is_off (phase_of s l (e ∷ past))) (by_cause (phase_of s l past) e.cause) (off_of s l past) (off_is_told s l past legal.1) (λ was. (stays_ended s l e past legal.0 was).0)

silent : (takes sent was : Bool) → sent ≡ false → (takes && sent || was) ≡ was
silent true sent was e = ap (λ b. b || was) e
silent false sent was e = refl

none_before : (off : Option OffBy) → is_some off ≡ false → is_terminated off ≡ false
none_before None e = refl
none_before (Some by) e = absurd (cc e)

begun : (behind takes sent was : Bool) (here : OffBy) → was ≡ false → is_terminated (Some here) ≡ takes → (takes ≡ true → (sent ≡ true) × (behind ≡ true)) → (takes && sent || was) ≡ is_terminated (cond behind (Some here) None)
begun behind true sent was here nay told h = ap (λ b. b || was) (h refl).0 ∙ sym (ap (λ b. is_terminated (cond b (Some here) None)) (h refl).1 ∙ told)
begun true false sent was here nay told h = nay ∙ sym told
begun false false sent was here nay told h = nay

both : (before behind takes sent was : Bool) (here : OffBy) (off : Option OffBy) → was ≡ is_terminated off → is_some off ≡ before → is_terminated (Some here) ≡ takes → (before ≡ true → sent ≡ false)
    → (before ≡ false → takes ≡ true → (sent ≡ true) × (behind ≡ true)) → (takes && sent || was) ≡ is_terminated (cond before off (cond behind (Some here) None))
both true behind takes sent was here off same some told stays ends = silent takes sent was (stays refl) ∙ same
both false behind takes sent was here off same some told stays ends = begun behind takes sent was here (same ∙ none_before off some) told (ends refl)

pub terminated_is_told : TerminatedIsTold
terminated_is_told s l [] legal = refl
terminated_is_told s l (e ∷ past) legal =
    both (is_off (phase_of s l past)) (is_off (phase_of s l (e ∷ past))) (takes_terminate e.cause) (has_send e.effects) (terminated_of past) (by_cause (phase_of s l past) e.cause) (off_of s l past)
    (terminated_is_told s l past legal.1) (off_is_told s l past legal.1) (cause_told (phase_of s l past) e.cause)
    (λ was. (stays_ended s l e past legal.0 was).1) (λ on takes. ends_by s l e past legal.0 on takes)

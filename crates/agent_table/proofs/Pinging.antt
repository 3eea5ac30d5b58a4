-- Which PINGREQ is unanswered.
use Rattle.std.proofs.Common.{◌≡◌, ◌⊎◌, ℕ, Bool, true, false, cond, List, [], ◌∷◌, ◌++◌, Option, Some, None, refl, sym, ap, ◌∙◌}
use mathlib.Core.Logic.{inl, inr}
use Rattle.mqtt_packet.specs.declared.packet.Packet.{Packet}
use Rattle.mqtt_packet.specs.declared.packet.Packet.TheVariants as p
use Rattle.agent_journal.specs.declared.entry.Cause.{Cause}
use Rattle.agent_journal.specs.declared.entry.Cause.TheVariants as c
use Rattle.agent_journal.specs.declared.entry.Entry.{Entry}
use Rattle.agent_table.specs.Meanings.{is_response, begins_anew, NoneBeginsAnew, NonePinged, IsFirstPing, UnansweredIsFirst, FirstIsUnanswered, NoneIsUnanswered}
use Rattle.agent_table.specs.Sends.{sends_ping}
use Rattle.agent_table.specs.Sessions.{answered, answered_by, or_at, ping_of}

packet_answers : (packet : Packet) (ping : Option ℕ) → answered_by packet ping ≡ cond (is_response packet) None ping
packet_answers (p.Connect clean keep_alive client will user password) ping = refl
packet_answers (p.ConnAck present code) ping = refl
packet_answers (p.Publish dup qos retain topic id payload) ping = refl
packet_answers (p.PubAck id) ping = refl
packet_answers (p.PubRec id) ping = refl
packet_answers (p.PubRel id) ping = refl
packet_answers (p.PubComp id) ping = refl
packet_answers (p.Subscribe id asks) ping = refl
packet_answers (p.SubAck id codes) ping = refl
packet_answers (p.Unsubscribe id filters) ping = refl
packet_answers (p.UnsubAck id) ping = refl
packet_answers p.PingReq ping = refl
packet_answers p.PingResp ping = refl
packet_answers p.Disconnect ping = refl

answers : (cause : Cause) (ping : Option ℕ) → answered cause ping ≡ cond (begins_anew cause) None ping
answers c.Opened ping = refl
answers (c.Take task seq request) ping = refl
answers (c.Arrived packet) ping = packet_answers packet ping
answers (c.Broke why) ping = refl
answers c.Tick ping = refl
answers c.GaveUp ping = refl
answers c.Finish ping = refl

some_is : (a b : ℕ) → Some a ≡ Some b → a ≡ b
some_is a b e = cc

-- what a past's ping is, by cases
behind_is : (e : Entry) (past : List Entry) → ping_of (e ∷ past) ≡ cond (sends_ping e.effects) (Some (or_at (cond (begins_anew e.cause) None (ping_of past)) e.at)) (cond (begins_anew e.cause) None (ping_of past))
behind_is e past = ap (λ (ping : Option ℕ). cond (sends_ping e.effects) (Some (or_at ping e.at)) ping) (answers e.cause (ping_of past))

none_pinged : (past : List Entry) → ping_of past ≡ None → NonePinged past
none_pinged [] none = tt
none_pinged (e ∷ past) none = by (sends_ping e.effects) (begins_anew e.cause) refl refl (sym (behind_is e past) ∙ none) (none_pinged past)
  where
    by : (sends begins : Bool) → sends_ping e.effects ≡ sends → begins_anew e.cause ≡ begins → cond sends (Some (or_at (cond begins None (ping_of past)) e.at)) (cond begins None (ping_of past)) ≡ None
        → (ping_of past ≡ None → NonePinged past) → NonePinged (e ∷ past)
    by true begins is anew same rest = absurd (cc same)
    by false true is anew same rest = (is, inl anew)
    by false false is anew same rest = (is, inr (rest same))

pub none_is_unanswered : NoneIsUnanswered
none_is_unanswered [] none = refl
none_is_unanswered (e ∷ past) (sent, inl anew) = behind_is e past ∙ rw (sent, anew) refl
none_is_unanswered (e ∷ past) (sent, inr none) = behind_is e past ∙ by (begins_anew e.cause) (none_is_unanswered past none)
  where
    by : (begins : Bool) → ping_of past ≡ None → cond (sends_ping e.effects) (Some (or_at (cond begins None (ping_of past)) e.at)) (cond begins None (ping_of past)) ≡ None
    by true same = rw sent refl
    by false same = rw (sent, same) refl

longer : (e : Entry) (past : List Entry) (at : ℕ) → begins_anew e.cause ≡ false → IsFirstPing at past → IsFirstPing at (e ∷ past)
longer e past at on (later, before, first, is, time, sent, none, anew) = (e ∷ later, before, first, ap (λ (es : List Entry). e ∷ es) is, time, sent, (on, none), anew)

pub unanswered_is_first : UnansweredIsFirst
unanswered_is_first [] at is = absurd (cc is)
unanswered_is_first (e ∷ past) at is =
    by (sends_ping e.effects) (begins_anew e.cause) (ping_of past) refl refl refl (sym (behind_is e past) ∙ is) (unanswered_is_first past at)
  where
    by : (sends begins : Bool) (ping : Option ℕ) → sends_ping e.effects ≡ sends → begins_anew e.cause ≡ begins → ping_of past ≡ ping
        → cond sends (Some (or_at (cond begins None ping) e.at)) (cond begins None ping) ≡ Some at → (ping_of past ≡ Some at → IsFirstPing at past) → IsFirstPing at (e ∷ past)
    by true true ping sent anew was same rest = ([], past, e, refl, some_is e.at at same, sent, tt, inl anew)
    by true false None sent anew was same rest = ([], past, e, refl, some_is e.at at same, sent, tt, inr (none_pinged past was))
    by true false (Some time) sent anew was same rest = longer e past at anew (rest (was ∙ same))
    by false true ping sent anew was same rest = absurd (cc same)
    by false false ping sent anew was same rest = longer e past at anew (rest (was ∙ same))

first_from : (at : ℕ) (later before : List Entry) (e : Entry) → e.at ≡ at → sends_ping e.effects ≡ true → NoneBeginsAnew later → (begins_anew e.cause ≡ true) ⊎ NonePinged before → ping_of (later ++ e ∷ before) ≡ Some at
first_from at [] before e time sent none (inl anew) = behind_is e before ∙ rw (sent, anew) (ap Some time)
first_from at [] before e time sent none (inr pinged) = behind_is e before ∙ by (begins_anew e.cause) (none_is_unanswered before pinged)
  where
    by : (begins : Bool) → ping_of before ≡ None → cond (sends_ping e.effects) (Some (or_at (cond begins None (ping_of before)) e.at)) (cond begins None (ping_of before)) ≡ Some at
    by true same = rw sent (ap Some time)
    by false same = rw (sent, same) (ap Some time)
first_from at (x ∷ later) before e time sent none anew =
    behind_is x (later ++ e ∷ before) ∙ by (sends_ping x.effects) (begins_anew x.cause) none.0 (first_from at later before e time sent none.1 anew)
  where
    by : (sends begins : Bool) → begins ≡ false → ping_of (later ++ e ∷ before) ≡ Some at
        → cond sends (Some (or_at (cond begins None (ping_of (later ++ e ∷ before))) x.at)) (cond begins None (ping_of (later ++ e ∷ before))) ≡ Some at
    by sends true on same = absurd (cc on)
    by true false on same = rw same refl
    by false false on same = same

pub first_is_unanswered : FirstIsUnanswered
first_is_unanswered past at (later, before, e, is, time, sent, none, anew) = ap ping_of is ∙ first_from at later before e time sent none anew

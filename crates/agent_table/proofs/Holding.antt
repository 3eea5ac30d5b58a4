-- Which identifiers are held.
use Rattle.std.proofs.Common.{◌≡◌, ◌⊎◌, ℕ, Bool, true, false, cond, List, [], ◌∷◌, ◌++◌, filter, refl, sym, ap, ◌∙◌, subst}
use Rattle.std.specs.Prelude.{◌&&◌, ◌||◌, ◌==◌, not}
use Rattle.std.proofs.lemmas.Bool.{eqb-true, eq-eqb, and_parts}
use mathlib.Core.Logic.{inl, inr}
use Rattle.mqtt_packet.specs.declared.qos.Qos.{Qos}
use Rattle.mqtt_packet.specs.declared.qos.Qos.TheVariants.{AtMostOnce, AtLeastOnce, ExactlyOnce}
use Rattle.mqtt_packet.specs.declared.packet.Packet.{Packet}
use Rattle.mqtt_packet.specs.declared.packet.Packet.TheVariants as p
use Rattle.agent_journal.specs.declared.entry.Cause.{Cause}
use Rattle.agent_journal.specs.declared.entry.Cause.TheVariants as c
use Rattle.agent_journal.specs.declared.entry.Entry.{Entry}
use Rattle.agent_journal.specs.declared.setup.Setup.{Setup}
use Rattle.agent_journal.specs.Readings.{accepted_of}
use Rattle.agent_table.specs.Deliveries.{is_among, held_at, held_by, held_behind, held_of}
use Rattle.agent_table.specs.Meanings.{is_delivery_of, delivers, releases, StaysHeld, IsHeld, HeldAreUnreleased, UnreleasedAreHeld}
use Rattle.agent_table.specs.Sends.{sends_received}
use Rattle.agent_table.specs.Sessions.{loses_session}
use Rattle.agent_table.proofs.Awaiting.{front_among, filter_among}
use Rattle.agent_table.proofs.Received.{kept, behind_all}

-- ---- Held before, or from this entry on

abbrev Comes : List ℕ → Cause → Entry → ℕ → Type 0
Comes held cause e n = ((is_among held n ≡ true) × (releases n cause ≡ false)) ⊎ ((delivers n cause ≡ true) × (sends_received n e.effects ≡ true))

at_comes : (held : List ℕ) (dup : Bool) (qos : Qos) (retain : Bool) (topic : List ℕ) (id : ℕ) (payload : List ℕ) (e : Entry) (n : ℕ) → is_among (held_at qos id e held) n ≡ true
    → Comes held (c.Arrived (p.Publish dup qos retain topic id payload)) e n
at_comes held dup AtMostOnce retain topic id payload e n among = inl (among, refl)
at_comes held dup AtLeastOnce retain topic id payload e n among = inl (among, refl)
at_comes held dup ExactlyOnce retain topic id payload e n among = by (sends_received id e.effects && not (is_among held id)) refl among
  where
    last : sends_received id e.effects ≡ true → (is_among held n ≡ true) ⊎ (id ≡ n) → Comes held (c.Arrived (p.Publish dup ExactlyOnce retain topic id payload)) e n
    last sent (inl before) = inl (before, refl)
    last sent (inr same) = inr (eq-eqb id n same, subst (λ (k : ℕ). sends_received k e.effects ≡ true) same sent)

    by : (b : Bool) → (sends_received id e.effects && not (is_among held id)) ≡ b → is_among (cond b (held ++ id ∷ []) held) n ≡ true → Comes held (c.Arrived (p.Publish dup ExactlyOnce retain topic id payload)) e n
    by true is one = last (and_parts (sends_received id e.effects) (not (is_among held id)) is).0 (behind_all held id n one)
    by false is one = inl (one, refl)

-- what is among the numbers that aren't this one isn't this one
another : (held : List ℕ) (id n : ℕ) → is_among (filter (λ m. not (m == id)) held) n ≡ true → (id == n) ≡ false
another [] id n among = absurd (cc among)
another (m ∷ held) id n among = by (m == id) refl among (another held id n)
  where
    first : (b : Bool) → (m == n) ≡ b → (m == id) ≡ false → (b || is_among (filter (λ k. not (k == id)) held) n) ≡ true → (is_among (filter (λ k. not (k == id)) held) n ≡ true → (id == n) ≡ false) → (id == n) ≡ false
    first true same differs one rest = go (id == n) refl
      where
        go : (b : Bool) → (id == n) ≡ b → b ≡ false
        go false e = refl
        go true e = let its : m ≡ id = eqb-true m n same ∙ sym (eqb-true id n e) in absurd (cc (eq-eqb m id its, differs))
    first false same differs one rest = rest one

    by : (b : Bool) → (m == id) ≡ b → is_among (cond (not b) (m ∷ filter (λ k. not (k == id)) held) (filter (λ k. not (k == id)) held)) n ≡ true
        → (is_among (filter (λ k. not (k == id)) held) n ≡ true → (id == n) ≡ false) → (id == n) ≡ false
    by true is one rest = rest one
    by false is one rest = first (m == n) refl is one rest

packet_comes : (held : List ℕ) (packet : Packet) (e : Entry) (n : ℕ) → is_among (held_by packet e held) n ≡ true → Comes held (c.Arrived packet) e n
packet_comes held (p.Connect clean keep_alive client will user password) e n among = inl (among, refl)
packet_comes held (p.ConnAck present code) e n among = inl (among, refl)
packet_comes held (p.Publish dup qos retain topic id payload) e n among = at_comes held dup qos retain topic id payload e n among
packet_comes held (p.PubAck id) e n among = inl (among, refl)
packet_comes held (p.PubRec id) e n among = inl (among, refl)
packet_comes held (p.PubRel id) e n among = inl (kept (λ m. not (m == id)) held n among, another held id n among)
packet_comes held (p.PubComp id) e n among = inl (among, refl)
packet_comes held (p.Subscribe id asks) e n among = inl (among, refl)
packet_comes held (p.SubAck id codes) e n among = inl (among, refl)
packet_comes held (p.Unsubscribe id filters) e n among = inl (among, refl)
packet_comes held (p.UnsubAck id) e n among = inl (among, refl)
packet_comes held p.PingReq e n among = inl (among, refl)
packet_comes held p.PingResp e n among = inl (among, refl)
packet_comes held p.Disconnect e n among = inl (among, refl)

comes : (held : List ℕ) (cause : Cause) (e : Entry) (n : ℕ) → is_among (held_behind cause e held) n ≡ true → Comes held cause e n
comes held c.Opened e n among = inl (among, refl)
comes held (c.Take task seq request) e n among = inl (among, refl)
comes held (c.Arrived packet) e n among = packet_comes held packet e n among
comes held (c.Broke why) e n among = inl (among, refl)
comes held c.Tick e n among = inl (among, refl)
comes held c.GaveUp e n among = inl (among, refl)
comes held c.Finish e n among = inl (among, refl)

longer : (s : Setup) (e : Entry) (past : List Entry) (n : ℕ) → releases n e.cause ≡ false → loses_session s (accepted_of past) e.cause ≡ false → IsHeld s n past → IsHeld s n (e ∷ past)
longer s e past n unreleased keeps (later, before, first, is, delivered, sent, stays) =
    (e ∷ later, before, first, ap (λ (es : List Entry). e ∷ es) is, delivered, sent, (unreleased, subst (λ (es : List Entry). loses_session s (accepted_of es) e.cause ≡ false) is keeps, stays))

pub held_are_unreleased : HeldAreUnreleased
held_are_unreleased s [] n among = absurd (cc among)
held_are_unreleased s (e ∷ past) n among = by (loses_session s (accepted_of past) e.cause) refl among (held_are_unreleased s past n)
  where
    on : loses_session s (accepted_of past) e.cause ≡ false → Comes (held_of s past) e.cause e n → (is_among (held_of s past) n ≡ true → IsHeld s n past) → IsHeld s n (e ∷ past)
    on keeps (inl (was, unreleased)) before = longer s e past n unreleased keeps (before was)
    on keeps (inr (delivered, sent)) before = ([], past, e, refl, delivered, sent, tt)

    by : (b : Bool) → loses_session s (accepted_of past) e.cause ≡ b → is_among (cond b [] (held_behind e.cause e (held_of s past))) n ≡ true → (is_among (held_of s past) n ≡ true → IsHeld s n past) → IsHeld s n (e ∷ past)
    by true is one before = absurd (cc one)
    by false is one before = on is (comes (held_of s past) e.cause e n one) before

-- ---- What is unreleased is held

last_among : (ns : List ℕ) (id n : ℕ) → id ≡ n → is_among (ns ++ id ∷ []) n ≡ true
last_among [] id n same = rw (eq-eqb id n same) refl
last_among (m ∷ ns) id n same = by (m == n) (last_among ns id n same)
  where
    by : (b : Bool) → is_among (ns ++ id ∷ []) n ≡ true → (b || is_among (ns ++ id ∷ []) n) ≡ true
    by true rest = refl
    by false rest = rest

put : (held : List ℕ) (e : Entry) (id n : ℕ) → id ≡ n → sends_received n e.effects ≡ true → is_among (held_at ExactlyOnce id e held) n ≡ true
put held e id n same sent = by (sends_received id e.effects) (is_among held id) (subst (λ (k : ℕ). sends_received k e.effects ≡ true) (sym same) sent) refl
  where
    by : (a b : Bool) → a ≡ true → is_among held id ≡ b → is_among (cond (a && not b) (held ++ id ∷ []) held) n ≡ true
    by true true is among = subst (λ (k : ℕ). is_among held k ≡ true) same among
    by true false is among = last_among held id n same
    by false b is among = absurd (cc is)

by_delivery : (s : Setup) (past : List Entry) (e : Entry) (n : ℕ) (cause : Cause) → delivers n cause ≡ true → sends_received n e.effects ≡ true
    → is_among (cond (loses_session s (accepted_of past) cause) [] (held_behind cause e (held_of s past))) n ≡ true
by_delivery s past e n c.Opened is sent = absurd (cc is)
by_delivery s past e n (c.Take task seq request) is sent = absurd (cc is)
by_delivery s past e n (c.Arrived packet) is sent = by packet is
  where
    of : (dup : Bool) (qos : Qos) (retain : Bool) (topic : List ℕ) (id : ℕ) (payload : List ℕ) → is_delivery_of n (p.Publish dup qos retain topic id payload) ≡ true → is_among (held_at qos id e (held_of s past)) n ≡ true
    of dup AtMostOnce retain topic id payload one = absurd (cc one)
    of dup AtLeastOnce retain topic id payload one = absurd (cc one)
    of dup ExactlyOnce retain topic id payload one = put (held_of s past) e id n (eqb-true id n one) sent

    by : (packet : Packet) → is_delivery_of n packet ≡ true → is_among (cond (loses_session s (accepted_of past) (c.Arrived packet)) [] (held_by packet e (held_of s past))) n ≡ true
    by (p.Connect clean keep_alive client will user password) one = absurd (cc one)
    by (p.ConnAck present code) one = absurd (cc one)
    by (p.Publish dup qos retain topic id payload) one = of dup qos retain topic id payload one
    by (p.PubAck id) one = absurd (cc one)
    by (p.PubRec id) one = absurd (cc one)
    by (p.PubRel id) one = absurd (cc one)
    by (p.PubComp id) one = absurd (cc one)
    by (p.Subscribe id asks) one = absurd (cc one)
    by (p.SubAck id codes) one = absurd (cc one)
    by (p.Unsubscribe id filters) one = absurd (cc one)
    by (p.UnsubAck id) one = absurd (cc one)
    by p.PingReq one = absurd (cc one)
    by p.PingResp one = absurd (cc one)
    by p.Disconnect one = absurd (cc one)
by_delivery s past e n (c.Broke why) is sent = absurd (cc is)
by_delivery s past e n c.Tick is sent = absurd (cc is)
by_delivery s past e n c.GaveUp is sent = absurd (cc is)
by_delivery s past e n c.Finish is sent = absurd (cc is)

at_stays : (held : List ℕ) (qos : Qos) (id : ℕ) (e : Entry) (n : ℕ) → is_among held n ≡ true → is_among (held_at qos id e held) n ≡ true
at_stays held AtMostOnce id e n one = one
at_stays held AtLeastOnce id e n one = one
at_stays held ExactlyOnce id e n one = by (sends_received id e.effects && not (is_among held id))
  where
    by : (b : Bool) → is_among (cond b (held ++ id ∷ []) held) n ≡ true
    by true = front_among held (id ∷ []) n one
    by false = one

differs : (id n : ℕ) → (id == n) ≡ false → not (n == id) ≡ true
differs id n is = go (n == id) refl
  where
    go : (b : Bool) → (n == id) ≡ b → not b ≡ true
    go false e = refl
    go true e = absurd (cc (eq-eqb id n (sym (eqb-true n id e)), is))

packet_stays : (held : List ℕ) (packet : Packet) (e : Entry) (n : ℕ) → releases n (c.Arrived packet) ≡ false → is_among held n ≡ true → is_among (held_by packet e held) n ≡ true
packet_stays held (p.Connect clean keep_alive client will user password) e n unreleased one = one
packet_stays held (p.ConnAck present code) e n unreleased one = one
packet_stays held (p.Publish dup qos retain topic id payload) e n unreleased one = at_stays held qos id e n one
packet_stays held (p.PubAck id) e n unreleased one = one
packet_stays held (p.PubRec id) e n unreleased one = one
packet_stays held (p.PubRel id) e n unreleased one = filter_among (λ m. not (m == id)) held n one (differs id n unreleased)
packet_stays held (p.PubComp id) e n unreleased one = one
packet_stays held (p.Subscribe id asks) e n unreleased one = one
packet_stays held (p.SubAck id codes) e n unreleased one = one
packet_stays held (p.Unsubscribe id filters) e n unreleased one = one
packet_stays held (p.UnsubAck id) e n unreleased one = one
packet_stays held p.PingReq e n unreleased one = one
packet_stays held p.PingResp e n unreleased one = one
packet_stays held p.Disconnect e n unreleased one = one

stays_on : (held : List ℕ) (cause : Cause) (e : Entry) (n : ℕ) → releases n cause ≡ false → is_among held n ≡ true → is_among (held_behind cause e held) n ≡ true
stays_on held c.Opened e n unreleased one = one
stays_on held (c.Take task seq request) e n unreleased one = one
stays_on held (c.Arrived packet) e n unreleased one = packet_stays held packet e n unreleased one
stays_on held (c.Broke why) e n unreleased one = one
stays_on held c.Tick e n unreleased one = one
stays_on held c.GaveUp e n unreleased one = one
stays_on held c.Finish e n unreleased one = one

held_from : (s : Setup) (n : ℕ) (later before : List Entry) (e : Entry) → delivers n e.cause ≡ true → sends_received n e.effects ≡ true → StaysHeld s n later (e ∷ before) → is_among (held_of s (later ++ e ∷ before)) n ≡ true
held_from s n [] before e delivered sent stays = by_delivery s before e n e.cause delivered sent
held_from s n (x ∷ later) before e delivered sent (unreleased, keeps, stays) =
    let rest = held_of s (later ++ e ∷ before) in
    ap (λ (b : Bool). is_among (cond b [] (held_behind x.cause x rest)) n) keeps ∙ stays_on rest x.cause x n unreleased (held_from s n later before e delivered sent stays)

pub unreleased_are_held : UnreleasedAreHeld
unreleased_are_held s past n (later, before, e, is, delivered, sent, stays) = ap (λ (es : List Entry). is_among (held_of s es) n) is ∙ held_from s n later before e delivered sent stays

-- What the broker answers to a packet: PUBACKs among its replies, and the messages that were passed on.
use Rattle.std.proofs.Common.{◌≡◌, ℕ, zero, suc, ◌≤◌, Bool, true, false, List, [], ◌∷◌, ◌++◌, map, length, count_by, Option, Some, None, refl, arith}
use Rattle.std.specs.Prelude.{◌==◌, ◌&&◌, slice_get, find, if◌then◌else◌}
use Rattle.std.specs.Option.{option_to_list}
use Rattle.std.specs.List.{AllByRecursion, list_any, flat_map}
use Rattle.mqtt_packet.specs.declared.qos.Qos.{Qos}
use Rattle.mqtt_packet.specs.declared.qos.Qos.TheVariants.{AtMostOnce, AtLeastOnce, ExactlyOnce}
use Rattle.mqtt_packet.specs.declared.packet.Packet.{Packet}
use Rattle.mqtt_packet.specs.declared.packet.Packet.TheVariants as p
use Rattle.topic_filter.specs.Texts.{is_name}
use Rattle.agent_table.specs.Deliveries.{is_among}
use Rattle.agent_table.proofs.Counts.{count_append}
use Rattle.broker_core.specs.declared.delivery.Delivery.{Delivery}
use Rattle.broker_core.specs.declared.link.Link.{Link}
use Rattle.broker_core.specs.declared.link.Link.TheVariants.{Gone, Opened, Accepted}
use Rattle.broker_core.specs.Copies.{copy_of, publish_of, sent_at_once}
use Rattle.broker_core.specs.Kept.{Kept}
use Rattle.broker_core.specs.Past.{Event, Begins, Ends, Comes, Publishes, kept_of, answer_to}
use Rattle.broker_core.specs.Rules.{Answer, goes_on, closes, accepted, connect, has_place, passes_on, publish_at, makes_room, answers_pubrec, rule, first_rule, answer_on, passes_own, own_message}
use Rattle.broker_core.specs.Session.{Session, is_of, enters, sent_again, first_sent, beginning, is_delivery, awaits_release, acknowledged, completed, offered}
use Rattle.broker_core.specs.Subscribed.{copied_at}
use Rattle.once_laws.specs.Followed.{acknowledges, publishes_first}
use Rattle.once_laws.specs.Replies.{AcknowledgedArePassedOn}
use Rattle.once_laws.proofs.Parts.{digit, digit_most, counted}

-- ---- Messages are PUBLISHes

abbrev pub IsPublish : Packet → Type 0
IsPublish (p.Publish dup qos retain topic id payload) = Unit {0}
IsPublish _ = ⊥

abbrev pub ArePublishes : List Packet → Type 0
ArePublishes packets = AllByRecursion IsPublish packets

pub all_append : (xs ys : List Packet) → ArePublishes xs → ArePublishes ys → ArePublishes (xs ++ ys)
all_append [] ys a b = b
all_append (x ∷ xs) ys a b = (a.0, all_append xs ys a.1 b)

copy_is : (again : Bool) (qos : Qos) (n : ℕ) (message : Packet) → IsPublish message → IsPublish (copy_of again qos n message)
copy_is again qos n (p.Publish dup at retain topic id payload) h = tt
copy_is again qos n p.PingReq h = h
copy_is again qos n p.PingResp h = h
copy_is again qos n p.Disconnect h = h
copy_is again qos n (p.Connect a b d e f g) h = h
copy_is again qos n (p.ConnAck a b) h = h
copy_is again qos n (p.PubAck a) h = h
copy_is again qos n (p.PubRec a) h = h
copy_is again qos n (p.PubRel a) h = h
copy_is again qos n (p.PubComp a) h = h
copy_is again qos n (p.Subscribe a b) h = h
copy_is again qos n (p.SubAck a b) h = h
copy_is again qos n (p.Unsubscribe a b) h = h
copy_is again qos n (p.UnsubAck a) h = h

found_is : (again : Bool) (d : Delivery) (passed : List Packet) (i : ℕ) → ArePublishes passed → ArePublishes (map (copy_of again d.qos d.id) (option_to_list (slice_get passed i)))
found_is again d [] i h = tt
found_is again d (m ∷ passed) zero h = (copy_is again d.qos d.id m h.0, tt)
found_is again d (m ∷ passed) (suc i) h = found_is again d passed i h.1

pub copies_are : (again : Bool) (passed : List Packet) (ds : List Delivery) → ArePublishes passed → ArePublishes (flat_map (publish_of passed again) ds)
copies_are again passed [] h = tt
copies_are again passed (d ∷ ds) h = all_append (publish_of passed again d) (flat_map (publish_of passed again) ds) (found_is again d passed d.place h) (copies_are again passed ds h)

at_once_are : (best : Option Qos) (message : Packet) → IsPublish message → ArePublishes (sent_at_once best message)
at_once_are None message h = tt
at_once_are (Some AtMostOnce) message h = (copy_is false AtMostOnce 0 message h, tt)
at_once_are (Some AtLeastOnce) message h = tt
at_once_are (Some ExactlyOnce) message h = tt

-- what is passed on for a session
pub copies : (passed : List Packet) (s : Session) (qos : Qos) (name : List ℕ) (message : Packet) → IsPublish message → ArePublishes passed
    → ArePublishes (sent_at_once (copied_at qos name s.subscriptions) message ++ first_sent (passed ++ message ∷ []) (offered qos name (length passed) s))
copies passed s qos name message is are =
    all_append _ _ (at_once_are (copied_at qos name s.subscriptions) message is)
    (copies_are false (passed ++ message ∷ []) (beginning (offered qos name (length passed) s)) (all_append passed (message ∷ []) are (is, tt)))

-- ---- PUBACKs

abbrev pub acks : ℕ → List Packet → ℕ
acks n packets = count_by (acknowledges n) packets

no_acks : (n : ℕ) (packets : List Packet) → ArePublishes packets → acks n packets ≡ 0
no_acks n [] h = refl
no_acks n (p.Publish dup qos retain topic id payload ∷ packets) h = no_acks n packets h.1
no_acks n (p.PingReq ∷ packets) h = absurd h.0
no_acks n (p.PingResp ∷ packets) h = absurd h.0
no_acks n (p.Disconnect ∷ packets) h = absurd h.0
no_acks n (p.Connect a b d e f g ∷ packets) h = absurd h.0
no_acks n (p.ConnAck a b ∷ packets) h = absurd h.0
no_acks n (p.PubAck a ∷ packets) h = absurd h.0
no_acks n (p.PubRec a ∷ packets) h = absurd h.0
no_acks n (p.PubRel a ∷ packets) h = absurd h.0
no_acks n (p.PubComp a ∷ packets) h = absurd h.0
no_acks n (p.Subscribe a b ∷ packets) h = absurd h.0
no_acks n (p.SubAck a b ∷ packets) h = absurd h.0
no_acks n (p.Unsubscribe a b ∷ packets) h = absurd h.0
no_acks n (p.UnsubAck a ∷ packets) h = absurd h.0

releases_none : (n : ℕ) (ids : List ℕ) → acks n (map (λ id. p.PubRel id) ids) ≡ 0
releases_none n [] = refl
releases_none n (id ∷ ids) = releases_none n ids

-- ---- What an answer is

-- Of the answer to a packet: no PUBACK, and the messages are PUBLISHes; or one PUBACK, and the packet is passed on.
pub record IsSilent (n : ℕ) (a : Answer) : Type 0 where
  pub messages : ArePublishes a.kept.passed
  pub none : acks n a.packets ≡ 0

pub record IsAnswered (n : ℕ) (passed : List Packet) (packet : Packet) (a : Answer) : Type 0 where
  pub messages : ArePublishes a.kept.passed
  pub few : acks n a.packets ≤ digit (publishes_first n packet)
  pub grows : 1 ≤ acks n a.packets → a.kept.passed ≡ passed ++ packet ∷ []

module _ (n : ℕ) (k : Kept) (are : ArePublishes k.passed) where
  abbrev Answers : Packet → Answer → Type 0
  Answers packet a = IsAnswered n k.passed packet a

  quiet : (packet : Packet) (a : Answer) → ArePublishes a.kept.passed → acks n a.packets ≡ 0 → Answers packet a
  quiet packet a messages none = record { messages = messages; few = omega (arith, none); grows = λ some. absurd (omega (arith, none, some)) }

  either : (b : Bool) (packet : Packet) (one other : Answer) → Answers packet one → Answers packet other → Answers packet (if b then one else other)
  either true packet one other h g = h
  either false packet one other h g = g

  closed : (packet : Packet) → Answers packet (closes [] k)
  closed packet = quiet packet (closes [] k) are refl

  all_passed : (message : Packet) → IsPublish message → ArePublishes (k.passed ++ message ∷ [])
  all_passed message is = all_append k.passed (message ∷ []) are (is, tt)

  room : (b clean : Bool) (packet : Packet) (t : Session) → Answers packet (makes_room b clean t k)
  room true clean packet t = quiet packet (makes_room true clean t k) are (no_acks n _ (copies_are false k.passed (beginning t) are))
  room false clean packet t = quiet packet (makes_room false clean t k) are refl

  pubrec : (b clean : Bool) (id : ℕ) (packet : Packet) (s : Session) → Answers packet (answers_pubrec b id clean s k)
  pubrec true clean id packet s = quiet packet (answers_pubrec true id clean s k) are refl
  pubrec false clean id packet s = quiet packet (answers_pubrec false id clean s k) are refl

  first_acked : (clean dup retain : Bool) (s : Session) (topic : List ℕ) (id : ℕ) (payload : List ℕ)
      → Answers (p.Publish dup AtLeastOnce retain topic id payload) (publish_at AtLeastOnce clean s topic id (p.Publish dup AtLeastOnce retain topic id payload) k)
  first_acked clean dup retain s topic id payload = record {
    messages = all_passed message tt;
    few = omega (arith, counted (acknowledges n) (p.PubAck id) more, no_acks n more (copies k.passed s AtLeastOnce topic message tt are), both (id == n));
    grows = λ some. refl;
  }
    where
      message : Packet
      message = p.Publish dup AtLeastOnce retain topic id payload

      more : List Packet
      more = sent_at_once (copied_at AtLeastOnce topic s.subscriptions) message ++ first_sent (k.passed ++ message ∷ []) (offered AtLeastOnce topic (length k.passed) s)

      both : (b : Bool) → digit b ≤ digit (b && true)
      both true = omega arith
      both false = omega arith

  published : (qos : Qos) (clean dup retain : Bool) (s : Session) (topic : List ℕ) (id : ℕ) (payload : List ℕ)
      → Answers (p.Publish dup qos retain topic id payload) (publish_at qos clean s topic id (p.Publish dup qos retain topic id payload) k)
  published AtMostOnce clean dup retain s topic id payload =
      let message = p.Publish dup AtMostOnce retain topic id payload in
      quiet message (publish_at AtMostOnce clean s topic id message k) (all_passed message tt) (no_acks n _ (copies k.passed s AtMostOnce topic message tt are))
  published AtLeastOnce clean dup retain s topic id payload = first_acked clean dup retain s topic id payload
  published ExactlyOnce clean dup retain s topic id payload =
      let message = p.Publish dup ExactlyOnce retain topic id payload in
      either (is_among s.received id) message (goes_on (p.PubRec id ∷ []) k) (passes_on (p.PubRec id ∷ []) clean (enters id s) ExactlyOnce topic message k) (quiet message (goes_on (p.PubRec id ∷ []) k) are refl)
      (quiet message (passes_on (p.PubRec id ∷ []) clean (enters id s) ExactlyOnce topic message k) (all_passed message tt) (no_acks n _ (copies k.passed (enters id s) ExactlyOnce topic message tt are)))

  ruled : (clean : Bool) (s : Session) (packet : Packet) → Answers packet (rule clean s packet k)
  ruled clean s (p.Connect a b d e f g) = closed (p.Connect a b d e f g)
  ruled clean s (p.ConnAck present code) = closed (p.ConnAck present code)
  ruled clean s (p.Publish dup qos retain topic id payload) =
      let message = p.Publish dup qos retain topic id payload in
      either (is_name topic) message (publish_at qos clean s topic id message k) (closes [] k) (published qos clean dup retain s topic id payload) (closed message)
  ruled clean s (p.PubAck id) = room (list_any (is_delivery AtLeastOnce id) s.sent) clean (p.PubAck id) (acknowledged id s)
  ruled clean s (p.PubRec id) = pubrec (awaits_release id s) clean id (p.PubRec id) s
  ruled clean s (p.PubRel id) = quiet (p.PubRel id) (rule clean s (p.PubRel id) k) are refl
  ruled clean s (p.PubComp id) = room (is_among s.released id) clean (p.PubComp id) (completed id s)
  ruled clean s (p.Subscribe id asks) = quiet (p.Subscribe id asks) (rule clean s (p.Subscribe id asks) k) are refl
  ruled clean s (p.SubAck id codes) = closed (p.SubAck id codes)
  ruled clean s (p.Unsubscribe id filters) = quiet (p.Unsubscribe id filters) (rule clean s (p.Unsubscribe id filters) k) are refl
  ruled clean s (p.UnsubAck id) = closed (p.UnsubAck id)
  ruled clean s p.PingReq = quiet p.PingReq (rule clean s p.PingReq k) are refl
  ruled clean s p.PingResp = closed p.PingResp
  ruled clean s p.Disconnect = closed p.Disconnect

  -- ---- CONNECT

  accepts : (clean : Bool) (client : List ℕ) (old : Option Session) (packet : Packet) → Answers packet (accepted clean client old k)
  accepts true client old packet = quiet packet (accepted true client old k) are refl
  accepts false client None packet = quiet packet (accepted false client None k) are refl
  accepts false client (Some s) packet =
      quiet packet (accepted false client (Some s) k) are
      (omega (
        arith,
        count_append (acknowledges n) (sent_again k.passed s) (first_sent k.passed s),
        count_append (acknowledges n) (map (λ id. p.PubRel id) s.released) (flat_map (publish_of k.passed true) s.sent),
        releases_none n s.released,
        no_acks n _ (copies_are true k.passed s.sent are),
        no_acks n _ (copies_are false k.passed (beginning s) are),
      ))

  connects : (clean : Bool) (client : List ℕ) (packet : Packet) → Answers packet (connect clean client k)
  connects clean client packet =
      either (length client == 0) packet (closes (p.ConnAck false 2 ∷ []) k) (if has_place client k.others then accepted clean client (find (is_of client) k.others) k else closes (p.ConnAck false 3 ∷ []) k)
      (quiet packet (closes (p.ConnAck false 2 ∷ []) k) are refl)
      (either (has_place client k.others) packet (accepted clean client (find (is_of client) k.others) k) (closes (p.ConnAck false 3 ∷ []) k) (accepts clean client (find (is_of client) k.others) packet) (quiet packet (closes (p.ConnAck false 3 ∷ []) k) are refl))

  first : (packet : Packet) → Answers packet (first_rule packet k)
  first (p.Connect clean keep_alive client will user password) = connects clean client (p.Connect clean keep_alive client will user password)
  first (p.ConnAck present code) = closed (p.ConnAck present code)
  first (p.Publish dup qos retain topic id payload) = closed (p.Publish dup qos retain topic id payload)
  first (p.PubAck id) = closed (p.PubAck id)
  first (p.PubRec id) = closed (p.PubRec id)
  first (p.PubRel id) = closed (p.PubRel id)
  first (p.PubComp id) = closed (p.PubComp id)
  first (p.Subscribe id asks) = closed (p.Subscribe id asks)
  first (p.SubAck id codes) = closed (p.SubAck id codes)
  first (p.Unsubscribe id filters) = closed (p.Unsubscribe id filters)
  first (p.UnsubAck id) = closed (p.UnsubAck id)
  first p.PingReq = closed p.PingReq
  first p.PingResp = closed p.PingResp
  first p.Disconnect = closed p.Disconnect

  on : (link : Link) (packet : Packet) → Answers packet (answer_on link packet k)
  on Gone packet = quiet packet (goes_on [] k) are refl
  on Opened packet = first packet
  on (Accepted clean s) packet = ruled clean s packet

  -- ---- Any event

  pub comes : (packet : Packet) → Answers packet (answer_to (Comes packet) k)
  comes packet = on k.link packet

  owns : (link : Link) (qos : Qos) (topic payload : List ℕ) → IsSilent n (passes_own link qos topic (own_message qos topic payload) k)
  owns Gone qos topic payload = record { messages = all_passed (own_message qos topic payload) tt; none = refl }
  owns Opened qos topic payload = record { messages = all_passed (own_message qos topic payload) tt; none = refl }
  owns (Accepted clean s) qos topic payload = record { messages = all_passed (own_message qos topic payload) tt; none = no_acks n _ (copies k.passed s qos topic (own_message qos topic payload) tt are) }

  -- what the broker publishes itself
  pub its_own : (qos : Qos) (topic payload : List ℕ) → IsSilent n (answer_to (Publishes qos topic payload) k)
  its_own qos topic payload = owns k.link qos topic payload

-- Behind every list of events the messages that were passed on are PUBLISHes.
pub messages_are : (past : List Event) → ArePublishes (kept_of past).passed
messages_are [] = tt
messages_are (Begins ∷ past) = messages_are past
messages_are (Ends ∷ past) = messages_are past
messages_are (Comes packet ∷ past) = (comes 0 (kept_of past) (messages_are past) packet).messages
messages_are (Publishes qos topic payload ∷ past) = (its_own 0 (kept_of past) (messages_are past) qos topic payload).messages

is_true : (b : Bool) → 1 ≤ digit b → b ≡ true
is_true true h = refl
is_true false h = absurd (omega (arith, h))

pub acknowledged_are_passed_on : AcknowledgedArePassedOn
acknowledged_are_passed_on past packet n some =
    let a = comes n (kept_of past) (messages_are past) packet in
    record {
      publish = is_true (publishes_first n packet) (omega (arith, some, a.few));
      one = omega (arith, some, a.few, digit_most (publishes_first n packet));
      passed = a.grows some;
    }

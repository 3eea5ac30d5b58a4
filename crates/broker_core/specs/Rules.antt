-- What the broker does at each event, one case for each rule.
use Rattle.std.specs.Prelude.{ℕ, Bool, true, false, ◌==◌, ◌||◌, nat_lt, List, [], ◌∷◌, ◌++◌, map, length, Option, Some, None, if◌then◌else◌, find, slice_index_or}
use Rattle.std.specs.List.{list_any}
use Rattle.mqtt_packet.specs.declared.qos.Qos.{Qos}
use Rattle.mqtt_packet.specs.declared.qos.Qos.TheVariants.{AtMostOnce, AtLeastOnce, ExactlyOnce}
use Rattle.mqtt_packet.specs.declared.packet.Packet.{Packet}
use Rattle.mqtt_packet.specs.declared.packet.Packet.TheVariants as p
use Rattle.topic_filter.specs.Texts.{is_name}
use Rattle.agent_table.specs.Deliveries.{is_among}
use Rattle.broker_core.specs.declared.link.Link.{Link}
use Rattle.broker_core.specs.declared.link.Link.TheVariants.{Gone, Opened, Accepted}
use Rattle.broker_core.specs.Copies.{sent_at_once}
use Rattle.broker_core.specs.Kept.{Kept, ended}
use Rattle.broker_core.specs.Session.{Session, is_of, begins, enters, refilled, first_sent, sent_again, acknowledged, is_delivery, awaits_release, released, completed, without, offered}
use Rattle.broker_core.specs.Subscribed.{copied_at, subscribed, unsubscribed, return_code}

-- what the broker sends, whether it closes the connection, and what it keeps then
pub record Answer : Type 0 where
  pub packets : List Packet
  pub close : Bool
  pub kept : Kept

abbrev pub goes_on : List Packet → Kept → Answer
goes_on packets k = record { packets = packets; close = false; kept = k }

-- The broker closes: with it the connection ends.
abbrev pub closes : List Packet → Kept → Answer
closes packets k = record { packets = packets; close = true; kept = ended k }

-- one or the other
abbrev pub finish : Bool → List Packet → Kept → Answer
finish true packets k = closes packets k
finish false packets k = goes_on packets k

abbrev pub with_link : Link → Kept → Kept
with_link link k = record k { link = link }

abbrev pub without_first : {X : Type 0} → (X → Bool) → List X → List X
without_first test [] = []
without_first test (x ∷ xs) = if test x then xs else x ∷ without_first test xs

-- ---- CONNECT (MQTT 3.1.1, sections 3.1 and 3.2)

-- the others; a client has at most one session
abbrev pub without_client : List ℕ → List Session → List Session
without_client client sessions = without_first (is_of client) sessions

-- the session at a place
abbrev pub session_at : ℕ → List Session → Session
session_at place sessions = slice_index_or sessions place (begins [])

-- Clean session 1: an old session is dropped.
-- Clean session 0: a session that is kept goes on. What wasn't acknowledged is sent again, then waiting copies as the window allows.
abbrev pub accepted : Bool → List ℕ → Option Session → Kept → Answer
accepted true client old k = goes_on (p.ConnAck false 0 ∷ []) (record k { link = Accepted true (begins client); others = without_client client k.others })
accepted false client None k = goes_on (p.ConnAck false 0 ∷ []) (record k { link = Accepted false (begins client) })
accepted false client (Some s) k =
    goes_on (p.ConnAck true 0 ∷ (sent_again k.passed s ++ first_sent k.passed s)) (record k { link = Accepted false (refilled s); others = without_client client k.others })

-- whether there is a session for the client, or room for one more: a session of its own has at most 64
abbrev pub has_place : List ℕ → List Session → Bool
has_place client sessions = list_any (is_of client) sessions || nat_lt (length sessions) 64

-- Return code 2 for an empty client identifier, and 3 where there would be a 65th session.
abbrev pub connect : Bool → List ℕ → Kept → Answer
connect clean client k =
    if length client == 0 then closes (p.ConnAck false 2 ∷ []) k
    else if has_place client k.others then accepted clean client (find (is_of client) k.others) k
    else closes (p.ConnAck false 3 ∷ []) k

-- ---- PUBLISH (section 3.3)

-- Passing on: each session with a fitting subscription gets one copy, and that of the connection what its window allows.
abbrev pub passes_on : List Packet → Bool → Session → Qos → List ℕ → Packet → Kept → Answer
passes_on packets clean s qos name message k =
    goes_on (packets ++ (sent_at_once (copied_at qos name s.subscriptions) message ++ first_sent (k.passed ++ message ∷ []) (offered qos name (length k.passed) s))) (record {
      link = Accepted clean (refilled (offered qos name (length k.passed) s));
      others = map (offered qos name (length k.passed)) k.others;
      passed = k.passed ++ message ∷ [];
    })

abbrev pub publish_at : Qos → Bool → Session → List ℕ → ℕ → Packet → Kept → Answer
publish_at AtMostOnce clean s topic id message k = passes_on [] clean s AtMostOnce topic message k
publish_at AtLeastOnce clean s topic id message k = passes_on (p.PubAck id ∷ []) clean s AtLeastOnce topic message k
publish_at ExactlyOnce clean s topic id message k =
    if is_among s.received id then goes_on (p.PubRec id ∷ []) k
    else passes_on (p.PubRec id ∷ []) clean (enters id s) ExactlyOnce topic message k

abbrev pub publish : Qos → Bool → Session → List ℕ → ℕ → Packet → Kept → Answer
publish qos clean s topic id message k = if is_name topic then publish_at qos clean s topic id message k else closes [] k

-- ---- Acknowledgements (sections 3.4 to 3.7)

-- One that ends a delivery makes room: what the window allows then, where the session has this left. Any other is passed over.
abbrev pub makes_room : Bool → Bool → Session → Kept → Answer
makes_room true clean s k = goes_on (first_sent k.passed s) (with_link (Accepted clean (refilled s)) k)
makes_room false clean s k = goes_on [] k

abbrev pub answers_pubrec : Bool → ℕ → Bool → Session → Kept → Answer
answers_pubrec true n clean s k = goes_on (p.PubRel n ∷ []) (with_link (Accepted clean (released n s)) k)
answers_pubrec false n clean s k = goes_on [] k

-- ---- A packet of a client that was accepted

abbrev pub rule : Bool → Session → Packet → Kept → Answer
rule clean s (p.Publish dup qos retain topic id payload) k = publish qos clean s topic id (p.Publish dup qos retain topic id payload) k
rule clean s (p.PubAck id) k = makes_room (list_any (is_delivery AtLeastOnce id) s.sent) clean (acknowledged id s) k
rule clean s (p.PubRec id) k = answers_pubrec (awaits_release id s) id clean s k
rule clean s (p.PubRel id) k = goes_on (p.PubComp id ∷ []) (with_link (Accepted clean (record s { received = without id s.received })) k)
rule clean s (p.PubComp id) k = makes_room (is_among s.released id) clean (completed id s) k
rule clean s (p.Subscribe id asks) k = goes_on (p.SubAck id (map return_code asks) ∷ []) (with_link (Accepted clean (record s { subscriptions = subscribed asks s.subscriptions })) k)
rule clean s (p.Unsubscribe id filters) k = goes_on (p.UnsubAck id ∷ []) (with_link (Accepted clean (record s { subscriptions = unsubscribed filters s.subscriptions })) k)
rule clean s p.PingReq k = goes_on (p.PingResp ∷ []) k
rule clean s _ k = closes [] k

-- the messages, with this one where it is passed on
abbrev pub passed_with : Bool → Packet → List Packet → List Packet
passed_with passes packet passed = if passes then passed ++ packet ∷ [] else passed

-- ---- Any packet

-- The first packet is CONNECT (MQTT-3.1.0-1).
abbrev pub first_rule : Packet → Kept → Answer
first_rule (p.Connect clean keep_alive client will user password) k = connect clean client k
first_rule _ k = closes [] k

abbrev pub answer_on : Link → Packet → Kept → Answer
answer_on Gone packet k = goes_on [] k
answer_on Opened packet k = first_rule packet k
answer_on (Accepted clean s) packet k = rule clean s packet k

abbrev pub answer : Kept → Packet → Answer
answer k packet = answer_on k.link packet k

-- ---- A message of the broker's own

abbrev pub own_message : Qos → List ℕ → List ℕ → Packet
own_message qos topic payload = p.Publish false qos false topic 0 payload

-- It is passed on to each session, and sent where one has the connection.
abbrev pub passes_own : Link → Qos → List ℕ → Packet → Kept → Answer
passes_own Gone qos name message k = goes_on [] (record { link = Gone; others = map (offered qos name (length k.passed)) k.others; passed = k.passed ++ message ∷ [] })
passes_own Opened qos name message k = goes_on [] (record { link = Opened; others = map (offered qos name (length k.passed)) k.others; passed = k.passed ++ message ∷ [] })
passes_own (Accepted clean s) qos name message k = passes_on [] clean s qos name message k

abbrev pub answer_own : Kept → Qos → List ℕ → List ℕ → Answer
answer_own k qos topic payload = passes_own k.link qos topic (own_message qos topic payload) k

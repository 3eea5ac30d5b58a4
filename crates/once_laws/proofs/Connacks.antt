-- What the broker answers to the first packet of a connection, and which of its packets are CONNACKs.
use Rattle.std.proofs.Common.{◌≡◌, ℕ, ◌≤◌, Bool, true, false, List, [], ◌∷◌, ◌++◌, map, length, count_by, Some, None, refl, sym, ap, ◌∙◌, subst, arith}
use Rattle.std.specs.Prelude.{◌==◌, ◌||◌, nat_lt, if◌then◌else◌}
use Rattle.std.specs.List.{AllByRecursion, list_any, flat_map}
use Rattle.std.proofs.lemmas.Slice.Eq.{bytes_eq-Decides}
use Rattle.mqtt_packet.specs.declared.qos.Qos.{Qos}
use Rattle.mqtt_packet.specs.declared.qos.Qos.TheVariants.{AtMostOnce, AtLeastOnce, ExactlyOnce}
use Rattle.mqtt_packet.specs.declared.packet.Packet.{Packet}
use Rattle.mqtt_packet.specs.declared.packet.Packet.TheVariants as p
use Rattle.topic_filter.specs.Texts.{is_name}
use Rattle.agent_table.specs.Deliveries.{is_among}
use Rattle.broker_core.specs.declared.link.Link.{Link}
use Rattle.broker_core.specs.declared.link.Link.TheVariants.{Gone, Opened, Accepted}
use Rattle.broker_core.specs.Kept.{Kept, keeps}
use Rattle.broker_core.specs.Rules.{Answer, without_client, goes_on, closes, accepted, connect, passes_on, publish_at, makes_room, answers_pubrec, rule, first_rule, answer_on, passes_own, own_message}
use Rattle.broker_core.specs.Session.{Session, is_of, enters, sent_again, first_sent, beginning, is_delivery, awaits_release, acknowledged, completed, refilled}
use Rattle.once_laws.specs.Counted.{digit}
use Rattle.once_laws.specs.Home.{IsOwn, IsHomeOn, IsHome, has_session, IsOwnConnect, is_connect, is_connack}
use Rattle.once_laws.proofs.Parts.{digit_most, counted}
use Rattle.once_laws.proofs.Replies.{ArePublishes, copies, copies_are}
use Rattle.once_laws.specs.Home.{received_of}
use Rattle.once_laws.specs.Counted.{publishes_second, receives, completes}
use Rattle.once_laws.proofs.Counting.{IsReplied}
use Rattle.once_laws.proofs.Sessions.{none_published, none_released, grew, same_length, IsHeard, ruled}
use Rattle.agent_table.proofs.Counts.{count_append}
use Rattle.broker_core.specs.Copies.{publish_of}
use Rattle.broker_core.specs.Past.{Comes, Publishes, answer_to}

-- ---- CONNACKs

-- One of code 0 comes from a broker that has the session, and says so where it had it before.
abbrev pub Presents : Bool → Bool → Packet → Type 0
Presents before behind (p.ConnAck present code) = (code == 0) ≡ true → (behind ≡ true) × (before ≡ true → present ≡ true)
Presents before behind _ = Unit {0}

pub none_present : (before behind : Bool) (packets : List Packet) → count_by is_connack packets ≡ 0 → AllByRecursion (Presents before behind) packets
none_present before behind [] h = tt
none_present before behind (packet ∷ packets) h = (one packet (omega (arith, h, counted is_connack packet packets)), none_present before behind packets (omega (arith, h, counted is_connack packet packets)))
  where
    one : (packet : Packet) → digit (is_connack packet) ≡ 0 → Presents before behind packet
    one (p.ConnAck present code) e = absurd (omega (arith, e))
    one (p.Connect a b d e f g) z = tt
    one (p.Publish a b d e f g) z = tt
    one (p.PubAck a) z = tt
    one (p.PubRec a) z = tt
    one (p.PubRel a) z = tt
    one (p.PubComp a) z = tt
    one (p.Subscribe a b) z = tt
    one (p.SubAck a b) z = tt
    one (p.Unsubscribe a b) z = tt
    one (p.UnsubAck a) z = tt
    one p.PingReq z = tt
    one p.PingResp z = tt
    one p.Disconnect z = tt

pub record IsWelcome (k : Kept) (packet : Packet) (a : Answer) : Type 0 where
  pub connacks : count_by is_connack a.packets ≤ digit (is_connect packet)
  pub presents : AllByRecursion (Presents (has_session k) (has_session a.kept)) a.packets

no_connack : (packets : List Packet) → ArePublishes packets → count_by is_connack packets ≡ 0
no_connack packets h = none_published is_connack (λ dup qos retain topic id payload. refl) packets h

-- ---- On a connection that was accepted

module _ (t : Session) (passed : List Packet) (are : ArePublishes passed) where
  none_if : (b : Bool) (one other : Answer) → count_by is_connack one.packets ≡ 0 → count_by is_connack other.packets ≡ 0 → count_by is_connack (if b then one else other).packets ≡ 0
  none_if true one other h g = h
  none_if false one other h g = g

  none_room : (b : Bool) (new : Session) → count_by is_connack (makes_room b false new (keeps (Accepted false t) [] passed)).packets ≡ 0
  none_room true new = no_connack _ (copies_are false passed (beginning new) are)
  none_room false new = refl

  none_pubrec : (b : Bool) (id : ℕ) → count_by is_connack (answers_pubrec b id false t (keeps (Accepted false t) [] passed)).packets ≡ 0
  none_pubrec true id = refl
  none_pubrec false id = refl

  none_at : (qos : Qos) (dup retain : Bool) (topic : List ℕ) (id : ℕ) (payload : List ℕ) → count_by is_connack (publish_at qos false t topic id (p.Publish dup qos retain topic id payload) (keeps (Accepted false t) [] passed)).packets ≡ 0
  none_at AtMostOnce dup retain topic id payload = no_connack _ (copies passed t AtMostOnce topic (p.Publish dup AtMostOnce retain topic id payload) tt are)
  none_at AtLeastOnce dup retain topic id payload = no_connack _ (copies passed t AtLeastOnce topic (p.Publish dup AtLeastOnce retain topic id payload) tt are)
  none_at ExactlyOnce dup retain topic id payload =
      let message = p.Publish dup ExactlyOnce retain topic id payload in
      none_if (is_among t.received id) (goes_on (p.PubRec id ∷ []) (keeps (Accepted false t) [] passed)) (passes_on (p.PubRec id ∷ []) false (enters id t) ExactlyOnce topic message (keeps (Accepted false t) [] passed)) refl
      (no_connack _ (copies passed (enters id t) ExactlyOnce topic message tt are))

  none_ruled : (packet : Packet) → count_by is_connack (rule false t packet (keeps (Accepted false t) [] passed)).packets ≡ 0
  none_ruled (p.Connect a b d e f g) = refl
  none_ruled (p.ConnAck present code) = refl
  none_ruled (p.Publish dup qos retain topic id payload) =
      none_if (is_name topic) (publish_at qos false t topic id (p.Publish dup qos retain topic id payload) (keeps (Accepted false t) [] passed)) (closes [] (keeps (Accepted false t) [] passed)) (none_at qos dup retain topic id payload) refl
  none_ruled (p.PubAck id) = none_room (list_any (is_delivery AtLeastOnce id) t.sent) (acknowledged id t)
  none_ruled (p.PubRec id) = none_pubrec (awaits_release id t) id
  none_ruled (p.PubRel id) = refl
  none_ruled (p.PubComp id) = none_room (is_among t.released id) (completed id t)
  none_ruled (p.Subscribe id asks) = refl
  none_ruled (p.SubAck id codes) = refl
  none_ruled (p.Unsubscribe id filters) = refl
  none_ruled (p.UnsubAck id) = refl
  none_ruled p.PingReq = refl
  none_ruled p.PingResp = refl
  none_ruled p.Disconnect = refl

-- ---- Any connection

-- nothing of a QoS 2 PUBLISH is answered
idle : (n : ℕ) (packet : Packet) (received after : List ℕ) (heard over passed : ℕ) → heard ≡ 0 → over ≡ 0 → after ≡ received → passed ≡ 0 → IsReplied n packet received after heard over passed
idle n packet received after heard over passed no_one none same still =
    let is = ap (λ ids. digit (is_among ids n)) same in
    record {
      receive = omega (arith, no_one);
      complete = omega (arith, none);
      more = omega (arith, is);
      entered = omega (arith, no_one);
      less = omega (arith, is);
      left = omega (arith, none, digit_most (is_among after n));
      anew = omega (arith, still, digit_most (publishes_second n packet), digit_most (is_among received n));
      enters = omega (arith, is);
      is_in = omega (arith, still, digit_most (publishes_second n packet));
    }

module _ (n : ℕ) (client : List ℕ) (passed : List Packet) (are : ArePublishes passed) where
  abbrev Heard : Kept → Packet → Answer → Type 0
  Heard k packet a = IsHeard n client k packet a × IsWelcome k packet a

  -- an answer that keeps everything
  same : (k : Kept) (packet : Packet) (a : Answer) → k.passed ≡ passed → a.kept.passed ≡ passed → count_by (receives n) a.packets ≡ 0 → count_by (completes n) a.packets ≡ 0 → received_of a.kept ≡ received_of k → IsHome client a.kept
      → (has_session k ≡ true → has_session a.kept ≡ true) → IsWelcome k packet a → Heard k packet a
  same k packet a before behind receive complete received home kept welcome = (
    record {
      replied = idle n packet (received_of k) (received_of a.kept) (count_by (receives n) a.packets) (count_by (completes n) a.packets) (grew k.passed a) receive complete received
          (ap (λ ps. grew ps a) before ∙ same_length passed a behind);
      home = home;
      kept = kept;
    },
    welcome,
  )

  silent : (k : Kept) (packet : Packet) (a : Answer) → a.packets ≡ [] → IsWelcome k packet a
  silent k packet a none = record { connacks = omega (arith, ap (count_by is_connack) none); presents = subst (AllByRecursion (Presents (has_session k) (has_session a.kept))) (sym none) tt }

  -- CONNECT of a client without a session, and of one with it
  new : (b : Bool) (packet : Packet) → is_connect packet ≡ true → Heard (keeps Opened [] passed) packet (if b then closes (p.ConnAck false 2 ∷ []) (keeps Opened [] passed) else accepted false client None (keeps Opened [] passed))
  new true packet is =
      same (keeps Opened [] passed) packet (closes (p.ConnAck false 2 ∷ []) (keeps Opened [] passed)) refl refl refl refl refl tt (λ has. absurd (cc has))
      (record { connacks = omega (arith, ap digit is); presents = ((λ zero_is. absurd (cc zero_is)), tt) })
  new false packet is =
      same (keeps Opened [] passed) packet (accepted false client None (keeps Opened [] passed)) refl refl refl refl refl (refl, refl, refl) (λ has. refl)
      (record { connacks = omega (arith, ap digit is); presents = ((λ zero_is. (refl, λ had. absurd (cc had))), tt) })

  sent : (t : Session) (test : Packet → Bool) → ((id : ℕ) → test (p.PubRel id) ≡ false) → ((dup : Bool) (qos : Qos) (retain : Bool) (topic : List ℕ) (id : ℕ) (payload : List ℕ) → test (p.Publish dup qos retain topic id payload) ≡ false)
      → count_by test (sent_again passed t ++ first_sent passed t) ≡ 0
  sent t test no_release no_publish =
      omega (
        arith,
        count_append test (sent_again passed t) (first_sent passed t),
        count_append test (map (λ id. p.PubRel id) t.released) (flat_map (publish_of passed true) t.sent),
        none_released test no_release t.released,
        none_published test no_publish _ (copies_are true passed t.sent are),
        none_published test no_publish _ (copies_are false passed (beginning t) are),
      )

  known : (b : Bool) (t : Session) (rest : List Session) (packet : Packet) → t.client ≡ client → rest ≡ [] → is_connect packet ≡ true
      → Heard (keeps Opened (t ∷ []) passed) packet
      (if b then closes (p.ConnAck false 2 ∷ []) (keeps Opened (t ∷ []) passed)
      else record { packets = p.ConnAck true 0 ∷ (sent_again passed t ++ first_sent passed t); close = false; kept = keeps (Accepted false (refilled t)) rest passed })
  known true t rest packet mine gone is =
      same (keeps Opened (t ∷ []) passed) packet (closes (p.ConnAck false 2 ∷ []) (keeps Opened (t ∷ []) passed)) refl refl refl refl refl mine (λ has. has)
      (record { connacks = omega (arith, ap digit is); presents = ((λ zero_is. absurd (cc zero_is)), tt) })
  known false t rest packet mine gone is =
      let more : List Packet = sent_again passed t ++ first_sent passed t in
      let none = sent t is_connack (λ id. refl) (λ dup qos retain topic id payload. refl) in
      same (keeps Opened (t ∷ []) passed) packet (record { packets = p.ConnAck true 0 ∷ (sent_again passed t ++ first_sent passed t); close = false; kept = keeps (Accepted false (refilled t)) rest passed }) refl refl
      (omega (arith, counted (receives n) (p.ConnAck true 0) more, sent t (receives n) (λ id. refl) (λ dup qos retain topic id payload. refl)))
      (omega (arith, counted (completes n) (p.ConnAck true 0) more, sent t (completes n) (λ id. refl) (λ dup qos retain topic id payload. refl))) refl (refl, mine, gone) (λ has. refl)
      (record { connacks = omega (arith, ap digit is, counted is_connack (p.ConnAck true 0) more, none); presents = ((λ zero_is. (refl, λ had. refl)), none_present true true more none) })

  its_client : (t : Session) → t.client ≡ client → is_of client t ≡ true
  its_client t mine = (bytes_eq-Decides t.client client).1 mine

  connects : (others : List Session) (packet : Packet) → IsOwn client others → is_connect packet ≡ true → Heard (keeps Opened others passed) packet (connect false client (keeps Opened others passed))
  connects [] packet own is = new (length client == 0) packet is
  connects (t ∷ []) packet mine is = go (is_of client t) (its_client t mine)
    where
      gone : without_client client (t ∷ []) ≡ []
      gone = ap (λ b. if b then [] else t ∷ []) (its_client t mine)

      go : (b : Bool) → b ≡ true
          → Heard (keeps Opened (t ∷ []) passed) packet
          (if length client == 0 then closes (p.ConnAck false 2 ∷ []) (keeps Opened (t ∷ []) passed)
          else if ((b || false) || nat_lt 1 64) then accepted false client (if b then Some t else None) (keeps Opened (t ∷ []) passed)
          else closes (p.ConnAck false 3 ∷ []) (keeps Opened (t ∷ []) passed))
      go true e = known (length client == 0) t (without_client client (t ∷ [])) packet mine gone is
      go false e = absurd (cc e)
  connects (t ∷ u ∷ others) packet own is = absurd own

  closed : (others : List Session) (packet : Packet) → IsOwn client others → Heard (keeps Opened others passed) packet (closes [] (keeps Opened others passed))
  closed [] packet own = same (keeps Opened [] passed) packet (closes [] (keeps Opened [] passed)) refl refl refl refl refl tt (λ has. has) (silent (keeps Opened [] passed) packet (closes [] (keeps Opened [] passed)) refl)
  closed (t ∷ []) packet mine = same (keeps Opened (t ∷ []) passed) packet (closes [] (keeps Opened (t ∷ []) passed)) refl refl refl refl refl mine (λ has. has) (silent (keeps Opened (t ∷ []) passed) packet (closes [] (keeps Opened (t ∷ []) passed)) refl)
  closed (t ∷ u ∷ others) packet own = absurd own

  first : (others : List Session) (packet : Packet) → IsOwn client others → IsOwnConnect client packet → Heard (keeps Opened others passed) packet (first_rule packet (keeps Opened others passed))
  first others (p.Connect clean keep_alive id will user password) own (is_kept, mine) =
      subst (λ b. Heard (keeps Opened others passed) (p.Connect clean keep_alive id will user password) (connect b id (keeps Opened others passed))) (sym is_kept)
      (subst (λ i. Heard (keeps Opened others passed) (p.Connect clean keep_alive id will user password) (connect false i (keeps Opened others passed))) (sym mine)
      (connects others (p.Connect clean keep_alive id will user password) own refl))
  first others (p.ConnAck present code) own mine = closed others (p.ConnAck present code) own
  first others (p.Publish dup qos retain topic id payload) own mine = closed others (p.Publish dup qos retain topic id payload) own
  first others (p.PubAck id) own mine = closed others (p.PubAck id) own
  first others (p.PubRec id) own mine = closed others (p.PubRec id) own
  first others (p.PubRel id) own mine = closed others (p.PubRel id) own
  first others (p.PubComp id) own mine = closed others (p.PubComp id) own
  first others (p.Subscribe id asks) own mine = closed others (p.Subscribe id asks) own
  first others (p.SubAck id codes) own mine = closed others (p.SubAck id codes) own
  first others (p.Unsubscribe id filters) own mine = closed others (p.Unsubscribe id filters) own
  first others (p.UnsubAck id) own mine = closed others (p.UnsubAck id) own
  first others p.PingReq own mine = closed others p.PingReq own
  first others p.PingResp own mine = closed others p.PingResp own
  first others p.Disconnect own mine = closed others p.Disconnect own

  on : (link : Link) (others : List Session) (packet : Packet) → IsHomeOn client link others → IsOwnConnect client packet → Heard (keeps link others passed) packet (answer_on link packet (keeps link others passed))
  on Gone others packet own mine = same (keeps Gone others passed) packet (goes_on [] (keeps Gone others passed)) refl refl refl refl refl own (λ has. has) (silent (keeps Gone others passed) packet (goes_on [] (keeps Gone others passed)) refl)
  on Opened others packet own mine = first others packet own mine
  on (Accepted true t) others packet own mine = absurd (cc own.0)
  on (Accepted false t) (u ∷ others) packet own mine = absurd (cc own.2)
  on (Accepted false t) [] packet own mine =
      let none = none_ruled t passed are packet in (
        ruled n client t own.1 passed are packet,
        record {
          connacks = omega (arith, none);
          presents = none_present true (has_session (rule false t packet (keeps (Accepted false t) [] passed)).kept) (rule false t packet (keeps (Accepted false t) [] passed)).packets none;
        },
      )

  -- ---- Messages of the broker's own

  pub record IsAsideOf (k : Kept) (a : Answer) : Type 0 where
    pub receive : count_by (receives n) a.packets ≡ 0
    pub complete : count_by (completes n) a.packets ≡ 0
    pub connack : count_by is_connack a.packets ≡ 0
    pub received : received_of a.kept ≡ received_of k
    pub home : IsHome client a.kept
    pub kept : has_session k ≡ true → has_session a.kept ≡ true

  owns : (link : Link) (others : List Session) (qos : Qos) (topic payload : List ℕ) → IsHomeOn client link others → IsAsideOf (keeps link others passed) (passes_own link qos topic (own_message qos topic payload) (keeps link others passed))
  owns Gone [] qos topic payload own = record { receive = refl; complete = refl; connack = refl; received = refl; home = tt; kept = λ has. has }
  owns Gone (t ∷ []) qos topic payload own = record { receive = refl; complete = refl; connack = refl; received = refl; home = own; kept = λ has. has }
  owns Gone (t ∷ u ∷ others) qos topic payload own = absurd own
  owns Opened [] qos topic payload own = record { receive = refl; complete = refl; connack = refl; received = refl; home = tt; kept = λ has. has }
  owns Opened (t ∷ []) qos topic payload own = record { receive = refl; complete = refl; connack = refl; received = refl; home = own; kept = λ has. has }
  owns Opened (t ∷ u ∷ others) qos topic payload own = absurd own
  owns (Accepted true t) others qos topic payload own = absurd (cc own.0)
  owns (Accepted false t) (u ∷ others) qos topic payload own = absurd (cc own.2)
  owns (Accepted false t) [] qos topic payload own =
      let more = copies passed t qos topic (own_message qos topic payload) tt are in
      record {
        receive = none_published (receives n) (λ dup qos retain topic id payload. refl) _ more;
        complete = none_published (completes n) (λ dup qos retain topic id payload. refl) _ more;
        connack = no_connack _ more;
        received = refl;
        home = (refl, own.1, refl);
        kept = λ has. refl;
      }

-- ---- What the broker keeps

pub comes_home : (n : ℕ) (client : List ℕ) (k : Kept) (packet : Packet) → ArePublishes k.passed → IsHome client k → IsOwnConnect client packet
    → IsHeard n client k packet (answer_to (Comes packet) k) × IsWelcome k packet (answer_to (Comes packet) k)
comes_home n client k packet are home mine = on n client k.passed are k.link k.others packet home mine

pub own_home : (n : ℕ) (client : List ℕ) (k : Kept) (qos : Qos) (topic payload : List ℕ) (are : ArePublishes k.passed) → IsHome client k → IsAsideOf n client k.passed are k (answer_to (Publishes qos topic payload) k)
own_home n client k qos topic payload are home = owns n client k.passed are k.link k.others qos topic payload home

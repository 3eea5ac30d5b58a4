-- What the broker answers to a packet of its one client, at quality of service 2, and that it keeps the session.
use Rattle.std.proofs.Common.{◌≡◌, ℕ, ◌+◌, ◌≤◌, Bool, true, false, List, [], ◌∷◌, ◌++◌, map, length, count_by, refl, sym, ap, ◌∙◌, arith}
use Rattle.std.specs.Prelude.{◌==◌, ◌||◌, ◌&&◌, not, nat_lt, if◌then◌else◌}
use Rattle.std.specs.List.{list_any}
use Rattle.std.proofs.lemmas.Bool.{eqb-true, eq-eqb, lt-ltb, le-ltb}
use Rattle.std.proofs.lemmas.List.{length-append}
use Rattle.std.proofs.lemmas.List.Folds.{list_any-append}
use Rattle.mqtt_packet.specs.declared.qos.Qos.{Qos}
use Rattle.mqtt_packet.specs.declared.qos.Qos.TheVariants.{AtMostOnce, AtLeastOnce, ExactlyOnce}
use Rattle.mqtt_packet.specs.declared.packet.Packet.{Packet}
use Rattle.mqtt_packet.specs.declared.packet.Packet.TheVariants as p
use Rattle.topic_filter.specs.Texts.{is_name}
use Rattle.agent_table.specs.Deliveries.{is_among}
use Rattle.broker_core.specs.declared.link.Link.TheVariants.{Accepted}
use Rattle.broker_core.specs.Copies.{sent_at_once}
use Rattle.broker_core.specs.Kept.{Kept, keeps}
use Rattle.broker_core.specs.Rules.{Answer, goes_on, closes, passes_on, publish_at, makes_room, answers_pubrec, rule}
use Rattle.broker_core.specs.Session.{Session, is_of, enters, sent_again, first_sent, beginning, is_delivery, awaits_release, acknowledged, completed, offered, without}
use Rattle.broker_core.specs.Session as spec
use Rattle.broker_core.specs.Subscribed.{copied_at}
use Rattle.once_laws.specs.Counted.{digit, publishes_second, receives, completes}
use Rattle.once_laws.specs.Home.{IsHome, has_session, received_of}
use Rattle.once_laws.proofs.Counting.{IsReplied}
use Rattle.once_laws.proofs.Parts.{digit_most, counted}
use Rattle.once_laws.proofs.Replies.{ArePublishes, copies, copies_are}

-- ---- Counts

-- a test that no PUBLISH passes
pub none_published : (test : Packet → Bool) → ((dup : Bool) (qos : Qos) (retain : Bool) (topic : List ℕ) (id : ℕ) (payload : List ℕ) → test (p.Publish dup qos retain topic id payload) ≡ false) → (packets : List Packet) → ArePublishes packets → count_by test packets ≡ 0
none_published test no_one [] h = refl
none_published test no_one (p.Publish dup qos retain topic id payload ∷ packets) h =
    omega (arith, counted test (p.Publish dup qos retain topic id payload) packets, ap digit (no_one dup qos retain topic id payload), none_published test no_one packets h.1)
none_published test no_one (p.PingReq ∷ packets) h = absurd h.0
none_published test no_one (p.PingResp ∷ packets) h = absurd h.0
none_published test no_one (p.Disconnect ∷ packets) h = absurd h.0
none_published test no_one (p.Connect a b d e f g ∷ packets) h = absurd h.0
none_published test no_one (p.ConnAck a b ∷ packets) h = absurd h.0
none_published test no_one (p.PubAck a ∷ packets) h = absurd h.0
none_published test no_one (p.PubRec a ∷ packets) h = absurd h.0
none_published test no_one (p.PubRel a ∷ packets) h = absurd h.0
none_published test no_one (p.PubComp a ∷ packets) h = absurd h.0
none_published test no_one (p.Subscribe a b ∷ packets) h = absurd h.0
none_published test no_one (p.SubAck a b ∷ packets) h = absurd h.0
none_published test no_one (p.Unsubscribe a b ∷ packets) h = absurd h.0
none_published test no_one (p.UnsubAck a ∷ packets) h = absurd h.0

pub none_released : (test : Packet → Bool) → ((id : ℕ) → test (p.PubRel id) ≡ false) → (ids : List ℕ) → count_by test (map (λ id. p.PubRel id) ids) ≡ 0
none_released test no_one [] = refl
none_released test no_one (id ∷ ids) = omega (arith, counted test (p.PubRel id) (map (λ m. p.PubRel m) ids), ap digit (no_one id), none_released test no_one ids)

-- ---- Sets of identifiers

pub among_more : (ids : List ℕ) (id n : ℕ) → is_among (ids ++ id ∷ []) n ≡ (is_among ids n || (id == n))
among_more ids id n = list_any-append (λ m. m == n) ids (id ∷ []) ∙ ap (λ t. is_among ids n || t) (or_none (id == n))
  where
    or_none : (t : Bool) → (t || false) ≡ t
    or_none true = refl
    or_none false = refl

and_none : (t : Bool) → (t && false) ≡ false
and_none true = refl
and_none false = refl

among_less : (ids : List ℕ) (id n : ℕ) → is_among (without id ids) n ≡ (is_among ids n && not (id == n))
among_less [] id n = refl
among_less (m ∷ ids) id n = go (m == id) (m == n) (id == n) refl refl refl (among_less ids id n)
  where
    go : (a b c : Bool) → (m == id) ≡ a → (m == n) ≡ b → (id == n) ≡ c → is_among (without id ids) n ≡ (is_among ids n && not (id == n)) → is_among (without id (m ∷ ids)) n ≡ (is_among (m ∷ ids) n && not (id == n))
    go true true true ea eb ec rest = rw (ea, eb, ec) (rest ∙ rw ec (and_none (is_among ids n)))
    go true true false ea eb ec rest = let same : m ≡ id = eqb-true m id ea in absurd (cc (sym (ap (λ k. k == n) same ∙ ec) ∙ eb))
    go true false true ea eb ec rest = let same : m ≡ id = eqb-true m id ea in absurd (cc (sym (ap (λ k. k == n) same ∙ ec) ∙ eb))
    go true false false ea eb ec rest = rw (ea, eb, ec) (rest ∙ rw ec refl)
    go false true true ea eb ec rest = let one : m ≡ n = eqb-true m n eb in let two : id ≡ n = eqb-true id n ec in absurd (cc (sym ea ∙ eq-eqb m id (one ∙ sym two)))
    go false true false ea eb ec rest = rw (ea, eb, ec) refl
    go false false true ea eb ec rest = rw (ea, eb, ec) (rest ∙ rw ec refl)
    go false false false ea eb ec rest = rw (ea, eb, ec) (rest ∙ rw ec refl)

pub either_more : (a b : Bool) → (digit (a || b) ≤ digit a + digit b) × (digit a ≤ digit (a || b)) × (digit b ≤ digit (a || b))
either_more true true = (omega arith, omega arith, omega arith)
either_more true false = (omega arith, omega arith, omega arith)
either_more false true = (omega arith, omega arith, omega arith)
either_more false false = (omega arith, omega arith, omega arith)

without_less : (a b : Bool) → (digit (a && not b) ≤ digit a) × (digit a ≤ digit (a && not b) + digit b) × (digit b + digit (a && not b) ≤ 1)
without_less true true = (omega arith, omega arith, omega arith)
without_less true false = (omega arith, omega arith, omega arith)
without_less false true = (omega arith, omega arith, omega arith)
without_less false false = (omega arith, omega arith, omega arith)

pub at_id : (ids : List ℕ) (id n : ℕ) → is_among ids id ≡ true → digit (id == n) ≤ digit (is_among ids n)
at_id ids id n among = go (id == n) refl
  where
    go : (t : Bool) → (id == n) ≡ t → digit t ≤ digit (is_among ids n)
    go true e = let same : id ≡ n = eqb-true id n e in omega (arith, ap digit (ap (is_among ids) (sym same) ∙ among))
    go false e = omega arith

and_true : (a : Bool) → digit (a && true) ≡ digit a
and_true true = refl
and_true false = refl

-- ---- What an answer is

-- whether a message was passed on with it
abbrev pub grew : List Packet → Answer → ℕ
grew passed a = digit (nat_lt (length passed) (length a.kept.passed))

pub same_length : (passed : List Packet) (a : Answer) → a.kept.passed ≡ passed → grew passed a ≡ 0
same_length passed a same = ap (λ (ps : List Packet). digit (nat_lt (length passed) (length ps))) same ∙ ap digit (le-ltb (length passed) (length passed) (omega arith))

one_longer : (passed : List Packet) (message : Packet) (a : Answer) → a.kept.passed ≡ passed ++ message ∷ [] → grew passed a ≡ 1
one_longer passed message a more =
    ap (λ (ps : List Packet). digit (nat_lt (length passed) (length ps))) more ∙ ap digit (lt-ltb (length passed) (length (passed ++ message ∷ [])) (omega (arith, length-append passed (message ∷ []))))

-- Of the answer to a packet, where the broker received these identifiers.
pub record IsHeard (n : ℕ) (client : List ℕ) (k : Kept) (packet : Packet) (a : Answer) : Type 0 where
  pub replied : IsReplied n packet (received_of k) (received_of a.kept) (count_by (receives n) a.packets) (count_by (completes n) a.packets) (grew k.passed a)
  pub home : IsHome client a.kept
  pub kept : has_session k ≡ true → has_session a.kept ≡ true

-- ---- On a connection

module _ (n : ℕ) (client : List ℕ) (t : Session) (mine : t.client ≡ client) (passed : List Packet) (are : ArePublishes passed) where
  abbrev now : Kept
  now = keeps (Accepted false t) [] passed

  abbrev Heard : Packet → Answer → Type 0
  Heard packet a = IsHeard n client (keeps (Accepted false t) [] passed) packet a

  either : (b : Bool) (packet : Packet) (one other : Answer) → (b ≡ true → Heard packet one) → (b ≡ false → Heard packet other) → Heard packet (if b then one else other)
  either true packet one other h g = h refl
  either false packet one other h g = g refl

  -- nothing of a QoS 2 PUBLISH is answered, and the identifiers stay
  idle : (packet : Packet) (a : Answer) → count_by (receives n) a.packets ≡ 0 → count_by (completes n) a.packets ≡ 0 → received_of a.kept ≡ t.received → a.kept.passed ≡ passed → IsHome client a.kept → has_session a.kept ≡ true
      → Heard packet a
  idle packet a receive complete same still home has =
      let is = ap (λ ids. digit (is_among ids n)) same in
      let none = same_length passed a still in
      record {
        replied = record {
          receive = omega (arith, receive);
          complete = omega (arith, complete);
          more = omega (arith, is);
          entered = omega (arith, receive);
          less = omega (arith, is);
          left = omega (arith, complete, digit_most (is_among (received_of a.kept) n));
          anew = omega (arith, none, digit_most (publishes_second n packet), digit_most (is_among t.received n));
          enters = omega (arith, is);
          is_in = omega (arith, none, digit_most (publishes_second n packet));
        };
        home = home;
        kept = λ had. has;
      }

  -- a message of another quality of service
  other : (packet : Packet) (a : Answer) → publishes_second n packet ≡ false → count_by (receives n) a.packets ≡ 0 → count_by (completes n) a.packets ≡ 0 → received_of a.kept ≡ t.received → IsHome client a.kept
      → has_session a.kept ≡ true → Heard packet a
  other packet a differs receive complete same home has =
      let is = ap (λ ids. digit (is_among ids n)) same in
      record {
        replied = record {
          receive = omega (arith, receive);
          complete = omega (arith, complete);
          more = omega (arith, is);
          entered = omega (arith, receive);
          less = omega (arith, is);
          left = omega (arith, complete, digit_most (is_among (received_of a.kept) n));
          anew = omega (arith, ap digit differs, digit_most (nat_lt (length passed) (length a.kept.passed)), digit_most (is_among t.received n));
          enters = omega (arith, is);
          is_in = omega (arith, ap digit differs, digit_most (nat_lt (length passed) (length a.kept.passed)));
        };
        home = home;
        kept = λ had. has;
      }

  closed : (packet : Packet) → Heard packet (closes [] (keeps (Accepted false t) [] passed))
  closed packet = idle packet (closes [] (keeps (Accepted false t) [] passed)) refl refl refl refl mine refl

  no_receive : (packets : List Packet) → ArePublishes packets → count_by (receives n) packets ≡ 0
  no_receive packets h = none_published (receives n) (λ dup qos retain topic id payload. refl) packets h

  no_complete : (packets : List Packet) → ArePublishes packets → count_by (completes n) packets ≡ 0
  no_complete packets h = none_published (completes n) (λ dup qos retain topic id payload. refl) packets h

  room : (b : Bool) (packet : Packet) (new : Session) → new.received ≡ t.received → new.client ≡ client → Heard packet (makes_room b false new (keeps (Accepted false t) [] passed))
  room true packet new same own =
      idle packet (makes_room true false new (keeps (Accepted false t) [] passed)) (no_receive _ (copies_are false passed (beginning new) are)) (no_complete _ (copies_are false passed (beginning new) are)) same refl (refl, own, refl) refl
  room false packet new same own = idle packet (makes_room false false new (keeps (Accepted false t) [] passed)) refl refl refl refl (refl, mine, refl) refl

  released_same : (id : ℕ) → ((spec.released id t).received ≡ t.received) × ((spec.released id t).client ≡ client)
  released_same id = go (list_any (is_delivery ExactlyOnce id) t.sent) refl
    where
      go : (b : Bool) → list_any (is_delivery ExactlyOnce id) t.sent ≡ b → ((spec.released id t).received ≡ t.received) × ((spec.released id t).client ≡ client)
      go true e = rw e (refl, mine)
      go false e = rw e (refl, mine)

  pubrec : (b : Bool) (id : ℕ) (packet : Packet) → Heard packet (answers_pubrec b id false t (keeps (Accepted false t) [] passed))
  pubrec true id packet = idle packet (answers_pubrec true id false t (keeps (Accepted false t) [] passed)) refl refl (released_same id).0 refl (refl, (released_same id).1, refl) refl
  pubrec false id packet = idle packet (answers_pubrec false id false t (keeps (Accepted false t) [] passed)) refl refl refl refl (refl, mine, refl) refl

  pubrel : (id : ℕ) → Heard (p.PubRel id) (rule false t (p.PubRel id) (keeps (Accepted false t) [] passed))
  pubrel id =
      let gone = ap digit (among_less t.received id n) in
      let parts = without_less (is_among t.received n) (id == n) in
      let one = counted (completes n) (p.PubComp id) [] in
      let none = same_length passed (rule false t (p.PubRel id) (keeps (Accepted false t) [] passed)) refl in
      record {
        replied = record {
          receive = omega arith;
          complete = omega (arith, one);
          more = omega (arith, gone, parts.0);
          entered = omega arith;
          less = omega (arith, gone, parts.1);
          left = omega (arith, one, gone, parts.2);
          anew = omega (arith, none, digit_most (is_among t.received n));
          enters = omega (arith, gone, parts.0);
          is_in = omega (arith, none);
        };
        home = (refl, mine, refl);
        kept = λ had. refl;
      }

  -- a QoS 2 PUBLISH that comes again, and one that is new
  again : (dup retain : Bool) (topic : List ℕ) (id : ℕ) (payload : List ℕ) → is_among t.received id ≡ true → Heard (p.Publish dup ExactlyOnce retain topic id payload) (goes_on (p.PubRec id ∷ []) (keeps (Accepted false t) [] passed))
  again dup retain topic id payload among =
      let none = same_length passed (goes_on (p.PubRec id ∷ []) (keeps (Accepted false t) [] passed)) refl in
      let one = counted (receives n) (p.PubRec id) [] in
      let same = and_true (id == n) in
      record {
        replied = record {
          receive = omega (arith, one, same);
          complete = omega arith;
          more = omega arith;
          entered = omega (arith, one, at_id t.received id n among);
          less = omega arith;
          left = omega (arith, digit_most (is_among t.received n));
          anew = omega (arith, none, same, digit_most (id == n), digit_most (is_among t.received n));
          enters = omega arith;
          is_in = omega (arith, none, same, digit_most (id == n));
        };
        home = (refl, mine, refl);
        kept = λ had. refl;
      }

  anew : (dup retain : Bool) (topic : List ℕ) (id : ℕ) (payload : List ℕ) → is_among t.received id ≡ false
      → Heard (p.Publish dup ExactlyOnce retain topic id payload) (passes_on (p.PubRec id ∷ []) false (enters id t) ExactlyOnce topic (p.Publish dup ExactlyOnce retain topic id payload) (keeps (Accepted false t) [] passed))
  anew dup retain topic id payload out =
      let message = p.Publish dup ExactlyOnce retain topic id payload in
      let a = passes_on (p.PubRec id ∷ []) false (enters id t) ExactlyOnce topic message (keeps (Accepted false t) [] passed) in
      let more : List Packet = sent_at_once (copied_at ExactlyOnce topic (enters id t).subscriptions) message ++ first_sent (passed ++ message ∷ []) (offered ExactlyOnce topic (length passed) (enters id t)) in
      let receive = counted (receives n) (p.PubRec id) more in
      let complete = counted (completes n) (p.PubRec id) more in
      let no_one = no_receive more (copies passed (enters id t) ExactlyOnce topic message tt are) in
      let no_other = no_complete more (copies passed (enters id t) ExactlyOnce topic message tt are) in
      let entered = ap digit (among_more t.received id n) in
      let parts = either_more (is_among t.received n) (id == n) in
      let grown = one_longer passed message a refl in
      let same = and_true (id == n) in
      record {
        replied = record {
          receive = omega (arith, receive, no_one, same);
          complete = omega (arith, complete, no_other);
          more = omega (arith, entered, parts.0, same);
          entered = omega (arith, receive, no_one, entered, parts.2);
          less = omega (arith, entered, parts.1);
          left = omega (arith, complete, no_other, digit_most (is_among (t.received ++ id ∷ []) n));
          anew = omega (arith, grown, same, differs (id == n) refl);
          enters = omega (arith, grown, digit_most (is_among (t.received ++ id ∷ []) n));
          is_in = omega (arith, grown, same, entered, parts.2);
        };
        home = (refl, mine, refl);
        kept = λ had. refl;
      }
    where
      differs : (b : Bool) → (id == n) ≡ b → digit b + digit (is_among t.received n) ≤ 1
      differs true e = omega (arith, ap digit (ap (is_among t.received) (sym (eqb-true id n e)) ∙ out))
      differs false e = omega (arith, digit_most (is_among t.received n))

  published : (qos : Qos) (dup retain : Bool) (topic : List ℕ) (id : ℕ) (payload : List ℕ)
      → Heard (p.Publish dup qos retain topic id payload) (publish_at qos false t topic id (p.Publish dup qos retain topic id payload) (keeps (Accepted false t) [] passed))
  published AtMostOnce dup retain topic id payload =
      let message = p.Publish dup AtMostOnce retain topic id payload in
      let more = copies passed t AtMostOnce topic message tt are in
      other message (publish_at AtMostOnce false t topic id message (keeps (Accepted false t) [] passed)) (and_none (id == n)) (no_receive _ more) (no_complete _ more) refl (refl, mine, refl) refl
  published AtLeastOnce dup retain topic id payload =
      let message = p.Publish dup AtLeastOnce retain topic id payload in
      let more = copies passed t AtLeastOnce topic message tt are in
      other message (publish_at AtLeastOnce false t topic id message (keeps (Accepted false t) [] passed)) (and_none (id == n)) (no_receive _ more) (no_complete _ more) refl (refl, mine, refl) refl
  published ExactlyOnce dup retain topic id payload =
      let message = p.Publish dup ExactlyOnce retain topic id payload in
      either (is_among t.received id) message (goes_on (p.PubRec id ∷ []) (keeps (Accepted false t) [] passed)) (passes_on (p.PubRec id ∷ []) false (enters id t) ExactlyOnce topic message (keeps (Accepted false t) [] passed))
      (again dup retain topic id payload) (anew dup retain topic id payload)

  pub ruled : (packet : Packet) → Heard packet (rule false t packet (keeps (Accepted false t) [] passed))
  ruled (p.Connect a b d e f g) = closed (p.Connect a b d e f g)
  ruled (p.ConnAck present code) = closed (p.ConnAck present code)
  ruled (p.Publish dup qos retain topic id payload) =
      let message = p.Publish dup qos retain topic id payload in
      either (is_name topic) message (publish_at qos false t topic id message (keeps (Accepted false t) [] passed)) (closes [] (keeps (Accepted false t) [] passed)) (λ name. published qos dup retain topic id payload) (λ name. closed message)
  ruled (p.PubAck id) = room (list_any (is_delivery AtLeastOnce id) t.sent) (p.PubAck id) (acknowledged id t) refl mine
  ruled (p.PubRec id) = pubrec (awaits_release id t) id (p.PubRec id)
  ruled (p.PubRel id) = pubrel id
  ruled (p.PubComp id) = room (is_among t.released id) (p.PubComp id) (completed id t) refl mine
  ruled (p.Subscribe id asks) = idle (p.Subscribe id asks) (rule false t (p.Subscribe id asks) (keeps (Accepted false t) [] passed)) refl refl refl refl (refl, mine, refl) refl
  ruled (p.SubAck id codes) = closed (p.SubAck id codes)
  ruled (p.Unsubscribe id filters) = idle (p.Unsubscribe id filters) (rule false t (p.Unsubscribe id filters) (keeps (Accepted false t) [] passed)) refl refl refl refl (refl, mine, refl) refl
  ruled (p.UnsubAck id) = closed (p.UnsubAck id)
  ruled p.PingReq = idle p.PingReq (rule false t p.PingReq (keeps (Accepted false t) [] passed)) refl refl refl refl (refl, mine, refl) refl
  ruled p.PingResp = closed p.PingResp
  ruled p.Disconnect = closed p.Disconnect

-- The packets of all replies are sound.
use Rattle.std.proofs.Common.{◌≡◌, ℕ, zero, suc, ◌-◌, ◌<◌, ◌≤◌, Bool, true, false, not, List, [], ◌∷◌, ◌++◌, map, drop, length, Option, Some, None, refl, ap, sym, subst, ◌∙◌, arith}
use Rattle.std.specs.Prelude.{◌==◌, ◌||◌, nat_lt, nat_le, filter, find, slice_get, if◌then◌else◌}
use Rattle.std.specs.Option.{option_to_list, option_map}
use Rattle.std.specs.List.{AllByRecursion, list_any, flat_map}
use Rattle.std.proofs.lemmas.Bool.{and_parts}
use Rattle.std.proofs.lemmas.Option.{slice_get_within}
use Rattle.mqtt_packet.specs.declared.qos.Qos.{Qos}
use Rattle.mqtt_packet.specs.declared.qos.Qos.TheVariants.{AtMostOnce, AtLeastOnce, ExactlyOnce}
use Rattle.mqtt_packet.specs.declared.packet.Packet.{Packet}
use Rattle.mqtt_packet.specs.declared.packet.Packet.TheVariants as p
use Rattle.mqtt_packet.specs.Spelling.{groups, is_sound, is_identifier, is_string}
use Rattle.topic_filter.specs.Texts.{is_name}
use Rattle.agent_table.proofs.Fresh.{fresh_in_range}
use Rattle.agent_table.specs.Deliveries.{is_among}
use Rattle.agent_table.specs.Identifiers.{fresh, last_or}
use Rattle.broker_core.specs.declared.delivery.Delivery.{Delivery}
use Rattle.broker_core.specs.declared.delivery.Waiting.{Waiting}
use Rattle.broker_core.specs.declared.link.Link.{Link}
use Rattle.broker_core.specs.declared.link.Link.TheVariants.{Gone, Opened, Accepted}
use Rattle.broker_core.specs.Copies.{copy_of, publish_of, sent_at_once, waits}
use Rattle.broker_core.specs.Kept.{Kept}
use Rattle.broker_core.specs.Laws.{IsSound, RepliesAreSound}
use Rattle.broker_core.specs.Past.{Event, Begins, Ends, Comes, Publishes, answer_to, kept_of, MayCome}
use Rattle.broker_core.specs.Rules as rules
use Rattle.broker_core.specs.Session as spec
use Rattle.broker_core.specs.Subscribed.{lesser, granted, copied_at}
use Rattle.broker_core.proofs.Places.{in_front, behind}
use Rattle.broker_core.proofs.Sizes.{puback_sound, pubrec_sound, pubrel_sound, pubcomp_sound, unsuback_sound, suback_sound, resized, came, own, identifier, above, fields, IsAbove, IsMessage}
use Rattle.broker_core.proofs.Walk as walk
use Rattle.broker_core.proofs.Walk.{IsKept, Holds, at_past, all_append, all_map, all_find}

-- ---- Messages by their places

-- a message that can be sent with an identifier
abbrev HasMessage : Option Packet → Type 0
HasMessage None = ⊥
HasMessage (Some message) = is_sound (copy_of false ExactlyOnce 1 message) ≡ true

abbrev CanSend : List Packet → ℕ → Type 0
CanSend passed place = HasMessage (slice_get passed place)

still : (passed : List Packet) (message : Packet) (place : ℕ) → CanSend passed place → CanSend (passed ++ message ∷ []) place
still passed message place can = go (slice_get passed place) refl
  where
    go : (found : Option Packet) → slice_get passed place ≡ found → CanSend (passed ++ message ∷ []) place
    go None e = absurd (rw e at can)
    go (Some m) e = subst HasMessage (sym (in_front passed (message ∷ []) place (slice_get_within passed place m e))) can

newest : (passed : List Packet) (message : Packet) → is_sound (copy_of false ExactlyOnce 1 message) ≡ true → CanSend (passed ++ message ∷ []) (length passed)
newest passed message sound =
    let at : slice_get (passed ++ message ∷ []) (length passed) ≡ Some message = behind passed (message ∷ []) (length passed) (omega arith) ∙ ap (slice_get (message ∷ [])) (none (length passed)) in
    subst HasMessage (sym at) sound
  where
    none : (n : ℕ) → n - n ≡ 0
    none n = omega arith

-- ---- What is true of each session

abbrev CanDeliver : List Packet → Delivery → Type 0
CanDeliver passed d = CanSend passed d.place × (0 < d.id) × IsAbove d.qos

abbrev CanWait : List Packet → Waiting → Type 0
CanWait passed w = CanSend passed w.place × IsAbove w.qos

record IsSendable (passed : List Packet) (s : spec.Session) : Type 0 where
  sent : AllByRecursion (CanDeliver passed) s.sent
  released : AllByRecursion (λ n. 0 < n) s.released
  waiting : AllByRecursion (CanWait passed) s.waiting
  drawn : s.last_drawn ≤ 65535

all_filter : {X : Type 0} (P : X → Type 0) (test : X → Bool) (xs : List X) → AllByRecursion P xs → AllByRecursion P (filter test xs)
all_filter P test [] h = tt
all_filter P test (x ∷ xs) h = go (test x) (all_filter P test xs h.1)
  where
    go : (t : Bool) → AllByRecursion P (filter test xs) → AllByRecursion P (if t then x ∷ filter test xs else filter test xs)
    go true rest = (h.0, rest)
    go false rest = rest

all_drop : {X : Type 0} (P : X → Type 0) (n : ℕ) (xs : List X) → AllByRecursion P xs → AllByRecursion P (drop n xs)
all_drop P zero xs h = h
all_drop P (suc n) [] h = tt
all_drop P (suc n) (x ∷ xs) h = all_drop P n xs h.1

all_same : {X : Type 0} (P Q : X → Type 0) → ((x : X) → P x → Q x) → (xs : List X) → AllByRecursion P xs → AllByRecursion Q xs
all_same P Q f [] h = tt
all_same P Q f (x ∷ xs) h = (f x h.0, all_same P Q f xs h.1)

-- ---- What begins

record IsBegun (passed : List Packet) (last : ℕ) (ds : List Delivery) : Type 0 where
  each : AllByRecursion (CanDeliver passed) ds
  drawn : last_or last (spec.ids_of ds) ≤ 65535

is_begun : (passed : List Packet) (last : ℕ) (used : List ℕ) (copies : List Waiting) → last ≤ 65535 → AllByRecursion (CanWait passed) copies → IsBegun passed last (spec.begun last used copies)
is_begun passed last used [] high h = record { each = tt; drawn = high }
is_begun passed last used (copy ∷ copies) high h =
    let range = fresh_in_range last used high in
    go (nat_lt (length used) 16) range (is_begun passed (fresh last used) (used ++ fresh last used ∷ []) copies range.1 h.1)
  where
    go : (t : Bool) → (0 < fresh last used) × (fresh last used ≤ 65535) → IsBegun passed (fresh last used) (spec.begun (fresh last used) (used ++ fresh last used ∷ []) copies)
        → IsBegun passed last (if t then record { id = fresh last used; place = copy.place; qos = copy.qos } ∷ spec.begun (fresh last used) (used ++ fresh last used ∷ []) copies else [])
    go true range rest = record { each = ((h.0.0, range.0, h.0.1), rest.each); drawn = rest.drawn }
    go false range rest = record { each = tt; drawn = high }

begins_now : (passed : List Packet) (s : spec.Session) → IsSendable passed s → IsBegun passed s.last_drawn (spec.beginning s)
begins_now passed s h = is_begun passed s.last_drawn (spec.in_use s.sent s.released) s.waiting h.drawn h.waiting

-- ---- Copies

acked : (qos granted : Qos) → IsAbove (lesser qos granted) → IsAbove qos
acked AtMostOnce granted h = h
acked AtLeastOnce granted h = tt
acked ExactlyOnce granted h = tt

waits_can : (passed : List Packet) (qos : Qos) (message : Packet) → IsMessage qos message → (best : Option Qos) → AllByRecursion (CanWait (passed ++ message ∷ [])) (waits (option_map (lesser qos) best) (length passed))
waits_can passed qos message m None = tt
waits_can passed qos message m (Some best) = go (lesser qos best) (acked qos best)
  where
    go : (q : Qos) → (IsAbove q → IsAbove qos) → AllByRecursion (CanWait (passed ++ message ∷ [])) (waits (Some q) (length passed))
    go AtMostOnce h = tt
    go AtLeastOnce h = ((newest passed message (m.numbered (h tt)), tt), tt)
    go ExactlyOnce h = ((newest passed message (m.numbered (h tt)), tt), tt)

offered_can : (passed : List Packet) (s : spec.Session) (qos : Qos) (name : List ℕ) (message : Packet) → IsMessage qos message → IsSendable passed s → IsSendable (passed ++ message ∷ []) (spec.offered qos name (length passed) s)
offered_can passed s qos name message m h = record {
  sent = all_same _ _ (λ d can. (still passed message d.place can.0, can.1, can.2)) s.sent h.sent;
  released = h.released;
  waiting = all_append _ s.waiting _ (all_same _ _ (λ w can. (still passed message w.place can.0, can.1)) s.waiting h.waiting) (waits_can passed qos message m (granted s.subscriptions name));
  drawn = h.drawn;
}

released_can : (passed : List Packet) (s : spec.Session) (n : ℕ) → is_sound (p.PubRec n) ≡ true → IsSendable passed s → IsSendable passed (spec.released n s)
released_can passed s n sound h = go (list_any (spec.is_delivery ExactlyOnce n) s.sent) refl
  where
    go : (t : Bool) → list_any (spec.is_delivery ExactlyOnce n) s.sent ≡ t → IsSendable passed (spec.released n s)
    go false e = rw e h
    go true e = rw e (record {
      sent = all_filter _ _ s.sent h.sent;
      released = all_append _ s.released (n ∷ []) h.released (above n (fields (p.PubRec n) sound), tt);
      waiting = h.waiting;
      drawn = h.drawn;
    })

abbrev Came : Qos → List ℕ → Packet → Type 0
Came qos name message = IsMessage qos message

each : IsKept IsSendable Came
each = record {
  begins = λ passed client. record { sent = tt; released = tt; waiting = tt; drawn = omega arith };
  refilled = λ passed s h. record {
    sent = all_append _ s.sent (spec.beginning s) h.sent (begins_now passed s h).each;
    released = h.released;
    waiting = all_drop _ (length (spec.beginning s)) s.waiting h.waiting;
    drawn = (begins_now passed s h).drawn;
  };
  acknowledged = λ passed s n h. record { sent = all_filter _ _ s.sent h.sent; released = h.released; waiting = h.waiting; drawn = h.drawn };
  released = released_can;
  completed = λ passed s n h. record { sent = h.sent; released = all_filter _ _ s.released h.released; waiting = h.waiting; drawn = h.drawn };
  received = λ passed s ids h. record { sent = h.sent; released = h.released; waiting = h.waiting; drawn = h.drawn };
  subscribed = λ passed s asks h. record { sent = h.sent; released = h.released; waiting = h.waiting; drawn = h.drawn };
  offered = offered_can;
  came = came;
  own = own;
}

-- ---- The PUBLISHes of deliveries

all_flat : {X Y : Type 0} (P : X → Type 0) (Q : Y → Type 0) (f : X → List Y) → ((x : X) → P x → AllByRecursion Q (f x)) → (xs : List X) → AllByRecursion P xs → AllByRecursion Q (flat_map f xs)
all_flat P Q f h [] a = tt
all_flat P Q f h (x ∷ xs) a = all_append Q (f x) (flat_map f xs) (h x a.0) (all_flat P Q f h xs a.1)

published : (passed : List Packet) (again : Bool) (d : Delivery) → CanDeliver passed d → AllByRecursion IsSound (publish_of passed again d)
published passed again d can = go (slice_get passed d.place) can.0
  where
    go : (found : Option Packet) → HasMessage found → AllByRecursion IsSound (map (copy_of again d.qos d.id) (option_to_list found))
    go None h = tt
    go (Some message) h = (resized again d.qos d.id message can.2 (identifier d.id can.1) h, tt)

first_sound : (passed : List Packet) (s : spec.Session) → IsSendable passed s → AllByRecursion IsSound (spec.first_sent passed s)
first_sound passed s h = all_flat (CanDeliver passed) IsSound (publish_of passed false) (λ d can. published passed false d can) (spec.beginning s) (begins_now passed s h).each

again_sound : (passed : List Packet) (s : spec.Session) → IsSendable passed s → AllByRecursion IsSound (spec.sent_again passed s)
again_sound passed s h =
    all_append IsSound _ _ (all_map (λ n. 0 < n) IsSound (λ id. p.PubRel id) (λ n low. pubrel_sound n (identifier n low)) s.released h.released)
    (all_flat (CanDeliver passed) IsSound (publish_of passed true) (λ d can. published passed true d can) s.sent h.sent)

at_once : (qos : Qos) (message : Packet) → IsMessage qos message → (best : Option Qos) → AllByRecursion IsSound (sent_at_once best message)
at_once qos message m None = tt
at_once qos message m (Some AtMostOnce) = (m.plain, tt)
at_once qos message m (Some AtLeastOnce) = tt
at_once qos message m (Some ExactlyOnce) = tt

-- ---- The rules

pingresp : is_sound p.PingResp ≡ true
unfolding groups
pingresp = refl

abbrev Sends : rules.Answer → Type 0
Sends a = AllByRecursion IsSound a.packets

either : (b : Bool) (one other : rules.Answer) → Sends one → Sends other → Sends (if b then one else other)
either true one other h g = h
either false one other h g = g

connack : (present : Bool) (code : ℕ) → nat_le code 5 ≡ true → (code == 0 || not present) ≡ true → is_sound (p.ConnAck present code) ≡ true
unfolding groups
connack present code e f = rw (e, f) refl

accepted : (clean : Bool) (client : List ℕ) (old : Option spec.Session) (k : Kept) → find (spec.is_of client) k.others ≡ old → AllByRecursion (IsSendable k.passed) k.others → Sends (rules.accepted clean client old k)
accepted true client old k e h = (connack false 0 refl refl, tt)
accepted false client None k e h = (connack false 0 refl refl, tt)
accepted false client (Some s) k e h =
    let here = all_find (IsSendable k.passed) (spec.is_of client) k.others s h e in
    (connack true 0 refl refl, all_append IsSound (spec.sent_again k.passed s) (spec.first_sent k.passed s) (again_sound k.passed s here) (first_sound k.passed s here))

connect : (clean : Bool) (client : List ℕ) (k : Kept) → AllByRecursion (IsSendable k.passed) k.others → Sends (rules.connect clean client k)
connect clean client k h =
    either (length client == 0) _ _ (connack false 2 refl refl, tt)
    (either (rules.has_place client k.others) _ _ (accepted clean client (find (spec.is_of client) k.others) k refl h) (connack false 3 refl refl, tt))

passes_on : (packets : List Packet) (clean : Bool) (s : spec.Session) (qos : Qos) (name : List ℕ) (message : Packet) (k : Kept) → AllByRecursion IsSound packets → IsMessage qos message → IsSendable k.passed s → Sends (rules.passes_on packets clean s qos name message k)
passes_on packets clean s qos name message k first m h =
    all_append IsSound packets _ first
    (all_append IsSound (sent_at_once (copied_at qos name s.subscriptions) message) _ (at_once qos message m (copied_at qos name s.subscriptions))
    (first_sound (k.passed ++ message ∷ []) (spec.offered qos name (length k.passed) s) (offered_can k.passed s qos name message m h)))

entered : (passed : List Packet) (s : spec.Session) (id : ℕ) → IsSendable passed s → IsSendable passed (spec.enters id s)
entered passed s id h = record { sent = h.sent; released = h.released; waiting = h.waiting; drawn = h.drawn }

publish_at : (qos : Qos) (clean : Bool) (s : spec.Session) (topic : List ℕ) (id : ℕ) (message : Packet) (k : Kept) → (IsAbove qos → is_identifier id ≡ true) → IsMessage qos message → IsSendable k.passed s → Sends (rules.publish_at qos clean s topic id message k)
publish_at AtMostOnce clean s topic id message k n m h = passes_on [] clean s AtMostOnce topic message k tt m h
publish_at AtLeastOnce clean s topic id message k n m h = passes_on (p.PubAck id ∷ []) clean s AtLeastOnce topic message k (puback_sound id (n tt), tt) m h
publish_at ExactlyOnce clean s topic id message k n m h =
    either (is_among s.received id) _ _ (pubrec_sound id (n tt), tt) (passes_on (p.PubRec id ∷ []) clean (spec.enters id s) ExactlyOnce topic message k (pubrec_sound id (n tt), tt) m (entered k.passed s id h))

has_identifier : (dup retain : Bool) (qos : Qos) (topic : List ℕ) (id : ℕ) (payload : List ℕ) → is_sound (p.Publish dup qos retain topic id payload) ≡ true → IsAbove qos → is_identifier id ≡ true
has_identifier dup retain AtMostOnce topic id payload sound h = absurd h
has_identifier dup retain AtLeastOnce topic id payload sound h = (and_parts (is_string topic) _ (fields (p.Publish dup AtLeastOnce retain topic id payload) sound)).1
has_identifier dup retain ExactlyOnce topic id payload sound h = (and_parts (is_string topic) _ (fields (p.Publish dup ExactlyOnce retain topic id payload) sound)).1

publish : (dup retain : Bool) (qos : Qos) (topic : List ℕ) (id : ℕ) (payload : List ℕ) (clean : Bool) (s : spec.Session) (k : Kept) → is_sound (p.Publish dup qos retain topic id payload) ≡ true → IsSendable k.passed s
    → Sends (rules.publish qos clean s topic id (p.Publish dup qos retain topic id payload) k)
publish dup retain qos topic id payload clean s k sound h =
    either (is_name topic) _ _ (publish_at qos clean s topic id (p.Publish dup qos retain topic id payload) k (has_identifier dup retain qos topic id payload sound) (came dup retain qos topic id payload sound) h) tt

room : (b : Bool) (clean : Bool) (s : spec.Session) (k : Kept) → IsSendable k.passed s → Sends (rules.makes_room b clean s k)
room true clean s k h = first_sound k.passed s h
room false clean s k h = tt

pubrec : (b : Bool) (n : ℕ) (clean : Bool) (s : spec.Session) (k : Kept) → is_sound (p.PubRec n) ≡ true → Sends (rules.answers_pubrec b n clean s k)
pubrec true n clean s k sound = (pubrel_sound n (fields (p.PubRec n) sound), tt)
pubrec false n clean s k sound = tt

rule : (clean : Bool) (s : spec.Session) (packet : Packet) (k : Kept) → is_sound packet ≡ true → IsSendable k.passed s → Sends (rules.rule clean s packet k)
rule clean s (p.Connect c keep_alive client will user password) k sound h = tt
rule clean s (p.ConnAck present code) k sound h = tt
rule clean s (p.Publish dup qos retain topic id payload) k sound h = publish dup retain qos topic id payload clean s k sound h
rule clean s (p.PubAck id) k sound h = room (list_any (spec.is_delivery AtLeastOnce id) s.sent) clean (spec.acknowledged id s) k (each.acknowledged k.passed s id h)
rule clean s (p.PubRec id) k sound h = pubrec (spec.awaits_release id s) id clean s k sound
rule clean s (p.PubRel id) k sound h = (pubcomp_sound id (fields (p.PubRel id) sound), tt)
rule clean s (p.PubComp id) k sound h = room (is_among s.released id) clean (spec.completed id s) k (each.completed k.passed s id h)
rule clean s (p.Subscribe id asks) k sound h = (suback_sound id asks sound, tt)
rule clean s (p.SubAck id codes) k sound h = tt
rule clean s (p.Unsubscribe id filters) k sound h = (unsuback_sound id (and_parts (is_identifier id) _ (fields (p.Unsubscribe id filters) sound)).0, tt)
rule clean s (p.UnsubAck id) k sound h = tt
rule clean s p.PingReq k sound h = (pingresp, tt)
rule clean s p.PingResp k sound h = tt
rule clean s p.Disconnect k sound h = tt

first_rule : (packet : Packet) (k : Kept) → AllByRecursion (IsSendable k.passed) k.others → Sends (rules.first_rule packet k)
first_rule (p.Connect clean keep_alive client will user password) k h = connect clean client k h
first_rule (p.ConnAck present code) k h = tt
first_rule (p.Publish dup qos retain topic id payload) k h = tt
first_rule (p.PubAck id) k h = tt
first_rule (p.PubRec id) k h = tt
first_rule (p.PubRel id) k h = tt
first_rule (p.PubComp id) k h = tt
first_rule (p.Subscribe id asks) k h = tt
first_rule (p.SubAck id codes) k h = tt
first_rule (p.Unsubscribe id filters) k h = tt
first_rule (p.UnsubAck id) k h = tt
first_rule p.PingReq k h = tt
first_rule p.PingResp k h = tt
first_rule p.Disconnect k h = tt

abbrev OnLink : List Packet → Link → Type 0
OnLink passed Gone = Unit {0}
OnLink passed Opened = Unit {0}
OnLink passed (Accepted clean s) = IsSendable passed s

on : (link : Link) (packet : Packet) (k : Kept) → is_sound packet ≡ true → OnLink k.passed link → AllByRecursion (IsSendable k.passed) k.others → Sends (rules.answer_on link packet k)
on Gone packet k sound here h = tt
on Opened packet k sound here h = first_rule packet k h
on (Accepted clean s) packet k sound here h = rule clean s packet k sound here

own_on : (link : Link) (qos : Qos) (name : List ℕ) (message : Packet) (k : Kept) → IsMessage qos message → OnLink k.passed link → Sends (rules.passes_own link qos name message k)
own_on Gone qos name message k m here = tt
own_on Opened qos name message k m here = tt
own_on (Accepted clean s) qos name message k m here = passes_on [] clean s qos name message k tt m here

-- ---- The law

link_same : (passed : List Packet) (link : Link) → walk.OnLink IsSendable Came each passed link → OnLink passed link
link_same passed Gone h = tt
link_same passed Opened h = tt
link_same passed (Accepted clean s) h = h

at_event : (event : Event) (k : Kept) → MayCome event k → Holds IsSendable Came each k → Sends (answer_to event k)
at_event Begins k may h = tt
at_event Ends k may h = tt
at_event (Comes packet) k may h = on k.link packet k may.1 (link_same k.passed k.link h.on_link) h.on_others
at_event (Publishes qos topic payload) k may h = own_on k.link qos topic (rules.own_message qos topic payload) k (own qos topic payload may.0 may.1 may.2) (link_same k.passed k.link h.on_link)

pub replies_are_sound : RepliesAreSound
replies_are_sound past event possible may = at_event event (kept_of past) may (at_past IsSendable Came each past possible)

-- A session has at most one copy of a message, of those that were passed on.
use Rattle.std.proofs.Common.{◌≡◌, ℕ, ◌+◌, ◌≤◌, Bool, true, false, List, [], ◌∷◌, ◌++◌, map, drop, length, find, count_by, Option, Some, None, refl, sym, ap, ◌∙◌, subst, arith}
use Rattle.std.specs.Prelude.{◌==◌, not, nat_lt, if◌then◌else◌}
use Rattle.std.specs.List.{AllByRecursion, list_any}
use Rattle.std.proofs.lemmas.Bool.{eqb-true}
use Rattle.std.proofs.lemmas.List.{length-append}
use Rattle.mqtt_packet.specs.declared.qos.Qos.{Qos}
use Rattle.mqtt_packet.specs.declared.qos.Qos.TheVariants.{AtMostOnce, AtLeastOnce, ExactlyOnce}
use Rattle.mqtt_packet.specs.declared.packet.Packet.{Packet}
use Rattle.mqtt_packet.specs.declared.packet.Packet.TheVariants as p
use Rattle.topic_filter.specs.Texts.{is_name}
use Rattle.agent_table.specs.Deliveries.{is_among}
use Rattle.agent_table.specs.Identifiers.{fresh}
use Rattle.agent_table.proofs.Counts.{count_append}
use Rattle.broker_core.specs.declared.delivery.Delivery.{Delivery}
use Rattle.broker_core.specs.declared.delivery.Waiting.{Waiting}
use Rattle.broker_core.specs.declared.link.Link.{Link}
use Rattle.broker_core.specs.declared.link.Link.TheVariants.{Gone, Opened, Accepted}
use Rattle.broker_core.specs.Copies.{waits}
use Rattle.broker_core.specs.Kept.{Kept, ended, kept_by}
use Rattle.broker_core.specs.Laws.{sessions, session_on}
use Rattle.broker_core.specs.Past.{Event, Begins, Ends, Comes, Publishes, kept_of, answer_to}
use Rattle.broker_core.specs.Rules.{Answer, without_first, goes_on, closes, accepted, connect, has_place, passes_on, publish_at, makes_room, answers_pubrec, rule, first_rule, answer_on, passes_own, own_message}
use Rattle.broker_core.specs.Session.{Session, begins, is_of, enters, begun, beginning, refilled, is_delivery, others, acknowledged, awaits_release, completed, offered, in_use}
use Rattle.broker_core.specs.Session as spec
use Rattle.broker_core.specs.Subscribed.{copied_at}
use Rattle.once_laws.specs.Places.{copies, IsPlaced, CopiesArePlaced}
use Rattle.once_laws.proofs.Balance.{all_both}
use Rattle.once_laws.proofs.Parts.{digit, counted, fewer}

-- ---- One session

abbrev at_place : ℕ → Delivery → Bool
at_place m d = d.place == m

abbrev waits_at : ℕ → Waiting → Bool
waits_at m copy = copy.place == m

pub placed_more : (n k : ℕ) (s : Session) → n ≤ k → IsPlaced n s → IsPlaced k s
placed_more n k s more h = record { one = h.one; below = λ m few. h.below m (omega (arith, more, few)) }

-- what is sent for the first time waits no more
begun_same : (m last : ℕ) (used : List ℕ) (waiting : List Waiting) → count_by (at_place m) (begun last used waiting) + count_by (waits_at m) (drop (length (begun last used waiting)) waiting) ≡ count_by (waits_at m) waiting
begun_same m last used [] = refl
begun_same m last used (copy ∷ waiting) = go (nat_lt (length used) 16) (begun_same m (fresh last used) (used ++ fresh last used ∷ []) waiting)
  where
    one : Delivery
    one = record { id = fresh last used; place = copy.place; qos = copy.qos }

    rest : List Delivery
    rest = begun (fresh last used) (used ++ fresh last used ∷ []) waiting

    go : (b : Bool) → count_by (at_place m) (begun (fresh last used) (used ++ fresh last used ∷ []) waiting) + count_by (waits_at m) (drop (length (begun (fresh last used) (used ++ fresh last used ∷ []) waiting)) waiting) ≡ count_by (waits_at m) waiting
        → count_by (at_place m) (if b then record { id = fresh last used; place = copy.place; qos = copy.qos } ∷ begun (fresh last used) (used ++ fresh last used ∷ []) waiting else [])
        + count_by (waits_at m) (drop (length (if b then record { id = fresh last used; place = copy.place; qos = copy.qos } ∷ begun (fresh last used) (used ++ fresh last used ∷ []) waiting else [])) (copy ∷ waiting)) ≡ count_by (waits_at m) (copy ∷ waiting)
    go true later = omega (arith, later, counted (at_place m) one rest, counted (waits_at m) copy waiting)
    go false later = omega arith

refilled_same : (m : ℕ) (s : Session) → copies m (refilled s) ≡ copies m s
refilled_same m s = omega (arith, count_append (at_place m) s.sent (beginning s), begun_same m s.last_drawn (in_use s.sent s.released) s.waiting)

pub refilled_placed : (n : ℕ) (s : Session) → IsPlaced n s → IsPlaced n (refilled s)
refilled_placed n s h = record { one = λ m. omega (arith, h.one m, refilled_same m s); below = λ m few. refilled_same m s ∙ h.below m few }

-- a copy of the next message
waits_few : (m place : ℕ) (best : Option Qos) → count_by (waits_at m) (waits best place) ≤ digit (place == m)
waits_few m place None = omega arith
waits_few m place (Some AtMostOnce) = omega arith
waits_few m place (Some AtLeastOnce) = omega (arith, counted (waits_at m) (record { place = place; qos = AtLeastOnce }) [])
waits_few m place (Some ExactlyOnce) = omega (arith, counted (waits_at m) (record { place = place; qos = ExactlyOnce }) [])

pub offered_placed : (qos : Qos) (name : List ℕ) (n : ℕ) (s : Session) → IsPlaced n s → IsPlaced (n + 1) (offered qos name n s)
offered_placed qos name n s h = record { one = λ m. one m (n == m) refl; below = λ m few. below m few (n == m) refl }
  where
    more : (m : ℕ) → count_by (waits_at m) (s.waiting ++ waits (copied_at qos name s.subscriptions) n) ≡ count_by (waits_at m) s.waiting + count_by (waits_at m) (waits (copied_at qos name s.subscriptions) n)
    more m = count_append (waits_at m) s.waiting (waits (copied_at qos name s.subscriptions) n)

    few_at : (m : ℕ) → count_by (waits_at m) (waits (copied_at qos name s.subscriptions) n) ≤ digit (n == m)
    few_at m = waits_few m n (copied_at qos name s.subscriptions)

    one : (m : ℕ) (b : Bool) → (n == m) ≡ b → copies m (offered qos name n s) ≤ 1
    one m true e = let same : n ≡ m = eqb-true n m e in omega (arith, h.below m (omega (arith, same)), more m, few_at m, ap digit e)
    one m false e = omega (arith, h.one m, more m, few_at m, ap digit e)

    below : (m : ℕ) → n + 1 ≤ m → (b : Bool) → (n == m) ≡ b → copies m (offered qos name n s) ≡ 0
    below m few true e = let same : n ≡ m = eqb-true n m e in absurd (omega (arith, same, few))
    below m few false e = omega (arith, h.below m (omega (arith, few)), more m, few_at m, ap digit e)

-- fewer deliveries
less_placed : (n : ℕ) (s new : Session) → ((m : ℕ) → copies m new ≤ copies m s) → IsPlaced n s → IsPlaced n new
less_placed n s new less h = record { one = λ m. omega (arith, h.one m, less m); below = λ m few. omega (arith, h.below m few, less m) }

acknowledged_placed : (n id : ℕ) (s : Session) → IsPlaced n s → IsPlaced n (acknowledged id s)
acknowledged_placed n id s h = less_placed n s (acknowledged id s) (λ m. omega (arith, fewer (at_place m) (λ d. not (is_delivery AtLeastOnce id d)) s.sent)) h

released_placed : (n id : ℕ) (s : Session) → IsPlaced n s → IsPlaced n (spec.released id s)
released_placed n id s h = less_placed n s (spec.released id s) (λ m. go m (list_any (is_delivery ExactlyOnce id) s.sent)) h
  where
    go : (m : ℕ) (b : Bool) → copies m (if b then record s { sent = others ExactlyOnce id s.sent; released = s.released ++ id ∷ [] } else s) ≤ copies m s
    go m true = omega (arith, fewer (at_place m) (λ d. not (is_delivery ExactlyOnce id d)) s.sent)
    go m false = omega arith

begins_placed : (n : ℕ) (client : List ℕ) → IsPlaced n (begins client)
begins_placed n client = record { one = λ m. omega arith; below = λ m few. refl }

-- ---- All sessions

abbrev ArePlaced : ℕ → List Session → Type 0
ArePlaced n ss = AllByRecursion (IsPlaced n) ss

all_more : (n k : ℕ) (ss : List Session) → n ≤ k → ArePlaced n ss → ArePlaced k ss
all_more n k [] more h = tt
all_more n k (s ∷ ss) more h = (placed_more n k s more h.0, all_more n k ss more h.1)

all_offered : (qos : Qos) (name : List ℕ) (n : ℕ) (ss : List Session) → ArePlaced n ss → ArePlaced (n + 1) (map (offered qos name n) ss)
all_offered qos name n [] h = tt
all_offered qos name n (s ∷ ss) h = (offered_placed qos name n s h.0, all_offered qos name n ss h.1)

all_without : (n : ℕ) (test : Session → Bool) (ss : List Session) → ArePlaced n ss → ArePlaced n (without_first test ss)
all_without n test [] h = tt
all_without n test (s ∷ ss) h = go (test s) (all_without n test ss h.1)
  where
    go : (b : Bool) → ArePlaced n (without_first test ss) → ArePlaced n (if b then ss else s ∷ without_first test ss)
    go true rest = h.1
    go false rest = (h.0, rest)

found_placed : (n : ℕ) (test : Session → Bool) (ss : List Session) → ArePlaced n ss → (s : Session) → find test ss ≡ Some s → IsPlaced n s
found_placed n test [] h s e = absurd (cc e)
found_placed n test (x ∷ ss) h s e = go (test x) e (found_placed n test ss h.1 s)
  where
    value : Option Session → Session
    value None = x
    value (Some y) = y

    go : (b : Bool) → (if b then Some x else find test ss) ≡ Some s → (find test ss ≡ Some s → IsPlaced n s) → IsPlaced n s
    go true is rest = subst (IsPlaced n) (ap value is) h.0
    go false is rest = rest is

-- what is kept of a link and of the others
link_part : (n : ℕ) (link : Link) (ss : List Session) → ArePlaced n (session_on link ++ ss) → ArePlaced n (session_on link) × ArePlaced n ss
link_part n Gone ss h = (tt, h)
link_part n Opened ss h = (tt, h)
link_part n (Accepted clean s) ss h = ((h.0, tt), h.1)

kept_placed : (n : ℕ) (link : Link) → ArePlaced n (session_on link) → ArePlaced n (kept_by link)
kept_placed n Gone h = tt
kept_placed n Opened h = tt
kept_placed n (Accepted true s) h = tt
kept_placed n (Accepted false s) h = h

-- ---- Answers

abbrev Placed : Kept → Type 0
Placed k = ArePlaced (length k.passed) (sessions k)

module _ (k : Kept) (h : ArePlaced (length k.passed) k.others) where
  ended_placed : ArePlaced (length k.passed) (session_on k.link) → Placed (ended k)
  ended_placed on = all_both (IsPlaced (length k.passed)) k.others (kept_by k.link) h (kept_placed (length k.passed) k.link on)

  either : (b : Bool) (one other : Answer) → Placed one.kept → Placed other.kept → Placed (if b then one else other).kept
  either true one other a b = a
  either false one other a b = b

  -- a message is passed on
  passes : (packets : List Packet) (clean : Bool) (s : Session) (qos : Qos) (name : List ℕ) (message : Packet) → IsPlaced (length k.passed) s → Placed (passes_on packets clean s qos name message k).kept
  passes packets clean s qos name message on =
      let n = length k.passed in
      subst (λ m. ArePlaced m (refilled (offered qos name n s) ∷ map (offered qos name n) k.others)) (sym (length-append k.passed (message ∷ []))) (refilled_placed (n + 1) (offered qos name n s) (offered_placed qos name n s on), all_offered qos name n k.others h)

  module _ (clean : Bool) (s : Session) (on : IsPlaced (length k.passed) s) (here : ArePlaced (length k.passed) (session_on k.link)) where
    same : Placed k
    same = all_both (IsPlaced (length k.passed)) (session_on k.link) k.others here h

    room : (b : Bool) (new : Session) → IsPlaced (length k.passed) new → Placed (makes_room b clean new k).kept
    room true new is = (refilled_placed (length k.passed) new is, h)
    room false new is = same

    pubrec : (b : Bool) (id : ℕ) → Placed (answers_pubrec b id clean s k).kept
    pubrec true id = (released_placed (length k.passed) id s on, h)
    pubrec false id = same

    like : (new : Session) → ((m : ℕ) → copies m new ≡ copies m s) → IsPlaced (length k.passed) new
    like new is = less_placed (length k.passed) s new (λ m. omega (arith, is m)) on

    at_qos : (qos : Qos) (topic : List ℕ) (id : ℕ) (message : Packet) → Placed (publish_at qos clean s topic id message k).kept
    at_qos AtMostOnce topic id message = passes [] clean s AtMostOnce topic message on
    at_qos AtLeastOnce topic id message = passes (p.PubAck id ∷ []) clean s AtLeastOnce topic message on
    at_qos ExactlyOnce topic id message =
        either (is_among s.received id) (goes_on (p.PubRec id ∷ []) k) (passes_on (p.PubRec id ∷ []) clean (enters id s) ExactlyOnce topic message k) same (passes (p.PubRec id ∷ []) clean (enters id s) ExactlyOnce topic message (like (enters id s) (λ m. refl)))

    ruled : (packet : Packet) → Placed (rule clean s packet k).kept
    ruled (p.Connect a b d e f g) = ended_placed here
    ruled (p.ConnAck present code) = ended_placed here
    ruled (p.Publish dup qos retain topic id payload) =
        either (is_name topic) (publish_at qos clean s topic id (p.Publish dup qos retain topic id payload) k) (closes [] k) (at_qos qos topic id (p.Publish dup qos retain topic id payload)) (ended_placed here)
    ruled (p.PubAck id) = room (list_any (is_delivery AtLeastOnce id) s.sent) (acknowledged id s) (acknowledged_placed (length k.passed) id s on)
    ruled (p.PubRec id) = pubrec (awaits_release id s) id
    ruled (p.PubRel id) = (like (record s { received = spec.without id s.received }) (λ m. refl), h)
    ruled (p.PubComp id) = room (is_among s.released id) (completed id s) (like (completed id s) (λ m. refl))
    ruled (p.Subscribe id asks) = (like (record s { subscriptions = _ }) (λ m. refl), h)
    ruled (p.SubAck id codes) = ended_placed here
    ruled (p.Unsubscribe id filters) = (like (record s { subscriptions = _ }) (λ m. refl), h)
    ruled (p.UnsubAck id) = ended_placed here
    ruled p.PingReq = same
    ruled p.PingResp = ended_placed here
    ruled p.Disconnect = ended_placed here

  -- CONNECT
  accepts : (clean : Bool) (client : List ℕ) (old : Option Session) → find (is_of client) k.others ≡ old → Placed (accepted clean client old k).kept
  accepts true client old is = (begins_placed (length k.passed) client, all_without (length k.passed) (is_of client) k.others h)
  accepts false client None is = (begins_placed (length k.passed) client, h)
  accepts false client (Some s) is = (refilled_placed (length k.passed) s (found_placed (length k.passed) (is_of client) k.others h s is), all_without (length k.passed) (is_of client) k.others h)

  connects : (clean : Bool) (client : List ℕ) → ArePlaced (length k.passed) (session_on k.link) → Placed (connect clean client k).kept
  connects clean client here =
      either (length client == 0) (closes (p.ConnAck false 2 ∷ []) k) (if has_place client k.others then accepted clean client (find (is_of client) k.others) k else closes (p.ConnAck false 3 ∷ []) k) (ended_placed here)
      (either (has_place client k.others) (accepted clean client (find (is_of client) k.others) k) (closes (p.ConnAck false 3 ∷ []) k) (accepts clean client (find (is_of client) k.others) refl) (ended_placed here))

  first : (packet : Packet) → ArePlaced (length k.passed) (session_on k.link) → Placed (first_rule packet k).kept
  first (p.Connect clean keep_alive client will user password) here = connects clean client here
  first (p.ConnAck present code) here = ended_placed here
  first (p.Publish dup qos retain topic id payload) here = ended_placed here
  first (p.PubAck id) here = ended_placed here
  first (p.PubRec id) here = ended_placed here
  first (p.PubRel id) here = ended_placed here
  first (p.PubComp id) here = ended_placed here
  first (p.Subscribe id asks) here = ended_placed here
  first (p.SubAck id codes) here = ended_placed here
  first (p.Unsubscribe id filters) here = ended_placed here
  first (p.UnsubAck id) here = ended_placed here
  first p.PingReq here = ended_placed here
  first p.PingResp here = ended_placed here
  first p.Disconnect here = ended_placed here

  comes : (link : Link) (packet : Packet) → ArePlaced (length k.passed) (session_on link) → ArePlaced (length k.passed) (session_on k.link) → Placed (answer_on link packet k).kept
  comes Gone packet on here = all_both (IsPlaced (length k.passed)) (session_on k.link) k.others here h
  comes Opened packet on here = first packet here
  comes (Accepted clean s) packet on here = ruled clean s on.0 here packet

  owns : (link : Link) (qos : Qos) (topic : List ℕ) (message : Packet) → ArePlaced (length k.passed) (session_on link) → Placed (passes_own link qos topic message k).kept
  owns Gone qos topic message on = subst (λ m. ArePlaced m (map (offered qos topic (length k.passed)) k.others)) (sym (length-append k.passed (message ∷ []))) (all_offered qos topic (length k.passed) k.others h)
  owns Opened qos topic message on = subst (λ m. ArePlaced m (map (offered qos topic (length k.passed)) k.others)) (sym (length-append k.passed (message ∷ []))) (all_offered qos topic (length k.passed) k.others h)
  owns (Accepted clean s) qos topic message on = passes [] clean s qos topic message on.0

pub copies_are_placed : CopiesArePlaced
copies_are_placed [] = tt
copies_are_placed (event ∷ past) = go event (link_part (length (kept_of past).passed) (kept_of past).link (kept_of past).others (copies_are_placed past))
  where
    go : (event : Event) → ArePlaced (length (kept_of past).passed) (session_on (kept_of past).link) × ArePlaced (length (kept_of past).passed) (kept_of past).others → Placed (answer_to event (kept_of past)).kept
    go Begins two = two.1
    go Ends two = ended_placed (kept_of past) two.1 two.0
    go (Comes packet) two = comes (kept_of past) two.1 (kept_of past).link packet two.0 two.0
    go (Publishes qos topic payload) two = owns (kept_of past) two.1 (kept_of past).link qos topic (own_message qos topic payload) two.0

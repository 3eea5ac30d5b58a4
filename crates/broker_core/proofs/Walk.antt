-- What holds of each session holds behind each event, where each rule keeps it.
use Rattle.std.proofs.Common.{◌∙◌, sym, ◌≡◌, ℕ, ◌≤◌, Bool, true, false, List, [], ◌∷◌, ◌++◌, map, length, Option, Some, None, refl, ap, ◌+◌, ◌<◌, arith, length-append, IsUtf8}
use Rattle.std.proofs.lemmas.Bool.{ltb-true}
use Rattle.std.proofs.lemmas.List.{length-map}
use Rattle.std.specs.Prelude.{◌==◌, count_by, find, if◌then◌else◌}
use Rattle.std.specs.Str.{bytes_eq}
use Rattle.std.proofs.lemmas.Slice.Eq.{bytes_eq-Decides}
use Rattle.agent_table.proofs.Counts.{count_append}
use Rattle.std.specs.List.{AllByRecursion, list_any}
use Rattle.mqtt_packet.specs.declared.qos.Qos.{Qos}
use Rattle.mqtt_packet.specs.declared.qos.Qos.TheVariants.{AtMostOnce, AtLeastOnce, ExactlyOnce}
use Rattle.mqtt_packet.specs.declared.packet.Packet.{Packet}
use Rattle.mqtt_packet.specs.declared.packet.Packet.TheVariants as p
use Rattle.mqtt_packet.specs.declared.will.Ask.{Ask}
use Rattle.mqtt_packet.specs.Spelling.{is_sound}
use Rattle.topic_filter.specs.Texts.{is_name}
use Rattle.agent_table.specs.Deliveries.{is_among}
use Rattle.broker_core.specs.declared.link.Link.{Link}
use Rattle.broker_core.specs.declared.link.Link.TheVariants.{Gone, Opened, Accepted}
use Rattle.broker_core.specs.Kept.{Kept, ended, kept_by}
use Rattle.broker_core.specs.Laws.{session_on}
use Rattle.broker_core.specs.Past.{Event, Begins, Ends, Comes, Publishes, answer_to, kept_of, MayCome, IsPast}
use Rattle.broker_core.specs.Rules as rules
use Rattle.broker_core.specs.Session as spec

-- ---- All of a list

pub all_append : {X : Type 0} (P : X → Type 0) (xs ys : List X) → AllByRecursion P xs → AllByRecursion P ys → AllByRecursion P (xs ++ ys)
all_append P [] ys a b = b
all_append P (x ∷ xs) ys a b = (a.0, all_append P xs ys a.1 b)

pub all_map : {X Y : Type 0} (P : X → Type 0) (Q : Y → Type 0) (f : X → Y) → ((x : X) → P x → Q (f x)) → (xs : List X) → AllByRecursion P xs → AllByRecursion Q (map f xs)
all_map P Q f h [] a = tt
all_map P Q f h (x ∷ xs) a = (h x a.0, all_map P Q f h xs a.1)

pub all_first : {X : Type 0} (P : X → Type 0) (test : X → Bool) (xs : List X) → AllByRecursion P xs → AllByRecursion P (rules.without_first test xs)
all_first P test [] a = tt
all_first P test (x ∷ xs) a = go (test x) (all_first P test xs a.1)
  where
    go : (t : Bool) → AllByRecursion P (rules.without_first test xs) → AllByRecursion P (if t then xs else x ∷ rules.without_first test xs)
    go true rest = a.1
    go false rest = (a.0, rest)

pub all_find : {X : Type 0} (P : X → Type 0) (test : X → Bool) (xs : List X) (x : X) → AllByRecursion P xs → find test xs ≡ Some x → P x
all_find P test [] x a e = absurd (cc e)
all_find P test (y ∷ xs) x a e = go (test y) refl (all_find P test xs x a.1)
  where
    go : (t : Bool) → test y ≡ t → (find test xs ≡ Some x → P x) → P x
    go true found rest = let same : y ≡ x = cc (rw found at e) in rw (← same) a.0
    go false found rest = rest (rw found at e)

-- ---- How many sessions

kept_few : (link : Link) → length (kept_by link) ≤ length (session_on link)
kept_few Gone = omega arith
kept_few Opened = omega arith
kept_few (Accepted true s) = omega arith
kept_few (Accepted false s) = omega arith

no_more : {X : Type 0} (test : X → Bool) (xs : List X) → length (rules.without_first test xs) ≤ length xs
no_more test [] = omega arith
no_more test (x ∷ xs) = go (test x) (no_more test xs)
  where
    go : (t : Bool) → length (rules.without_first test xs) ≤ length xs → length (if t then xs else x ∷ rules.without_first test xs) ≤ length (x ∷ xs)
    go true rest = omega arith
    go false rest = omega (arith, rest)

one_less : {X : Type 0} (test : X → Bool) (xs : List X) → list_any test xs ≡ true → length (rules.without_first test xs) + 1 ≤ length xs
one_less test [] some = absurd (cc some)
one_less test (x ∷ xs) some = go (test x) refl (one_less test xs)
  where
    go : (t : Bool) → test x ≡ t → (list_any test xs ≡ true → length (rules.without_first test xs) + 1 ≤ length xs) → length (if t then xs else x ∷ rules.without_first test xs) + 1 ≤ length (x ∷ xs)
    go true e rest = omega arith
    go false e rest = let less = rest (rw e at some) in omega (arith, less)

found_some : {X : Type 0} (test : X → Bool) (xs : List X) (x : X) → find test xs ≡ Some x → list_any test xs ≡ true
found_some test [] x e = absurd (cc e)
found_some test (y ∷ xs) x e = go (test y) refl (found_some test xs x)
  where
    go : (t : Bool) → test y ≡ t → (find test xs ≡ Some x → list_any test xs ≡ true) → list_any test (y ∷ xs) ≡ true
    go true is rest = rw is refl
    go false is rest = rw is (rest (rw is at e))

none_some : {X : Type 0} (test : X → Bool) (xs : List X) → find test xs ≡ None → list_any test xs ≡ false
none_some test [] e = refl
none_some test (y ∷ xs) e = go (test y) refl (none_some test xs)
  where
    go : (t : Bool) → test y ≡ t → (find test xs ≡ None → list_any test xs ≡ false) → list_any test (y ∷ xs) ≡ false
    go true is rest = absurd (cc (rw is at e))
    go false is rest = rw is (rest (rw is at e))

-- with the client's session there are at most 64
with_one : (client : List ℕ) (xs : List spec.Session) → rules.has_place client xs ≡ true → length xs ≤ 64 → length (rules.without_client client xs) + 1 ≤ 64
with_one client xs place most = go (list_any (spec.is_of client) xs) refl
  where
    go : (t : Bool) → list_any (spec.is_of client) xs ≡ t → length (rules.without_client client xs) + 1 ≤ 64
    go true e = omega (arith, one_less (spec.is_of client) xs e, most)
    go false e = let room : length xs < 64 = ltb-true (length xs) 64 (rw e at place) in omega (arith, room, no_more (spec.is_of client) xs)

new_one : (client : List ℕ) (xs : List spec.Session) → rules.has_place client xs ≡ true → find (spec.is_of client) xs ≡ None → length xs + 1 ≤ 64
new_one client xs place none =
    let room : length xs < 64 = ltb-true (length xs) 64 (rw (none_some (spec.is_of client) xs none) at place) in omega (arith, room)

-- ---- One session a client

abbrev count : List ℕ → List spec.Session → ℕ
count c ss = count_by (spec.is_of c) ss

abbrev hit : Bool → ℕ
hit true = 1
hit false = 0

one_hit : (c : List ℕ) (s : spec.Session) → count c (s ∷ []) ≡ hit (bytes_eq s.client c)
one_hit c s = go (bytes_eq s.client c) refl
  where
    go : (t : Bool) → bytes_eq s.client c ≡ t → count c (s ∷ []) ≡ hit (bytes_eq s.client c)
    go true e = rw e refl
    go false e = rw e refl

hit_most : (t : Bool) → hit t ≤ 1
hit_most true = omega arith
hit_most false = omega arith

kept_count : (c : List ℕ) (link : Link) → count c (kept_by link) ≤ count c (session_on link)
kept_count c Gone = omega arith
kept_count c Opened = omega arith
kept_count c (Accepted true s) = omega arith
kept_count c (Accepted false s) = omega arith

count_cons : (c : List ℕ) (s : spec.Session) (ss : List spec.Session) → count c (s ∷ ss) ≡ count c (s ∷ []) + count c ss
count_cons c s ss = count_append (spec.is_of c) (s ∷ []) ss

fewer : (c : List ℕ) (test : spec.Session → Bool) (ss : List spec.Session) → count c (rules.without_first test ss) ≤ count c ss
fewer c test [] = omega arith
fewer c test (s ∷ ss) = go (test s) (fewer c test ss)
  where
    go : (t : Bool) → count c (rules.without_first test ss) ≤ count c ss → count c (if t then ss else s ∷ rules.without_first test ss) ≤ count c (s ∷ ss)
    go true rest = omega (arith, count_cons c s ss)
    go false rest = omega (arith, rest, count_cons c s ss, count_cons c s (rules.without_first test ss))

gone : (c : List ℕ) (ss : List spec.Session) → count c ss ≤ 1 → count c (rules.without_client c ss) ≡ 0
gone c [] h = refl
gone c (s ∷ ss) h = go (spec.is_of c s) refl (gone c ss)
  where
    go : (t : Bool) → spec.is_of c s ≡ t → (count c ss ≤ 1 → count c (rules.without_client c ss) ≡ 0) → count c (rules.without_client c (s ∷ ss)) ≡ 0
    go true e rest = rw e (omega (arith, h, count_cons c s ss, one_hit c s, ap hit e))
    go false e rest =
        let z : count c (rules.without_client c ss) ≡ 0 = rest (omega (arith, h, count_cons c s ss)) in
        rw e (omega (arith, z, count_cons c s (rules.without_client c ss), one_hit c s, ap hit e))

none_count : (c : List ℕ) (ss : List spec.Session) → find (spec.is_of c) ss ≡ None → count c ss ≡ 0
none_count c [] e = refl
none_count c (s ∷ ss) e = go (spec.is_of c s) refl (none_count c ss)
  where
    go : (t : Bool) → spec.is_of c s ≡ t → (find (spec.is_of c) ss ≡ None → count c ss ≡ 0) → count c (s ∷ ss) ≡ 0
    go true is rest = absurd (cc (rw is at e))
    go false is rest =
        let z : count c ss ≡ 0 = rest (rw is at e) in
        omega (arith, z, count_cons c s ss, one_hit c s, ap hit is)

found_is : {X : Type 0} (test : X → Bool) (xs : List X) (x : X) → find test xs ≡ Some x → test x ≡ true
found_is test [] x e = absurd (cc e)
found_is test (y ∷ xs) x e = go (test y) refl (found_is test xs x)
  where
    go : (t : Bool) → test y ≡ t → (find test xs ≡ Some x → test x ≡ true) → test x ≡ true
    go true is rest = let same : y ≡ x = cc (rw is at e) in rw (← same) is
    go false is rest = rest (rw is at e)

-- a client's session in place of the one that was kept
in_place : (c client : List ℕ) (s : spec.Session) (others : List spec.Session) → s.client ≡ client → ((c : List ℕ) → count c others ≤ 1) → count c (s ∷ []) + count c (rules.without_client client others) ≤ 1
in_place c client s others is once = go (bytes_eq s.client c) refl
  where
    go : (t : Bool) → bytes_eq s.client c ≡ t → count c (s ∷ []) + count c (rules.without_client client others) ≤ 1
    go true e =
        let same : client ≡ c = sym is ∙ (bytes_eq-Decides s.client c).0 e in
        let none : count c (rules.without_client client others) ≡ 0 = rw same (gone c others (once c)) in
        omega (arith, none, one_hit c s, hit_most (bytes_eq s.client c))
    go false e = omega (arith, one_hit c s, ap hit e, once c, fewer c (spec.is_of client) others)

-- and where none was
in_front : (c client : List ℕ) (s : spec.Session) (others : List spec.Session) → s.client ≡ client → find (spec.is_of client) others ≡ None → ((c : List ℕ) → count c others ≤ 1) → count c (s ∷ []) + count c others ≤ 1
in_front c client s others is none once = go (bytes_eq s.client c) refl
  where
    go : (t : Bool) → bytes_eq s.client c ≡ t → count c (s ∷ []) + count c others ≤ 1
    go true e =
        let same : client ≡ c = sym is ∙ (bytes_eq-Decides s.client c).0 e in
        let zero_is : count c others ≡ 0 = rw (← same) (none_count client others none) in
        omega (arith, zero_is, one_hit c s, hit_most (bytes_eq s.client c))
    go false e = omega (arith, one_hit c s, ap hit e, once c)

count_map : (c : List ℕ) (f : spec.Session → spec.Session) → ((s : spec.Session) → spec.is_of c (f s) ≡ spec.is_of c s) → (ss : List spec.Session) → count c (map f ss) ≡ count c ss
count_map c f same [] = refl
count_map c f same (s ∷ ss) = omega (arith, count_map c f same ss, count_cons c (f s) (map f ss), count_cons c s ss, one_hit c (f s), one_hit c s, ap hit (same s))

-- The connection has a session of this client.
record Has (k : Kept) (client : List ℕ) : Type 0 where
  one : length (session_on k.link) ≡ 1
  same : (c : List ℕ) → count c (session_on k.link) ≡ hit (bytes_eq client c)

has : (k : Kept) (clean : Bool) (s : spec.Session) → k.link ≡ Accepted clean s → Has k s.client
has k clean s e = record { one = ap (λ link. length (session_on link)) e; same = λ c. ap (λ link. count c (session_on link)) e ∙ one_hit c s }

-- ---- The walk

-- P holds of sessions beside the messages that were passed on, M of a message with its quality of service and name.
pub record IsKept (P : List Packet → spec.Session → Type 0) (M : Qos → List ℕ → Packet → Type 0) : Type 0 where
  pub begins : (passed : List Packet) (client : List ℕ) → P passed (spec.begins client)
  pub refilled : (passed : List Packet) (s : spec.Session) → P passed s → P passed (spec.refilled s)
  pub acknowledged : (passed : List Packet) (s : spec.Session) (n : ℕ) → P passed s → P passed (spec.acknowledged n s)
  pub released : (passed : List Packet) (s : spec.Session) (n : ℕ) → is_sound (p.PubRec n) ≡ true → P passed s → P passed (spec.released n s)
  pub completed : (passed : List Packet) (s : spec.Session) (n : ℕ) → P passed s → P passed (spec.completed n s)
  pub received : (passed : List Packet) (s : spec.Session) (ids : List ℕ) → P passed s → P passed (record s { received = ids })
  pub subscribed : (passed : List Packet) (s : spec.Session) (asks : List Ask) → P passed s → P passed (record s { subscriptions = asks })
  pub offered : (passed : List Packet) (s : spec.Session) (qos : Qos) (name : List ℕ) (message : Packet) → M qos name message → P passed s → P (passed ++ message ∷ []) (spec.offered qos name (length passed) s)
  pub came : (dup retain : Bool) (qos : Qos) (topic : List ℕ) (id : ℕ) (payload : List ℕ) → is_sound (p.Publish dup qos retain topic id payload) ≡ true → M qos topic (p.Publish dup qos retain topic id payload)
  pub own : (qos : Qos) (topic payload : List ℕ) → is_name topic ≡ true → IsUtf8 topic → length payload ≤ 131072 → M qos topic (rules.own_message qos topic payload)

same_client : (n : ℕ) (s : spec.Session) → (spec.released n s).client ≡ s.client
same_client n s = go (list_any (spec.is_delivery ExactlyOnce n) s.sent) refl
  where
    go : (t : Bool) → list_any (spec.is_delivery ExactlyOnce n) s.sent ≡ t → (spec.released n s).client ≡ s.client
    go true e = rw e refl
    go false e = rw e refl

module _ (P : List Packet → spec.Session → Type 0) (M : Qos → List ℕ → Packet → Type 0) (each : IsKept P M) where
  abbrev pub OnLink : List Packet → Link → Type 0
  OnLink passed Gone = Unit {0}
  OnLink passed Opened = Unit {0}
  OnLink passed (Accepted clean s) = P passed s

  pub record Holds (k : Kept) : Type 0 where
    pub on_link : OnLink k.passed k.link
    pub on_others : AllByRecursion (P k.passed) k.others
    pub few : length (session_on k.link) + length k.others ≤ 64
    pub once : (c : List ℕ) → count c (session_on k.link) + count c k.others ≤ 1

  kept : (passed : List Packet) (link : Link) → OnLink passed link → AllByRecursion (P passed) (kept_by link)
  kept passed Gone h = tt
  kept passed Opened h = tt
  kept passed (Accepted true s) h = tt
  kept passed (Accepted false s) h = (h, tt)

  pub at_end : (k : Kept) → Holds k → Holds (ended k)
  at_end k h = record {
    on_link = tt;
    on_others = all_append (P k.passed) k.others (kept_by k.link) h.on_others (kept k.passed k.link h.on_link);
    few = omega (arith, h.few, length-append k.others (kept_by k.link), kept_few k.link);
    once = λ c. omega (arith, h.once c, count_append (spec.is_of c) k.others (kept_by k.link), kept_count c k.link);
  }

  either : (b : Bool) (one other : rules.Answer) → Holds one.kept → Holds other.kept → Holds (if b then one else other).kept
  either true one other h g = h
  either false one other h g = g

  -- ---- CONNECT

  accepted : (clean : Bool) (client : List ℕ) (old : Option spec.Session) (k : Kept) → find (spec.is_of client) k.others ≡ old → rules.has_place client k.others ≡ true → Holds k → Holds (rules.accepted clean client old k).kept
  accepted true client old k e place h = record {
    on_link = each.begins k.passed client;
    on_others = all_first (P k.passed) (spec.is_of client) k.others h.on_others;
    few = omega (arith, with_one client k.others place (omega (arith, h.few)));
    once = λ c. in_place c client (spec.begins client) k.others refl (λ d. omega (arith, h.once d));
  }
  accepted false client None k e place h = record {
    on_link = each.begins k.passed client;
    on_others = h.on_others;
    few = omega (arith, new_one client k.others place e);
    once = λ c. in_front c client (spec.begins client) k.others refl e (λ d. omega (arith, h.once d));
  }
  accepted false client (Some s) k e place h = record {
    on_link = each.refilled k.passed s (all_find (P k.passed) (spec.is_of client) k.others s h.on_others e);
    on_others = all_first (P k.passed) (spec.is_of client) k.others h.on_others;
    few = omega (arith, with_one client k.others place (omega (arith, h.few)));
    once = λ c. in_place c client (spec.refilled s) k.others ((bytes_eq-Decides s.client client).0 (found_is (spec.is_of client) k.others s e)) (λ d. omega (arith, h.once d));
  }

  connect : (clean : Bool) (client : List ℕ) (k : Kept) → Holds k → Holds (rules.connect clean client k).kept
  connect clean client k h = either (length client == 0) _ _ (at_end k h) (go (rules.has_place client k.others) refl)
    where
      go : (t : Bool) → rules.has_place client k.others ≡ t → Holds (if t then rules.accepted clean client (find (spec.is_of client) k.others) k else rules.closes (p.ConnAck false 3 ∷ []) k).kept
      go true e = accepted clean client (find (spec.is_of client) k.others) k refl e h
      go false e = at_end k h

  -- ---- PUBLISH

  others : (qos : Qos) (name : List ℕ) (message : Packet) (k : Kept) → M qos name message → Holds k → AllByRecursion (P (k.passed ++ message ∷ [])) (map (spec.offered qos name (length k.passed)) k.others)
  others qos name message k m h = all_map (P k.passed) (P (k.passed ++ message ∷ [])) (spec.offered qos name (length k.passed)) (λ s here. each.offered k.passed s qos name message m here) k.others h.on_others

  passes_on : (packets : List Packet) (clean : Bool) (s : spec.Session) (qos : Qos) (name : List ℕ) (message : Packet) (k : Kept) → Has k s.client → M qos name message → P k.passed s → Holds k → Holds (rules.passes_on packets clean s qos name message k).kept
  passes_on packets clean s qos name message k one m here h = record {
    on_link = each.refilled (k.passed ++ message ∷ []) (spec.offered qos name (length k.passed) s) (each.offered k.passed s qos name message m here);
    on_others = others qos name message k m h;
    few = omega (arith, one.one, h.few, length-map k.others (spec.offered qos name (length k.passed)));
    once = λ c. omega (arith, h.once c, one.same c, one_hit c (spec.refilled (spec.offered qos name (length k.passed) s)), count_map c (spec.offered qos name (length k.passed)) (λ other. refl) k.others);
  }

  publish_at : (qos : Qos) (clean : Bool) (s : spec.Session) (topic : List ℕ) (id : ℕ) (message : Packet) (k : Kept) → Has k s.client → M qos topic message → P k.passed s → Holds k → Holds (rules.publish_at qos clean s topic id message k).kept
  publish_at AtMostOnce clean s topic id message k one m here h = passes_on [] clean s AtMostOnce topic message k one m here h
  publish_at AtLeastOnce clean s topic id message k one m here h = passes_on (p.PubAck id ∷ []) clean s AtLeastOnce topic message k one m here h
  publish_at ExactlyOnce clean s topic id message k one m here h =
      either (is_among s.received id) _ _ h (passes_on (p.PubRec id ∷ []) clean (spec.enters id s) ExactlyOnce topic message k one m (each.received k.passed s (s.received ++ id ∷ []) here) h)

  publish : (qos : Qos) (clean : Bool) (s : spec.Session) (topic : List ℕ) (id : ℕ) (message : Packet) (k : Kept) → Has k s.client → M qos topic message → P k.passed s → Holds k → Holds (rules.publish qos clean s topic id message k).kept
  publish qos clean s topic id message k one m here h = either (is_name topic) _ _ (publish_at qos clean s topic id message k one m here h) (at_end k h)

  -- ---- Any packet

  with : (k : Kept) (clean : Bool) (s : spec.Session) → Has k s.client → P k.passed s → Holds k → Holds (rules.with_link (Accepted clean s) k)
  with k clean s one here h = record { on_link = here; on_others = h.on_others; few = omega (arith, one.one, h.few); once = λ c. omega (arith, h.once c, one.same c, one_hit c s) }

  room : (b : Bool) (clean : Bool) (s left : spec.Session) (k : Kept) → Has k s.client → left.client ≡ s.client → P k.passed left → Holds k → Holds (rules.makes_room b clean left k).kept
  room true clean s left k one same here h = with k clean (spec.refilled left) (rw same one) (each.refilled k.passed left here) h
  room false clean s left k one same here h = h

  pubrec : (b : Bool) (n : ℕ) (clean : Bool) (s : spec.Session) (k : Kept) → Has k s.client → is_sound (p.PubRec n) ≡ true → P k.passed s → Holds k → Holds (rules.answers_pubrec b n clean s k).kept
  pubrec true n clean s k one sound here h = with k clean (spec.released n s) (rw (same_client n s) one) (each.released k.passed s n sound here) h
  pubrec false n clean s k one sound here h = h

  rule : (clean : Bool) (s : spec.Session) (packet : Packet) (k : Kept) → Has k s.client → is_sound packet ≡ true → P k.passed s → Holds k → Holds (rules.rule clean s packet k).kept
  rule clean s (p.Connect c keep_alive client will user password) k one sound here h = at_end k h
  rule clean s (p.ConnAck present code) k one sound here h = at_end k h
  rule clean s (p.Publish dup qos retain topic id payload) k one sound here h = publish qos clean s topic id (p.Publish dup qos retain topic id payload) k one (each.came dup retain qos topic id payload sound) here h
  rule clean s (p.PubAck id) k one sound here h = room (list_any (spec.is_delivery AtLeastOnce id) s.sent) clean s (spec.acknowledged id s) k one refl (each.acknowledged k.passed s id here) h
  rule clean s (p.PubRec id) k one sound here h = pubrec (spec.awaits_release id s) id clean s k one sound here h
  rule clean s (p.PubRel id) k one sound here h = with k clean _ one (each.received k.passed s _ here) h
  rule clean s (p.PubComp id) k one sound here h = room (is_among s.released id) clean s (spec.completed id s) k one refl (each.completed k.passed s id here) h
  rule clean s (p.Subscribe id asks) k one sound here h = with k clean _ one (each.subscribed k.passed s _ here) h
  rule clean s (p.SubAck id codes) k one sound here h = at_end k h
  rule clean s (p.Unsubscribe id filters) k one sound here h = with k clean _ one (each.subscribed k.passed s _ here) h
  rule clean s (p.UnsubAck id) k one sound here h = at_end k h
  rule clean s p.PingReq k one sound here h = h
  rule clean s p.PingResp k one sound here h = at_end k h
  rule clean s p.Disconnect k one sound here h = at_end k h

  first_rule : (packet : Packet) (k : Kept) → Holds k → Holds (rules.first_rule packet k).kept
  first_rule (p.Connect clean keep_alive client will user password) k h = connect clean client k h
  first_rule (p.ConnAck present code) k h = at_end k h
  first_rule (p.Publish dup qos retain topic id payload) k h = at_end k h
  first_rule (p.PubAck id) k h = at_end k h
  first_rule (p.PubRec id) k h = at_end k h
  first_rule (p.PubRel id) k h = at_end k h
  first_rule (p.PubComp id) k h = at_end k h
  first_rule (p.Subscribe id asks) k h = at_end k h
  first_rule (p.SubAck id codes) k h = at_end k h
  first_rule (p.Unsubscribe id filters) k h = at_end k h
  first_rule (p.UnsubAck id) k h = at_end k h
  first_rule p.PingReq k h = at_end k h
  first_rule p.PingResp k h = at_end k h
  first_rule p.Disconnect k h = at_end k h

  on : (link : Link) (packet : Packet) (k : Kept) → k.link ≡ link → is_sound packet ≡ true → OnLink k.passed link → Holds k → Holds (rules.answer_on link packet k).kept
  on Gone packet k e sound here h = h
  on Opened packet k e sound here h = first_rule packet k h
  on (Accepted clean s) packet k e sound here h = rule clean s packet k (has k clean s e) sound here h

  -- ---- A message of the broker's own

  own_on : (link : Link) (qos : Qos) (name : List ℕ) (message : Packet) (k : Kept) → k.link ≡ link → M qos name message → OnLink k.passed link → Holds k → Holds (rules.passes_own link qos name message k).kept
  own_on Gone qos name message k e m here h = record { on_link = tt; on_others = others qos name message k m h; few = omega (arith, h.few, length-map k.others (spec.offered qos name (length k.passed))); once = λ c. omega (arith, h.once c, count_map c (spec.offered qos name (length k.passed)) (λ other. refl) k.others) }
  own_on Opened qos name message k e m here h = record { on_link = tt; on_others = others qos name message k m h; few = omega (arith, h.few, length-map k.others (spec.offered qos name (length k.passed))); once = λ c. omega (arith, h.once c, count_map c (spec.offered qos name (length k.passed)) (λ other. refl) k.others) }
  own_on (Accepted clean s) qos name message k e m here h = passes_on [] clean s qos name message k (has k clean s e) m here h

  -- ---- Any event

  pub at_event : (event : Event) (k : Kept) → MayCome event k → Holds k → Holds (answer_to event k).kept
  at_event Begins k may h = record { on_link = tt; on_others = h.on_others; few = omega (arith, h.few); once = λ c. omega (arith, h.once c) }
  at_event Ends k may h = at_end k h
  at_event (Comes packet) k may h = on k.link packet k refl may.1 h.on_link h
  at_event (Publishes qos topic payload) k may h = own_on k.link qos topic (rules.own_message qos topic payload) k refl (each.own qos topic payload may.0 may.1 may.2) h.on_link h

  pub at_past : (past : List Event) → IsPast past → Holds (kept_of past)
  at_past [] possible = record { on_link = tt; on_others = tt; few = omega arith; once = λ c. omega arith }
  at_past (event ∷ past) possible = at_event event (kept_of past) possible.0 (at_past past possible.1)

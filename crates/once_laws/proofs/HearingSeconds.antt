-- What the broker answers keeps what holds at quality of service 2.
use Rattle.std.proofs.Common.{◌≡◌, ◌⊎◌, ℕ, ◌+◌, ◌≤◌, Bool, true, false, List, [], ◌∷◌, ◌++◌, map, length, count_by, Option, Some, None, refl, sym, ap, ◌∙◌, subst, arith}
use Rattle.std.specs.Prelude.{◌==◌, ◌&&◌, nat_lt, if◌then◌else◌}
use Rattle.std.specs.List.{AllByRecursion}
use Rattle.std.proofs.lemmas.Bool.{eqb-true, eq-eqb, and_parts}
use mathlib.Core.Logic.{inl, inr}
use Rattle.mqtt_packet.specs.declared.packet.Packet.{Packet}
use Rattle.mqtt_packet.specs.declared.packet.Packet.TheVariants as p
use Rattle.mqtt_packet.specs.declared.qos.Qos.{Qos}
use Rattle.mqtt_packet.specs.declared.qos.Qos.TheVariants.{AtMostOnce, AtLeastOnce, ExactlyOnce}
use Rattle.agent_journal.specs.declared.entry.Entry.{Entry}
use Rattle.agent_journal.specs.declared.request.Request.{Request}
use Rattle.agent_journal.specs.declared.request.Request.TheVariants as requests
use Rattle.agent_journal.specs.declared.setup.Setup.{Setup}
use Rattle.agent_journal.specs.Readings.{takes_of}
use Rattle.agent_table.specs.Deliveries.{publishes, is_exactly_once}
use Rattle.agent_table.specs.Histories.{IsLegalPast}
use Rattle.agent_table.specs.Sizes.{Sizes}
use Rattle.agent_table.proofs.Counts.{count_append}
use Rattle.broker_core.specs.Past as broker
use Rattle.broker_core.specs.Rules.{Answer}
use Rattle.session_world.specs.Playing as playing
use Rattle.session_world.specs.World.{World, Rising, Falling, Origin, Own, entries, kept, falling, from, told_of}
use Rattle.once_laws.specs.Counted.{digit, publishes_second, receives, completes, rises_second, rises_release, falls_receive, falls_complete, brings, IsTidy, IsCounted}
use Rattle.once_laws.specs.Followed.{comes_from}
use Rattle.once_laws.specs.Home.{received_of, has_session, IsOwnConnect, is_connect, is_connack}
use Rattle.once_laws.specs.Once.{was_taken, is_from, times}
use Rattle.once_laws.proofs.Balance.{Keeps, IsLabelled, ShownIn, first_yet, asks, all_both}
use Rattle.once_laws.proofs.Connacks.{IsWelcome, IsAsideOf, comes_home, own_home, none_present}
use Rattle.once_laws.proofs.Counting.{IsReplied, IsPassed, replied_tidy, replied_other, replied_own, replied_elsewhere}
use Rattle.once_laws.proofs.Homes.{all_later, falling_shown, falling_any}
use Rattle.once_laws.proofs.Numbered.{apart, below}
use Rattle.once_laws.proofs.Parts.{counted}
use Rattle.once_laws.proofs.Replies.{messages_are}
use Rattle.once_laws.proofs.Sessions.{IsHeard, grew}
use Rattle.once_laws.proofs.Settled as settling
use Rattle.once_laws.proofs.TakenSeconds.{is_lower, asks_at}

-- ---- What a label says of a packet

lower_isnt : (r : Request) → publishes is_lower r ≡ true → publishes is_exactly_once r ≡ true → ⊥
lower_isnt (requests.Publish AtMostOnce topic payload) a b = cc b
lower_isnt (requests.Publish AtLeastOnce topic payload) a b = cc b
lower_isnt (requests.Publish ExactlyOnce topic payload) a b = cc a
lower_isnt (requests.Subscribe asks) a b = cc a
lower_isnt (requests.Unsubscribe filters) a b = cc a
lower_isnt requests.Ping a b = cc a
lower_isnt requests.Disconnect a b = cc a
lower_isnt requests.Terminate a b = cc a
lower_isnt requests.Leave a b = cc a

-- a PUBLISH at quality of service 2 of some identifier
abbrev pub IsSecond : Packet → Type 0
IsSecond packet = (m : ℕ) × (publishes_second m packet ≡ true)

module _ (s : Setup) (l : Sizes) where
  second_is : (past : List Entry) (t q : ℕ) (packet : Packet) → IsLegalPast s l past → was_taken (asks packet) t q past ≡ true → was_taken settling.is_second t q past ≡ true → IsSecond packet
  second_is past t q (p.Publish dup ExactlyOnce retain topic id payload) legal a b = (id, rw (eq-eqb id id refl) refl)
  second_is past t q (p.Publish dup AtMostOnce retain topic id payload) legal a b = absurd (apart s l (asks_at AtMostOnce) settling.is_second t q past lower_isnt legal a b)
  second_is past t q (p.Publish dup AtLeastOnce retain topic id payload) legal a b = absurd (apart s l (asks_at AtLeastOnce) settling.is_second t q past lower_isnt legal a b)
  second_is past t q (p.Connect x y z u v w) legal a b = absurd (apart s l (asks (p.Connect x y z u v w)) settling.is_second t q past (λ r no_one is. cc no_one) legal a b)
  second_is past t q (p.ConnAck x y) legal a b = absurd (apart s l (asks (p.ConnAck x y)) settling.is_second t q past (λ r no_one is. cc no_one) legal a b)
  second_is past t q (p.PubAck x) legal a b = absurd (apart s l (asks (p.PubAck x)) settling.is_second t q past (λ r no_one is. cc no_one) legal a b)
  second_is past t q (p.PubRec x) legal a b = absurd (apart s l (asks (p.PubRec x)) settling.is_second t q past (λ r no_one is. cc no_one) legal a b)
  second_is past t q (p.PubRel x) legal a b = absurd (apart s l (asks (p.PubRel x)) settling.is_second t q past (λ r no_one is. cc no_one) legal a b)
  second_is past t q (p.PubComp x) legal a b = absurd (apart s l (asks (p.PubComp x)) settling.is_second t q past (λ r no_one is. cc no_one) legal a b)
  second_is past t q (p.Subscribe x y) legal a b = absurd (apart s l (asks (p.Subscribe x y)) settling.is_second t q past (λ r no_one is. cc no_one) legal a b)
  second_is past t q (p.SubAck x y) legal a b = absurd (apart s l (asks (p.SubAck x y)) settling.is_second t q past (λ r no_one is. cc no_one) legal a b)
  second_is past t q (p.Unsubscribe x y) legal a b = absurd (apart s l (asks (p.Unsubscribe x y)) settling.is_second t q past (λ r no_one is. cc no_one) legal a b)
  second_is past t q (p.UnsubAck x) legal a b = absurd (apart s l (asks (p.UnsubAck x)) settling.is_second t q past (λ r no_one is. cc no_one) legal a b)
  second_is past t q p.PingReq legal a b = absurd (apart s l (asks p.PingReq) settling.is_second t q past (λ r no_one is. cc no_one) legal a b)
  second_is past t q p.PingResp legal a b = absurd (apart s l (asks p.PingResp) settling.is_second t q past (λ r no_one is. cc no_one) legal a b)
  second_is past t q p.Disconnect legal a b = absurd (apart s l (asks p.Disconnect) settling.is_second t q past (λ r no_one is. cc no_one) legal a b)

  -- ---- What is passed on

  none_from : (t q : ℕ) (origin : Option Origin) (before after : ℕ) → comes_from t q origin ≡ false → count_by (is_from t q) (from s l origin before after) ≡ 0
  none_from t q None before after e = refl
  none_from t q (Some origin) before after e = go (nat_lt before after)
    where
      go : (b : Bool) → count_by (is_from t q) (if b then origin ∷ [] else []) ≡ 0
      go true = omega (arith, counted (is_from t q) origin [], ap digit e)
      go false = refl

  some_from : (t q : ℕ) (origin : Option Origin) (before after : ℕ) → comes_from t q origin ≡ true → count_by (is_from t q) (from s l origin before after) ≡ digit (nat_lt before after)
  some_from t q None before after e = absurd (cc e)
  some_from t q (Some origin) before after e = go (nat_lt before after)
    where
      go : (b : Bool) → count_by (is_from t q) (if b then origin ∷ [] else []) ≡ digit b
      go true = omega (arith, counted (is_from t q) origin [], ap digit e)
      go false = refl

  -- ---- A packet comes

  module _ (w : World) (x : Rising) (rest : List Rising) (is : w.up ≡ x ∷ rest) (h : Keeps s l w) where
    abbrev a : Answer
    a = broker.reply w.told (broker.Comes x.packet)

    abbrev more : List Falling
    more = map (falling s l (broker.reply w.told (broker.Comes x.packet)).kept) (broker.reply w.told (broker.Comes x.packet)).packets

    abbrev new : World
    new = told_of s l (broker.Comes x.packet) x.origin (record w { up = rest })

    abbrev passed : ℕ
    passed = grew (kept w).passed a

    own_connect : IsOwnConnect s.client x.packet
    own_connect = (subst (AllByRecursion (λ (y : Rising). IsOwnConnect s.client y.packet)) is h.at_home.connects).0

    fact : (n : ℕ) → IsHeard n s.client (kept w) x.packet a × IsWelcome (kept w) x.packet a
    fact n = comes_home n s.client (kept w) x.packet (messages_are w.told) h.at_home.home own_connect

    receive_is : (n : ℕ) → count_by (falls_receive n) more ≡ count_by (receives n) a.packets
    receive_is n = falling_any s l (receives n) a.kept a.packets

    complete_is : (n : ℕ) → count_by (falls_complete n) more ≡ count_by (completes n) a.packets
    complete_is n = falling_any s l (completes n) a.kept a.packets

    replied : (n : ℕ) → IsReplied n x.packet (received_of (kept w)) (received_of a.kept) (count_by (falls_receive n) more) (count_by (falls_complete n) more) passed
    replied n =
        subst (λ m. IsReplied n x.packet (received_of (kept w)) (received_of a.kept) m (count_by (falls_complete n) more) passed) (sym (receive_is n))
        (subst (λ m. IsReplied n x.packet (received_of (kept w)) (received_of a.kept) (count_by (receives n) a.packets) m passed) (sym (complete_is n)) (fact n).0.replied)

    tidy_is : (n : ℕ) → IsTidy n h.commands h.released (received_of (kept w)) (x ∷ rest) w.down
    tidy_is n = subst (λ up. IsTidy n h.commands h.released (received_of (kept w)) up w.down) is (h.balanced.tidy n)

    counts_are : (t q n : ℕ) → was_taken settling.is_second t q (entries w) ≡ true → IsCounted t q n h.commands h.released (received_of (kept w)) (x ∷ rest) (times t q w)
    counts_are t q n label = subst (λ up. IsCounted t q n h.commands h.released (received_of (kept w)) up (times t q w)) is (h.balanced.counts t q n label)

    labels : AllByRecursion (IsLabelled (entries w)) (x ∷ rest)
    labels = subst (AllByRecursion (IsLabelled (entries w))) is h.labelled

    times_is : (t q : ℕ) → times t q new ≡ times t q w + count_by (is_from t q) (from s l x.origin (length (kept w).passed) (length a.kept.passed))
    times_is t q = count_append (is_from t q) w.origins (from s l x.origin (length (kept w).passed) (length a.kept.passed))

    -- of one command: how often it was passed on, and what holds of it
    pub record IsThen (t q : ℕ) : Type 0 where
      pub most : times t q new ≤ 1
      pub counts : (n : ℕ) → IsCounted t q n h.commands h.released (received_of a.kept) rest (times t q new)

    then_is : (t q : ℕ) → was_taken settling.is_second t q (entries w) ≡ true → IsThen t q
    then_is t q label = by (comes_from t q x.origin) refl
      where
        by : (b : Bool) → comes_from t q x.origin ≡ b → IsThen t q
        by false other =
            let same : times t q new ≡ times t q w = omega (arith, times_is t q, none_from t q x.origin (length (kept w).passed) (length a.kept.passed) other) in
            record {
              most = omega (arith, same, h.most t q label);
              counts = λ n. subst (λ m. IsCounted t q n h.commands h.released (received_of a.kept) rest m) (sym same)
                  (replied_other t q n h.commands h.released (received_of (kept w)) (received_of a.kept) x rest w.down (count_by (falls_receive n) more) (count_by (falls_complete n) more) passed (times t q w) (h.most t q label) other (tidy_is n)
                  (counts_are t q n label) (replied n));
            }
        by true its =
            let found = second_is (entries w) t q x.packet h.legal (labels.0 t q its) label in
            let m = found.0 in
            let grown : times t q new ≡ times t q w + passed = omega (arith, times_is t q, some_from t q x.origin (length (kept w).passed) (length a.kept.passed) its) in
            let here = at_m found.0 found.1 in
            record {
              most = omega (arith, grown, here.most);
              counts = λ n. subst (λ m. IsCounted t q n h.commands h.released (received_of a.kept) rest m) (sym grown) (at_n found.0 found.1 n (n == found.0) refl);
            }
          where
            brings_it : (m : ℕ) → publishes_second m x.packet ≡ true → brings t q m x ≡ true
            brings_it m second = ap (λ b. b && comes_from t q x.origin) second ∙ its

            at_m : (m : ℕ) → publishes_second m x.packet ≡ true → IsPassed t q m h.commands h.released (received_of a.kept) rest (times t q w + passed)
            at_m m second =
                replied_own t q m h.commands h.released (received_of (kept w)) (received_of a.kept) x rest w.down (count_by (falls_receive m) more) (count_by (falls_complete m) more) passed (times t q w) (brings_it m second) second (tidy_is m)
                (counts_are t q m label) (replied m)

            at_n : (m : ℕ) → publishes_second m x.packet ≡ true → (n : ℕ) (b : Bool) → (n == m) ≡ b → IsCounted t q n h.commands h.released (received_of a.kept) rest (times t q w + passed)
            at_n m second n true same = subst (λ k. IsCounted t q k h.commands h.released (received_of a.kept) rest (times t q w + passed)) (sym (eqb-true n m same)) (at_m m second).counted
            at_n m second n false differ =
                replied_elsewhere t q n m h.commands h.released (received_of (kept w)) (received_of a.kept) x rest w.down (count_by (falls_receive n) more) (count_by (falls_complete n) more) passed (times t q w) differ (h.balanced.single t q)
                (at_m m second).most (at_m m second).ours (tidy_is n) (counts_are t q n label) (replied n) (not_second x.packet second)
              where
                not_second : (packet : Packet) → publishes_second m packet ≡ true → publishes_second n packet ≡ false
                not_second (p.Publish dup qos retain topic id payload) e =
                    let id_is : id ≡ m = eqb-true id m (and_parts (id == m) (is_exactly_once qos) e).0 in
                    other (id == n) refl id_is
                  where
                    other : (b : Bool) → (id == n) ≡ b → id ≡ m → (id == n && is_exactly_once qos) ≡ false
                    other true here id_is = absurd (cc (sym differ ∙ eq-eqb n m (sym (eqb-true id n here) ∙ id_is)))
                    other false here id_is = ap (λ b. b && is_exactly_once qos) here
                not_second p.PingReq e = absurd (cc e)
                not_second p.PingResp e = absurd (cc e)
                not_second p.Disconnect e = absurd (cc e)
                not_second (p.Connect x y z u v w) e = absurd (cc e)
                not_second (p.ConnAck x y) e = absurd (cc e)
                not_second (p.PubAck x) e = absurd (cc e)
                not_second (p.PubRec x) e = absurd (cc e)
                not_second (p.PubRel x) e = absurd (cc e)
                not_second (p.PubComp x) e = absurd (cc e)
                not_second (p.Subscribe x y) e = absurd (cc e)
                not_second (p.SubAck x y) e = absurd (cc e)
                not_second (p.Unsubscribe x y) e = absurd (cc e)
                not_second (p.UnsubAck x) e = absurd (cc e)

    unborn_is : (t q : ℕ) → takes_of t (entries w) ≤ q → times t q new ≡ 0
    unborn_is t q few = by (comes_from t q x.origin) refl
      where
        by : (b : Bool) → comes_from t q x.origin ≡ b → times t q new ≡ 0
        by true its = absurd (omega (arith, few, below s l (asks x.packet) t q (entries w) h.legal (labels.0 t q its)))
        by false other = omega (arith, times_is t q, none_from t q x.origin (length (kept w).passed) (length a.kept.passed) other, h.unborn t q few)

    first_second : (n : ℕ) → count_by (rises_second n) w.up ≡ digit (rises_second n x) + count_by (rises_second n) rest
    first_second n = ap (count_by (rises_second n)) is ∙ counted (rises_second n) x rest

    first_release : (n : ℕ) → count_by (rises_release n) w.up ≡ digit (rises_release n x) + count_by (rises_release n) rest
    first_release n = ap (count_by (rises_release n)) is ∙ counted (rises_release n) x rest

    hears_it : Keeps s l new
    hears_it = record {
      legal = h.legal;
      most = λ t q label. (then_is t q label).most;
      unborn = unborn_is;
      labelled = labels.1;
      settled = λ t q done. later t q (h.settled t q done);
      commands = h.commands;
      released = h.released;
      balanced = record {
        single = h.balanced.single;
        tidy = λ n. replied_tidy n h.commands h.released (received_of (kept w)) (received_of a.kept) x rest w.down more passed (tidy_is n) (replied n);
        counts = λ t q n label. (then_is t q label).counts n;
      };
      now = h.now;
      quiet = λ begins n. let z = h.quiet begins n in record {
        second = omega (arith, z.second, first_second n);
        release = omega (arith, z.release, first_release n);
        receive = omega (arith, z.receive, z.second, first_second n, count_append (falls_receive n) w.down more, (replied n).receive);
        complete = omega (arith, z.complete, z.release, first_release n, count_append (falls_complete n) w.down more, (replied n).complete);
      };
      at_home = record {
        home = (fact 0).0.home;
        connects = (subst (AllByRecursion (λ (y : Rising). IsOwnConnect s.client y.packet)) is h.at_home.connects).1;
        known = λ not_first. (fact 0).0.kept (h.at_home.known not_first);
        present = all_both (λ (y : Falling). ShownIn s l (has_session a.kept) (first_yet s l (entries w)) y.packet) w.down more
            (all_later s l (has_session (kept w)) (has_session a.kept) (first_yet s l (entries w)) w.down (fact 0).0.kept h.at_home.present)
            (falling_shown s l a.kept (has_session (kept w)) (has_session a.kept) (first_yet s l (entries w)) a.packets h.at_home.known (fact 0).1.presents);
        one = λ on. omega (
          arith,
          h.at_home.one on,
          ap (count_by (λ (y : Rising). is_connect y.packet)) is,
          counted (λ (y : Rising). is_connect y.packet) x rest,
          count_append (λ (y : Falling). is_connack y.packet) w.down more,
          falling_any s l is_connack a.kept a.packets,
          (fact 0).1.connacks,
        );
      };
    }
      where
        later : (t q : ℕ) → (was_taken (settling.is_other settling.is_second) t q (entries w) ≡ true) ⊎ (1 ≤ times t q w) → (was_taken (settling.is_other settling.is_second) t q (entries w) ≡ true) ⊎ (1 ≤ times t q new)
        later t q (inl other) = inl other
        later t q (inr some) = inr (omega (arith, some, times_is t q))

  pub hears : (w : World) (x : Rising) (rest : List Rising) → w.up ≡ x ∷ rest → Keeps s l w → Keeps s l (told_of s l (broker.Comes x.packet) x.origin (record w { up = rest }))
  hears w x rest is h = hears_it w x rest is h

  -- ---- The broker's own message

  pub publishes_own : (w : World) (qos : Qos) → Keeps s l w → Keeps s l (told_of s l (broker.Publishes qos playing.own_topic (playing.four_bytes w.own)) (Some (Own w.own)) (record w { own = w.own + 1 }))
  publishes_own w qos h = record {
    legal = h.legal;
    most = λ t q label. omega (arith, same t q, h.most t q label);
    unborn = λ t q few. same t q ∙ h.unborn t q few;
    labelled = h.labelled;
    settled = λ t q done. later t q (h.settled t q done);
    commands = h.commands;
    released = h.released;
    balanced = record {
      single = h.balanced.single;
      tidy = λ n. subst (λ ids. IsTidy n h.commands h.released ids w.up (w.down ++ more)) (sym (fact n).received) (tidy n);
      counts = λ t q n label. subst (λ ids. IsCounted t q n h.commands h.released ids w.up (times t q new)) (sym (fact n).received)
          (subst (λ m. IsCounted t q n h.commands h.released (received_of (kept w)) w.up m) (sym (same t q)) (h.balanced.counts t q n label));
    };
    now = h.now;
    quiet = λ begins n. let z = h.quiet begins n in record {
      second = z.second;
      release = z.release;
      receive = omega (arith, z.receive, count_append (falls_receive n) w.down more, falling_any s l (receives n) a.kept a.packets, (fact n).receive);
      complete = omega (arith, z.complete, count_append (falls_complete n) w.down more, falling_any s l (completes n) a.kept a.packets, (fact n).complete);
    };
    at_home = record {
      home = (fact 0).home;
      connects = h.at_home.connects;
      known = λ not_first. (fact 0).kept (h.at_home.known not_first);
      present = all_both (λ (y : Falling). ShownIn s l (has_session a.kept) (first_yet s l (entries w)) y.packet) w.down more
          (all_later s l (has_session (kept w)) (has_session a.kept) (first_yet s l (entries w)) w.down (fact 0).kept h.at_home.present)
          (falling_shown s l a.kept (has_session (kept w)) (has_session a.kept) (first_yet s l (entries w)) a.packets h.at_home.known (none_present (has_session (kept w)) (has_session a.kept) a.packets (fact 0).connack));
      one = λ on. omega (arith, h.at_home.one on, count_append (λ (y : Falling). is_connack y.packet) w.down more, falling_any s l is_connack a.kept a.packets, (fact 0).connack);
    };
  }
    where
      a : Answer
      a = broker.reply w.told (broker.Publishes qos playing.own_topic (playing.four_bytes w.own))

      more : List Falling
      more = map (falling s l (broker.reply w.told (broker.Publishes qos playing.own_topic (playing.four_bytes w.own))).kept) (broker.reply w.told (broker.Publishes qos playing.own_topic (playing.four_bytes w.own))).packets

      new : World
      new = told_of s l (broker.Publishes qos playing.own_topic (playing.four_bytes w.own)) (Some (Own w.own)) (record w { own = w.own + 1 })

      fact : (n : ℕ) → IsAsideOf n s.client (kept w).passed (messages_are w.told) (kept w) (broker.reply w.told (broker.Publishes qos playing.own_topic (playing.four_bytes w.own)))
      fact n = own_home n s.client (kept w) qos playing.own_topic (playing.four_bytes w.own) (messages_are w.told) h.at_home.home

      same : (t q : ℕ) → times t q (told_of s l (broker.Publishes qos playing.own_topic (playing.four_bytes w.own)) (Some (Own w.own)) (record w { own = w.own + 1 })) ≡ times t q w
      same t q = omega (arith, count_append (is_from t q) w.origins (from s l (Some (Own w.own)) (length (kept w).passed) (length a.kept.passed)), none_from t q (Some (Own w.own)) (length (kept w).passed) (length a.kept.passed) refl)

      later : (t q : ℕ) → (was_taken (settling.is_other settling.is_second) t q (entries w) ≡ true) ⊎ (1 ≤ times t q w)
          → (was_taken (settling.is_other settling.is_second) t q (entries w) ≡ true) ⊎ (1 ≤ times t q (told_of s l (broker.Publishes qos playing.own_topic (playing.four_bytes w.own)) (Some (Own w.own)) (record w { own = w.own + 1 })))
      later t q (inl other) = inl other
      later t q (inr some) = inr (omega (arith, some, same t q))

      tidy : (n : ℕ) → IsTidy n h.commands h.released (received_of (kept w)) w.up
          (w.down ++ map (falling s l (broker.reply w.told (broker.Publishes qos playing.own_topic (playing.four_bytes w.own))).kept) (broker.reply w.told (broker.Publishes qos playing.own_topic (playing.four_bytes w.own))).packets)
      tidy n =
          let t = h.balanced.tidy n in
          let receive = count_append (falls_receive n) w.down more in
          let complete = count_append (falls_complete n) w.down more in
          let no_one = falling_any s l (receives n) a.kept a.packets in
          let none = falling_any s l (completes n) a.kept a.packets in
          record {
            alone = t.alone;
            two = omega (arith, t.two, receive, no_one, (fact n).receive);
            freed = omega (arith, t.freed, complete, none, (fact n).complete);
            known = t.known;
            entered = omega (arith, t.entered, receive, no_one, (fact n).receive);
            left = omega (arith, t.left, complete, none, (fact n).complete);
          }

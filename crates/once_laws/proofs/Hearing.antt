-- What the broker answers keeps what holds.
use Rattle.std.proofs.Common.{◌≡◌, ◌⊎◌, ℕ, zero, suc, ◌+◌, ◌≤◌, Bool, true, false, List, [], ◌∷◌, ◌++◌, map, length, count_by, Option, Some, None, refl, sym, ap, ◌∙◌, subst, arith}
use Rattle.std.specs.Prelude.{◌&&◌, nat_lt}
use Rattle.std.proofs.lemmas.Bool.{lt-ltb}
use Rattle.std.proofs.lemmas.List.{length-append}
use mathlib.Core.Logic.{inl, inr}
use Rattle.mqtt_packet.specs.declared.packet.Packet.{Packet}
use Rattle.mqtt_packet.specs.declared.qos.Qos.{Qos}
use Rattle.agent_journal.specs.declared.setup.Setup.{Setup}
use Rattle.agent_journal.specs.Readings.{pending_of}
use Rattle.agent_table.specs.Histories.{IsLegalPast, phase_of}
use Rattle.agent_table.specs.Sizes.{Sizes}
use Rattle.agent_table.proofs.Counts.{count_append}
use Rattle.broker_core.specs.Kept.{Kept}
use Rattle.broker_core.specs.Past as broker
use Rattle.broker_core.specs.Rules.{Answer}
use Rattle.session_world.specs.Playing as playing
use Rattle.session_world.specs.World.{World, Rising, Falling, Origin, Own, entries, kept, phase, told_of, falling, from}
use Rattle.session_world.proofs.Falling.{fallen}
use Rattle.once_laws.specs.Followed.{is_beginning, publishes_first, acknowledges, rises_first, falls_back, comes_from, carries, IsFollowed}
use Rattle.once_laws.specs.Once.{is_from, times}
use Rattle.once_laws.specs.Once as once
use Rattle.once_laws.proofs.Following.{IsLeft, IsAdded, first_of, mine_first}
use Rattle.once_laws.proofs.Following as following
use Rattle.once_laws.proofs.Parts.{digit, digit_most, counted}
use Rattle.once_laws.proofs.Replies.{acks, IsAnswered, IsSilent, comes, its_own, messages_are}
use Rattle.once_laws.proofs.Settled as settling
use Rattle.once_laws.proofs.Holding.{IsGoing, Holds}

module _ (s : Setup) (l : Sizes) where
  -- ---- The broker

  -- the world behind its answer
  answered : (w new : World) (more : List Origin) → Holds s l w → entries new ≡ entries w → new.origins ≡ w.origins ++ more
      → (IsGoing s l w → (t q n : ℕ) → IsFollowed t q n (pending_of (entries w)) new.up new.down (times t q w + count_by (is_from t q) more))
      → (IsGoing s l w → is_beginning (phase s l w) ≡ true → (n : ℕ) → (count_by (rises_first n) new.up ≡ 0) × (count_by (falls_back n) new.down ≡ 0)) → Holds s l new
  answered w new more h past origins followed silent = record {
    legal = subst (IsLegalPast s l) (sym past) h.legal;
    settled = λ t q done. later t q (h.settled t q (subst (λ es. once.was_done t q es ≡ true) past done));
    going = λ on.
        let g = h.going (λ off. on (ap (phase_of s l) past ∙ off)) in
        record {
          followed = λ t q n.
              subst (λ es. IsFollowed t q n (pending_of es) new.up new.down (times t q new)) (sym past)
              (subst (λ m. IsFollowed t q n (pending_of (entries w)) new.up new.down m) (sym (counts t q)) (followed g t q n));
          quiet = λ begins. silent g (sym (ap (λ es. is_beginning (phase_of s l es)) past) ∙ begins);
        };
  }
    where
      counts : (t q : ℕ) → times t q new ≡ times t q w + count_by (is_from t q) more
      counts t q = ap (count_by (is_from t q)) origins ∙ count_append (is_from t q) w.origins more

      later : (t q : ℕ) → (once.was_taken (settling.is_other settling.is_first) t q (entries w) ≡ true) ⊎ (1 ≤ times t q w) → (once.was_taken (settling.is_other settling.is_first) t q (entries new) ≡ true) ⊎ (1 ≤ times t q new)
      later t q (inl other) = inl (ap (once.was_taken (settling.is_other settling.is_first) t q) past ∙ other)
      later t q (inr passed) = inr (omega (arith, passed, counts t q))

  falls_count : (n : ℕ) (k : Kept) (packets : List Packet) → count_by (falls_back n) (map (falling s l k) packets) ≡ acks n packets
  falls_count n k [] = refl
  falls_count n k (packet ∷ packets) =
      omega (arith, counted (falls_back n) (falling s l k packet) (map (falling s l k) packets), ap (λ (x : Packet). digit (acknowledges n x)) (fallen s l k packet), falls_count n k packets, counted (acknowledges n) packet packets)

  -- what is passed on with a PUBACK has the label of its PUBLISH
  labels : (t q n : ℕ) (x : Rising) (passed : List Packet) (a : Answer) → IsAnswered n passed x.packet a
      → acks n a.packets + digit (carries t q n x) ≤ count_by (is_from t q) (from s l x.origin (length passed) (length a.kept.passed)) + 1
  labels t q n x passed a h = go (acks n a.packets) refl
    where
      by_origin : (origin : Option Origin) → comes_from t q origin ≡ true → a.kept.passed ≡ passed ++ x.packet ∷ [] → 1 ≤ count_by (is_from t q) (from s l origin (length passed) (length a.kept.passed))
      by_origin None is grew = absurd (cc is)
      by_origin (Some origin) is grew =
          let more : nat_lt (length passed) (length a.kept.passed) ≡ true = lt-ltb (length passed) (length a.kept.passed) (omega (arith, ap (λ (ps : List Packet). length ps) grew, length-append passed (x.packet ∷ []))) in
          rw more (rw is (omega arith))

      by_label : (b : Bool) → comes_from t q x.origin ≡ b → a.kept.passed ≡ passed ++ x.packet ∷ [] → digit (rises_first n x && b) ≤ count_by (is_from t q) (from s l x.origin (length passed) (length a.kept.passed))
      by_label true is grew = omega (arith, by_origin x.origin is grew, digit_most (rises_first n x && true))
      by_label false is grew = omega (arith, none (rises_first n x))
        where
          none : (b : Bool) → digit (b && false) ≡ 0
          none true = refl
          none false = refl

      go : (m : ℕ) → acks n a.packets ≡ m → acks n a.packets + digit (carries t q n x) ≤ count_by (is_from t q) (from s l x.origin (length passed) (length a.kept.passed)) + 1
      go zero e = omega (arith, e, digit_most (carries t q n x))
      go (suc m) e =
          omega (arith, h.few, digit_most (publishes_first n x.packet), by_label (comes_from t q x.origin) refl (h.grows (omega (arith, e))))

  pub hears : (w : World) (x : Rising) (rest : List Rising) → w.up ≡ x ∷ rest → Holds s l w → Holds s l (told_of s l (broker.Comes x.packet) x.origin (record w { up = rest }))
  hears w x rest is h =
      answered w (told_of s l (broker.Comes x.packet) x.origin (record w { up = rest })) (from s l x.origin (length (kept w).passed) (length a.kept.passed)) h refl refl
      (λ g t q n.
      following.heard t q n (pending_of (entries w)) x rest w.down more (times t q w) (count_by (is_from t q) (from s l x.origin (length (kept w).passed) (length a.kept.passed)))
      (subst (λ up. IsFollowed t q n (pending_of (entries w)) up w.down (times t q w)) is (g.followed t q n)) (omega (arith, falls_count n a.kept a.packets, (answer n).few))
      (omega (arith, falls_count n a.kept a.packets, labels t q n x (kept w).passed a (answer n))))
      (λ g begins n.
      let none = g.quiet begins n in
      let first = counted (rises_first n) x rest in (
        omega (arith, none.0, ap (count_by (rises_first n)) is, first),
        omega (arith, none.0, none.1, ap (count_by (rises_first n)) is, first, count_append (falls_back n) w.down more, falls_count n a.kept a.packets, (answer n).few),
      ))
    where
      a : Answer
      a = broker.reply w.told (broker.Comes x.packet)

      more : List Falling
      more = map (falling s l (broker.reply w.told (broker.Comes x.packet)).kept) (broker.reply w.told (broker.Comes x.packet)).packets

      answer : (n : ℕ) → IsAnswered n (kept w).passed x.packet (broker.reply w.told (broker.Comes x.packet))
      answer n = comes n (kept w) (messages_are w.told) x.packet

  pub publishes : (w : World) (qos : Qos) → Holds s l w
      → Holds s l (told_of s l (broker.Publishes qos playing.own_topic (playing.four_bytes w.own)) (Some (Own w.own)) (record w { own = w.own + 1 }))
  publishes w qos h =
      answered w (told_of s l event (Some (Own w.own)) (record w { own = w.own + 1 })) (from s l (Some (Own w.own)) (length (kept w).passed) (length a.kept.passed)) h refl refl
      (λ g t q n.
      following.published t q n (pending_of (entries w)) w.up w.down more (times t q w) (count_by (is_from t q) (from s l (Some (Own w.own)) (length (kept w).passed) (length a.kept.passed))) (g.followed t q n)
      (falls_count n a.kept a.packets ∙ (silent n).none))
      (λ g begins n. let none = g.quiet begins n in (none.0, omega (arith, none.1, count_append (falls_back n) w.down more, falls_count n a.kept a.packets, (silent n).none)))
    where
      event : broker.Event
      event = broker.Publishes qos playing.own_topic (playing.four_bytes w.own)

      a : Answer
      a = broker.reply w.told (broker.Publishes qos playing.own_topic (playing.four_bytes w.own))

      more : List Falling
      more = map (falling s l (broker.reply w.told (broker.Publishes qos playing.own_topic (playing.four_bytes w.own))).kept) (broker.reply w.told (broker.Publishes qos playing.own_topic (playing.four_bytes w.own))).packets

      silent : (n : ℕ) → IsSilent n (broker.reply w.told (broker.Publishes qos playing.own_topic (playing.four_bytes w.own)))
      silent n = its_own n (kept w) (messages_are w.told) qos playing.own_topic (playing.four_bytes w.own)

  pub counts : (w : World) → Holds s l w → Holds s l (record w { events = w.events + 1 })
  counts w h = record { legal = h.legal; settled = h.settled; going = λ on. let g = h.going on in record { followed = g.followed; quiet = g.quiet } }

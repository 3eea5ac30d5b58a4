-- A packet that arrives at the agent keeps what holds at quality of service 2.
use Rattle.std.proofs.Common.{◌≡◌, ◌⊎◌, ℕ, ◌+◌, ◌≤◌, Bool, true, false, List, [], ◌∷◌, ◌++◌, map, filter, count_by, Option, Some, None, refl, sym, ap, ◌∙◌, subst, arith}
use Rattle.std.specs.Prelude.{◌==◌, ◌||◌}
use Rattle.std.specs.List.{AllByRecursion}
use Rattle.std.proofs.lemmas.Bool.{eq-eqb}
use mathlib.Core.Logic.{inl, inr}
use Rattle.mqtt_packet.specs.declared.packet.Packet.{Packet}
use Rattle.mqtt_packet.specs.declared.packet.Packet.TheVariants as p
use Rattle.agent_journal.specs.declared.entry.Cause.{Cause}
use Rattle.agent_journal.specs.declared.entry.Cause.TheVariants as c
use Rattle.agent_journal.specs.declared.entry.Entry.{Entry}
use Rattle.agent_journal.specs.declared.setup.Setup.{Setup}
use Rattle.agent_journal.specs.declared.setup.Phase.{Phase}
use Rattle.agent_journal.specs.declared.setup.Phase.TheVariants.{Down, Opening, Up, Spilled, Off}
use Rattle.agent_journal.specs.Readings.{Pending, pending_of}
use Rattle.agent_journal.specs.Wires.{sends}
use Rattle.agent_table.specs.Arrivals as arrivals
use Rattle.agent_table.specs.Deliveries.{is_open_publish, is_exactly_once, is_among, released_of, released_behind}
use Rattle.agent_table.specs.Histories.{IsLegalPast, phase_of, readings, row}
use Rattle.agent_table.specs.Readings.{Readings}
use Rattle.agent_table.specs.Rows.{Row}
use Rattle.agent_table.specs.Sizes.{Sizes}
use Rattle.agent_table.proofs.Counts.{count_append, opened}
use Rattle.agent_table.proofs.Received.{open_were_taken}
use Rattle.session_world.specs.Playing as playing
use Rattle.session_world.specs.World.{World, Rising, Falling, entries, kept, phase, rising, stepped, stepped_by}
use Rattle.once_laws.specs.Counted.{digit, is_second, is_ours, publishes_second, releases, receives, completes, rises_second, rises_release, falls_receive, falls_complete, IsTidy, IsCounted}
use Rattle.once_laws.specs.Followed.{is_of, is_beginning}
use Rattle.once_laws.specs.Home.{received_of, has_session, is_connect, is_connack}
use Rattle.once_laws.specs.Once.{was_taken, times}
use Rattle.once_laws.proofs.Balance.{Keeps, IsBalanced, IsStill, IsLabelled, AreLabelled, ShownIn, is_opening, first_yet, entry_of, entered, counts_now, balance_now, frozen, labelled_later, aside_labelled, again_labelled, all_both, in_list}
use Rattle.once_laws.proofs.Brought.{IsBrought, all_brought}
use Rattle.once_laws.proofs.Counting.{IsNext, second_of, told_tidy, told_counted, resumed_tidy, resumed_counted}
use Rattle.once_laws.proofs.Effects.{left, all_left}
use Rattle.once_laws.proofs.Homes.{home_arrived, rising_own, rising_none, asides, agains}
use Rattle.once_laws.proofs.Labels.{risen_any, risen_second}
use Rattle.once_laws.proofs.OpeningSeconds.{IsResumed, Resumes, IsPresent, resumes_opening}
use Rattle.once_laws.proofs.Parts.{counted, some}
use Rattle.once_laws.proofs.Releasing.{released_once}
use Rattle.once_laws.proofs.Settled as settling
use Rattle.once_laws.proofs.Stepping.{OfRow, of_found, arrives_in, legal_behind, phase_behind, open_once}
use Rattle.once_laws.proofs.TakingSeconds.{off_or}
use Rattle.once_laws.proofs.UpSeconds.{IsAside, IsRow, IsAnswered, Answers, answers_up, none_aside, second_aside, rest_of}

-- ---- Rows of one phase

only_connack : (s : Setup) (r : Readings) (packet : Packet) → OfRow (λ row. (row.phase ≡ Off) ⊎ (is_connack packet ≡ true)) (arrivals.opening_row s r packet)
only_connack s r (p.ConnAck present code) = any (arrivals.opening_row s r (p.ConnAck present code))
  where
    any : (row : Option Row) → OfRow (λ found. (found.phase ≡ Off) ⊎ (true ≡ true)) row
    any None = tt
    any (Some row) = inr refl
only_connack s r (p.Publish a b d e f g) = inl refl
only_connack s r (p.Connect a b d e f g) = inl refl
only_connack s r (p.PubAck a) = inl refl
only_connack s r (p.PubRec a) = inl refl
only_connack s r (p.PubRel a) = inl refl
only_connack s r (p.PubComp a) = inl refl
only_connack s r (p.Subscribe a b) = inl refl
only_connack s r (p.SubAck a b) = inl refl
only_connack s r (p.Unsubscribe a b) = inl refl
only_connack s r (p.UnsubAck a) = inl refl
only_connack s r p.PingReq = inl refl
only_connack s r p.PingResp = inl refl
only_connack s r p.Disconnect = inl refl

released_same : (commands : List Pending) (ids : List ℕ) (packet : Packet) → is_connack packet ≡ true → released_behind commands ids (c.Arrived packet) ≡ ids
released_same commands ids (p.ConnAck present code) it = refl
released_same commands ids (p.Publish a b d e f g) it = absurd (cc it)
released_same commands ids (p.Connect a b d e f g) it = absurd (cc it)
released_same commands ids (p.PubAck a) it = absurd (cc it)
released_same commands ids (p.PubRec a) it = absurd (cc it)
released_same commands ids (p.PubRel a) it = absurd (cc it)
released_same commands ids (p.PubComp a) it = absurd (cc it)
released_same commands ids (p.Subscribe a b) it = absurd (cc it)
released_same commands ids (p.SubAck a b) it = absurd (cc it)
released_same commands ids (p.Unsubscribe a b) it = absurd (cc it)
released_same commands ids (p.UnsubAck a) it = absurd (cc it)
released_same commands ids p.PingReq it = absurd (cc it)
released_same commands ids p.PingResp it = absurd (cc it)
released_same commands ids p.Disconnect it = absurd (cc it)

-- a packet answers in one way
one_answer : (n : ℕ) (packet : Packet) → digit (receives n packet) + digit (completes n packet) ≤ 1
one_answer n (p.PubRec id) = omega (arith, most (id == n))
  where
    most : (b : Bool) → digit b ≤ 1
    most true = omega arith
    most false = omega arith
one_answer n (p.PubComp id) = omega (arith, most (id == n))
  where
    most : (b : Bool) → digit b ≤ 1
    most true = omega arith
    most false = omega arith
one_answer n (p.ConnAck present code) = omega arith
one_answer n (p.Publish a b d e f g) = omega arith
one_answer n (p.Connect a b d e f g) = omega arith
one_answer n (p.PubAck a) = omega arith
one_answer n (p.PubRel a) = omega arith
one_answer n (p.Subscribe a b) = omega arith
one_answer n (p.SubAck a b) = omega arith
one_answer n (p.Unsubscribe a b) = omega arith
one_answer n (p.UnsubAck a) = omega arith
one_answer n p.PingReq = omega arith
one_answer n p.PingResp = omega arith
one_answer n p.Disconnect = omega arith

-- how often an identifier stands among the released ones: as often as it is one of them
among_count : (ids : List ℕ) (n : ℕ) → count_by (λ m. m == n) ids ≤ 1 → count_by (λ m. m == n) ids ≤ digit (is_among ids n)
among_count [] n most = omega arith
among_count (m ∷ ids) n most = go (m == n) refl (among_count ids n (omega (arith, most, counted (λ k. k == n) m ids)))
  where
    go : (b : Bool) → (m == n) ≡ b → count_by (λ k. k == n) ids ≤ digit (is_among ids n) → count_by (λ k. k == n) (m ∷ ids) ≤ digit (b || is_among ids n)
    go true e rest = omega (arith, most)
    go false e rest = omega (arith, rest, counted (λ k. k == n) m ids, ap digit e)

module _ (s : Setup) (l : Sizes) where
  -- ---- What completes was passed on

  heard : (w : World) (x : Falling) (rest : List Falling) (t q : ℕ) → Keeps s l w → (phase s l w ≡ Off → ⊥) → w.down ≡ x ∷ rest
      → settling.IsHeard settling.is_second (λ id. p.PubComp id) t q (pending_of (entries w)) (c.Arrived x.packet) (times t q w)
  heard w x rest t q h on is command one task seq kind cause_is =
      let n = command.id in
      let b = balance_now s l w h on in
      let tidy = b.tidy n in
      let packet_is : x.packet ≡ p.PubComp n = ap (packet_of x.packet) cause_is in
      let back : falls_complete n x ≡ true = ap (completes n) packet_is ∙ eq-eqb n n refl in
      let label = settling.taken_as settling.is_second (entries w) command t q (open_were_taken (entries w) command one) task seq kind in
      let count = b.counts t q n label in
      let ours : is_ours t q n command ≡ true = rw (eq-eqb command.id n refl, kind, task, seq) (rw (eq-eqb t t refl, eq-eqb q q refl) refl) in
      let some_ours = some (is_ours t q n) command (pending_of (entries w)) (in_list s l command (pending_of (entries w)) one) ours in
      omega (arith, count.passed, some_ours, tidy.freed, ap (count_by (falls_complete n)) is, counted (falls_complete n) x rest, ap digit back)
    where
      packet_of : Packet → Cause → Packet
      packet_of other (c.Arrived packet) = packet
      packet_of other c.Opened = other
      packet_of other (c.Take a b d) = other
      packet_of other (c.Broke reason) = other
      packet_of other c.Tick = other
      packet_of other c.GaveUp = other
      packet_of other c.Finish = other

  -- ---- The row

  up_row : (n : ℕ) (past : List Entry) (at : ℕ) (packet : Packet) (found : Row) → IsLegalPast s l past → phase_of s l past ≡ Up → row s l past at (c.Arrived packet) ≡ Some found → count_by (is_of n) (pending_of past) ≤ 1
      → IsRow n (readings s l past) packet found
  up_row n past at packet found legal up e alone =
      of_found (IsRow n (readings s l past) packet) (row s l past at (c.Arrived packet)) found e
      (arrives_in (IsRow n (readings s l past) packet) s l (readings s l past) at packet Up up
      (as_row (arrivals.up_row s l (readings s l past) packet) (answers_up n s l (readings s l past) alone (open_once s l past legal) packet)))
    where
      as_row : (x : Option Row) → Answers n (readings s l past) packet x → OfRow (IsRow n (readings s l past) packet) x
      as_row None h = tt
      as_row (Some row) h = h

  opening_row : (n : ℕ) (past : List Entry) (at : ℕ) (packet : Packet) (found : Row) → phase_of s l past ≡ Opening → row s l past at (c.Arrived packet) ≡ Some found → IsPresent (readings s l past) packet
      → digit (is_among (released_of past) n) ≤ count_by (is_second n) (pending_of past) → count_by (is_second n) (pending_of past) ≤ 1 → Resumes n (readings s l past) (Some found)
  opening_row n past at packet found opening e present tidy few =
      of_found (λ row. Resumes n (readings s l past) (Some row)) (row s l past at (c.Arrived packet)) found e
      (arrives_in (λ row. Resumes n (readings s l past) (Some row)) s l (readings s l past) at packet Opening opening
      (as_row (arrivals.opening_row s (readings s l past) packet)
      (resumes_opening n s (readings s l past) (released_once past n) tidy few (among_count (released_of past) n (released_once past n)) packet present)))
    where
      as_row : (x : Option Row) → Resumes n (readings s l past) x → OfRow (λ row. Resumes n (readings s l past) (Some row)) x
      as_row None h = tt
      as_row (Some row) h = h

  connack_row : (past : List Entry) (at : ℕ) (packet : Packet) (found : Row) → phase_of s l past ≡ Opening → row s l past at (c.Arrived packet) ≡ Some found → (found.phase ≡ Off) ⊎ (is_connack packet ≡ true)
  connack_row past at packet found opening e =
      of_found (λ row. (row.phase ≡ Off) ⊎ (is_connack packet ≡ true)) (row s l past at (c.Arrived packet)) found e
      (arrives_in (λ row. (row.phase ≡ Off) ⊎ (is_connack packet ≡ true)) s l (readings s l past) at packet Opening opening (only_connack s (readings s l past) packet))

  shown_is : (has : Bool) (past : List Entry) (packet : Packet) → ShownIn s l has (first_yet s l past) packet → IsPresent (readings s l past) packet
  shown_is has past (p.ConnAck present code) h = λ zero_is not_first. (h zero_is).1 not_first
  shown_is has past (p.Publish a b d e f g) h = tt
  shown_is has past (p.Connect a b d e f g) h = tt
  shown_is has past (p.PubAck a) h = tt
  shown_is has past (p.PubRec a) h = tt
  shown_is has past (p.PubRel a) h = tt
  shown_is has past (p.PubComp a) h = tt
  shown_is has past (p.Subscribe a b) h = tt
  shown_is has past (p.SubAck a b) h = tt
  shown_is has past (p.Unsubscribe a b) h = tt
  shown_is has past (p.UnsubAck a) h = tt
  shown_is has past p.PingReq h = tt
  shown_is has past p.PingResp h = tt
  shown_is has past p.Disconnect h = tt

  -- ---- A packet without a row

  passed_over : (w : World) (x : Falling) (rest : List Falling) → w.down ≡ x ∷ rest → Keeps s l w → Keeps s l (record w { down = rest })
  passed_over w x rest is h = record {
    legal = h.legal;
    most = h.most;
    unborn = h.unborn;
    labelled = h.labelled;
    settled = h.settled;
    commands = h.commands;
    released = h.released;
    balanced = record {
      single = h.balanced.single;
      tidy = λ n. let t = h.balanced.tidy n in record {
        alone = t.alone;
        two = omega (arith, t.two, ap (count_by (falls_receive n)) is, counted (falls_receive n) x rest);
        freed = omega (arith, t.freed, ap (count_by (falls_complete n)) is, counted (falls_complete n) x rest);
        known = t.known;
        entered = omega (arith, t.entered, ap (count_by (falls_receive n)) is, counted (falls_receive n) x rest);
        left = omega (arith, t.left, ap (count_by (falls_complete n)) is, counted (falls_complete n) x rest);
      };
      counts = h.balanced.counts;
    };
    now = h.now;
    quiet = λ begins n. let z = h.quiet begins n in record {
      second = z.second;
      release = z.release;
      receive = omega (arith, z.receive, ap (count_by (falls_receive n)) is, counted (falls_receive n) x rest);
      complete = omega (arith, z.complete, ap (count_by (falls_complete n)) is, counted (falls_complete n) x rest);
    };
    at_home = record {
      home = h.at_home.home;
      connects = h.at_home.connects;
      known = h.at_home.known;
      present = (subst (AllByRecursion (λ (y : Falling). ShownIn s l (has_session (kept w)) (first_yet s l (entries w)) y.packet)) is h.at_home.present).1;
      one = λ on. omega (arith, h.at_home.one on, ap (count_by (λ (y : Falling). is_connack y.packet)) is, counted (λ (y : Falling). is_connack y.packet) x rest);
    };
  }

  -- ---- The entry

  module _ (w : World) (at : ℕ) (x : Falling) (rest : List Falling) (found : Row) (is : w.down ≡ x ∷ rest) (h : Keeps s l w) (on : phase s l w ≡ Off → ⊥) (e : row s l (entries w) at (c.Arrived x.packet) ≡ Some found) where
    abbrev old : List Pending
    old = pending_of (entries w)

    abbrev ids : List ℕ
    ids = released_of (entries w)

    abbrev behind : Entry
    behind = entry_of s l at (c.Arrived x.packet) found

    abbrev cs : List Pending
    cs = left (pending_of (entries w)) found.effects

    abbrev more : List Rising
    more = map (rising s l (c.Arrived x.packet) (left (pending_of (entries w)) found.effects)) (sends found.effects)

    abbrev new : World
    new = stepped_by s l (Some found) x.place at (c.Arrived x.packet) (record w { down = rest })

    balance : IsBalanced s l w (pending_of (entries w)) (released_of (entries w))
    balance = balance_now s l w h on

    receive_is : (n : ℕ) → count_by (falls_receive n) w.down ≡ digit (receives n x.packet) + count_by (falls_receive n) rest
    receive_is n = ap (count_by (falls_receive n)) is ∙ counted (falls_receive n) x rest

    complete_is : (n : ℕ) → count_by (falls_complete n) w.down ≡ digit (completes n x.packet) + count_by (falls_complete n) rest
    complete_is n = ap (count_by (falls_complete n)) is ∙ counted (falls_complete n) x rest

    releases_is : (n : ℕ) → count_by (rises_release n) more ≡ count_by (releases n) (sends found.effects)
    releases_is n = risen_any s l (releases n) (c.Arrived x.packet) cs (sends found.effects)

    seconds_is : (n : ℕ) → count_by (rises_second n) more ≡ count_by (publishes_second n) (sends found.effects)
    seconds_is n = risen_second s l n (c.Arrived x.packet) cs (sends found.effects)

    whole : AreLabelled (behind ∷ entries w) more → AllByRecursion (λ (packet : Packet). is_connect packet ≡ false) (sends found.effects) → (commands : List Pending) (released : List ℕ) → ((i j : ℕ) → opened i j commands ≤ 1)
        → ((n : ℕ) → IsTidy n commands released (received_of (kept w)) (w.up ++ more) rest)
        → ((t q n : ℕ) → was_taken settling.is_second t q (behind ∷ entries w) ≡ true → times t q w ≤ 1 → IsCounted t q n commands released (received_of (kept w)) (w.up ++ more) (times t q w))
        → ((found.phase ≡ Off → ⊥) → (commands ≡ pending_of (behind ∷ entries w)) × (released ≡ released_of (behind ∷ entries w))) → (is_beginning found.phase ≡ true → (n : ℕ) → IsStill s l n (w.up ++ more) rest)
        → ((phase s l new ≡ Off → ⊥) → (is_opening s l (phase s l w) ≡ false) ⊎ (is_connack x.packet ≡ true)) → Keeps s l new
    whole labels none commands released single tidy counts now quiet or_connack =
        entered s l w new at (c.Arrived x.packet) found e h refl refl (λ t q. heard w x rest t q h on is)
        (all_both (IsLabelled (behind ∷ entries w)) w.up more (labelled_later (entries w) behind w.up h.labelled) labels) commands released single tidy counts now quiet
        (home_arrived s l w new at x rest found more h.at_home on is refl refl refl refl (rising_own s l (c.Arrived x.packet) cs (sends found.effects) none) (rising_none s l (c.Arrived x.packet) cs (sends found.effects) none) or_connack)

    -- what ends the agent
    ends : found.phase ≡ Off → AllByRecursion IsAside (sends found.effects) → ((n : ℕ) → count_by (releases n) (sends found.effects) ≡ 0) → Keeps s l new
    ends off aside silent =
        whole (aside_labelled s l (behind ∷ entries w) (c.Arrived x.packet) cs (sends found.effects) aside) (asides (sends found.effects) aside) old ids (open_once s l (entries w) h.legal)
        (λ n. told_tidy 0 0 n old old ids ids _ w.up more w.down rest (digit (receives n x.packet)) (digit (completes n x.packet)) 0 (balance.tidy n)
        (frozen 0 0 n old ids (digit (receives n x.packet)) (digit (completes n x.packet)) (balance.tidy n).alone) (step n))
        (λ t q n label most. told_counted t q n old old ids ids _ w.up more w.down rest (digit (receives n x.packet)) (digit (completes n x.packet)) 0 (times t q w) most (balance.tidy n)
        (counts_now s l w at (c.Arrived x.packet) found e h on t q n label) (frozen t q n old ids (digit (receives n x.packet)) (digit (completes n x.packet)) (balance.tidy n).alone) (step n))
        (λ goes_on. absurd (goes_on off)) (λ begins. absurd (cc (sym (ap is_beginning off) ∙ begins)))
        (λ goes_on. absurd (goes_on (phase_behind s l (entries w) at (c.Arrived x.packet) found e ∙ off)))
      where
        step : (n : ℕ) → IsNext n more w.down rest (digit (receives n x.packet)) (digit (completes n x.packet)) 0
        step n = record {
          second = seconds_is n ∙ none_aside (publishes_second n) (second_aside n) (sends found.effects) aside;
          release = releases_is n ∙ silent n;
          receive = receive_is n;
          complete = complete_is n;
          apart = one_answer n x.packet;
        }

    in_up : phase s l w ≡ Up → (found.phase ≡ Off) ⊎ (found.phase ≡ Off → ⊥) → Keeps s l new
    in_up up (inl off) = ends off (fact 0).aside (λ n. (fact n).silent off)
      where
        fact : (n : ℕ) → IsRow n (readings s l (entries w)) x.packet found
        fact n = up_row n (entries w) at x.packet found h.legal up e (balance.tidy n).alone
    in_up up (inr goes_on) =
        whole (aside_labelled s l (behind ∷ entries w) (c.Arrived x.packet) cs (sends found.effects) (fact 0).aside) (asides (sends found.effects) (fact 0).aside) (pending_of (behind ∷ entries w)) (released_of (behind ∷ entries w))
        (open_once s l (behind ∷ entries w) (legal_behind s l (entries w) at (c.Arrived x.packet) found e h.legal))
        (λ n. told_tidy 0 0 n old cs ids _ _ w.up more w.down rest (digit (receives n x.packet)) (digit (completes n x.packet)) (count_by (releases n) (sends found.effects)) (balance.tidy n) ((answer n).told 0 0) (step n))
        (λ t q n label most. told_counted t q n old cs ids _ _ w.up more w.down rest (digit (receives n x.packet)) (digit (completes n x.packet)) (count_by (releases n) (sends found.effects)) (times t q w) most (balance.tidy n)
        (counts_now s l w at (c.Arrived x.packet) found e h on t q n label) ((answer n).told t q) (step n))
        (λ off. (refl, refl)) (λ begins. absurd (cc (sym begins ∙ (answer 0).ongoing))) (λ off. inl (ap (is_opening s l) up))
      where
        fact : (n : ℕ) → IsRow n (readings s l (entries w)) x.packet found
        fact n = up_row n (entries w) at x.packet found h.legal up e (balance.tidy n).alone

        answer : (n : ℕ) → IsAnswered n (readings s l (entries w)) x.packet found
        answer n = pick (fact n).answered
          where
            pick : (found.phase ≡ Off) ⊎ IsAnswered n (readings s l (entries w)) x.packet found → IsAnswered n (readings s l (entries w)) x.packet found
            pick (inl off) = absurd (goes_on off)
            pick (inr it) = it

        step : (n : ℕ) → IsNext n more w.down rest (digit (receives n x.packet)) (digit (completes n x.packet)) (count_by (releases n) (sends found.effects))
        step n = record {
          second = seconds_is n ∙ none_aside (publishes_second n) (second_aside n) (sends found.effects) (fact n).aside;
          release = releases_is n;
          receive = receive_is n;
          complete = complete_is n;
          apart = one_answer n x.packet;
        }

    in_opening : phase s l w ≡ Opening → (found.phase ≡ Off) ⊎ (found.phase ≡ Off → ⊥) → Keeps s l new
    in_opening opening now = by now (fact 0)
      where
        present : IsPresent (readings s l (entries w)) x.packet
        present = shown_is (has_session (kept w)) (entries w) x.packet
            (subst (AllByRecursion (λ (y : Falling). ShownIn s l (has_session (kept w)) (first_yet s l (entries w)) y.packet)) is h.at_home.present).0

        fact : (n : ℕ) → Resumes n (readings s l (entries w)) (Some found)
        fact n = opening_row n (entries w) at x.packet found opening e present (omega (arith, (balance.tidy n).two)) (omega (arith, (balance.tidy n).alone, second_of n old))

        still : (n : ℕ) → IsStill s l n w.up w.down
        still n = h.quiet (ap is_beginning opening) n

        by : (found.phase ≡ Off) ⊎ (found.phase ≡ Off → ⊥) → Resumes 0 (readings s l (entries w)) (Some found) → Keeps s l new
        by (inl off) (inl closes) = ends off (subst (AllByRecursion IsAside) (sym closes.1) tt) (λ n. ap (count_by (releases n)) closes.1)
        by (inl off) (inr goes) = absurd (goes.ongoing off)
        by (inr goes_on) (inl closes) = absurd (goes_on closes.0)
        by (inr goes_on) (inr first) =
            whole (subst (λ commands. AreLabelled (behind ∷ entries w) (map (rising s l (c.Arrived x.packet) commands) (sends found.effects))) (sym same)
            (again_labelled s l (entries w) behind x.packet (sends found.effects) (λ n. (balance.tidy n).alone) first.again))
            (agains (pending_of (entries w)) (sends found.effects) first.again) (pending_of (behind ∷ entries w)) (released_of (behind ∷ entries w))
            (open_once s l (behind ∷ entries w) (legal_behind s l (entries w) at (c.Arrived x.packet) found e h.legal))
            (λ n. subst (λ commands. IsTidy n commands (filter (is_open_publish is_exactly_once commands) (released_behind old ids (c.Arrived x.packet))) (received_of (kept w)) (w.up ++ more) rest) (sym same)
            (subst (λ released. IsTidy n old (filter (is_open_publish is_exactly_once old) released) (received_of (kept w)) (w.up ++ more) rest) (sym kept_ids)
            (resumed_tidy n old ids (filter (is_open_publish is_exactly_once old) ids) _ w.up more w.down rest (balance.tidy n) (still n).second (still n).release (omega (arith, (still n).receive, receive_is n))
            (omega (arith, (still n).complete, complete_is n)) (omega (arith, (goes n).second, seconds_is n)) (omega (arith, (goes n).release, releases_is n)) (rest_of n old ids (balance.tidy n).alone))))
            (λ t q n label most. subst (λ commands. IsCounted t q n commands (filter (is_open_publish is_exactly_once commands) (released_behind old ids (c.Arrived x.packet))) (received_of (kept w)) (w.up ++ more) (times t q w)) (sym same)
            (subst (λ released. IsCounted t q n old (filter (is_open_publish is_exactly_once old) released) (received_of (kept w)) (w.up ++ more) (times t q w)) (sym kept_ids)
            (resumed_counted t q n old ids (filter (is_open_publish is_exactly_once old) ids) _ w.up more w.down (times t q w) (balance.tidy n) (counts_now s l w at (c.Arrived x.packet) found e h on t q n label) (still n).second
            (brought t q n).brought (brought t q n).own (rest_of n old ids (balance.tidy n).alone))))
            (λ off. (refl, refl))
            (λ begins n. record {
              second = omega (arith, (still n).second, count_append (rises_second n) w.up more, seconds_is n, ((goes n).none begins).0);
              release = omega (arith, (still n).release, count_append (rises_release n) w.up more, releases_is n, ((goes n).none begins).1);
              receive = omega (arith, (still n).receive, receive_is n);
              complete = omega (arith, (still n).complete, complete_is n);
            })
            (λ off. inr connack)
          where
            connack : is_connack x.packet ≡ true
            connack = pick (connack_row (entries w) at x.packet found opening e)
              where
                pick : (found.phase ≡ Off) ⊎ (is_connack x.packet ≡ true) → is_connack x.packet ≡ true
                pick (inl off) = absurd (goes_on off)
                pick (inr it) = it

            goes : (n : ℕ) → IsResumed n (readings s l (entries w)) found
            goes n = pick (fact n)
              where
                pick : Resumes n (readings s l (entries w)) (Some found) → IsResumed n (readings s l (entries w)) found
                pick (inl closes) = absurd (goes_on closes.0)
                pick (inr it) = it

            same : left (pending_of (entries w)) found.effects ≡ pending_of (entries w)
            same = all_left found.effects (pending_of (entries w)) first.quiet

            kept_ids : released_behind (pending_of (entries w)) (released_of (entries w)) (c.Arrived x.packet) ≡ released_of (entries w)
            kept_ids = released_same (pending_of (entries w)) (released_of (entries w)) x.packet connack

            brought : (t q n : ℕ) → IsBrought s l t q n (pending_of (entries w)) (map (rising s l (c.Arrived x.packet) (left (pending_of (entries w)) found.effects)) (sends found.effects))
            brought t q n =
                subst (λ commands. IsBrought s l t q n (pending_of (entries w)) (map (rising s l (c.Arrived x.packet) commands) (sends found.effects))) (sym same)
                (all_brought s l t q n x.packet (pending_of (entries w)) (sends found.effects) (balance.tidy n).alone (omega (arith, (goes n).second)) (risen_second s l n (c.Arrived x.packet) (pending_of (entries w)) (sends found.effects)))

  by_phase : (phase : Phase) → playing.is_connected phase ≡ true → (phase ≡ Opening) ⊎ (phase ≡ Up)
  by_phase Opening e = inl refl
  by_phase Up e = inr refl
  by_phase Down e = absurd (cc e)
  by_phase Spilled e = absurd (cc e)
  by_phase Off e = absurd (cc e)

  pub arrives : (w : World) (at : ℕ) (x : Falling) (rest : List Falling) → playing.is_connected (phase s l w) ≡ true → w.down ≡ x ∷ rest → Keeps s l w → Keeps s l (stepped s l x.place at (c.Arrived x.packet) (record w { down = rest }))
  arrives w at x rest there is h = go (row s l (entries w) at (c.Arrived x.packet)) refl
    where
      on : phase s l w ≡ Off → ⊥
      on off = cc (sym there ∙ ap playing.is_connected off)

      go : (found : Option Row) → row s l (entries w) at (c.Arrived x.packet) ≡ found → Keeps s l (stepped_by s l found x.place at (c.Arrived x.packet) (record w { down = rest }))
      go None e = passed_over w x rest is h
      go (Some found) e = by (by_phase (phase s l w) there)
        where
          by : (phase s l w ≡ Opening) ⊎ (phase s l w ≡ Up) → Keeps s l (stepped_by s l (Some found) x.place at (c.Arrived x.packet) (record w { down = rest }))
          by (inl opening) = in_opening w at x rest found is h on e opening (off_or found.phase)
          by (inr up) = in_up w at x rest found is h on e up (off_or found.phase)

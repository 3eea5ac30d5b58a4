-- The deliveries of each session differ in their identifiers, and there are at most 16.
use Rattle.std.proofs.Common.{◌≡◌, ℕ, ◌+◌, ◌<◌, ◌≤◌, Bool, true, false, not, List, [], ◌∷◌, ◌++◌, length, refl, ap, arith, length-append, append_assoc}
use Rattle.std.specs.Prelude.{◌==◌, count_by, filter, nat_lt}
use Rattle.std.specs.List.{list_any, AllByRecursion}
use Rattle.std.proofs.lemmas.Bool.{eqb-true, ltb-true}
use Rattle.std.proofs.lemmas.List.{append-nil}
use Rattle.mqtt_packet.specs.declared.qos.Qos.{Qos}
use Rattle.mqtt_packet.specs.declared.qos.Qos.TheVariants.{AtLeastOnce, ExactlyOnce}
use Rattle.mqtt_packet.specs.declared.packet.Packet.{Packet}
use Rattle.agent_table.proofs.Counts.{count_append}
use Rattle.agent_table.proofs.Fresh.{fresh_is_fresh}
use Rattle.agent_table.specs.Deliveries.{is_among}
use Rattle.agent_table.specs.Identifiers.{fresh, last_or}
use Rattle.broker_core.specs.declared.delivery.Delivery.{Delivery}
use Rattle.broker_core.specs.declared.delivery.Waiting.{Waiting}
use Rattle.broker_core.specs.declared.link.Link.{Link}
use Rattle.broker_core.specs.declared.link.Link.TheVariants.{Gone, Opened, Accepted}
use Rattle.broker_core.specs.Past.{kept_of}
use Rattle.broker_core.specs.Session.{is_of, Session, begins, in_use, ids_of, begun, beginning, refilled, is_delivery, others, without, acknowledged, released, completed}
use Rattle.broker_core.specs.Laws.{IsWithinWindow, DrawnAreFresh, WindowsHold, SessionsAreFew, ClientsDiffer, session_on}
use Rattle.broker_core.proofs.Walk.{IsKept, OnLink, at_past, all_append}

abbrev count : ℕ → List ℕ → ℕ
count n ids = count_by (λ m. m == n) ids

count_both : (n : ℕ) (xs ys : List ℕ) → count n (xs ++ ys) ≡ count n xs + count n ys
count_both n xs ys = count_append (λ m. m == n) xs ys

ids_both : (xs ys : List Delivery) → ids_of (xs ++ ys) ≡ ids_of xs ++ ids_of ys
ids_both [] ys = refl
ids_both (d ∷ xs) ys = ap (λ ids. d.id ∷ ids) (ids_both xs ys)

-- ---- What begins

none_counted : (n : ℕ) (ids : List ℕ) → is_among ids n ≡ false → count n ids ≡ 0
none_counted n [] e = refl
none_counted n (m ∷ ids) e = go (m == n) refl (none_counted n ids)
  where
    go : (t : Bool) → (m == n) ≡ t → (is_among ids n ≡ false → count n ids ≡ 0) → count n (m ∷ ids) ≡ 0
    go true at rest = absurd (cc (rw at at e))
    go false at rest = rw at (rest (rw at at e))

at_most_one : (n m : ℕ) → count n (m ∷ []) ≤ 1
at_most_one n m = go (m == n) refl
  where
    go : (t : Bool) → (m == n) ≡ t → count n (m ∷ []) ≤ 1
    go true e = rw e (omega arith)
    go false e = rw e (omega arith)

other_none : (n m : ℕ) → (m == n) ≡ false → count n (m ∷ []) ≡ 0
other_none n m e = rw e refl

-- one more identifier that isn't in use
one_more : (used : List ℕ) (id : ℕ) → ((n : ℕ) → count n used ≤ 1) → is_among used id ≡ false → (n : ℕ) → count n (used ++ id ∷ []) ≤ 1
one_more used id differ free n = go (id == n) refl
  where
    go : (t : Bool) → (id == n) ≡ t → count n (used ++ id ∷ []) ≤ 1
    go true e =
        let same : id ≡ n = eqb-true id n e in
        let none : count n used ≡ 0 = none_counted n used (rw (← same) free) in
        omega (arith, count_both n used (id ∷ []), none, at_most_one n id)
    go false e = omega (arith, count_both n used (id ∷ []), differ n, other_none n id e)

-- an identifier that isn't among more isn't among fewer
not_before : (used : List ℕ) (id n : ℕ) → is_among (used ++ id ∷ []) n ≡ false → is_among used n ≡ false
not_before [] id n e = refl
not_before (m ∷ used) id n e = go (m == n) refl (not_before used id n)
  where
    go : (t : Bool) → (m == n) ≡ t → (is_among (used ++ id ∷ []) n ≡ false → is_among used n ≡ false) → is_among (m ∷ used) n ≡ false
    go true at rest = absurd (cc (rw at at e))
    go false at rest = rw at (rest (rw at at e))

record IsBegun (last : ℕ) (used : List ℕ) (ds : List Delivery) : Type 0 where
  differ : (n : ℕ) → count n (used ++ ids_of ds) ≤ 1
  most : length (used ++ ids_of ds) ≤ 16
  drawn : last_or last (ids_of ds) ≤ 65535
  free : AllByRecursion (λ (d : Delivery). is_among used d.id ≡ false) ds

all_before : (used : List ℕ) (id : ℕ) (ds : List Delivery) → AllByRecursion (λ (d : Delivery). is_among (used ++ id ∷ []) d.id ≡ false) ds → AllByRecursion (λ (d : Delivery). is_among used d.id ≡ false) ds
all_before used id [] h = tt
all_before used id (d ∷ ds) h = (not_before used id d.id h.0, all_before used id ds h.1)

none_begun : (last : ℕ) (used : List ℕ) → last ≤ 65535 → ((n : ℕ) → count n used ≤ 1) → length used ≤ 16 → IsBegun last used []
none_begun last used high differ few = record {
  differ = λ n. rw (append-nil used) (differ n);
  most = rw (append-nil used) few;
  drawn = high;
  free = tt;
}

is_begun : (last : ℕ) (used : List ℕ) (copies : List Waiting) → last ≤ 65535 → ((n : ℕ) → count n used ≤ 1) → length used ≤ 16 → IsBegun last used (begun last used copies)
is_begun last used [] high differ few = none_begun last used high differ few
is_begun last used (copy ∷ copies) high differ few = go (nat_lt (length used) 16) refl (λ range longer. is_begun (fresh last used) (used ++ fresh last used ∷ []) copies range.1 (one_more used (fresh last used) differ range.2) longer)
  where
    id : ℕ
    id = fresh last used

    more : List Delivery
    more = begun (fresh last used) (used ++ fresh last used ∷ []) copies

    go : (t : Bool) → nat_lt (length used) 16 ≡ t
        → ((0 < fresh last used) × (fresh last used ≤ 65535) × (is_among used (fresh last used) ≡ false) → length (used ++ fresh last used ∷ []) ≤ 16 → IsBegun (fresh last used) (used ++ fresh last used ∷ []) (begun (fresh last used) (used ++ fresh last used ∷ []) copies))
        → IsBegun last used (begun last used (copy ∷ copies))
    go false e rest = rw e (none_begun last used high differ few)
    go true e rest =
        let room : length used < 16 = ltb-true (length used) 16 e in
        let range = fresh_is_fresh last used high (omega (arith, room)) in
        let behind = rest range (omega (arith, room, length-append used (fresh last used ∷ []))) in
        rw e (record {
          differ = λ n. rw (← append_assoc used (fresh last used ∷ []) (ids_of (begun (fresh last used) (used ++ fresh last used ∷ []) copies))) (behind.differ n);
          most = rw (← append_assoc used (fresh last used ∷ []) (ids_of (begun (fresh last used) (used ++ fresh last used ∷ []) copies))) behind.most;
          drawn = behind.drawn;
          free = (range.2, all_before used (fresh last used) _ behind.free);
        })

-- ---- What ends

fewer : (test : Delivery → Bool) (m : ℕ) (ds : List Delivery) → (count m (ids_of (filter test ds)) ≤ count m (ids_of ds)) × (length (ids_of (filter test ds)) ≤ length (ids_of ds))
fewer test m [] = (omega arith, omega arith)
fewer test m (d ∷ ds) = go (test d) refl (fewer test m ds)
  where
    go : (t : Bool) → test d ≡ t → (count m (ids_of (filter test ds)) ≤ count m (ids_of ds)) × (length (ids_of (filter test ds)) ≤ length (ids_of ds))
        → (count m (ids_of (filter test (d ∷ ds))) ≤ count m (d.id ∷ ids_of ds)) × (length (ids_of (filter test (d ∷ ds))) ≤ length (d.id ∷ ids_of ds))
    go true e rest = rw e (omega (arith, rest.0, count_both m (d.id ∷ []) (ids_of ds), count_both m (d.id ∷ []) (ids_of (filter test ds))), omega (arith, rest.1))
    go false e rest = rw e (omega (arith, rest.0, count_both m (d.id ∷ []) (ids_of ds)), omega (arith, rest.1))

fewer_ids : (test : ℕ → Bool) (m : ℕ) (ids : List ℕ) → (count m (filter test ids) ≤ count m ids) × (length (filter test ids) ≤ length ids)
fewer_ids test m [] = (omega arith, omega arith)
fewer_ids test m (n ∷ ids) = go (test n) refl (fewer_ids test m ids)
  where
    go : (t : Bool) → test n ≡ t → (count m (filter test ids) ≤ count m ids) × (length (filter test ids) ≤ length ids)
        → (count m (filter test (n ∷ ids)) ≤ count m (n ∷ ids)) × (length (filter test (n ∷ ids)) ≤ length (n ∷ ids))
    go true e rest = rw e (omega (arith, rest.0, count_both m (n ∷ []) ids, count_both m (n ∷ []) (filter test ids)), omega (arith, rest.1))
    go false e rest = rw e (omega (arith, rest.0, count_both m (n ∷ []) ids), omega (arith, rest.1))

-- one is taken out, whose identifier is n
one_out : (test : Delivery → Bool) (n m : ℕ) → ((d : Delivery) → test d ≡ true → d.id ≡ n) → (ds : List Delivery) → list_any test ds ≡ true
    → (count m (ids_of (filter (λ d. not (test d)) ds)) + count m (n ∷ []) ≤ count m (ids_of ds)) × (length (ids_of (filter (λ d. not (test d)) ds)) + 1 ≤ length (ids_of ds))
one_out test n m named [] some = absurd (cc some)
one_out test n m named (d ∷ ds) some = go (test d) refl (one_out test n m named ds) (fewer (λ d. not (test d)) m ds)
  where
    go : (t : Bool) → test d ≡ t
        → (list_any test ds ≡ true → (count m (ids_of (filter (λ d. not (test d)) ds)) + count m (n ∷ []) ≤ count m (ids_of ds)) × (length (ids_of (filter (λ d. not (test d)) ds)) + 1 ≤ length (ids_of ds)))
        → (count m (ids_of (filter (λ d. not (test d)) ds)) ≤ count m (ids_of ds)) × (length (ids_of (filter (λ d. not (test d)) ds)) ≤ length (ids_of ds))
        → (count m (ids_of (filter (λ d. not (test d)) (d ∷ ds))) + count m (n ∷ []) ≤ count m (d.id ∷ ids_of ds)) × (length (ids_of (filter (λ d. not (test d)) (d ∷ ds))) + 1 ≤ length (d.id ∷ ids_of ds))
    go true e rest few =
        let same : count m (d.id ∷ []) ≡ count m (n ∷ []) = ap (λ id. count m (id ∷ [])) (named d e) in
        rw e (omega (arith, few.0, same, count_both m (d.id ∷ []) (ids_of ds)), omega (arith, few.1))
    go false e rest few =
        let behind = rest (rw e at some) in
        rw e (omega (arith, behind.0, count_both m (d.id ∷ []) (ids_of ds), count_both m (d.id ∷ []) (ids_of (filter (λ d. not (test d)) ds))), omega (arith, behind.1))

-- ---- Each rule

abbrev Windowed : List Packet → Session → Type 0
Windowed passed s = IsWithinWindow s

its_name : (at : Qos) (n : ℕ) (d : Delivery) → is_delivery at n d ≡ true → d.id ≡ n
its_name at n d e = go (d.id == n) refl
  where
    go : (t : Bool) → (d.id == n) ≡ t → d.id ≡ n
    go true is = eqb-true d.id n is
    go false is = absurd (cc (rw is at e))

begins_within : (client : List ℕ) → IsWithinWindow (begins client)
begins_within client = record { differ = λ n. omega arith; most = omega arith; drawn = omega arith }

refilled_within : (s : Session) → IsWithinWindow s → IsWithinWindow (refilled s)
refilled_within s h =
    let begun_now = is_begun s.last_drawn (in_use s.sent s.released) s.waiting h.drawn h.differ h.most in
    record {
      differ = λ n. omega (
        arith,
        begun_now.differ n,
        count_both n (in_use s.sent s.released) (ids_of (beginning s)),
        count_both n (ids_of s.sent) s.released,
        count_both n (ids_of (s.sent ++ beginning s)) s.released,
        ap (count n) (ids_both s.sent (beginning s)),
        count_both n (ids_of s.sent) (ids_of (beginning s)),
      );
      most = omega (
        arith,
        begun_now.most,
        length-append (in_use s.sent s.released) (ids_of (beginning s)),
        length-append (ids_of s.sent) s.released,
        length-append (ids_of (s.sent ++ beginning s)) s.released,
        ap length (ids_both s.sent (beginning s)),
        length-append (ids_of s.sent) (ids_of (beginning s)),
      );
      drawn = begun_now.drawn;
    }

acknowledged_within : (s : Session) (n : ℕ) → IsWithinWindow s → IsWithinWindow (acknowledged n s)
acknowledged_within s n h = record {
  differ = λ m. omega (arith, h.differ m, (fewer (λ d. not (is_delivery AtLeastOnce n d)) m s.sent).0, count_both m (ids_of s.sent) s.released, count_both m (ids_of (others AtLeastOnce n s.sent)) s.released);
  most = omega (arith, h.most, (fewer (λ d. not (is_delivery AtLeastOnce n d)) 0 s.sent).1, length-append (ids_of s.sent) s.released, length-append (ids_of (others AtLeastOnce n s.sent)) s.released);
  drawn = h.drawn;
}

completed_within : (s : Session) (n : ℕ) → IsWithinWindow s → IsWithinWindow (completed n s)
completed_within s n h = record {
  differ = λ m. omega (arith, h.differ m, (fewer_ids (λ id. not (id == n)) m s.released).0, count_both m (ids_of s.sent) s.released, count_both m (ids_of s.sent) (without n s.released));
  most = omega (arith, h.most, (fewer_ids (λ id. not (id == n)) 0 s.released).1, length-append (ids_of s.sent) s.released, length-append (ids_of s.sent) (without n s.released));
  drawn = h.drawn;
}

released_within : (s : Session) (n : ℕ) → IsWithinWindow s → IsWithinWindow (released n s)
released_within s n h = go (list_any (is_delivery ExactlyOnce n) s.sent) refl
  where
    go : (t : Bool) → list_any (is_delivery ExactlyOnce n) s.sent ≡ t → IsWithinWindow (released n s)
    go false e = rw e h
    go true e = rw e (record {
      differ = λ m. omega (arith, h.differ m, (one_out (is_delivery ExactlyOnce n) n m (its_name ExactlyOnce n) s.sent e).0, count_both m (ids_of s.sent) s.released, count_both m (ids_of (others ExactlyOnce n s.sent)) (s.released ++ n ∷ []), count_both m s.released (n ∷ []));
      most = omega (arith, h.most, (one_out (is_delivery ExactlyOnce n) n 0 (its_name ExactlyOnce n) s.sent e).1, length-append (ids_of s.sent) s.released, length-append (ids_of (others ExactlyOnce n s.sent)) (s.released ++ n ∷ []), length-append s.released (n ∷ []));
      drawn = h.drawn;
    })

each : IsKept Windowed (λ qos name message. Unit {0})
each = record {
  begins = λ passed client. begins_within client;
  refilled = λ passed s h. refilled_within s h;
  acknowledged = λ passed s n h. acknowledged_within s n h;
  released = λ passed s n sound h. released_within s n h;
  completed = λ passed s n h. completed_within s n h;
  received = λ passed s ids h. record { differ = h.differ; most = h.most; drawn = h.drawn };
  subscribed = λ passed s asks h. record { differ = h.differ; most = h.most; drawn = h.drawn };
  offered = λ passed s qos name message m h. record { differ = h.differ; most = h.most; drawn = h.drawn };
  came = λ dup retain qos topic id payload sound. tt;
  own = λ qos topic payload name text size. tt;
}

-- ---- The laws

on_session : (passed : List Packet) (link : Link) → OnLink Windowed (λ qos name message. Unit {0}) each passed link → AllByRecursion IsWithinWindow (session_on link)
on_session passed Gone h = tt
on_session passed Opened h = tt
on_session passed (Accepted clean s) h = (h, tt)

pub windows_hold : WindowsHold
windows_hold past possible =
    let k = kept_of past in
    let h = at_past Windowed (λ qos name message. Unit {0}) each past possible in
    all_append IsWithinWindow (session_on k.link) k.others (on_session k.passed k.link h.on_link) h.on_others

pub drawn_are_fresh : DrawnAreFresh
drawn_are_fresh s h = (is_begun s.last_drawn (in_use s.sent s.released) s.waiting h.drawn h.differ h.most).free

pub clients_differ : ClientsDiffer
clients_differ past possible c =
    let k = kept_of past in
    let h = at_past Windowed (λ qos name message. Unit {0}) each past possible in
    omega (arith, h.once c, count_append (is_of c) (session_on k.link) k.others)

pub sessions_are_few : SessionsAreFew
sessions_are_few past possible =
    let k = kept_of past in
    let h = at_past Windowed (λ qos name message. Unit {0}) each past possible in
    omega (arith, h.few, length-append (session_on k.link) k.others)

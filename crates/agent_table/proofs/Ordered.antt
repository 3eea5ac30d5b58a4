-- The released stand in the order of their first PUBRECs.
use Rattle.std.proofs.Common.{◌≡◌, ◌⊎◌, ℕ, Bool, true, false, cond, List, [], ◌∷◌, ◌++◌, filter, refl, ap, subst}
use Rattle.std.specs.Prelude.{◌&&◌, ◌||◌, ◌==◌, not}
use Rattle.std.proofs.lemmas.Bool.{eqb-true}
use mathlib.Core.Logic.{inl, inr}
use Rattle.mqtt_packet.specs.declared.packet.Packet.{Packet}
use Rattle.mqtt_packet.specs.declared.packet.Packet.TheVariants as p
use Rattle.agent_journal.specs.declared.entry.Cause.{Cause}
use Rattle.agent_journal.specs.declared.entry.Cause.TheVariants as c
use Rattle.agent_journal.specs.declared.entry.Entry.{Entry}
use Rattle.agent_journal.specs.Readings.{Pending, pending_of}
use Rattle.agent_table.specs.Deliveries.{is_among, is_open_publish, is_exactly_once, with_released, released_by, released_behind, released_of}
use Rattle.agent_table.specs.Meanings.{precedes, WasReleasedFirst, ReleasedAreInOrder}
use Rattle.agent_table.proofs.Received.{kept}

-- what precedes another is there
there : (a b : ℕ) (ids : List ℕ) → precedes a b ids ≡ true → is_among ids a ≡ true
there a b [] h = absurd (cc h)
there a b (n ∷ ids) h = by (n == a) (is_among ids b) (precedes a b ids) h (there a b ids)
  where
    by : (same among rest : Bool) → ((same && among) || rest) ≡ true → (rest ≡ true → is_among ids a ≡ true) → (same || is_among ids a) ≡ true
    by true among rest h on = refl
    by false among rest h on = on h

-- an order in a part of a list is one in the list
order_kept : (keeps : ℕ → Bool) (a b : ℕ) (ids : List ℕ) → precedes a b (filter keeps ids) ≡ true → precedes a b ids ≡ true
order_kept keeps a b [] h = absurd (cc h)
order_kept keeps a b (n ∷ ids) h = by (keeps n) h (order_kept keeps a b ids)
  where
    or_true : (x : Bool) → (x || true) ≡ true
    or_true true = refl
    or_true false = refl

    first : (same there_too rest there all : Bool) → (there_too ≡ true → there ≡ true) → (rest ≡ true → all ≡ true) → ((same && there_too) || rest) ≡ true → ((same && there) || all) ≡ true
    first true true rest there all more on h = rw (more refl) refl
    first true false rest there all more on h = rw (on h) (or_true there)
    first false there_too rest there all more on h = on h

    by : (b2 : Bool) → precedes a b (cond b2 (n ∷ filter keeps ids) (filter keeps ids)) ≡ true → (precedes a b (filter keeps ids) ≡ true → precedes a b ids ≡ true) → ((n == a && is_among ids b) || precedes a b ids) ≡ true
    by true h on = first (n == a) (is_among (filter keeps ids) b) (precedes a b (filter keeps ids)) (is_among ids b) (precedes a b ids) (kept keeps ids b) on h
    by false h on = rw (on h) (or_true (n == a && is_among ids b))

-- with one more at the end it is one of before, or the last is the second of the two
order_more : (a b n : ℕ) (ids : List ℕ) → precedes a b (ids ++ n ∷ []) ≡ true → (precedes a b ids ≡ true) ⊎ ((is_among ids a ≡ true) × (n ≡ b))
order_more a b n [] h = absurd (none (n == a) h)
  where
    none : (same : Bool) → ((same && false) || false) ≡ true → ⊥
    none true h = cc h
    none false h = cc h
order_more a b n (m ∷ ids) h = by (m == a) (is_among (ids ++ n ∷ []) b) (precedes a b (ids ++ n ∷ [])) h (order_more a b n ids) (last_of ids)
  where
    last_of : (ids : List ℕ) → is_among (ids ++ n ∷ []) b ≡ true → (is_among ids b ≡ true) ⊎ (n ≡ b)
    last_of [] one = go (n == b) refl one
      where
        go : (same : Bool) → (n == b) ≡ same → (same || false) ≡ true → (false ≡ true) ⊎ (n ≡ b)
        go true is one = inr (eqb-true n b is)
        go false is one = absurd (cc one)
    last_of (k ∷ ids) one = go (k == b) one (last_of ids)
      where
        on : (is_among ids b ≡ true) ⊎ (n ≡ b) → (is_among ids b ≡ true) ⊎ (n ≡ b)
        on h = h

        go : (same : Bool) → (same || is_among (ids ++ n ∷ []) b) ≡ true → (is_among (ids ++ n ∷ []) b ≡ true → (is_among ids b ≡ true) ⊎ (n ≡ b)) → ((same || is_among ids b) ≡ true) ⊎ (n ≡ b)
        go true one rest = inl refl
        go false one rest = rest one

    or_true : (x : Bool) → (x || true) ≡ true
    or_true true = refl
    or_true false = refl

    here : (is_among ids b ≡ true) ⊎ (n ≡ b) → ((is_among ids b || precedes a b ids) ≡ true) ⊎ (n ≡ b)
    here (inl one) = inl (rw one refl)
    here (inr same) = inr same

    later : (same : Bool) → (precedes a b ids ≡ true) ⊎ ((is_among ids a ≡ true) × (n ≡ b)) → (((same && is_among ids b) || precedes a b ids) ≡ true) ⊎ (((same || is_among ids a) ≡ true) × (n ≡ b))
    later same (inl one) = inl (rw one (or_true (same && is_among ids b)))
    later same (inr (one, last)) = inr (rw one (or_true same), last)

    first : ((is_among ids b || precedes a b ids) ≡ true) ⊎ (n ≡ b) → (((true && is_among ids b) || precedes a b ids) ≡ true) ⊎ (((true || is_among ids a) ≡ true) × (n ≡ b))
    first (inl one) = inl one
    first (inr last) = inr (refl, last)

    by : (same among rest : Bool) → ((same && among) || rest) ≡ true → (rest ≡ true → (precedes a b ids ≡ true) ⊎ ((is_among ids a ≡ true) × (n ≡ b))) → (among ≡ true → (is_among ids b ≡ true) ⊎ (n ≡ b))
        → (((same && is_among ids b) || precedes a b ids) ≡ true) ⊎ (((same || is_among ids a) ≡ true) × (n ≡ b))
    by true true rest h on last = first (here (last refl))
    by true false rest h on last = later true (on h)
    by false among rest h on last = later false (on h)

-- ---- Behind an entry

-- the order of before, or the second is released now
abbrev Orders : ℕ → ℕ → List ℕ → Type 0
Orders a b released = (precedes a b released ≡ true) ⊎ ((is_among released a ≡ true) × (is_among released b ≡ false))

absent : (x y : Bool) → (x && not y) ≡ true → y ≡ false
absent true true h = absurd (cc h)
absent true false h = refl
absent false y h = absurd (cc h)

with_orders : (commands : List Pending) (released : List ℕ) (id a b : ℕ) → precedes a b (with_released commands released id) ≡ true → Orders a b released
with_orders commands released id a b h = by (is_open_publish is_exactly_once commands id && not (is_among released id)) refl h
  where
    last : is_among released id ≡ false → (precedes a b released ≡ true) ⊎ ((is_among released a ≡ true) × (id ≡ b)) → Orders a b released
    last none (inl before) = inl before
    last none (inr (one, same)) = inr (one, subst (λ (k : ℕ). is_among released k ≡ false) same none)

    by : (b2 : Bool) → (is_open_publish is_exactly_once commands id && not (is_among released id)) ≡ b2 → precedes a b (cond b2 (released ++ id ∷ []) released) ≡ true → Orders a b released
    by true is one = last (absent (is_open_publish is_exactly_once commands id) (is_among released id) is) (order_more a b id released one)
    by false is one = inl one

packet_orders : (commands : List Pending) (released : List ℕ) (packet : Packet) (a b : ℕ) → precedes a b (released_by commands released packet) ≡ true → Orders a b released
packet_orders commands released (p.Connect clean keep_alive client will user password) a b h = inl h
packet_orders commands released (p.ConnAck present code) a b h = inl h
packet_orders commands released (p.Publish dup qos retain topic id payload) a b h = inl h
packet_orders commands released (p.PubAck id) a b h = inl h
packet_orders commands released (p.PubRec id) a b h = with_orders commands released id a b h
packet_orders commands released (p.PubRel id) a b h = inl h
packet_orders commands released (p.PubComp id) a b h = inl h
packet_orders commands released (p.Subscribe id asks) a b h = inl h
packet_orders commands released (p.SubAck id codes) a b h = inl h
packet_orders commands released (p.Unsubscribe id filters) a b h = inl h
packet_orders commands released (p.UnsubAck id) a b h = inl h
packet_orders commands released p.PingReq a b h = inl h
packet_orders commands released p.PingResp a b h = inl h
packet_orders commands released p.Disconnect a b h = inl h

orders : (commands : List Pending) (released : List ℕ) (cause : Cause) (a b : ℕ) → precedes a b (released_behind commands released cause) ≡ true → Orders a b released
orders commands released c.Opened a b h = inl h
orders commands released (c.Take task seq request) a b h = inl h
orders commands released (c.Arrived packet) a b h = packet_orders commands released packet a b h
orders commands released (c.Broke why) a b h = inl h
orders commands released c.Tick a b h = inl h
orders commands released c.GaveUp a b h = inl h
orders commands released c.Finish a b h = inl h

pub released_are_in_order : ReleasedAreInOrder
released_are_in_order [] a b h = absurd (cc h)
released_are_in_order (e ∷ past) a b h =
    by
    (orders (pending_of past) (released_of past) e.cause a b
    (order_kept (is_open_publish is_exactly_once (pending_of (e ∷ past))) a b (released_behind (pending_of past) (released_of past) e.cause) h))
    (released_are_in_order past a b)
  where
    now : is_among (released_of (e ∷ past)) a ≡ true
    now = there a b (released_of (e ∷ past)) h

    longer : WasReleasedFirst a b past → WasReleasedFirst a b (e ∷ past)
    longer (later, before, is, none, stays) =
        (e ∷ later, before, ap (λ (es : List Entry). e ∷ es) is, none, (subst (λ (es : List Entry). is_among (released_of (e ∷ es)) a ≡ true) is now, stays))

    by : Orders a b (released_of past) → (precedes a b (released_of past) ≡ true → WasReleasedFirst a b past) → WasReleasedFirst a b (e ∷ past)
    by (inl before) rest = longer (rest before)
    by (inr (one, none)) rest = (e ∷ [], past, refl, none, (now, one))

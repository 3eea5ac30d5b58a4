-- No identifier stands twice among the released ones.
use Rattle.std.proofs.Common.{◌≡◌, ℕ, ◌+◌, ◌≤◌, Bool, true, false, List, [], ◌∷◌, ◌++◌, count_by, refl, sym, ap, ◌∙◌, arith}
use Rattle.std.specs.Prelude.{◌==◌, ◌&&◌, not, if◌then◌else◌}
use Rattle.std.proofs.lemmas.Bool.{eqb-true}
use Rattle.mqtt_packet.specs.declared.packet.Packet.{Packet}
use Rattle.mqtt_packet.specs.declared.packet.Packet.TheVariants as p
use Rattle.agent_journal.specs.declared.entry.Cause.{Cause}
use Rattle.agent_journal.specs.declared.entry.Cause.TheVariants as c
use Rattle.agent_journal.specs.declared.entry.Entry.{Entry}
use Rattle.agent_journal.specs.Readings.{Pending, pending_of}
use Rattle.agent_table.specs.Deliveries.{is_among, is_open_publish, is_exactly_once, with_released, released_by, released_behind, released_of}
use Rattle.agent_table.proofs.Counts.{any_count, count_append}
use Rattle.once_laws.proofs.Parts.{digit, counted, digit_most, fewer}

abbrev count : ℕ → List ℕ → ℕ
count n ids = count_by (λ m. m == n) ids

none_of : (ids : List ℕ) (n : ℕ) → is_among ids n ≡ false → count n ids ≡ 0
none_of ids n e = go (count n ids == 0) refl
  where
    go : (b : Bool) → (count n ids == 0) ≡ b → count n ids ≡ 0
    go true is = eqb-true (count n ids) 0 is
    go false is = absurd (cc (sym e ∙ any_count (λ m. m == n) ids ∙ ap not is))

one_more : (ids : List ℕ) (id n : ℕ) → is_among ids id ≡ false → count n ids ≤ 1 → count n (ids ++ id ∷ []) ≤ 1
one_more ids id n out most = go (id == n) refl
  where
    behind : count n (ids ++ id ∷ []) ≡ count n ids + count n (id ∷ [])
    behind = count_append (λ m. m == n) ids (id ∷ [])

    go : (b : Bool) → (id == n) ≡ b → count n (ids ++ id ∷ []) ≤ 1
    go true e = omega (arith, none_of ids n (ap (is_among ids) (sym (eqb-true id n e)) ∙ out), behind, counted (λ m. m == n) id [], digit_most (id == n))
    go false e = omega (arith, most, behind, counted (λ m. m == n) id [], ap digit e)

with_once : (commands : List Pending) (ids : List ℕ) (id n : ℕ) → count n ids ≤ 1 → count n (with_released commands ids id) ≤ 1
with_once commands ids id n most = go (is_open_publish is_exactly_once commands id) (is_among ids id) refl
  where
    go : (a b : Bool) → is_among ids id ≡ b → count n (if a && not b then ids ++ id ∷ [] else ids) ≤ 1
    go true false e = one_more ids id n e most
    go true true e = most
    go false b e = most

by_once : (commands : List Pending) (ids : List ℕ) (packet : Packet) (n : ℕ) → count n ids ≤ 1 → count n (released_by commands ids packet) ≤ 1
by_once commands ids (p.PubRec id) n most = with_once commands ids id n most
by_once commands ids (p.Publish a b d e f g) n most = most
by_once commands ids (p.Connect a b d e f g) n most = most
by_once commands ids (p.ConnAck a b) n most = most
by_once commands ids (p.PubAck a) n most = most
by_once commands ids (p.PubRel a) n most = most
by_once commands ids (p.PubComp a) n most = most
by_once commands ids (p.Subscribe a b) n most = most
by_once commands ids (p.SubAck a b) n most = most
by_once commands ids (p.Unsubscribe a b) n most = most
by_once commands ids (p.UnsubAck a) n most = most
by_once commands ids p.PingReq n most = most
by_once commands ids p.PingResp n most = most
by_once commands ids p.Disconnect n most = most

behind_once : (commands : List Pending) (ids : List ℕ) (cause : Cause) (n : ℕ) → count n ids ≤ 1 → count n (released_behind commands ids cause) ≤ 1
behind_once commands ids (c.Arrived packet) n most = by_once commands ids packet n most
behind_once commands ids c.Opened n most = most
behind_once commands ids (c.Take a b d) n most = most
behind_once commands ids (c.Broke reason) n most = most
behind_once commands ids c.Tick n most = most
behind_once commands ids c.GaveUp n most = most
behind_once commands ids c.Finish n most = most

pub released_once : (past : List Entry) (n : ℕ) → count_by (λ m. m == n) (released_of past) ≤ 1
released_once [] n = omega arith
released_once (e ∷ past) n =
    omega (
      arith,
      fewer (λ m. m == n) (is_open_publish is_exactly_once (pending_of (e ∷ past))) (released_behind (pending_of past) (released_of past) e.cause),
      behind_once (pending_of past) (released_of past) e.cause n (released_once past n),
    )

-- What is kept behind an entry is what the journal with that entry reads as: numbers, tasks, times.
use Rattle.std.proofs.Common.{◌≡◌, ◌≢◌, ◌⊎◌, Option, ℕ, ◌+◌, ◌<◌, ◌≤◌, Bool, true, false, not, List, length, refl, ap, sym, ◌∙◌, subst, arith, inl, inr, get_or-set_same, get_or-set_other}
use Rattle.std.specs.Prelude.{◌&&◌, ◌||◌, ◌==◌, nat_le, if◌then◌else◌, slice_index_or, slice_set}
use Rattle.std.proofs.lemmas.Bool.{cases_Bool, eqb-true, eq-eqb}
use Rattle.std.proofs.lemmas.Bool.Decides.{nat_tests}
use Rattle.agent_journal.specs.declared.entry.Cause.{Cause}
use Rattle.agent_journal.specs.declared.entry.Cause.TheVariants as c
use Rattle.agent_journal.specs.declared.entry.Entry.{Entry}
use Rattle.agent_journal.specs.declared.setup.Setup.{Setup}
use Rattle.agent_journal.specs.declared.setup.Phase.{Phase}
use Rattle.agent_journal.specs.declared.setup.Phase.TheVariants.{Down, Opening, Up, Spilled, Off}
use Rattle.agent_journal.specs.Readings.{is_leave, takes_behind, leaves_by, breaks_behind, accepted_behind, accepts, is_break}
use Rattle.agent_table.specs.Readings.{at_most}
use Rattle.agent_table.specs.Offs.{is_connected}
use Rattle.agent_table.specs.Sessions.{is_wiping, is_first, loses, loses_session, while_connected, ping_behind, sent_behind}
use Rattle.mqtt_packet.specs.declared.packet.Packet.{Packet}
use Rattle.mqtt_packet.specs.declared.packet.Packet.TheVariants as p
use Rattle.agent_core.specs.After.{takes_with, left_with, breaks_with, accepted_with}
use Rattle.agent_core.specs.Kept.{most_accepted}
use Rattle.agent_core.specs.Tied.{InRange}

-- ---- Numbers that stop

most_is : (limit n : ℕ) (b : Bool) → nat_le n limit ≡ b → at_most limit n ≡ (if b then n else limit)
most_is limit n b e = rw e refl

one_more : (limit n : ℕ) → at_most limit (at_most limit n + 1) ≡ at_most limit (n + 1)
one_more limit n = go (nat_le n limit) refl
  where
    go : (b : Bool) → nat_le n limit ≡ b → at_most limit (at_most limit n + 1) ≡ at_most limit (n + 1)
    go true e = ap (λ m. at_most limit (m + 1)) (most_is limit n true e)
    go false e =
        let left : nat_le (limit + 1) limit ≡ false = grind (arith, nat_tests) in
        let right : nat_le (n + 1) limit ≡ false = grind (arith, nat_tests) in
        ap (λ m. at_most limit (m + 1)) (most_is limit n false e) ∙ most_is limit (limit + 1) false left ∙ sym (most_is limit (n + 1) false right)

pub none_most : (limit : ℕ) → 0 ≡ at_most limit 0
none_most limit = let few : nat_le 0 limit ≡ true = grind (arith, nat_tests) in sym (most_is limit 0 true few)

pub breaks_next : (s : Setup) (cause : Cause) (n k : ℕ) → k ≡ at_most (s.reopen + 2) n → breaks_with s cause k ≡ at_most (s.reopen + 2) (breaks_behind cause n)
breaks_next s cause n k e = go (accepts cause) (is_break cause)
  where
    go : (a b : Bool) → (if a then 0 else if b then at_most (s.reopen + 2) (k + 1) else k) ≡ at_most (s.reopen + 2) (if a then 0 else if b then n + 1 else n)
    go true b = none_most (s.reopen + 2)
    go false true = ap (λ m. at_most (s.reopen + 2) (m + 1)) e ∙ one_more (s.reopen + 2) n
    go false false = e

pub accepted_next : (s : Setup) (cause : Cause) (n k : ℕ) → k ≡ at_most (most_accepted s) n → accepted_with s cause k ≡ at_most (most_accepted s) (accepted_behind cause n)
accepted_next s cause n k e = go (accepts cause)
  where
    go : (a : Bool) → (if a then at_most (most_accepted s) (k + 1) else k) ≡ at_most (most_accepted s) (if a then n + 1 else n)
    go true = ap (λ m. at_most (most_accepted s) (m + 1)) e ∙ one_more (most_accepted s) n
    go false = e

-- so many CONNACKs read like more
zero_same : (most n : ℕ) → 1 ≤ most → (at_most most n == 0) ≡ (n == 0)
zero_same most n some = go (nat_le n most) refl
  where
    go : (b : Bool) → nat_le n most ≡ b → (at_most most n == 0) ≡ (n == 0)
    go true e = ap (λ m. m == 0) (most_is most n true e)
    go false e =
        let left : (most == 0) ≡ false = grind (arith, nat_tests) in
        let right : (n == 0) ≡ false = grind (arith, nat_tests) in
        ap (λ m. m == 0) (most_is most n false e) ∙ left ∙ sym right

few_same : (most limit n : ℕ) → limit < most → nat_le (at_most most n) limit ≡ nat_le n limit
few_same most limit n above = go (nat_le n most) refl
  where
    go : (b : Bool) → nat_le n most ≡ b → nat_le (at_most most n) limit ≡ nat_le n limit
    go true e = ap (λ m. nat_le m limit) (most_is most n true e)
    go false e =
        let left : nat_le most limit ≡ false = grind (arith, nat_tests) in
        let right : nat_le n limit ≡ false = grind (arith, nat_tests) in
        ap (λ m. nat_le m limit) (most_is most n false e) ∙ left ∙ sym right

some_most : (b : Bool) → 1 ≤ (if b then 2 else 1)
some_most true = omega arith
some_most false = omega arith

below_most : (b : Bool) → (if b then 1 else 0) < (if b then 2 else 1)
below_most true = omega arith
below_most false = omega arith

pub wiping_same : (s : Setup) (n k : ℕ) → k ≡ at_most (most_accepted s) n → is_wiping s k ≡ is_wiping s n
wiping_same s n k e = ap (λ b. s.wipe && b) (ap (λ m. m == 0) e ∙ zero_same (most_accepted s) n (some_most s.wipe))

pub first_same : (s : Setup) (n k : ℕ) → k ≡ at_most (most_accepted s) n → is_first s k ≡ is_first s n
first_same s n k e = ap (λ m. nat_le m (if s.wipe then 1 else 0)) e ∙ few_same (most_accepted s) (if s.wipe then 1 else 0) n (below_most s.wipe)

loses_same : (s : Setup) (n k : ℕ) (present : Bool) (code : ℕ) → k ≡ at_most (most_accepted s) n → loses s k present code ≡ loses s n present code
loses_same s n k present code e =
    ap (λ w. code == 0 && not present && not w && not (is_first s k)) (wiping_same s n k e) ∙ ap (λ f. code == 0 && not present && not (is_wiping s n) && not f) (first_same s n k e)

pub lost_same : (s : Setup) (n k : ℕ) (cause : Cause) → k ≡ at_most (most_accepted s) n → loses_session s k cause ≡ loses_session s n cause
lost_same s n k c.Opened e = refl
lost_same s n k (c.Take task seq request) e = refl
lost_same s n k (c.Arrived packet) e = by packet
  where
    by : (packet : Packet) → loses_session s k (c.Arrived packet) ≡ loses_session s n (c.Arrived packet)
    by (p.Connect clean keep_alive client will user password) = refl
    by (p.ConnAck present code) = loses_same s n k present code e
    by (p.Publish dup qos retain topic id payload) = refl
    by (p.PubAck id) = refl
    by (p.PubRec id) = refl
    by (p.PubRel id) = refl
    by (p.PubComp id) = refl
    by (p.Subscribe id asks) = refl
    by (p.SubAck id codes) = refl
    by (p.Unsubscribe id filters) = refl
    by (p.UnsubAck id) = refl
    by p.PingReq = refl
    by p.PingResp = refl
    by p.Disconnect = refl
lost_same s n k (c.Broke why) e = refl
lost_same s n k c.Tick e = refl
lost_same s n k c.GaveUp e = refl
lost_same s n k c.Finish e = refl

-- ---- Tasks

differ : (a b : ℕ) → (a == b) ≡ false → a ≢ b
differ a b other same = let e = eq-eqb a b same in absurd (cc (e, other))

counted : (takes : List ℕ) (task seq t : ℕ) → task < length takes → seq ≡ slice_index_or takes task 0 → slice_index_or (slice_set takes task (seq + 1)) t 0 ≡ (if t == task then slice_index_or takes t 0 + 1 else slice_index_or takes t 0)
counted takes task seq t within next =
    elim (cases_Bool (t == task)) [
      | inl same ↦
          let is : t ≡ task = eqb-true t task same in
          rw same (subst (λ (q : ℕ). slice_index_or (slice_set takes task (seq + 1)) q 0 ≡ slice_index_or takes q 0 + 1) (sym is) (get_or-set_same takes task (seq + 1) 0 within ∙ ap (λ n. n + 1) next))
      | inr other ↦ rw other (get_or-set_other takes task t (seq + 1) 0 (differ t task other))
    ]

-- the number of a Take is that of the task's next one
abbrev pub IsNext : Cause → List ℕ → Type 0
IsNext c.Opened takes = Unit {0}
IsNext (c.Take task seq request) takes = seq ≡ slice_index_or takes task 0
IsNext (c.Arrived packet) takes = Unit {0}
IsNext (c.Broke why) takes = Unit {0}
IsNext c.Tick takes = Unit {0}
IsNext c.GaveUp takes = Unit {0}
IsNext c.Finish takes = Unit {0}

pub takes_next : (cause : Cause) (takes : List ℕ) (left t : ℕ) → InRange cause (length takes) left → IsNext cause takes → slice_index_or (takes_with cause takes) t 0 ≡ takes_behind t cause (slice_index_or takes t 0)
takes_next c.Opened takes left t within next = refl
takes_next (c.Take task seq request) takes left t within next = counted takes task seq t within.0 next
takes_next (c.Arrived packet) takes left t within next = refl
takes_next (c.Broke why) takes left t within next = refl
takes_next c.Tick takes left t within next = refl
takes_next c.GaveUp takes left t within next = refl
takes_next c.Finish takes left t within next = refl

unmarked : (b left : Bool) → (b && false || left) ≡ left
unmarked true left = refl
unmarked false left = refl

marked : (left : List Bool) (task t : ℕ) (leave : Bool) → task < length left → slice_index_or (if leave then slice_set left task true else left) t false ≡ ((t == task) && leave || slice_index_or left t false)
marked left task t false within = sym (unmarked (t == task) (slice_index_or left t false))
marked left task t true within =
    elim (cases_Bool (t == task)) [
      | inl same ↦
          let is : t ≡ task = eqb-true t task same in
          rw same (subst (λ (q : ℕ). slice_index_or (slice_set left task true) q false ≡ true) (sym is) (get_or-set_same left task true false within))
      | inr other ↦ rw other (get_or-set_other left task t true false (differ t task other))
    ]

pub left_next : (cause : Cause) (left : List Bool) (takes t : ℕ) → InRange cause takes (length left) → slice_index_or (left_with cause left) t false ≡ (leaves_by t cause || slice_index_or left t false)
left_next c.Opened left takes t within = refl
left_next (c.Take task seq request) left takes t within = marked left task t (is_leave request) within.1
left_next (c.Arrived packet) left takes t within = refl
left_next (c.Broke why) left takes t within = refl
left_next c.Tick left takes t within = refl
left_next c.GaveUp left takes t within = refl
left_next c.Finish left takes t within = refl

-- ---- Times of the connection

-- only while there is a connection, which only Opened begins anew
connected_as : (phase : Phase) (old new : Option ℕ) → (is_connected phase ≡ true → old ≡ new) → while_connected phase old ≡ while_connected phase new
connected_as Down old new same = refl
connected_as Opening old new same = same refl
connected_as Up old new same = same refl
connected_as Spilled old new same = refl
connected_as Off old new same = refl

connected_is : (phase : Phase) (old new : Option ℕ) → is_connected phase ≡ true → while_connected phase old ≡ while_connected phase new → old ≡ new
connected_is Down old new here same = absurd (cc here)
connected_is Opening old new here same = same
connected_is Up old new here same = same
connected_is Spilled old new here same = absurd (cc here)
connected_is Off old new here same = absurd (cc here)

module _ (e : Entry) (before behind : Phase) (leads : is_connected behind ≡ true → (is_connected before ≡ true) ⊎ (e.cause ≡ c.Opened)) where
  pub ping_next : (old new : Option ℕ) → while_connected before old ≡ while_connected before new → while_connected behind (ping_behind e old) ≡ while_connected behind (ping_behind e new)
  ping_next old new same = connected_as behind (ping_behind e old) (ping_behind e new) (λ to. go (leads to))
    where
      go : (is_connected before ≡ true) ⊎ (e.cause ≡ c.Opened) → ping_behind e old ≡ ping_behind e new
      go (inl here) = ap (ping_behind e) (connected_is before old new here same)
      go (inr opened) = ap (λ (cause : Cause). ping_behind (record e { cause = cause }) old) opened ∙ sym (ap (λ (cause : Cause). ping_behind (record e { cause = cause }) new) opened)

  pub sent_next : (old new : Option ℕ) → while_connected before old ≡ while_connected before new → while_connected behind (sent_behind e old) ≡ while_connected behind (sent_behind e new)
  sent_next old new same = connected_as behind (sent_behind e old) (sent_behind e new) (λ to. go (leads to))
    where
      go : (is_connected before ≡ true) ⊎ (e.cause ≡ c.Opened) → sent_behind e old ≡ sent_behind e new
      go (inl here) = ap (sent_behind e) (connected_is before old new here same)
      go (inr opened) = ap (λ (cause : Cause). sent_behind (record e { cause = cause }) old) opened ∙ sym (ap (λ (cause : Cause). sent_behind (record e { cause = cause }) new) opened)

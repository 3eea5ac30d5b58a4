-- What is released was received, and good outcomes are earned by the acknowledgements of the very command.
use Rattle.std.proofs.Common.{◌≡◌, ◌⊎◌, ℕ, Bool, true, false, cond, List, [], ◌∷◌, ◌++◌, filter, Option, Some, None, refl, sym, ap, ◌∙◌, subst}
use Rattle.std.specs.Prelude.{◌&&◌, ◌||◌, ◌==◌, not}
use Rattle.std.specs.List.{AllByRecursion}
use Rattle.std.proofs.lemmas.Bool.{eqb-true}
use mathlib.Core.Logic.{inl, inr}
use Rattle.mqtt_packet.specs.declared.packet.Packet.{Packet}
use Rattle.mqtt_packet.specs.declared.packet.Packet.TheVariants as p
use Rattle.mqtt_packet.specs.declared.qos.Qos.{Qos}
use Rattle.mqtt_packet.specs.declared.qos.Qos.TheVariants.{AtMostOnce, AtLeastOnce, ExactlyOnce}
use Rattle.agent_journal.specs.declared.request.Request.{Request}
use Rattle.agent_journal.specs.declared.request.Request.TheVariants as requests
use Rattle.agent_journal.specs.declared.outcome.Outcome.{Outcome}
use Rattle.agent_journal.specs.declared.outcome.Outcome.TheVariants as o
use Rattle.agent_journal.specs.declared.entry.Cause.{Cause}
use Rattle.agent_journal.specs.declared.entry.Cause.TheVariants as c
use Rattle.agent_journal.specs.declared.entry.Entry.{Entry}
use Rattle.agent_journal.specs.declared.effect.Effect.{Effect}
use Rattle.agent_journal.specs.declared.effect.Effect.TheVariants as f
use Rattle.agent_journal.specs.declared.setup.Setup.{Setup}
use Rattle.agent_journal.specs.Readings.{Pending, pending_of, opens, opened_by, sent_filters, sent_id, stays_open}
use Rattle.agent_table.specs.Deliveries.{is_among, is_open_publish, is_exactly_once, with_released, released_by, released_behind, released_of}
use Rattle.agent_table.specs.Effects.{used, fresh_id}
use Rattle.agent_table.specs.Histories.{IsLegalPast, readings, row, effects_of}
use Rattle.agent_table.specs.Laws.{HasIdentifiers, IsOneOf, AcknowledgesPublish, AcknowledgesWhere, EarnsOutcomeWhere, EarnsWhere, Earns, ReadsReceived, WasReceived, ReleasedWereReceived, GoodAreEarned, WasTaken, OpenWereTaken}
use Rattle.agent_table.specs.Readings.{Readings}
use Rattle.agent_table.specs.Sizes.{Sizes}
use Rattle.agent_table.proofs.Awaiting.{released_used, some_free, drawn_low}
use Rattle.agent_table.proofs.Drawing.{take_draws}
use Rattle.agent_table.proofs.Earned.{outcomes_are_earned}
use Rattle.agent_table.proofs.Earned as earned
use Rattle.agent_table.proofs.Fresh.{fresh_is_free}

or_true : (b : Bool) → (b || true) ≡ true
or_true true = refl
or_true false = refl

joined : (a b b2 : Bool) → (b ≡ true → b2 ≡ true) → (a || b) ≡ true → (a || b2) ≡ true
joined true b b2 h e = refl
joined false b b2 h e = h e

one_kept : (keeps : Bool) (x n : ℕ) (kept all : List ℕ) → (is_among kept n ≡ true → is_among all n ≡ true) → is_among (cond keeps (x ∷ kept) kept) n ≡ true → (x == n || is_among all n) ≡ true
one_kept true x n kept all h e = joined (x == n) (is_among kept n) (is_among all n) h e
one_kept false x n kept all h e = rw (h e) (or_true (x == n))

pub kept : (keeps : ℕ → Bool) (ns : List ℕ) (n : ℕ) → is_among (filter keeps ns) n ≡ true → is_among ns n ≡ true
kept keeps [] n e = e
kept keeps (x ∷ ns) n e = one_kept (keeps x) x n (filter keeps ns) ns (kept keeps ns n) e

last_is : (b : Bool) (x n : ℕ) → (x == n) ≡ b → (b || false) ≡ true → (false ≡ true) ⊎ (x ≡ n)
last_is true x n is e = inr (eqb-true x n is)
last_is false x n is e = absurd (cc e)

by_first : (a b : Bool) (x n : ℕ) (all : Bool) → (all ≡ true → (b ≡ true) ⊎ (x ≡ n)) → (a || all) ≡ true → ((a || b) ≡ true) ⊎ (x ≡ n)
by_first true b x n all h e = inl refl
by_first false b x n all h e = h e

pub behind_all : (ns : List ℕ) (x n : ℕ) → is_among (ns ++ x ∷ []) n ≡ true → (is_among ns n ≡ true) ⊎ (x ≡ n)
behind_all [] x n e = last_is (x == n) x n refl e
behind_all (y ∷ ns) x n e = by_first (y == n) (is_among ns n) x n (is_among (ns ++ x ∷ []) n) (behind_all ns x n) e

-- It was released before, or its PUBREC arrives now.
abbrev Reaches : List ℕ → Cause → ℕ → Type 0
Reaches released cause n = (is_among released n ≡ true) ⊎ (cause ≡ c.Arrived (p.PubRec n))

with_reaches : (commands : List Pending) (released : List ℕ) (id n : ℕ) → is_among (with_released commands released id) n ≡ true → Reaches released (c.Arrived (p.PubRec id)) n
with_reaches commands released id n among = by (is_open_publish is_exactly_once commands id && not (is_among released id)) among
  where
    last : (is_among released n ≡ true) ⊎ (id ≡ n) → Reaches released (c.Arrived (p.PubRec id)) n
    last (inl one) = inl one
    last (inr same) = inr (ap (λ k. c.Arrived (p.PubRec k)) same)

    by : (b : Bool) → is_among (cond b (released ++ id ∷ []) released) n ≡ true → Reaches released (c.Arrived (p.PubRec id)) n
    by true one = last (behind_all released id n one)
    by false one = inl one

by_packet : (commands : List Pending) (released : List ℕ) (packet : Packet) (n : ℕ) → is_among (released_by commands released packet) n ≡ true → Reaches released (c.Arrived packet) n
by_packet commands released (p.Connect clean keep_alive client will user password) n among = inl among
by_packet commands released (p.ConnAck present code) n among = inl among
by_packet commands released (p.Publish dup qos retain topic id payload) n among = inl among
by_packet commands released (p.PubAck id) n among = inl among
by_packet commands released (p.PubRec id) n among = with_reaches commands released id n among
by_packet commands released (p.PubRel id) n among = inl among
by_packet commands released (p.PubComp id) n among = inl among
by_packet commands released (p.Subscribe id asks) n among = inl among
by_packet commands released (p.SubAck id codes) n among = inl among
by_packet commands released (p.Unsubscribe id filters) n among = inl among
by_packet commands released (p.UnsubAck id) n among = inl among
by_packet commands released p.PingReq n among = inl among
by_packet commands released p.PingResp n among = inl among
by_packet commands released p.Disconnect n among = inl among

by_cause : (commands : List Pending) (released : List ℕ) (cause : Cause) (n : ℕ) → is_among (released_behind commands released cause) n ≡ true → Reaches released cause n
by_cause commands released c.Opened n among = inl among
by_cause commands released (c.Take task seq request) n among = inl among
by_cause commands released (c.Arrived packet) n among = by_packet commands released packet n among
by_cause commands released (c.Broke why) n among = inl among
by_cause commands released c.Tick n among = inl among
by_cause commands released c.GaveUp n among = inl among
by_cause commands released c.Finish n among = inl among

pub either : (command : Pending) (commands others : List Pending) → IsOneOf command (commands ++ others) → IsOneOf command commands ⊎ IsOneOf command others
either command [] others one = inr one
either command (other ∷ commands) others (inl same) = inl (inl same)
either command (other ∷ commands) others (inr later) = by (either command commands others later)
  where
    by : IsOneOf command commands ⊎ IsOneOf command others → IsOneOf command (other ∷ commands) ⊎ IsOneOf command others
    by (inl one) = inl (inr one)
    by (inr one) = inr one

-- an entry later
later : (e : Entry) (past : List Entry) (command : Pending) → WasReceived past command → WasReceived (e ∷ past) command
later e past command h = (e ∷ h.0, h.1, h.2, ap (λ (es : List Entry). e ∷ es) h.3, h.4, h.5)

-- What is opened isn't released.
module _ (s : Setup) (l : Sizes) (past : List Entry) (free : HasIdentifiers l) (legal : IsLegalPast s l past) (command : Pending) where
  abbrev r : Readings
  r = readings s l past

  new_number : (n : ℕ) → n ≡ fresh_id r → is_among (released_of past) n ≡ true → ⊥
  new_number n is among =
      let none : is_among (used r) (fresh_id r) ≡ false = fresh_is_free r.last_drawn (used r) (drawn_low s l past free legal) (some_free s l past free legal) in
      cc (none, released_used s l past (fresh_id r) (subst (λ (k : ℕ). is_among (released_of past) k ≡ true) is among))

  by_id : (task seq : ℕ) (request : Request) (filters : List (List ℕ)) (id : Option ℕ) → (id ≡ None) ⊎ (id ≡ Some (fresh_id r)) → IsOneOf command (opened_by task seq request filters id) → is_among (released_of past) command.id ≡ true → ⊥
  by_id task seq request filters None draws one among = one
  by_id task seq request filters (Some id) (inl none) one among = cc none
  by_id task seq request filters (Some id) (inr is) (inl same) among = let number : id ≡ fresh_id r = cc in new_number command.id (ap (λ (x : Pending). x.id) same ∙ number) among
  by_id task seq request filters (Some id) (inr is) (inr one) among = one

  not_new : (at : ℕ) (cause : Cause) (effects : List Effect) → effects_of (row s l past at cause) ≡ Some effects → IsOneOf command (opens cause effects) → is_among (released_of past) command.id ≡ true → ⊥
  not_new at c.Opened effects has one among = one
  not_new at (c.Take task seq request) effects has one among = by_id task seq request (sent_filters effects) (sent_id effects) (take_draws r s l at task seq request effects has) one among
  not_new at (c.Arrived packet) effects has one among = one
  not_new at (c.Broke why) effects has one among = one
  not_new at c.Tick effects has one among = one
  not_new at c.GaveUp effects has one among = one
  not_new at c.Finish effects has one among = one

none_opened : (command : Pending) (packet : Packet) (cause : Cause) (effects : List Effect) → cause ≡ c.Arrived packet → IsOneOf command (opens cause effects) → ⊥
none_opened command packet cause effects is one = subst (λ (k : Cause). IsOneOf command (opens k effects)) is one

pub released_were_received : ReleasedWereReceived
released_were_received s l [] free legal command one among = absurd one
released_were_received s l (e ∷ past) free legal command one among =
    by (either command (pending_of past) (opens e.cause e.effects) (earned.kept (stays_open e.effects) command (pending_of past ++ opens e.cause e.effects) one).0)
    (by_cause (pending_of past) (released_of past) e.cause command.id
    (kept (is_open_publish is_exactly_once (pending_of (e ∷ past))) (released_behind (pending_of past) (released_of past) e.cause) command.id among))
    (released_were_received s l past free legal.1 command)
  where
    by : IsOneOf command (pending_of past) ⊎ IsOneOf command (opens e.cause e.effects) → Reaches (released_of past) e.cause command.id
        → (IsOneOf command (pending_of past) → is_among (released_of past) command.id ≡ true → WasReceived past command) → WasReceived (e ∷ past) command
    by (inl old) (inl was) before = later e past command (before old was)
    by (inl old) (inr now) before = ([], past, e, refl, now, old)
    by (inr new) (inl was) before = absurd (not_new s l past free legal.1 command e.at e.cause e.effects legal.0 new was)
    by (inr new) (inr now) before = absurd (none_opened command (p.PubRec command.id) e.cause e.effects now new)

-- ---- Earned

module _ (s : Setup) (l : Sizes) (past : List Entry) (free : HasIdentifiers l) (legal : IsLegalPast s l past) where
  by_qos : (cause : Cause) (command : Pending) (qos : Qos) → IsOneOf command (pending_of past) → AcknowledgesPublish (is_among (released_of past) command.id ≡ true) cause command.id qos
      → AcknowledgesPublish (WasReceived past command) cause command.id qos
  by_qos cause command AtMostOnce one ack = ack
  by_qos cause command AtLeastOnce one ack = ack
  by_qos cause command ExactlyOnce one ack = (ack.0, released_were_received s l past free legal command one ack.1)

  by_request : (cause : Cause) (command : Pending) (request : Request) → IsOneOf command (pending_of past) → AcknowledgesWhere (is_among (released_of past) command.id ≡ true) cause command.id request
      → AcknowledgesWhere (WasReceived past command) cause command.id request
  by_request cause command (requests.Publish qos topic payload) one ack = by_qos cause command qos one ack
  by_request cause command (requests.Subscribe asks) one ack = ack
  by_request cause command (requests.Unsubscribe filters) one ack = ack
  by_request cause command requests.Ping one ack = ack
  by_request cause command requests.Disconnect one ack = ack
  by_request cause command requests.Terminate one ack = ack
  by_request cause command requests.Leave one ack = ack

  by_outcome : (cause : Cause) (task seq : ℕ) (outcome : Outcome) → EarnsOutcomeWhere (ReadsReceived (readings s l past)) (pending_of past) cause task seq outcome → EarnsOutcomeWhere (WasReceived past) (pending_of past) cause task seq outcome
  by_outcome cause task seq o.Done (inl own) = inl own
  by_outcome cause task seq o.Done (inr (command, one, its_task, its_seq, ack)) = inr (command, one, its_task, its_seq, by_request cause command command.request one ack)
  by_outcome cause task seq (o.Granted codes) h = h
  by_outcome cause task seq o.NoRoom h = tt
  by_outcome cause task seq o.NoRoute h = tt
  by_outcome cause task seq o.NotConnected h = tt
  by_outcome cause task seq o.LinkLost h = tt
  by_outcome cause task seq o.SessionLost h = tt
  by_outcome cause task seq o.Cancelled h = tt
  by_outcome cause task seq o.NoMemory h = h

  by_effect : (cause : Cause) (effect : Effect) → Earns (readings s l past) cause effect → EarnsWhere (WasReceived past) (pending_of past) cause effect
  by_effect cause (f.Send packet) h = tt
  by_effect cause (f.Done task seq outcome) h = by_outcome cause task seq outcome h
  by_effect cause (f.Pass task message) h = tt
  by_effect cause (f.Closed task) h = tt

  all_effects : (cause : Cause) (effects : List Effect) → AllByRecursion (Earns (readings s l past) cause) effects → AllByRecursion (EarnsWhere (WasReceived past) (pending_of past) cause) effects
  all_effects cause [] h = tt
  all_effects cause (effect ∷ effects) h = (by_effect cause effect h.0, all_effects cause effects h.1)

pub good_are_earned : GoodAreEarned
good_are_earned s l [] free legal = tt
good_are_earned s l (e ∷ past) free legal =
    (all_effects s l past free legal.1 e.cause e.effects (outcomes_are_earned s l past e.at e.cause e.effects legal.0), good_are_earned s l past free legal.1)

-- ---- Open commands were taken

was_later : (e : Entry) (past : List Entry) (command : Pending) → WasTaken past command → WasTaken (e ∷ past) command
was_later e past command h = (e ∷ h.0, h.1, h.2, ap (λ (es : List Entry). e ∷ es) h.3, h.4, h.5)

opened_taken : (past : List Entry) (e : Entry) (command : Pending) (cause : Cause) → e.cause ≡ cause → IsOneOf command (opens cause e.effects) → WasTaken (e ∷ past) command
opened_taken past e command c.Opened is one = absurd one
opened_taken past e command (c.Take task seq request) is one = by (sent_id e.effects) refl one
  where
    by : (id : Option ℕ) → sent_id e.effects ≡ id → IsOneOf command (opened_by task seq request (sent_filters e.effects) id) → WasTaken (e ∷ past) command
    by None same one = absurd one
    by (Some id) same (inl its) =
        ([], past, e, refl, subst (λ (x : Pending). e.cause ≡ c.Take x.task x.seq x.request) (sym its) is, subst (λ (x : Pending). sent_id e.effects ≡ Some x.id) (sym its) same)
    by (Some id) same (inr none) = absurd none
opened_taken past e command (c.Arrived packet) is one = absurd one
opened_taken past e command (c.Broke why) is one = absurd one
opened_taken past e command c.Tick is one = absurd one
opened_taken past e command c.GaveUp is one = absurd one
opened_taken past e command c.Finish is one = absurd one

pub open_were_taken : OpenWereTaken
open_were_taken [] command one = absurd one
open_were_taken (e ∷ past) command one =
    by (either command (pending_of past) (opens e.cause e.effects) (earned.kept (stays_open e.effects) command (pending_of past ++ opens e.cause e.effects) one).0) (open_were_taken past command)
  where
    by : IsOneOf command (pending_of past) ⊎ IsOneOf command (opens e.cause e.effects) → (IsOneOf command (pending_of past) → WasTaken past command) → WasTaken (e ∷ past) command
    by (inl old) before = was_later e past command (before old)
    by (inr new) before = opened_taken past e command e.cause refl new

-- A command whose outcome is Done was acknowledged, or is of another kind.
use Rattle.std.proofs.Common.{◌≡◌, ◌⊎◌, ℕ, ◌≤◌, Bool, true, false, List, [], ◌∷◌, ◌++◌, refl, ap, ◌∙◌, subst}
use Rattle.std.specs.Prelude.{◌==◌, ◌&&◌, ◌||◌, not, if◌then◌else◌}
use Rattle.std.specs.List.{list_any, AllByRecursion}
use Rattle.std.proofs.lemmas.Bool.{eqb-true, and_parts}
use mathlib.Core.Logic.{inl, inr}
use Rattle.mqtt_packet.specs.declared.packet.Packet.{Packet}
use Rattle.mqtt_packet.specs.declared.packet.Packet.TheVariants as p
use Rattle.mqtt_packet.specs.declared.qos.Qos.TheVariants.{AtMostOnce, AtLeastOnce, ExactlyOnce}
use Rattle.agent_journal.specs.declared.entry.Cause.{Cause}
use Rattle.agent_journal.specs.declared.entry.Cause.TheVariants as c
use Rattle.agent_journal.specs.declared.entry.Entry.{Entry}
use Rattle.agent_journal.specs.declared.outcome.Outcome.{Outcome}
use Rattle.agent_journal.specs.declared.outcome.Outcome.TheVariants as o
use Rattle.agent_journal.specs.declared.effect.Effect.{Effect}
use Rattle.agent_journal.specs.declared.effect.Effect.TheVariants as f
use Rattle.agent_journal.specs.declared.request.Request.{Request}
use Rattle.agent_journal.specs.declared.request.Request.TheVariants as requests
use Rattle.agent_journal.specs.declared.setup.Setup.{Setup}
use Rattle.agent_journal.specs.Readings.{Pending, pending_of}
use Rattle.agent_table.specs.Deliveries.{publishes, is_at_least_once, is_exactly_once}
use Rattle.agent_table.specs.Histories.{IsLegalPast, readings}
use Rattle.agent_table.specs.Laws.{IsOneOf, AcknowledgesWhere, IsDoneAtOnce, EarnsDone, EarnsWhere, ReadsReceived, WasTaken}
use Rattle.agent_table.specs.Routes.{is_done, outcomes_in}
use Rattle.agent_table.specs.Sizes.{Sizes}
use Rattle.agent_table.proofs.Earned.{outcomes_are_earned}
use Rattle.agent_table.proofs.Received.{open_were_taken}
use Rattle.once_laws.specs.Once.{takes_it, was_taken, was_done}
use Rattle.once_laws.proofs.Numbered.{is_take, apart}

-- ---- Done is earned

done_is : (outcome : Outcome) → is_done outcome ≡ true → outcome ≡ o.Done
done_is o.Done e = refl
done_is (o.Granted codes) e = absurd (cc e)
done_is o.Cancelled e = absurd (cc e)
done_is o.NotConnected e = absurd (cc e)
done_is o.LinkLost e = absurd (cc e)
done_is o.SessionLost e = absurd (cc e)
done_is o.NoRoom e = absurd (cc e)
done_is o.NoRoute e = absurd (cc e)
done_is o.NoMemory e = absurd (cc e)

earned_in : (Received : Pending → Type 0) (commands : List Pending) (cause : Cause) (t q : ℕ) (effects : List Effect) → AllByRecursion (EarnsWhere Received commands cause) effects
    → list_any is_done (outcomes_in t q effects) ≡ true → EarnsDone Received commands cause t q
earned_in Received commands cause t q [] h e = absurd (cc e)
earned_in Received commands cause t q (f.Send packet ∷ effects) h e = earned_in Received commands cause t q effects h.1 e
earned_in Received commands cause t q (f.Pass task message ∷ effects) h e = earned_in Received commands cause t q effects h.1 e
earned_in Received commands cause t q (f.Closed task ∷ effects) h e = earned_in Received commands cause t q effects h.1 e
earned_in Received commands cause t q (f.Done task seq outcome ∷ effects) h e = go (task == t && seq == q) refl e (earned_in Received commands cause t q effects h.1)
  where
    here : (b : Bool) → is_done outcome ≡ b → (task == t && seq == q) ≡ true → (b || list_any is_done (outcomes_in t q effects)) ≡ true
        → (list_any is_done (outcomes_in t q effects) ≡ true → EarnsDone Received commands cause t q) → EarnsDone Received commands cause t q
    here true is same any rest =
        let two = and_parts (task == t) (seq == q) same in
        let earned : EarnsDone Received commands cause task seq = subst (λ (x : Outcome). EarnsWhere Received commands cause (f.Done task seq x)) (done_is outcome is) h.0 in
        subst (λ n. EarnsDone Received commands cause t n) (eqb-true seq q two.1) (subst (λ n. EarnsDone Received commands cause n seq) (eqb-true task t two.0) earned)
    here false is same any rest = rest any

    go : (b : Bool) → (task == t && seq == q) ≡ b → list_any is_done ((if b then outcome ∷ [] else []) ++ outcomes_in t q effects) ≡ true
        → (list_any is_done (outcomes_in t q effects) ≡ true → EarnsDone Received commands cause t q) → EarnsDone Received commands cause t q
    go true same any rest = here (is_done outcome) refl same any rest
    go false same any rest = rest any

-- ---- Kinds of requests

pub other_first : (r : Request) → IsDoneAtOnce r → publishes is_at_least_once r ≡ false
other_first (requests.Publish AtMostOnce topic payload) h = refl
other_first (requests.Publish AtLeastOnce topic payload) h = absurd h
other_first (requests.Publish ExactlyOnce topic payload) h = absurd h
other_first (requests.Subscribe asks) h = absurd h
other_first (requests.Unsubscribe filters) h = refl
other_first requests.Ping h = refl
other_first requests.Disconnect h = refl
other_first requests.Terminate h = refl
other_first requests.Leave h = absurd h

pub other_second : (r : Request) → IsDoneAtOnce r → publishes is_exactly_once r ≡ false
other_second (requests.Publish AtMostOnce topic payload) h = refl
other_second (requests.Publish AtLeastOnce topic payload) h = absurd h
other_second (requests.Publish ExactlyOnce topic payload) h = absurd h
other_second (requests.Subscribe asks) h = absurd h
other_second (requests.Unsubscribe filters) h = refl
other_second requests.Ping h = refl
other_second requests.Disconnect h = refl
other_second requests.Terminate h = refl
other_second requests.Leave h = absurd h

pub by_puback : (Received : Type 0) (cause : Cause) (id : ℕ) (r : Request) → publishes is_at_least_once r ≡ true → AcknowledgesWhere Received cause id r → cause ≡ c.Arrived (p.PubAck id)
by_puback Received cause id (requests.Publish AtMostOnce topic payload) e h = absurd (cc e)
by_puback Received cause id (requests.Publish AtLeastOnce topic payload) e h = h
by_puback Received cause id (requests.Publish ExactlyOnce topic payload) e h = absurd (cc e)
by_puback Received cause id (requests.Subscribe asks) e h = absurd (cc e)
by_puback Received cause id (requests.Unsubscribe filters) e h = absurd (cc e)
by_puback Received cause id requests.Ping e h = absurd (cc e)
by_puback Received cause id requests.Disconnect e h = absurd (cc e)
by_puback Received cause id requests.Terminate e h = absurd (cc e)
by_puback Received cause id requests.Leave e h = absurd (cc e)

pub by_pubcomp : (Received : Type 0) (cause : Cause) (id : ℕ) (r : Request) → publishes is_exactly_once r ≡ true → AcknowledgesWhere Received cause id r → cause ≡ c.Arrived (p.PubComp id)
by_pubcomp Received cause id (requests.Publish AtMostOnce topic payload) e h = absurd (cc e)
by_pubcomp Received cause id (requests.Publish AtLeastOnce topic payload) e h = absurd (cc e)
by_pubcomp Received cause id (requests.Publish ExactlyOnce topic payload) e h = h.0
by_pubcomp Received cause id (requests.Subscribe asks) e h = absurd (cc e)
by_pubcomp Received cause id (requests.Unsubscribe filters) e h = absurd (cc e)
by_pubcomp Received cause id requests.Ping e h = absurd (cc e)
by_pubcomp Received cause id requests.Disconnect e h = absurd (cc e)
by_pubcomp Received cause id requests.Terminate e h = absurd (cc e)
by_pubcomp Received cause id requests.Leave e h = absurd (cc e)

-- ---- Settled commands

abbrev pub is_first : Request → Bool
is_first request = publishes is_at_least_once request

abbrev pub is_second : Request → Bool
is_second request = publishes is_exactly_once request

abbrev pub is_other : (Request → Bool) → Request → Bool
is_other kind request = not (kind request)

-- A command that is done is of another kind, or its message was passed on.
abbrev pub IsSettled : (Request → Bool) → ℕ → ℕ → List Entry → ℕ → Type 0
IsSettled kind t q past times = was_done t q past ≡ true → (was_taken (is_other kind) t q past ≡ true) ⊎ (1 ≤ times)

-- what its packet acknowledges was passed on
abbrev pub IsHeard : (Request → Bool) → (ℕ → Packet) → ℕ → ℕ → List Pending → Cause → ℕ → Type 0
IsHeard kind answer t q commands cause times =
    (command : Pending) → IsOneOf command commands → command.task ≡ t → command.seq ≡ q → kind command.request ≡ true → cause ≡ c.Arrived (answer command.id) → 1 ≤ times

pub later : (b x : Bool) → x ≡ true → (b || x) ≡ true
later true x e = refl
later false x e = e

pub any_behind : (is : Request → Bool) (t q : ℕ) (behind before : List Entry) (e : Entry) → takes_it is t q e.cause ≡ true → was_taken is t q (behind ++ e ∷ before) ≡ true
any_behind is t q [] before e h = ap (λ b. b || was_taken is t q before) h
any_behind is t q (x ∷ behind) before e h = later (takes_it is t q x.cause) (was_taken is t q (behind ++ e ∷ before)) (any_behind is t q behind before e h)

-- a command that is open was taken, with its request
pub taken_as : (is : Request → Bool) (past : List Entry) (command : Pending) (t q : ℕ) → WasTaken past command → command.task ≡ t → command.seq ≡ q → is command.request ≡ true → was_taken is t q past ≡ true
taken_as is past command t q (behind, before, e, past_is, cause_is, id) task seq holds =
    let its : takes_it is t q e.cause ≡ true = ap (λ (cause : Cause). takes_it is t q cause) (cause_is ∙ (λ i. c.Take (task i) (seq i) command.request)) ∙ is_take is t q command.request holds in
    ap (was_taken is t q) past_is ∙ any_behind is t q behind before e its

-- of a kind of request, which its own packet acknowledges
module _ (kind : Request → Bool) (answer : ℕ → Packet) (at_once : (r : Request) → IsDoneAtOnce r → kind r ≡ false)
    (acknowledges : (Received : Type 0) (cause : Cause) (id : ℕ) (r : Request) → kind r ≡ true → AcknowledgesWhere Received cause id r → cause ≡ c.Arrived (answer id)) where
  kinds_differ : (r : Request) → kind r ≡ true → is_other kind r ≡ true → ⊥
  kinds_differ r a b = go (kind r) a b
    where
      go : (x : Bool) → x ≡ true → not x ≡ true → ⊥
      go true a b = cc b
      go false a b = cc a

  pub settled_behind : (s : Setup) (l : Sizes) (past : List Entry) (e : Entry) (t q times : ℕ) → IsLegalPast s l (e ∷ past) → IsSettled kind t q past times → IsHeard kind answer t q (pending_of past) e.cause times
      → IsSettled kind t q (e ∷ past) times
  settled_behind s l past e t q times legal before heard done = go (list_any is_done (outcomes_in t q e.effects)) refl done
    where
      earlier : (was_taken (is_other kind) t q past ≡ true) ⊎ (1 ≤ times) → (was_taken (is_other kind) t q (e ∷ past) ≡ true) ⊎ (1 ≤ times)
      earlier (inl taken) = inl (later (takes_it (is_other kind) t q e.cause) (was_taken (is_other kind) t q past) taken)
      earlier (inr passed) = inr passed

      by_kind : (b : Bool) (command : Pending) → kind command.request ≡ b → IsOneOf command (pending_of past) → command.task ≡ t → command.seq ≡ q
          → AcknowledgesWhere (ReadsReceived (readings s l past) command) e.cause command.id command.request → (was_taken (is_other kind) t q (e ∷ past) ≡ true) ⊎ (1 ≤ times)
      by_kind true command is one task seq acknowledged =
          inr (heard command one task seq is (acknowledges (ReadsReceived (readings s l past) command) e.cause command.id command.request is acknowledged))
      by_kind false command is one task seq acknowledged = earlier (inl (taken_as (is_other kind) past command t q (open_were_taken past command one) task seq (ap not is)))

      earned : EarnsDone (ReadsReceived (readings s l past)) (pending_of past) e.cause t q → (was_taken (is_other kind) t q (e ∷ past) ≡ true) ⊎ (1 ≤ times)
      earned (inl (request, cause_is, done_at_once)) =
          let its : takes_it (is_other kind) t q e.cause ≡ true = ap (λ (cause : Cause). takes_it (is_other kind) t q cause) cause_is ∙ is_take (is_other kind) t q request (ap not (at_once request done_at_once)) in
          inl (ap (λ b. b || was_taken (is_other kind) t q past) its)
      earned (inr (command, one, task, seq, acknowledged)) = by_kind (kind command.request) command refl one task seq acknowledged

      go : (b : Bool) → list_any is_done (outcomes_in t q e.effects) ≡ b → (b || was_done t q past) ≡ true → (was_taken (is_other kind) t q (e ∷ past) ≡ true) ⊎ (1 ≤ times)
      go true here any = earned (earned_in (ReadsReceived (readings s l past)) (pending_of past) e.cause t q e.effects (outcomes_are_earned s l past e.at e.cause e.effects legal.0) here)
      go false here any = earlier (before any)

  -- So one that is done was passed on.
  pub settled_done : (s : Setup) (l : Sizes) (past : List Entry) (t q times : ℕ) → IsLegalPast s l past → IsSettled kind t q past times → was_taken kind t q past ≡ true → was_done t q past ≡ true → 1 ≤ times
  settled_done s l past t q times legal settled taken done = go (settled done)
    where
      go : (was_taken (is_other kind) t q past ≡ true) ⊎ (1 ≤ times) → 1 ≤ times
      go (inl other) = absurd (apart s l kind (is_other kind) t q past kinds_differ legal taken other)
      go (inr passed) = passed

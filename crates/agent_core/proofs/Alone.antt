-- A command that is opened has an entry with nothing but the sending of its packet.
use Rattle.std.proofs.Common.{◌≡◌, ℕ, Bool, true, false, List, [], ◌∷◌, ◌++◌, Option, Some, None, refl, sym, ◌∙◌, subst}
use Rattle.std.specs.Prelude.{nat_lt, length, if◌then◌else◌}
use Rattle.mqtt_packet.specs.declared.packet.Packet.{Packet}
use Rattle.mqtt_packet.specs.declared.packet.Packet.TheVariants as p
use Rattle.mqtt_packet.specs.declared.qos.Qos.{Qos}
use Rattle.mqtt_packet.specs.declared.qos.Qos.TheVariants.{AtMostOnce, AtLeastOnce, ExactlyOnce}
use Rattle.mqtt_packet.specs.declared.will.Ask.{Ask}
use Rattle.agent_journal.specs.declared.request.Request.{Request}
use Rattle.agent_journal.specs.declared.request.Request.TheVariants as requests
use Rattle.agent_journal.specs.declared.effect.Effect.{Effect}
use Rattle.agent_journal.specs.declared.effect.Effect.TheVariants as f
use Rattle.agent_journal.specs.declared.outcome.Outcome.{Outcome}
use Rattle.agent_journal.specs.declared.outcome.Outcome.TheVariants as o
use Rattle.agent_journal.specs.declared.setup.Setup.{Setup}
use Rattle.agent_journal.specs.declared.setup.Phase.{Phase}
use Rattle.agent_journal.specs.declared.setup.Phase.TheVariants.{Down, Opening, Up, Spilled, Off}
use Rattle.agent_journal.specs.Readings.{sent_id}
use Rattle.agent_table.specs.Effects.{cancel_all, close, fresh_id}
use Rattle.agent_table.specs.Readings.{Readings}
use Rattle.agent_table.specs.Rows.{Row, when}
use Rattle.agent_table.specs.Sizes.{Sizes}
use Rattle.agent_table.specs.Takes as takes
use Rattle.agent_core.proofs.RowFacts.{dones_send, closed_send}

abbrev pub IsAlone : List Effect → Type 0
IsAlone effects = (id : ℕ) → sent_id effects ≡ Some id → (packet : Packet) × (effects ≡ f.Send packet ∷ [])

abbrev pub RowAlone : Option Row → Type 0
RowAlone None = Unit {0}
RowAlone (Some row) = IsAlone row.effects

none_alone : (effects : List Effect) → sent_id effects ≡ None → IsAlone effects
none_alone effects none = λ id some. absurd (cc (sym none ∙ some))

one_alone : (packet : Packet) → IsAlone (f.Send packet ∷ [])
one_alone packet = λ id some. (packet, refl)

if_alone : (b : Bool) (one other : List Effect) → IsAlone one → IsAlone other → IsAlone (if b then one else other)
if_alone true one other h k = h
if_alone false one other h k = k

module _ (s : Setup) (l : Sizes) (r : Readings) (task seq : ℕ) where
  at_once_alone : (outcome : Outcome) → IsAlone (takes.at_once task seq outcome)
  at_once_alone outcome = none_alone (takes.at_once task seq outcome) refl

  publish_alone : (qos : Qos) (topic payload : List ℕ) → RowAlone (takes.publish_row l r task seq qos topic payload)
  unfolding takes.publish_row
  publish_alone AtMostOnce topic payload = none_alone (f.Send (p.Publish false AtMostOnce false topic 0 payload) ∷ f.Done task seq o.Done ∷ []) refl
  publish_alone AtLeastOnce topic payload = if_alone (takes.is_full l r) (takes.at_once task seq o.NoRoom) (f.Send (p.Publish false AtLeastOnce false topic (fresh_id r) payload) ∷ []) (at_once_alone o.NoRoom) (one_alone (p.Publish false AtLeastOnce false topic (fresh_id r) payload))
  publish_alone ExactlyOnce topic payload = if_alone (takes.is_full l r) (takes.at_once task seq o.NoRoom) (f.Send (p.Publish false ExactlyOnce false topic (fresh_id r) payload) ∷ []) (at_once_alone o.NoRoom) (one_alone (p.Publish false ExactlyOnce false topic (fresh_id r) payload))

  subscribe_alone : (asks : List Ask) → RowAlone (takes.subscribe_row l r task seq asks)
  unfolding takes.subscribe_row
  subscribe_alone asks =
      let many = nat_lt l.routes (length (takes.routes_with r task asks)) in
      if_alone (takes.is_full l r) (takes.at_once task seq o.NoRoom) (if many then takes.at_once task seq o.NoRoute else f.Send (p.Subscribe (fresh_id r) asks) ∷ []) (at_once_alone o.NoRoom)
      (if_alone many (takes.at_once task seq o.NoRoute) (f.Send (p.Subscribe (fresh_id r) asks) ∷ []) (at_once_alone o.NoRoute) (one_alone (p.Subscribe (fresh_id r) asks)))

  unsubscribe_alone : (own : List (List ℕ)) → IsAlone (takes.unsubscribed l r task seq own)
  unsubscribe_alone [] = at_once_alone o.Done
  unsubscribe_alone (topics ∷ own) =
      if_alone (takes.is_full l r) (takes.at_once task seq o.NoRoom) (f.Send (p.Unsubscribe (fresh_id r) (topics ∷ own)) ∷ []) (at_once_alone o.NoRoom) (one_alone (p.Unsubscribe (fresh_id r) (topics ∷ own)))

  disconnect_alone : RowAlone (takes.disconnect_row s r task seq)
  unfolding takes.disconnect_row
  disconnect_alone =
      none_alone (cancel_all r ++ f.Send p.Disconnect ∷ f.Done task seq o.Done ∷ close s r) (dones_send o.Cancelled r.pending (f.Send p.Disconnect ∷ f.Done task seq o.Done ∷ close s r) ∙ closed_send s.tasks r.left)

  up_alone : (request : Request) → RowAlone (takes.up_row s l r task seq request)
  unfolding takes.unsubscribe_row
  up_alone (requests.Publish qos topic payload) = publish_alone qos topic payload
  up_alone (requests.Subscribe asks) = subscribe_alone asks
  up_alone (requests.Unsubscribe filters) = unsubscribe_alone (takes.own_filters r task filters)
  up_alone requests.Ping = none_alone (f.Send p.PingReq ∷ f.Done task seq o.Done ∷ []) refl
  up_alone requests.Disconnect = disconnect_alone
  up_alone requests.Terminate = disconnect_alone
  up_alone requests.Leave = none_alone [] refl

  off_alone : (request : Request) → RowAlone (takes.off_row r task seq request)
  off_alone (requests.Publish qos topic payload) = at_once_alone (takes.refusal r)
  off_alone (requests.Subscribe asks) = at_once_alone (takes.refusal r)
  off_alone (requests.Unsubscribe filters) = at_once_alone (takes.refusal r)
  off_alone requests.Ping = at_once_alone (takes.refusal r)
  off_alone requests.Disconnect = at_once_alone (takes.refusal r)
  off_alone requests.Terminate = at_once_alone o.Done
  off_alone requests.Leave = none_alone [] refl

  in_alone : (request : Request) (phase : Phase) → RowAlone (takes.take_in s l r task seq request phase)
  in_alone request Down = tt
  in_alone request Opening = tt
  in_alone request Up = up_alone request
  in_alone request Spilled = tt
  in_alone request Off = off_alone request

  when_alone : (b : Bool) (row : Option Row) → RowAlone row → RowAlone (when b row)
  when_alone true row h = h
  when_alone false row h = tt

  pub take_alone : (request : Request) (row : Row) → takes.take_row s l r task seq request ≡ Some row → IsAlone row.effects
  unfolding takes.take_row
  take_alone request row e =
      subst (λ (found : Option Row). RowAlone found) e (when_alone (takes.may_take s r task seq request) (takes.take_in s l r task seq request r.phase) (in_alone request r.phase))

-- What a Take opens has the fresh identifier.
use Rattle.std.proofs.Common.{◌≡◌, ◌⊎◌, ℕ, Bool, true, false, cond, List, [], ◌∷◌, Option, Some, None, refl, ◌∙◌, subst, ap}
use Rattle.std.specs.Prelude.{nat_lt, nat_le, length}
use mathlib.Core.Logic.{inl, inr}
use Rattle.mqtt_packet.specs.declared.qos.Qos.{Qos}
use Rattle.mqtt_packet.specs.declared.qos.Qos.TheVariants.{AtMostOnce, AtLeastOnce, ExactlyOnce}
use Rattle.mqtt_packet.specs.declared.packet.Packet.TheVariants as p
use Rattle.agent_journal.specs.declared.request.Request.{Request}
use Rattle.agent_journal.specs.declared.request.Request.TheVariants as requests
use Rattle.agent_journal.specs.declared.outcome.Outcome.TheVariants as o
use Rattle.agent_journal.specs.declared.entry.Cause.{Cause}
use Rattle.agent_journal.specs.declared.entry.Cause.TheVariants as c
use Rattle.agent_journal.specs.declared.entry.Entry.{Entry}
use Rattle.agent_journal.specs.declared.effect.Effect.{Effect}
use Rattle.agent_journal.specs.declared.effect.Effect.TheVariants as f
use Rattle.agent_journal.specs.declared.setup.Setup.{Setup}
use Rattle.agent_journal.specs.declared.setup.Phase.{Phase}
use Rattle.agent_journal.specs.declared.setup.Phase.TheVariants.{Down, Opening, Up, Spilled, Off}
use Rattle.agent_journal.specs.Readings.{Pending, opens, opened_by, sent_filters, sent_id}
use Rattle.agent_table.specs.Effects.{close, fresh_id}
use Rattle.agent_table.specs.Histories.{readings, row, effects_of}
use Rattle.agent_table.specs.Laws.{IsOneOf}
use Rattle.agent_table.specs.Meanings.{CommandsDrawFresh}
use Rattle.agent_table.specs.Readings.{Readings}
use Rattle.agent_table.specs.Rows.{Row, when}
use Rattle.agent_table.specs.Sizes.{Sizes}
use Rattle.agent_table.specs.Table.{row_of}
use Rattle.agent_table.specs.Takes as takes
use Rattle.agent_table.proofs.Openings.{none_closed, done_draws}

module _ (r : Readings) where
  -- no identifier, or the fresh one
  abbrev pub Draws : List Effect → Type 0
  Draws effects = (sent_id effects ≡ None) ⊎ (sent_id effects ≡ Some (fresh_id r))

  abbrev DrawsRow : Option Row → Type 0
  DrawsRow None = Unit {0}
  DrawsRow (Some row) = Draws row.effects

  draws_if : (b : Bool) (x y : List Effect) → Draws x → Draws y → Draws (cond b x y)
  draws_if true x y h k = h
  draws_if false x y h k = k

  draws_when : (b : Bool) (row : Option Row) → DrawsRow row → DrawsRow (when b row)
  draws_when true row h = h
  draws_when false row h = tt

  draws_publish : (l : Sizes) (task seq : ℕ) (qos : Qos) (topic payload : List ℕ) → DrawsRow (takes.publish_row l r task seq qos topic payload)
  unfolding takes.publish_row
  draws_publish l task seq AtMostOnce topic payload = inl refl
  draws_publish l task seq AtLeastOnce topic payload = draws_if (takes.is_full l r) (takes.at_once task seq o.NoRoom) (f.Send (p.Publish false AtLeastOnce false topic (fresh_id r) payload) ∷ []) (inl refl) (inr refl)
  draws_publish l task seq ExactlyOnce topic payload = draws_if (takes.is_full l r) (takes.at_once task seq o.NoRoom) (f.Send (p.Publish false ExactlyOnce false topic (fresh_id r) payload) ∷ []) (inl refl) (inr refl)

  draws_unsubscribe : (l : Sizes) (task seq : ℕ) (filters : List (List ℕ)) → Draws (takes.unsubscribed l r task seq filters)
  draws_unsubscribe l task seq [] = inl refl
  draws_unsubscribe l task seq (topics ∷ filters) = draws_if (takes.is_full l r) (takes.at_once task seq o.NoRoom) (f.Send (p.Unsubscribe (fresh_id r) (topics ∷ filters)) ∷ []) (inl refl) (inr refl)

  draws_disconnect : (s : Setup) (task seq : ℕ) → DrawsRow (takes.disconnect_row s r task seq)
  unfolding takes.disconnect_row
  draws_disconnect s task seq = inl (done_draws o.Cancelled r.pending (f.Send p.Disconnect ∷ f.Done task seq o.Done ∷ close s r) ∙ none_closed s.tasks r.left)

  draws_up : (s : Setup) (l : Sizes) (task seq : ℕ) (request : Request) → DrawsRow (takes.up_row s l r task seq request)
  unfolding takes.subscribe_row takes.unsubscribe_row
  draws_up s l task seq (requests.Publish qos topic payload) = draws_publish l task seq qos topic payload
  draws_up s l task seq (requests.Subscribe asks) =
      let sent = f.Send (p.Subscribe (fresh_id r) asks) ∷ [] in let more = nat_lt l.routes (length (takes.routes_with r task asks)) in
      draws_if (takes.is_full l r) (takes.at_once task seq o.NoRoom) (cond more (takes.at_once task seq o.NoRoute) sent) (inl refl) (draws_if more (takes.at_once task seq o.NoRoute) sent (inl refl) (inr refl))
  draws_up s l task seq (requests.Unsubscribe filters) = draws_unsubscribe l task seq (takes.own_filters r task filters)
  draws_up s l task seq requests.Ping = inl refl
  draws_up s l task seq requests.Disconnect = draws_disconnect s task seq
  draws_up s l task seq requests.Terminate = draws_disconnect s task seq
  draws_up s l task seq requests.Leave = inl refl

  draws_off : (task seq : ℕ) (request : Request) → DrawsRow (takes.off_row r task seq request)
  draws_off task seq (requests.Publish qos topic payload) = inl refl
  draws_off task seq (requests.Subscribe asks) = inl refl
  draws_off task seq (requests.Unsubscribe filters) = inl refl
  draws_off task seq requests.Ping = inl refl
  draws_off task seq requests.Disconnect = inl refl
  draws_off task seq requests.Terminate = inl refl
  draws_off task seq requests.Leave = inl refl

  draws_in : (s : Setup) (l : Sizes) (task seq : ℕ) (request : Request) (phase : Phase) → DrawsRow (takes.take_in s l r task seq request phase)
  draws_in s l task seq request Down = tt
  draws_in s l task seq request Opening = tt
  draws_in s l task seq request Up = draws_up s l task seq request
  draws_in s l task seq request Spilled = tt
  draws_in s l task seq request Off = draws_off task seq request

  draws_row : (s : Setup) (l : Sizes) (at task seq : ℕ) (request : Request) → DrawsRow (row_of s l r at (c.Take task seq request))
  unfolding row_of takes.take_row
  draws_row s l at task seq request =
      let inner = takes.take_in s l r task seq request r.phase in
      draws_when (nat_le r.last_time at) (when (takes.may_take s r task seq request) inner) (draws_when (takes.may_take s r task seq request) inner (draws_in s l task seq request r.phase))

  draws_found : (found : Option Row) (effects : List Effect) → effects_of found ≡ Some effects → DrawsRow found → Draws effects
  draws_found None effects e h = absurd (cc e)
  draws_found (Some row) effects e h = let is : row.effects ≡ effects = cc in subst Draws is h

  pub take_draws : (s : Setup) (l : Sizes) (at task seq : ℕ) (request : Request) (effects : List Effect) → effects_of (row_of s l r at (c.Take task seq request)) ≡ Some effects → Draws effects
  take_draws s l at task seq request effects e = draws_found (row_of s l r at (c.Take task seq request)) effects e (draws_row s l at task seq request)

-- ---- Of a legal journal

by_id : (r : Readings) (command : Pending) (task seq : ℕ) (request : Request) (filters : List (List ℕ)) (id : Option ℕ) → (id ≡ None) ⊎ (id ≡ Some (fresh_id r)) → IsOneOf command (opened_by task seq request filters id) → command.id ≡ fresh_id r
by_id r command task seq request filters None draws one = absurd one
by_id r command task seq request filters (Some id) (inl none) one = absurd (cc none)
by_id r command task seq request filters (Some id) (inr is) (inl same) = let number : id ≡ fresh_id r = cc in ap (λ (x : Pending). x.id) same ∙ number
by_id r command task seq request filters (Some id) (inr is) (inr one) = absurd one

by_cause : (s : Setup) (l : Sizes) (past : List Entry) (command : Pending) (at : ℕ) (cause : Cause) (effects : List Effect) → effects_of (row s l past at cause) ≡ Some effects → IsOneOf command (opens cause effects)
    → command.id ≡ fresh_id (readings s l past)
by_cause s l past command at c.Opened effects has one = absurd one
by_cause s l past command at (c.Take task seq request) effects has one =
    by_id (readings s l past) command task seq request (sent_filters effects) (sent_id effects) (take_draws (readings s l past) s l at task seq request effects has) one
by_cause s l past command at (c.Arrived packet) effects has one = absurd one
by_cause s l past command at (c.Broke why) effects has one = absurd one
by_cause s l past command at c.Tick effects has one = absurd one
by_cause s l past command at c.GaveUp effects has one = absurd one
by_cause s l past command at c.Finish effects has one = absurd one

pub commands_draw_fresh : CommandsDrawFresh
commands_draw_fresh s l past e legal command one = by_cause s l past command e.at e.cause e.effects legal.0 one

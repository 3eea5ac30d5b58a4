-- Packets have a row in Opening and in Up, and it is the one that is looked up by the phase.
use Rattle.std.proofs.Common.{◌≡◌, ℕ, Bool, true, false, List, Option, Some, is_some, refl, ap, sym, ◌∙◌}
use Rattle.std.specs.Prelude.{map, not, ◌==◌, nat_lt, [], ◌∷◌, ◌++◌, length, filter, if◌then◌else◌}
use Rattle.std.specs.List.{list_any}
use Rattle.topic_filter.specs.Texts.{is_name}
use Rattle.agent_journal.specs.declared.effect.Effect.TheVariants as f
use Rattle.mqtt_packet.specs.Spelling.{is_sound}
use Rattle.mqtt_packet.specs.declared.packet.Packet.{Packet}
use Rattle.mqtt_packet.specs.declared.packet.Packet.TheVariants as p
use Rattle.mqtt_packet.specs.declared.qos.Qos.{Qos}
use Rattle.mqtt_packet.specs.declared.qos.Qos.TheVariants.{AtMostOnce, AtLeastOnce, ExactlyOnce}
use Rattle.agent_journal.specs.declared.setup.Setup.{Setup}
use Rattle.agent_journal.specs.declared.setup.Phase.{Phase}
use Rattle.agent_journal.specs.declared.setup.Phase.TheVariants.{Down, Opening, Up, Spilled, Off}
use Rattle.agent_table.specs.Readings.{Readings, unless_off}
use Rattle.agent_table.specs.Deliveries.{is_among}
use Rattle.agent_table.specs.Effects.{pass, resume, subscribes}
use Rattle.agent_table.specs.Routes.{while_opening}
use Rattle.agent_journal.specs.declared.effect.Effect.{Effect}
use Rattle.subscriptions.specs.Routing.{renewable}
use Rattle.agent_core.specs.Kept.{Kept, readings_in, used_in}
use Rattle.agent_table.specs.Rows.{Row, to, ends}
use Rattle.agent_table.specs.Sizes.{Sizes}
use Rattle.agent_table.specs.Arrivals.{arrived_row, arrived_in, up_row, opening_row, connack_row, first_row, resumed_row, publish_row, message_row, puback_row, pubrec_row, pubcomp_row, suback_row, unsuback_row, awaited, all_granted, is_subscribe, at}
use Rattle.agent_core.proofs.Breaks.{is_when, some_when}

some_if : (b : Bool) (one other : Option Row) → true ≡ is_some one → true ≡ is_some other → true ≡ is_some (if b then one else other)
some_if true one other a b = a
some_if false one other a b = b

module _ (s : Setup) (l : Sizes) (r : Readings) where
  first_some : (present : Bool) → true ≡ is_some (first_row s r present)
  first_some true = refl
  first_some false = refl

  resumed_some : (present : Bool) → true ≡ is_some (resumed_row r present)
  resumed_some true = refl
  resumed_some false = refl

  connack_some : (present : Bool) (code : ℕ) → true ≡ is_some (connack_row s r present code)
  unfolding connack_row
  connack_some present code = some_if (not (code == 0)) _ _ refl (some_if r.wiping _ _ refl (some_if r.first _ _ (first_some present) (resumed_some present)))

  pub heard_in_opening : (packet : Packet) → true ≡ is_some (opening_row s r packet)
  heard_in_opening (p.Connect clean keep_alive client will user password) = refl
  heard_in_opening (p.ConnAck present code) = connack_some present code
  heard_in_opening (p.Publish dup qos retain topic id payload) = refl
  heard_in_opening (p.PubAck id) = refl
  heard_in_opening (p.PubRec id) = refl
  heard_in_opening (p.PubRel id) = refl
  heard_in_opening (p.PubComp id) = refl
  heard_in_opening (p.Subscribe id asks) = refl
  heard_in_opening (p.SubAck id codes) = refl
  heard_in_opening (p.Unsubscribe id filters) = refl
  heard_in_opening (p.UnsubAck id) = refl
  heard_in_opening p.PingReq = refl
  heard_in_opening p.PingResp = refl
  heard_in_opening p.Disconnect = refl

  message_some : (qos : Qos) (topic : List ℕ) (id : ℕ) (payload : List ℕ) → true ≡ is_some (message_row s l r qos topic id payload)
  message_some AtMostOnce topic id payload = refl
  message_some AtLeastOnce topic id payload = refl
  message_some ExactlyOnce topic id payload =
      some_if (is_among r.held id) (to Up (f.Send (p.PubRec id) ∷ [])) (if nat_lt (length r.held) l.inbound then to Up (pass s r ExactlyOnce topic payload ++ f.Send (p.PubRec id) ∷ []) else to Spilled []) refl
      (some_if (nat_lt (length r.held) l.inbound) (to Up (pass s r ExactlyOnce topic payload ++ f.Send (p.PubRec id) ∷ [])) (to Spilled []) refl refl)

  publish_some : (qos : Qos) (topic : List ℕ) (id : ℕ) (payload : List ℕ) → true ≡ is_some (publish_row s l r qos topic id payload)
  unfolding publish_row
  publish_some qos topic id payload = some_if (is_name topic) (message_row s l r qos topic id payload) (ends s r) (message_some qos topic id payload) refl

  suback_some : (id : ℕ) (codes : List ℕ) → true ≡ is_some (suback_row s r id codes)
  unfolding suback_row
  suback_some id codes =
      some_if (list_any (λ count. not (count == length codes)) (awaited r id)) (ends s r) (to Up (all_granted codes (filter (λ command. is_subscribe command.request) (at id r.pending)))) refl refl

  pub heard_in_up : (packet : Packet) → true ≡ is_some (up_row s l r packet)
  unfolding puback_row pubrec_row pubcomp_row unsuback_row
  heard_in_up (p.Connect clean keep_alive client will user password) = refl
  heard_in_up (p.ConnAck present code) = refl
  heard_in_up (p.Publish dup qos retain topic id payload) = publish_some qos topic id payload
  heard_in_up (p.PubAck id) = refl
  heard_in_up (p.PubRec id) = refl
  heard_in_up (p.PubRel id) = refl
  heard_in_up (p.PubComp id) = refl
  heard_in_up (p.Subscribe id asks) = refl
  heard_in_up (p.SubAck id codes) = suback_some id codes
  heard_in_up (p.Unsubscribe id filters) = refl
  heard_in_up (p.UnsubAck id) = refl
  heard_in_up p.PingReq = refl
  heard_in_up p.PingResp = refl
  heard_in_up p.Disconnect = refl

  pub arrived_up_is : (packet : Packet) (row : Row) → is_some (arrived_row s l r packet) ≡ true → r.phase ≡ Up → up_row s l r packet ≡ Some row → arrived_row s l r packet ≡ Some row
  unfolding arrived_row
  arrived_up_is packet row some e is = is_when (is_sound packet) _ some ∙ ap (arrived_in s l r packet) e ∙ is

  pub arrived_opening_is : (packet : Packet) (row : Row) → is_some (arrived_row s l r packet) ≡ true → r.phase ≡ Opening → opening_row s r packet ≡ Some row → arrived_row s l r packet ≡ Some row
  unfolding arrived_row
  arrived_opening_is packet row some e is = is_when (is_sound packet) _ some ∙ ap (arrived_in s l r packet) e ∙ is

  not_up : (packet : Packet) (phase : Phase) → is_some (arrived_in s l r packet phase) ≡ true → (phase ≡ Up → ⊥) → phase ≡ Opening
  not_up packet Down some other = absurd (cc some)
  not_up packet Opening some other = refl
  not_up packet Up some other = absurd (other refl)
  not_up packet Spilled some other = absurd (cc some)
  not_up packet Off some other = absurd (cc some)

  pub in_opening : (packet : Packet) → is_some (arrived_row s l r packet) ≡ true → (r.phase ≡ Up → ⊥) → r.phase ≡ Opening
  unfolding arrived_row
  in_opening packet some other = not_up packet r.phase (some_when (is_sound packet) _ some).1 other

-- ---- Sending again

pub resumed_is : (k : Kept) (again effects : List Effect) → k.phase ≡ Opening → again ≡ resume (readings_in k)
    → effects ≡ again ++ subscribes (length (renewable false k.routing)) k.last_drawn (used_in k) (renewable false k.routing) → resumed_row (readings_in k) true ≡ Some (record { effects = effects; phase = Up })
resumed_is k again effects opening is_again is = go k.phase opening
  where
    go : (phase : Phase) → phase ≡ Opening → to Up (resume (readings_in k) ++ subscribes (length (while_opening phase (renewable false k.routing))) k.last_drawn
        (map (λ command. command.id) k.pending ++ map (λ renewal. renewal.id) (unless_off phase k.routing.renewals)) (while_opening phase (renewable false k.routing))) ≡ Some (record { effects = effects; phase = Up })
    go Down e = absurd (cc e)
    go Opening e = ap (to Up) (sym (is ∙ ap (λ es. es ++ subscribes (length (renewable false k.routing)) k.last_drawn (used_in k) (renewable false k.routing)) is_again))
    go Up e = absurd (cc e)
    go Spilled e = absurd (cc e)
    go Off e = absurd (cc e)

-- While the agent listens, each packet has a row, and so have bytes that are none. Only then a silent connection is broken.
use Rattle.std.proofs.Common.{◌≡◌, ℕ, Bool, true, false, cond, List, [], ◌∷◌, ◌++◌, Option, Some, is_some, refl, ap, ◌∙◌}
use Rattle.std.specs.Prelude.{not, ◌==◌, nat_lt, length}
use Rattle.std.specs.List.{list_any}
use Rattle.mqtt_packet.specs.declared.qos.Qos.{Qos}
use Rattle.mqtt_packet.specs.declared.qos.Qos.TheVariants.{AtMostOnce, AtLeastOnce, ExactlyOnce}
use Rattle.mqtt_packet.specs.declared.packet.Packet.{Packet}
use Rattle.mqtt_packet.specs.declared.packet.Packet.TheVariants as p
use Rattle.mqtt_packet.specs.Spelling.{is_sound}
use Rattle.topic_filter.specs.Texts.{is_name}
use Rattle.agent_journal.specs.declared.effect.Effect.TheVariants as f
use Rattle.agent_journal.specs.declared.setup.Setup.{Setup}
use Rattle.agent_journal.specs.declared.setup.Phase.{Phase}
use Rattle.agent_journal.specs.declared.setup.Phase.TheVariants.{Down, Opening, Up, Spilled, Off}
use Rattle.agent_table.specs.Breaks.{is_none}
use Rattle.agent_table.specs.Arrivals.{arrived_row, arrived_in, opening_row, connack_row, first_row, resumed_row, up_row, publish_row, message_row, puback_row, pubrec_row, pubcomp_row, suback_row, unsuback_row, awaited}
use Rattle.agent_table.specs.Breaks.{bytes_row, idle_row, down}
use Rattle.agent_table.specs.Deliveries.{is_among}
use Rattle.agent_table.specs.Effects.{pass}
use Rattle.agent_table.specs.Readings.{Readings}
use Rattle.agent_table.specs.Rows.{Row, to, when, ends}
use Rattle.agent_table.specs.Sizes.{Sizes}
use Rattle.agent_table.specs.Ties.{listens}
use Rattle.agent_ties.proofs.Sends.{there, when_of}

some_by : (b : Bool) (r q : Option Row) → is_some r ≡ true → is_some q ≡ true → is_some (cond b r q) ≡ true
some_by true r q h k = h
some_by false r q h k = k

module _ (s : Setup) (l : Sizes) (r : Readings) where
  first_some : (present : Bool) → is_some (first_row s r present) ≡ true
  first_some true = refl
  first_some false = refl

  resumed_some : (present : Bool) → is_some (resumed_row r present) ≡ true
  resumed_some true = refl
  resumed_some false = refl

  connack_some : (present : Bool) (code : ℕ) → is_some (connack_row s r present code) ≡ true
  unfolding connack_row
  connack_some present code =
      some_by (not (code == 0)) (ends s r) (cond r.wiping (to Down _) (cond r.first (first_row s r present) (resumed_row r present))) refl
      (some_by r.wiping (to Down _) (cond r.first (first_row s r present) (resumed_row r present)) refl (some_by r.first (first_row s r present) (resumed_row r present) (first_some present) (resumed_some present)))

  opening_some : (packet : Packet) → is_some (opening_row s r packet) ≡ true
  opening_some (p.Connect clean keep_alive client will user password) = refl
  opening_some (p.ConnAck present code) = connack_some present code
  opening_some (p.Publish dup qos retain topic id payload) = refl
  opening_some (p.PubAck id) = refl
  opening_some (p.PubRec id) = refl
  opening_some (p.PubRel id) = refl
  opening_some (p.PubComp id) = refl
  opening_some (p.Subscribe id asks) = refl
  opening_some (p.SubAck id codes) = refl
  opening_some (p.Unsubscribe id filters) = refl
  opening_some (p.UnsubAck id) = refl
  opening_some p.PingReq = refl
  opening_some p.PingResp = refl
  opening_some p.Disconnect = refl

  message_some : (qos : Qos) (topic : List ℕ) (id : ℕ) (payload : List ℕ) → is_some (message_row s l r qos topic id payload) ≡ true
  message_some AtMostOnce topic id payload = refl
  message_some AtLeastOnce topic id payload = refl
  message_some ExactlyOnce topic id payload =
      some_by (is_among r.held id) (to Up (f.Send (p.PubRec id) ∷ [])) (cond (nat_lt (length r.held) l.inbound) (to Up (pass s r ExactlyOnce topic payload ++ f.Send (p.PubRec id) ∷ [])) (to Spilled [])) refl
      (some_by (nat_lt (length r.held) l.inbound) (to Up (pass s r ExactlyOnce topic payload ++ f.Send (p.PubRec id) ∷ [])) (to Spilled []) refl refl)

  publish_some : (qos : Qos) (topic : List ℕ) (id : ℕ) (payload : List ℕ) → is_some (publish_row s l r qos topic id payload) ≡ true
  unfolding publish_row
  publish_some qos topic id payload = some_by (is_name topic) (message_row s l r qos topic id payload) (ends s r) (message_some qos topic id payload) refl

  up_some : (packet : Packet) → is_some (up_row s l r packet) ≡ true
  unfolding puback_row pubrec_row pubcomp_row suback_row unsuback_row
  up_some (p.Connect clean keep_alive client will user password) = refl
  up_some (p.ConnAck present code) = refl
  up_some (p.Publish dup qos retain topic id payload) = publish_some qos topic id payload
  up_some (p.PubAck id) = refl
  up_some (p.PubRec id) = refl
  up_some (p.PubRel id) = refl
  up_some (p.PubComp id) = refl
  up_some (p.Subscribe id asks) = refl
  up_some (p.SubAck id codes) = some_by (list_any (λ count. not (count == length codes)) (awaited r id)) (ends s r) (to Up _) refl refl
  up_some (p.Unsubscribe id filters) = refl
  up_some (p.UnsubAck id) = refl
  up_some p.PingReq = refl
  up_some p.PingResp = refl
  up_some p.Disconnect = refl

  arrived_in_some : (packet : Packet) (phase : Phase) → listens phase ≡ true → is_some (arrived_in s l r packet phase) ≡ true
  arrived_in_some packet Down e = absurd (cc e)
  arrived_in_some packet Opening e = opening_some packet
  arrived_in_some packet Up e = up_some packet
  arrived_in_some packet Spilled e = absurd (cc e)
  arrived_in_some packet Off e = absurd (cc e)

  pub arrived_some : (packet : Packet) → is_sound packet ≡ true → listens r.phase ≡ true → is_some (arrived_row s l r packet) ≡ true
  unfolding arrived_row
  arrived_some packet sound on = ap (λ b. is_some (when b (arrived_in s l r packet r.phase))) sound ∙ arrived_in_some packet r.phase on

  bytes_some_in : (phase : Phase) → listens phase ≡ true → is_some (bytes_row s r phase) ≡ true
  unfolding bytes_row
  bytes_some_in Down e = absurd (cc e)
  bytes_some_in Opening e = refl
  bytes_some_in Up e = refl
  bytes_some_in Spilled e = absurd (cc e)
  bytes_some_in Off e = absurd (cc e)

  pub bytes_some : listens r.phase ≡ true → is_some (bytes_row s r r.phase) ≡ true
  bytes_some on = bytes_some_in r.phase on

  pub bytes_away : (found : Row) (phase : Phase) → bytes_row s r phase ≡ Some found → listens found.phase ≡ false
  unfolding bytes_row
  bytes_away found Down e = absurd (cc e)
  bytes_away found Opening e = there (λ row. listens row.phase ≡ false) (ends s r) found e refl
  bytes_away found Up e = there (λ row. listens row.phase ≡ false) (ends s r) found e refl
  bytes_away found Spilled e = absurd (cc e)
  bytes_away found Off e = absurd (cc e)

  pub idle_away : (found : Row) (phase : Phase) → idle_row r phase ≡ Some found → (listens phase ≡ true) × (listens found.phase ≡ false)
  unfolding idle_row
  idle_away found Down e = absurd (cc e)
  idle_away found Opening e = (refl, there (λ row. listens row.phase ≡ false) (down r) found e refl)
  idle_away found Up e = (refl, there (λ row. listens row.phase ≡ false) (when (not (is_none r.pending)) (down r)) found e (when_of (λ row. listens row.phase ≡ false) (not (is_none r.pending)) (down r) refl))
  idle_away found Spilled e = absurd (cc e)
  idle_away found Off e = absurd (cc e)

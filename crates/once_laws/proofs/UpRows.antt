-- The table's rows for packets that arrive in Up: which publishes at quality of service 1 they leave open, and what
-- they send.
use Rattle.std.proofs.Common.{◌≡◌, ◌⊎◌, ℕ, ◌+◌, ◌≤◌, Bool, true, false, List, [], ◌∷◌, ◌++◌, map, filter, count_by, length, Option, Some, None, refl, ap, ◌∙◌, arith, append-nil}
use Rattle.std.specs.Prelude.{◌==◌, ◌&&◌, not, nat_lt, if◌then◌else◌}
use Rattle.std.specs.List.{list_any}
use Rattle.std.proofs.lemmas.Bool.{eqb-true, and_parts}
use mathlib.Core.Logic.{inl, inr}
use Rattle.mqtt_packet.specs.declared.packet.Packet.{Packet}
use Rattle.mqtt_packet.specs.declared.packet.Packet.TheVariants as p
use Rattle.mqtt_packet.specs.declared.qos.Qos.{Qos}
use Rattle.mqtt_packet.specs.declared.qos.Qos.TheVariants.{AtMostOnce, AtLeastOnce, ExactlyOnce}
use Rattle.topic_filter.specs.Texts.{is_name}
use Rattle.agent_journal.specs.declared.request.Request.{Request}
use Rattle.agent_journal.specs.declared.request.Request.TheVariants as requests
use Rattle.agent_journal.specs.declared.outcome.Outcome.{Outcome}
use Rattle.agent_journal.specs.declared.outcome.Outcome.TheVariants as o
use Rattle.agent_journal.specs.declared.message.Message.{Message}
use Rattle.agent_journal.specs.declared.effect.Effect.{Effect}
use Rattle.agent_journal.specs.declared.effect.Effect.TheVariants as f
use Rattle.agent_journal.specs.declared.setup.Setup.{Setup}
use Rattle.agent_journal.specs.declared.setup.Phase.{Phase}
use Rattle.agent_journal.specs.declared.setup.Phase.TheVariants.{Up, Spilled, Off}
use Rattle.agent_journal.specs.Readings.{Pending, stays_open}
use Rattle.agent_journal.specs.Wires.{sends}
use Rattle.agent_table.specs.Arrivals.{at, publishes_at, all_done, all_granted, is_subscribe, is_unsubscribe, awaited, up_row, publish_row, message_row, received_row, puback_row, pubrec_row, pubcomp_row, suback_row, unsuback_row}
use Rattle.agent_table.specs.Deliveries.{publishes, is_at_least_once, is_exactly_once, is_open_publish, is_among}
use Rattle.agent_table.specs.Effects.{done, pass}
use Rattle.agent_table.specs.Readings.{Readings}
use Rattle.agent_table.specs.Rows.{Row, to, ends}
use Rattle.agent_table.specs.Sizes.{Sizes}
use Rattle.agent_table.proofs.Completions.{none_passed}
use Rattle.agent_table.proofs.Counts.{opened}
use Rattle.once_laws.specs.Followed.{is_of, is_first, is_beginning, publishes_first, acknowledges}
use Rattle.once_laws.proofs.Effects.{left, IsQuiet, all_left, joined, sent, nothing, dones_send, passes_send, then_sends}
use Rattle.once_laws.proofs.Following.{first_of}
use Rattle.once_laws.proofs.Parts.{digit, fewer, parts, none, fused, ended_are_out}

-- What a row leaves, which hears so many PUBACKs of the identifier: it publishes nothing.
pub record IsKept (n : ℕ) (commands : List Pending) (acks : ℕ) (effects : List Effect) : Type 0 where
  pub first : count_by (is_first n) commands ≤ count_by (is_first n) (left commands effects) + acks
  pub sends : count_by (publishes_first n) (sends effects) ≡ 0

-- Or it leads to Off.
abbrev pub Keeps : ℕ → List Pending → ℕ → Option Row → Type 0
Keeps n commands acks None = Unit {0}
Keeps n commands acks (Some row) = (row.phase ≡ Off) ⊎ ((is_beginning row.phase ≡ false) × IsKept n commands acks row.effects)

-- a row that completes nothing
pub quiet : (n : ℕ) (commands : List Pending) (acks : ℕ) (effects : List Effect) → IsQuiet effects → count_by (publishes_first n) (sends effects) ≡ 0 → IsKept n commands acks effects
quiet n commands acks effects h none = record { first = omega (arith, ap (count_by (is_first n)) (all_left effects commands h)); sends = none }

-- commands of an identifier and a kind
abbrev pub takes : ℕ → (Request → Bool) → Pending → Bool
takes id kind command = command.id == id && kind command.request

module _ (n : ℕ) (commands : List Pending) (once : (t q : ℕ) → opened t q commands ≤ 1) where
  -- they end
  ended : (id : ℕ) (kind : Request → Bool) (outcome : Outcome) (acks : ℕ) → count_by (is_first n) (filter (takes id kind) commands) ≤ acks
      → IsKept n commands acks (map (done outcome) (filter (λ command. kind command.request) (at id commands)))
  ended id kind outcome acks few =
      let effects = map (done outcome) (filter (λ command. kind command.request) (at id commands)) in
      let is : left commands effects ≡ filter (λ command. not (takes id kind command)) commands =
      ap (filter (stays_open effects)) (append-nil commands)
      ∙ ap (λ gone. filter (stays_open (map (done outcome) gone)) commands) (fused (λ (command : Pending). kind command.request) (λ command. command.id == id) commands)
      ∙ ended_are_out outcome (takes id kind) commands once in
      record {
        first = omega (arith, few, parts (is_first n) (takes id kind) commands, ap (count_by (is_first n)) is);
        sends = ap (count_by (publishes_first n)) (dones_send outcome (filter (λ command. kind command.request) (at id commands)));
      }

  -- of another kind
  others_end : (id : ℕ) (kind : Request → Bool) (outcome : Outcome) (acks : ℕ) → ((r : Request) → kind r ≡ true → publishes is_at_least_once r ≡ false)
      → IsKept n commands acks (map (done outcome) (filter (λ command. kind command.request) (at id commands)))
  others_end id kind outcome acks differ =
      ended id kind outcome acks (omega (arith, none (is_first n) (takes id kind) commands (λ command e. no_first (command.id == n) command.request (differ command.request (and_parts (command.id == id) (kind command.request) e).1))))
    where
      no_first : (b : Bool) (r : Request) → publishes is_at_least_once r ≡ false → (b && publishes is_at_least_once r) ≡ false
      no_first true r e = e
      no_first false r e = refl

  -- a publish at quality of service 1 ends by its PUBACK
  acked : (id : ℕ) → count_by (is_of n) commands ≤ 1 → IsKept n commands (digit (id == n)) (all_done (publishes_at is_at_least_once id commands))
  acked id alone = ended id (publishes is_at_least_once) o.Done (digit (id == n)) (go (id == n) refl)
    where
      go : (b : Bool) → (id == n) ≡ b → count_by (is_first n) (filter (takes id (publishes is_at_least_once)) commands) ≤ digit b
      go true e = omega (arith, alone, fewer (is_first n) (takes id (publishes is_at_least_once)) commands, first_of n commands)
      go false e = omega (arith, none (is_first n) (takes id (publishes is_at_least_once)) commands differs)
        where
          differs : (command : Pending) → takes id (publishes is_at_least_once) command ≡ true → is_first n command ≡ false
          differs command is =
              let same : command.id ≡ id = eqb-true command.id id (and_parts (command.id == id) (publishes is_at_least_once command.request) is).0 in
              ap (λ m. m == n && publishes is_at_least_once command.request) same ∙ ap (λ b. b && publishes is_at_least_once command.request) e

second_isnt : (r : Request) → publishes is_exactly_once r ≡ true → publishes is_at_least_once r ≡ false
second_isnt (requests.Publish AtMostOnce topic payload) e = refl
second_isnt (requests.Publish AtLeastOnce topic payload) e = absurd (cc e)
second_isnt (requests.Publish ExactlyOnce topic payload) e = refl
second_isnt (requests.Subscribe asks) e = refl
second_isnt (requests.Unsubscribe filters) e = refl
second_isnt requests.Ping e = refl
second_isnt requests.Disconnect e = refl
second_isnt requests.Terminate e = refl
second_isnt requests.Leave e = refl

subscribe_isnt : (r : Request) → is_subscribe r ≡ true → publishes is_at_least_once r ≡ false
subscribe_isnt (requests.Publish qos topic payload) e = absurd (cc e)
subscribe_isnt (requests.Subscribe asks) e = refl
subscribe_isnt (requests.Unsubscribe filters) e = refl
subscribe_isnt requests.Ping e = refl
subscribe_isnt requests.Disconnect e = refl
subscribe_isnt requests.Terminate e = refl
subscribe_isnt requests.Leave e = refl

unsubscribe_isnt : (r : Request) → is_unsubscribe r ≡ true → publishes is_at_least_once r ≡ false
unsubscribe_isnt (requests.Publish qos topic payload) e = absurd (cc e)
unsubscribe_isnt (requests.Subscribe asks) e = refl
unsubscribe_isnt (requests.Unsubscribe filters) e = refl
unsubscribe_isnt requests.Ping e = refl
unsubscribe_isnt requests.Disconnect e = refl
unsubscribe_isnt requests.Terminate e = refl
unsubscribe_isnt requests.Leave e = refl

-- ---- Packet by packet

module _ (n : ℕ) (s : Setup) (l : Sizes) (r : Readings) (alone : count_by (is_of n) r.pending ≤ 1) (once : (t q : ℕ) → opened t q r.pending ≤ 1) where
  abbrev Holds : ℕ → Option Row → Type 0
  Holds acks row = Keeps n r.pending acks row

  either : (acks : ℕ) (b : Bool) (one other : Option Row) → Holds acks one → Holds acks other → Holds acks (if b then one else other)
  either acks true one other h g = h
  either acks false one other h g = g

  off : (acks : ℕ) → Holds acks (ends s r)
  off acks = inl refl

  silent : (phase : Phase) (effects : List Effect) → is_beginning phase ≡ false → IsQuiet effects → count_by (publishes_first n) (sends effects) ≡ 0 → Holds 0 (to phase effects)
  silent phase effects goes_on h none = inr (goes_on, quiet n r.pending 0 effects h none)

  message_of : Qos → List ℕ → List ℕ → Message
  message_of qos topic payload = record { topic = topic; qos = qos; payload = payload }

  passes : (qos : Qos) (topic payload : List ℕ) → IsQuiet (pass s r qos topic payload)
  passes qos topic payload t q = none_passed t q s.tasks r (record { topic = topic; qos = qos; payload = payload })

  -- a message that is passed and answered
  answered : (qos : Qos) (topic payload : List ℕ) (answer : Packet) → count_by (publishes_first n) (answer ∷ []) ≡ 0 → Holds 0 (to Up (pass s r qos topic payload ++ f.Send answer ∷ []))
  answered qos topic payload answer none =
      silent Up (pass s r qos topic payload ++ f.Send answer ∷ []) refl (joined (pass s r qos topic payload) (f.Send answer ∷ []) (passes qos topic payload) (sent answer))
      (ap (count_by (publishes_first n)) (then_sends (pass s r qos topic payload) answer (passes_send r (record { topic = topic; qos = qos; payload = payload }) s.tasks)) ∙ none)

  received : (topic : List ℕ) (id : ℕ) (payload : List ℕ) → Holds 0 (received_row s l r topic id payload)
  received topic id payload =
      let passed = to Up (pass s r ExactlyOnce topic payload ++ f.Send (p.PubRec id) ∷ []) in
      either 0 (is_among r.held id) (to Up (f.Send (p.PubRec id) ∷ [])) (if nat_lt (length r.held) l.inbound then passed else to Spilled []) (silent Up (f.Send (p.PubRec id) ∷ []) refl (sent (p.PubRec id)) refl)
      (either 0 (nat_lt (length r.held) l.inbound) passed (to Spilled []) (answered ExactlyOnce topic payload (p.PubRec id) refl) (silent Spilled [] refl nothing refl))

  message : (qos : Qos) (topic : List ℕ) (id : ℕ) (payload : List ℕ) → Holds 0 (message_row s l r qos topic id payload)
  message AtMostOnce topic id payload =
      silent Up (pass s r AtMostOnce topic payload) refl (passes AtMostOnce topic payload) (ap (count_by (publishes_first n)) (passes_send r (record { topic = topic; qos = AtMostOnce; payload = payload }) s.tasks))
  message AtLeastOnce topic id payload = answered AtLeastOnce topic payload (p.PubAck id) refl
  message ExactlyOnce topic id payload = received topic id payload

  pubrec : (b : Bool) (id : ℕ) → Holds 0 (to Up (if b then f.Send (p.PubRel id) ∷ [] else []))
  pubrec true id = silent Up (f.Send (p.PubRel id) ∷ []) refl (sent (p.PubRel id)) refl
  pubrec false id = silent Up [] refl nothing refl

  pubcomp : (b : Bool) (id : ℕ) → Holds 0 (to Up (if b then all_done (publishes_at is_exactly_once id r.pending) else []))
  pubcomp true id = inr (refl, others_end n r.pending once id (publishes is_exactly_once) o.Done 0 second_isnt)
  pubcomp false id = silent Up [] refl nothing refl

  suback : (b : Bool) (id : ℕ) (codes : List ℕ) → Holds 0 (if b then ends s r else to Up (all_granted codes (filter (λ command. is_subscribe command.request) (at id r.pending))))
  suback true id codes = off 0
  suback false id codes = inr (refl, others_end n r.pending once id is_subscribe (o.Granted codes) 0 subscribe_isnt)

  pub arrives_up : (packet : Packet) → Holds (digit (acknowledges n packet)) (up_row s l r packet)
  unfolding publish_row puback_row pubrec_row pubcomp_row suback_row unsuback_row
  arrives_up (p.Publish dup qos retain topic id payload) = either 0 (is_name topic) (message_row s l r qos topic id payload) (ends s r) (message qos topic id payload) (off 0)
  arrives_up (p.PubAck id) = inr (refl, acked n r.pending once id alone)
  arrives_up (p.PubRec id) = pubrec (is_open_publish is_exactly_once r.pending id) id
  arrives_up (p.PubRel id) = silent Up (f.Send (p.PubComp id) ∷ []) refl (sent (p.PubComp id)) refl
  arrives_up (p.PubComp id) = pubcomp (is_among r.released id) id
  arrives_up (p.SubAck id codes) = suback (list_any (λ count. not (count == length codes)) (awaited r id)) id codes
  arrives_up (p.UnsubAck id) = inr (refl, others_end n r.pending once id is_unsubscribe o.Done 0 unsubscribe_isnt)
  arrives_up p.PingResp = silent Up [] refl nothing refl
  arrives_up (p.Connect clean keep_alive client will user password) = off 0
  arrives_up (p.ConnAck present code) = off 0
  arrives_up (p.Subscribe id asks) = off 0
  arrives_up (p.Unsubscribe id filters) = off 0
  arrives_up p.PingReq = off 0
  arrives_up p.Disconnect = off 0

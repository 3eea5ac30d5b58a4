-- What a row's effects have, of which the notes of an entry need to know.
use Rattle.std.proofs.Common.{◌≡◌, ℕ, zero, suc, ◌<◌, ◌≤◌, Bool, true, false, not, List, [], ◌∷◌, ◌++◌, length, map, Option, Some, None, refl, ap, sym, ◌∙◌, subst, inl, inr, arith}
use Rattle.std.specs.Prelude.{◌==◌, nat_lt, nat_le, if◌then◌else◌, drop, filter}
use Rattle.std.specs.List.{flat_map}
use Rattle.std.proofs.lemmas.Bool.{ltb-true}
use Rattle.std.proofs.lemmas.Bool.Decides.{nat_tests}
use Rattle.std.proofs.lemmas.List.{append_assoc}
use Rattle.topic_filter.specs.Texts.{is_name}
use Rattle.mqtt_packet.specs.Spelling.{is_sound}
use Rattle.mqtt_packet.specs.declared.packet.Packet.{Packet}
use Rattle.mqtt_packet.specs.declared.packet.Packet.TheVariants as p
use Rattle.mqtt_packet.specs.declared.qos.Qos.{Qos}
use Rattle.mqtt_packet.specs.declared.qos.Qos.TheVariants.{AtMostOnce, AtLeastOnce, ExactlyOnce}
use Rattle.mqtt_packet.specs.declared.will.Ask.{Ask}
use Rattle.agent_journal.specs.declared.request.Request.{Request}
use Rattle.agent_journal.specs.declared.request.Request.TheVariants as requests
use Rattle.agent_journal.specs.declared.effect.Effect.{Effect}
use Rattle.agent_journal.specs.declared.effect.Effect.TheVariants as f
use Rattle.agent_journal.specs.declared.message.Message.{Message}
use Rattle.agent_journal.specs.declared.outcome.Outcome.{Outcome}
use Rattle.agent_journal.specs.declared.outcome.Outcome.TheVariants as o
use Rattle.agent_journal.specs.declared.setup.Setup.{Setup}
use Rattle.agent_journal.specs.declared.setup.Phase.{Phase}
use Rattle.agent_journal.specs.declared.setup.Phase.TheVariants.{Down, Opening, Up, Spilled, Off}
use Rattle.agent_journal.specs.Readings.{Pending, sent_id, or_else}
use Rattle.agent_core.proofs.Packets.{sent_append}
use Rattle.agent_journal.specs.Wires.{sends}
use Rattle.agent_table.specs.Arrivals as arrivals
use Rattle.agent_table.specs.Deliveries.{is_among}
use Rattle.agent_table.specs.Effects.{done, cancel_all, close, closed_below, fresh_id, pass, passed_below, is_reached, resume, again_by, renew, subscribes, lose_session, used, is_publish}
use Rattle.agent_table.specs.Identifiers.{fresh}
use Rattle.agent_table.specs.Readings.{Readings}
use Rattle.agent_table.specs.Routes.{Renewal, renewal_in}
use Rattle.agent_table.specs.Rows.{Row, to, when, ends}
use Rattle.agent_table.specs.Sends.{sends_received, is_received}
use Rattle.agent_table.specs.Sizes.{Sizes}
use Rattle.agent_table.specs.Takes as takes
use Rattle.agent_core.specs.Tied.{CanHoldAt, CanHoldBy, CanHoldAs}

-- ---- A request that is sent

-- a subscribe has room for its routes
abbrev pub HasRoom : Sizes → Readings → ℕ → Request → Type 0
HasRoom l r task (requests.Publish qos topic payload) = Unit {0}
HasRoom l r task (requests.Subscribe asks) = nat_le (length (takes.routes_with r task asks)) l.routes ≡ true
HasRoom l r task (requests.Unsubscribe filters) = Unit {0}
HasRoom l r task requests.Ping = Unit {0}
HasRoom l r task requests.Disconnect = Unit {0}
HasRoom l r task requests.Terminate = Unit {0}
HasRoom l r task requests.Leave = Unit {0}

-- what is sent is fresh, and there is room for it
abbrev pub IsSentWell : Phase → Sizes → Readings → ℕ → Request → Option ℕ → Type 0
IsSentWell phase l r task request None = Unit {0}
IsSentWell phase l r task request (Some id) = (phase ≡ Up) × (length r.pending < l.acks) × (id ≡ fresh_id r) × HasRoom l r task request

abbrev pub RowSends : Phase → Sizes → Readings → ℕ → Request → Option Row → Type 0
RowSends phase l r task request None = Unit {0}
RowSends phase l r task request (Some row) = IsSentWell phase l r task request (sent_id row.effects)

-- completions, closings and passes send nothing
pub dones_send : (outcome : Outcome) (commands : List Pending) (rest : List Effect) → sent_id (map (done outcome) commands ++ rest) ≡ sent_id rest
dones_send outcome [] rest = refl
dones_send outcome (command ∷ commands) rest = dones_send outcome commands rest

pub closed_send : (n : ℕ) (left : ℕ → Bool) → sent_id (closed_below n left) ≡ None
closed_send zero left = refl
closed_send (suc n) left = go (closed_below n left) (left n) (closed_send n left)
  where
    one : (b : Bool) → sent_id (if b then [] else f.Closed n ∷ []) ≡ None
    one true = refl
    one false = refl

    go : (front : List Effect) (b : Bool) → sent_id front ≡ None → sent_id (front ++ (if b then [] else f.Closed n ∷ [])) ≡ None
    go front b none = sent_append front (if b then [] else f.Closed n ∷ []) ∙ ap (λ id. or_else id (sent_id (if b then [] else f.Closed n ∷ []))) none ∙ one b

module _ (s : Setup) (l : Sizes) (r : Readings) (task seq : ℕ) where
  none_sent : (request : Request) (phase : Phase) (id : Option ℕ) → id ≡ None → IsSentWell phase l r task request id
  none_sent request phase None e = tt
  none_sent request phase (Some id) e = absurd (cc e)

  delivered_sends : (qos : Qos) (topic payload : List ℕ) → ((id : ℕ) → sent_id (f.Send (p.Publish false qos false topic id payload) ∷ []) ≡ Some id)
      → IsSentWell Up l r task (requests.Publish qos topic payload) (sent_id (takes.delivered l r task seq qos topic payload))
  delivered_sends qos topic payload has = go (takes.is_full l r) refl
    where
      go : (full : Bool) → takes.is_full l r ≡ full → IsSentWell Up l r task (requests.Publish qos topic payload) (sent_id (if full then takes.at_once task seq o.NoRoom else f.Send (p.Publish false qos false topic (fresh_id r) payload) ∷ []))
      go true e = tt
      go false e = subst (λ (id : Option ℕ). IsSentWell Up l r task (requests.Publish qos topic payload) id) (sym (has (fresh_id r))) (refl, grind (arith, nat_tests), refl, tt)

  publish_sends : (qos : Qos) (topic payload : List ℕ) → RowSends Up l r task (requests.Publish qos topic payload) (takes.publish_row l r task seq qos topic payload)
  unfolding takes.publish_row
  publish_sends AtMostOnce topic payload = tt
  publish_sends AtLeastOnce topic payload = delivered_sends AtLeastOnce topic payload (λ id. refl)
  publish_sends ExactlyOnce topic payload = delivered_sends ExactlyOnce topic payload (λ id. refl)

  subscribe_sends : (asks : List Ask) → RowSends Up l r task (requests.Subscribe asks) (takes.subscribe_row l r task seq asks)
  unfolding takes.subscribe_row
  subscribe_sends asks = go (takes.is_full l r) (nat_lt l.routes (length (takes.routes_with r task asks))) refl refl
    where
      go : (full many : Bool) → takes.is_full l r ≡ full → nat_lt l.routes (length (takes.routes_with r task asks)) ≡ many
          → IsSentWell Up l r task (requests.Subscribe asks) (sent_id (if full then takes.at_once task seq o.NoRoom else if many then takes.at_once task seq o.NoRoute else f.Send (p.Subscribe (fresh_id r) asks) ∷ []))
      go true many e1 e2 = tt
      go false true e1 e2 = tt
      go false false e1 e2 = (refl, grind (arith, nat_tests), refl, grind (arith, nat_tests))

  unsubscribe_sends : (own filters : List (List ℕ)) → IsSentWell Up l r task (requests.Unsubscribe filters) (sent_id (takes.unsubscribed l r task seq own))
  unsubscribe_sends [] filters = tt
  unsubscribe_sends (topics ∷ own) filters = go (takes.is_full l r) refl
    where
      go : (full : Bool) → takes.is_full l r ≡ full → IsSentWell Up l r task (requests.Unsubscribe filters) (sent_id (if full then takes.at_once task seq o.NoRoom else f.Send (p.Unsubscribe (fresh_id r) (topics ∷ own)) ∷ []))
      go true e = tt
      go false e = (refl, grind (arith, nat_tests), refl, tt)

  disconnect_sends : (request : Request) → RowSends Up l r task request (takes.disconnect_row s r task seq)
  unfolding takes.disconnect_row
  disconnect_sends request =
      none_sent request Up (sent_id (cancel_all r ++ f.Send p.Disconnect ∷ f.Done task seq o.Done ∷ close s r)) (dones_send o.Cancelled r.pending (f.Send p.Disconnect ∷ f.Done task seq o.Done ∷ close s r) ∙ closed_send s.tasks r.left)

  up_sends : (request : Request) → RowSends Up l r task request (takes.up_row s l r task seq request)
  unfolding takes.unsubscribe_row
  up_sends (requests.Publish qos topic payload) = publish_sends qos topic payload
  up_sends (requests.Subscribe asks) = subscribe_sends asks
  up_sends (requests.Unsubscribe filters) = unsubscribe_sends (takes.own_filters r task filters) filters
  up_sends requests.Ping = tt
  up_sends requests.Disconnect = disconnect_sends requests.Disconnect
  up_sends requests.Terminate = disconnect_sends requests.Terminate
  up_sends requests.Leave = tt

  off_sends : (request : Request) → RowSends Off l r task request (takes.off_row r task seq request)
  off_sends (requests.Publish qos topic payload) = tt
  off_sends (requests.Subscribe asks) = tt
  off_sends (requests.Unsubscribe filters) = tt
  off_sends requests.Ping = tt
  off_sends requests.Disconnect = tt
  off_sends requests.Terminate = tt
  off_sends requests.Leave = tt

  in_sends : (request : Request) (phase : Phase) → RowSends phase l r task request (takes.take_in s l r task seq request phase)
  in_sends request Down = tt
  in_sends request Opening = tt
  in_sends request Up = up_sends request
  in_sends request Spilled = tt
  in_sends request Off = off_sends request

  when_sends : (request : Request) (b : Bool) (row : Option Row) → RowSends r.phase l r task request row → RowSends r.phase l r task request (when b row)
  when_sends request true row h = h
  when_sends request false row h = tt

  pub take_sends : (request : Request) (row : Row) → takes.take_row s l r task seq request ≡ Some row → IsSentWell r.phase l r task request (sent_id row.effects)
  unfolding takes.take_row
  take_sends request row e =
      subst (λ (found : Option Row). RowSends r.phase l r task request found) e (when_sends request (takes.may_take s r task seq request) (takes.take_in s l r task seq request r.phase) (in_sends request r.phase))

-- ---- A QoS 2 PUBLISH that is answered

received_more : (n : ℕ) (front rest : List Effect) → sends_received n front ≡ false → sends_received n (front ++ rest) ≡ sends_received n rest
received_more n [] rest none = refl
received_more n (f.Send packet ∷ front) rest none = go (is_received n packet) refl none (received_more n front rest)
  where
    go : (b : Bool) → is_received n packet ≡ b → sends_received n (f.Send packet ∷ front) ≡ false → (sends_received n front ≡ false → sends_received n (front ++ rest) ≡ sends_received n rest)
        → sends_received n ((f.Send packet ∷ front) ++ rest) ≡ sends_received n rest
    go true e none next = absurd (cc (rw e at none))
    go false e none next = rw e (next (rw e at none))
received_more n (f.Done t q outcome ∷ front) rest none = received_more n front rest none
received_more n (f.Pass t message ∷ front) rest none = received_more n front rest none
received_more n (f.Closed t ∷ front) rest none = received_more n front rest none

passes_receive : (n : ℕ) (r : Readings) (message : Message) (k : ℕ) → sends_received n (passed_below k r message) ≡ false
passes_receive n r message zero = refl
passes_receive n r message (suc k) = received_more n (passed_below k r message) (if is_reached r message.topic k then f.Pass k message ∷ [] else []) (passes_receive n r message k) ∙ one (is_reached r message.topic k)
  where
    one : (b : Bool) → sends_received n (if b then f.Pass k message ∷ [] else []) ≡ false
    one true = refl
    one false = refl

dones_receive : (n : ℕ) (outcome : Outcome) (commands : List Pending) → sends_received n (map (done outcome) commands) ≡ false
dones_receive n outcome [] = refl
dones_receive n outcome (command ∷ commands) = dones_receive n outcome commands

closed_receive : (n k : ℕ) (left : ℕ → Bool) → sends_received n (closed_below k left) ≡ false
closed_receive n zero left = refl
closed_receive n (suc k) left = received_more n (closed_below k left) (if left k then [] else f.Closed k ∷ []) (closed_receive n k left) ∙ one (left k)
  where
    one : (b : Bool) → sends_received n (if b then [] else f.Closed k ∷ []) ≡ false
    one true = refl
    one false = refl

ends_receive : (n : ℕ) (s : Setup) (r : Readings) → sends_received n (cancel_all r ++ close s r) ≡ false
ends_receive n s r = received_more n (cancel_all r) (close s r) (dones_receive n o.Cancelled r.pending) ∙ closed_receive n s.tasks r.left

abbrev pub RowHolds : Packet → Sizes → Readings → Option Row → Type 0
RowHolds packet l r None = Unit {0}
RowHolds packet l r (Some row) = CanHoldBy packet row.effects l.inbound r.held

module _ (s : Setup) (l : Sizes) (r : Readings) where
  never : (n : ℕ) (effects : List Effect) → sends_received n effects ≡ false → CanHoldAt n effects l.inbound r.held
  never n effects none = λ some. absurd (cc (none, some))

  ends_hold : (qos : Qos) (n : ℕ) → CanHoldAs qos n (cancel_all r ++ close s r) l.inbound r.held
  ends_hold AtMostOnce n = tt
  ends_hold AtLeastOnce n = tt
  ends_hold ExactlyOnce n = never n (cancel_all r ++ close s r) (ends_receive n s r)

  received_holds : (dup retain : Bool) (topic : List ℕ) (n : ℕ) (payload : List ℕ) → RowHolds (p.Publish dup ExactlyOnce retain topic n payload) l r (arrivals.received_row s l r topic n payload)
  received_holds dup retain topic n payload = go (is_among r.held n) (nat_lt (length r.held) l.inbound) refl refl
    where
      go : (there few : Bool) → is_among r.held n ≡ there → nat_lt (length r.held) l.inbound ≡ few
          → RowHolds (p.Publish dup ExactlyOnce retain topic n payload) l r (if there then to Up (f.Send (p.PubRec n) ∷ []) else if few then to Up (pass s r ExactlyOnce topic payload ++ f.Send (p.PubRec n) ∷ []) else to Spilled [])
      go true few e1 e2 = λ some. inl e1
      go false true e1 e2 = λ some. inr (ltb-true (length r.held) l.inbound e2)
      go false false e1 e2 = λ some. absurd (cc some)

  message_holds : (dup retain : Bool) (qos : Qos) (topic : List ℕ) (n : ℕ) (payload : List ℕ) → RowHolds (p.Publish dup qos retain topic n payload) l r (arrivals.message_row s l r qos topic n payload)
  message_holds dup retain AtMostOnce topic n payload = tt
  message_holds dup retain AtLeastOnce topic n payload = tt
  message_holds dup retain ExactlyOnce topic n payload = received_holds dup retain topic n payload

  publish_holds : (dup retain : Bool) (qos : Qos) (topic : List ℕ) (n : ℕ) (payload : List ℕ) → RowHolds (p.Publish dup qos retain topic n payload) l r (arrivals.publish_row s l r qos topic n payload)
  unfolding arrivals.publish_row
  publish_holds dup retain qos topic n payload = go (is_name topic) (message_holds dup retain qos topic n payload) (ends_hold qos n)
    where
      go : (b : Bool) → RowHolds (p.Publish dup qos retain topic n payload) l r (arrivals.message_row s l r qos topic n payload) → CanHoldAs qos n (cancel_all r ++ close s r) l.inbound r.held
          → RowHolds (p.Publish dup qos retain topic n payload) l r (if b then arrivals.message_row s l r qos topic n payload else ends s r)
      go true h e = h
      go false h e = e

  any_holds : (packet : Packet) (row : Option Row) → ((dup : Bool) (qos : Qos) (retain : Bool) (topic : List ℕ) (n : ℕ) (payload : List ℕ) → packet ≡ p.Publish dup qos retain topic n payload → RowHolds packet l r row) → RowHolds packet l r row
  any_holds packet None h = tt
  any_holds (p.Connect clean keep_alive client will user password) (Some row) h = tt
  any_holds (p.ConnAck present code) (Some row) h = tt
  any_holds (p.Publish dup qos retain topic n payload) (Some row) h = h dup qos retain topic n payload refl
  any_holds (p.PubAck n) (Some row) h = tt
  any_holds (p.PubRec n) (Some row) h = tt
  any_holds (p.PubRel n) (Some row) h = tt
  any_holds (p.PubComp n) (Some row) h = tt
  any_holds (p.Subscribe n asks) (Some row) h = tt
  any_holds (p.SubAck n codes) (Some row) h = tt
  any_holds (p.Unsubscribe n filters) (Some row) h = tt
  any_holds (p.UnsubAck n) (Some row) h = tt
  any_holds p.PingReq (Some row) h = tt
  any_holds p.PingResp (Some row) h = tt
  any_holds p.Disconnect (Some row) h = tt

  phase_holds : (dup : Bool) (qos : Qos) (retain : Bool) (topic : List ℕ) (n : ℕ) (payload : List ℕ) (phase : Phase) → RowHolds (p.Publish dup qos retain topic n payload) l r (arrivals.arrived_in s l r (p.Publish dup qos retain topic n payload) phase)
  phase_holds dup qos retain topic n payload Down = tt
  phase_holds dup qos retain topic n payload Opening = ends_hold qos n
  phase_holds dup qos retain topic n payload Up = publish_holds dup retain qos topic n payload
  phase_holds dup qos retain topic n payload Spilled = tt
  phase_holds dup qos retain topic n payload Off = tt

  when_holds : (packet : Packet) (b : Bool) (row : Option Row) → RowHolds packet l r row → RowHolds packet l r (when b row)
  when_holds packet true row h = h
  when_holds packet false row h = tt

  publish_row_holds : (dup : Bool) (qos : Qos) (retain : Bool) (topic : List ℕ) (n : ℕ) (payload : List ℕ) → RowHolds (p.Publish dup qos retain topic n payload) l r (arrivals.arrived_row s l r (p.Publish dup qos retain topic n payload))
  unfolding arrivals.arrived_row
  publish_row_holds dup qos retain topic n payload =
      when_holds (p.Publish dup qos retain topic n payload) (is_sound (p.Publish dup qos retain topic n payload)) (arrivals.arrived_in s l r (p.Publish dup qos retain topic n payload) r.phase) (phase_holds dup qos retain topic n payload r.phase)

  pub arrived_holds : (packet : Packet) (row : Row) → arrivals.arrived_row s l r packet ≡ Some row → CanHoldBy packet row.effects l.inbound r.held
  arrived_holds packet row e =
      subst (λ (found : Option Row). RowHolds packet l r found) e
      (any_holds packet (arrivals.arrived_row s l r packet) (λ dup qos retain topic n payload is. subst (λ (q : Packet). RowHolds q l r (arrivals.arrived_row s l r q)) (sym is) (publish_row_holds dup qos retain topic n payload)))

-- ---- How many renewals an accepted CONNACK sends

abbrev renewed : List Effect → List Renewal
renewed effects = flat_map renewal_in (sends effects)

renewed_append : (front rest : List Effect) → renewed (front ++ rest) ≡ renewed front ++ renewed rest
renewed_append [] rest = refl
renewed_append (f.Send packet ∷ front) rest = ap (λ rs. renewal_in packet ++ rs) (renewed_append front rest) ∙ sym (append_assoc (renewal_in packet) (renewed front) (renewed rest))
renewed_append (f.Done t q outcome ∷ front) rest = renewed_append front rest
renewed_append (f.Pass t message ∷ front) rest = renewed_append front rest
renewed_append (f.Closed t ∷ front) rest = renewed_append front rest

dones_renew : (outcome : Outcome) (commands : List Pending) → renewed (map (done outcome) commands) ≡ []
dones_renew outcome [] = refl
dones_renew outcome (command ∷ commands) = dones_renew outcome commands

closed_renew : (k : ℕ) (left : ℕ → Bool) → renewed (closed_below k left) ≡ []
closed_renew zero left = refl
closed_renew (suc k) left = renewed_append (closed_below k left) (if left k then [] else f.Closed k ∷ []) ∙ ap (λ rs. rs ++ renewed (if left k then [] else f.Closed k ∷ [])) (closed_renew k left) ∙ one (left k)
  where
    one : (b : Bool) → renewed (if b then [] else f.Closed k ∷ []) ≡ []
    one true = refl
    one false = refl

releases_renew : (ids : List ℕ) → renewed (map (λ id. f.Send (p.PubRel id)) ids) ≡ []
releases_renew [] = refl
releases_renew (id ∷ ids) = releases_renew ids

again_renew : (id : ℕ) (request : Request) → renewed (again_by id request) ≡ []
again_renew id (requests.Publish qos topic payload) = refl
again_renew id (requests.Subscribe asks) = refl
again_renew id (requests.Unsubscribe filters) = refl
again_renew id requests.Ping = refl
again_renew id requests.Disconnect = refl
again_renew id requests.Terminate = refl
again_renew id requests.Leave = refl

agains_renew : (commands : List Pending) → renewed (flat_map (λ command. again_by command.id command.request) commands) ≡ []
agains_renew [] = refl
agains_renew (command ∷ commands) =
    renewed_append (again_by command.id command.request) (flat_map (λ c. again_by c.id c.request) commands) ∙ ap (λ rs. rs ++ renewed (flat_map (λ c. again_by c.id c.request) commands)) (again_renew command.id command.request) ∙ agains_renew commands

resume_renews : (r : Readings) → renewed (resume r) ≡ []
resume_renews r =
    renewed_append (map (λ id. f.Send (p.PubRel id)) r.released) (flat_map (λ command. again_by command.id command.request) (filter (λ command. not (is_among r.released command.id)) r.pending))
    ∙ ap (λ rs. rs ++ renewed (flat_map (λ command. again_by command.id command.request) (filter (λ command. not (is_among r.released command.id)) r.pending))) (releases_renew r.released)
    ∙ agains_renew (filter (λ command. not (is_among r.released command.id)) r.pending)

subscribes_few : (k last : ℕ) (in_use : List ℕ) (asks : List Ask) → length (renewed (subscribes k last in_use asks)) ≤ k
subscribes_few zero last in_use asks = omega arith
subscribes_few (suc k) last in_use [] = omega arith
subscribes_few (suc k) last in_use (ask ∷ asks) = let rest = subscribes_few k (fresh last in_use) (fresh last in_use ∷ in_use) (drop 8 (ask ∷ asks)) in omega (arith, rest)

abbrev RowRenews : ℕ → Option Row → Type 0
RowRenews most None = Unit {0}
RowRenews most (Some row) = length (renewed row.effects) ≤ most

few_by : (most : ℕ) (effects : List Effect) → renewed effects ≡ [] → length (renewed effects) ≤ most
few_by most effects none = let size : length (renewed effects) ≡ 0 = ap length none in omega (arith, size)

module _ (s : Setup) (l : Sizes) (r : Readings) (most : ℕ) (few_all : length r.renewable ≤ most) (few_unsure : length r.unsure ≤ most) where
  ends_renew : RowRenews most (ends s r)
  ends_renew = few_by most (cancel_all r ++ close s r) (renewed_append (cancel_all r) (close s r) ∙ ap (λ rs. rs ++ renewed (close s r)) (dones_renew o.Cancelled r.pending) ∙ closed_renew s.tasks r.left)

  first_renews : (present : Bool) → RowRenews most (arrivals.first_row s r present)
  first_renews true = few_by most (close s r) (closed_renew s.tasks r.left)
  first_renews false = omega arith

  both_renew : (front : List Effect) (asks : List Ask) → renewed front ≡ [] → length asks ≤ most → length (renewed (front ++ renew r asks)) ≤ most
  both_renew front asks none few =
      let size : length (renewed (front ++ renew r asks)) ≡ length (renewed (renew r asks)) = ap length (renewed_append front (renew r asks) ∙ ap (λ rs. rs ++ renewed (renew r asks)) none) in
      let sent = subscribes_few (length asks) r.last_drawn (used r) asks in
      omega (arith, size, sent, few)

  resumed_renews : (present : Bool) → RowRenews most (arrivals.resumed_row r present)
  resumed_renews true = both_renew (resume r) r.unsure (resume_renews r) few_unsure
  resumed_renews false = both_renew (lose_session r) r.renewable (dones_renew o.SessionLost (filter (λ command. is_publish command.request) r.pending)) few_all

  if_renews : (b : Bool) (one other : Option Row) → RowRenews most one → RowRenews most other → RowRenews most (if b then one else other)
  if_renews true one other h k = h
  if_renews false one other h k = k

  connack_renews : (present : Bool) (code : ℕ) → RowRenews most (arrivals.connack_row s r present code)
  unfolding arrivals.connack_row
  connack_renews present code =
      if_renews (not (code == 0)) (ends s r) (if r.wiping then to Down (f.Send p.Disconnect ∷ []) else if r.first then arrivals.first_row s r present else arrivals.resumed_row r present) ends_renew
      (if_renews r.wiping (to Down (f.Send p.Disconnect ∷ [])) (if r.first then arrivals.first_row s r present else arrivals.resumed_row r present) (omega arith)
      (if_renews r.first (arrivals.first_row s r present) (arrivals.resumed_row r present) (first_renews present) (resumed_renews present)))

  phase_renews : (present : Bool) (code : ℕ) (phase : Phase) → RowRenews most (arrivals.arrived_in s l r (p.ConnAck present code) phase)
  phase_renews present code Down = tt
  phase_renews present code Opening = connack_renews present code
  phase_renews present code Up = ends_renew
  phase_renews present code Spilled = tt
  phase_renews present code Off = tt

  pub connack_few : (present : Bool) (code : ℕ) (row : Row) → arrivals.arrived_row s l r (p.ConnAck present code) ≡ Some row → length (renewed row.effects) ≤ most
  unfolding arrivals.arrived_row
  connack_few present code row e = subst (λ (found : Option Row). RowRenews most found) e (go (is_sound (p.ConnAck present code)) (phase_renews present code r.phase))
    where
      go : (b : Bool) → RowRenews most (arrivals.arrived_in s l r (p.ConnAck present code) r.phase) → RowRenews most (when b (arrivals.arrived_in s l r (p.ConnAck present code) r.phase))
      go true h = h
      go false h = tt

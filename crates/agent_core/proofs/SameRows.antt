-- Rows read the routes only as a set: which others have a filter, how many there are with those asked for, and who is reached.
use Rattle.std.proofs.Common.{◌≡◌, ℕ, zero, suc, Bool, true, false, not, List, [], ◌∷◌, ◌++◌, length, map, Some, refl, ap, sym, ◌∙◌, arith}
use Rattle.std.specs.Prelude.{◌&&◌, ◌||◌, ◌==◌, nat_le, nat_lt, filter, is_some, if◌then◌else◌}
use Rattle.std.specs.List.{list_any}
use Rattle.std.specs.Str.{bytes_eq}
use Rattle.topic_filter.specs.Fitting.{fits}
use Rattle.topic_filter.specs.Texts.{is_name}
use Rattle.mqtt_packet.specs.Spelling.{is_sound}
use Rattle.mqtt_packet.specs.declared.packet.Packet.{Packet}
use Rattle.mqtt_packet.specs.declared.packet.Packet.TheVariants as p
use Rattle.mqtt_packet.specs.declared.qos.Qos.{Qos}
use Rattle.mqtt_packet.specs.declared.qos.Qos.TheVariants.{AtMostOnce, AtLeastOnce, ExactlyOnce}
use Rattle.mqtt_packet.specs.declared.will.Ask.{Ask}
use Rattle.agent_journal.specs.declared.request.Request.{Request}
use Rattle.agent_journal.specs.declared.request.Request.TheVariants as requests
use Rattle.agent_journal.specs.declared.message.Message.{Message}
use Rattle.agent_journal.specs.declared.outcome.Outcome.TheVariants as o
use Rattle.agent_journal.specs.declared.entry.Cause.{Cause}
use Rattle.agent_journal.specs.declared.entry.Cause.TheVariants as c
use Rattle.agent_journal.specs.declared.entry.Why.{Why}
use Rattle.agent_journal.specs.declared.entry.Why.TheVariants as w
use Rattle.agent_journal.specs.declared.effect.Effect.TheVariants as f
use Rattle.agent_journal.specs.declared.setup.Setup.{Setup}
use Rattle.agent_journal.specs.declared.setup.Phase.{Phase}
use Rattle.agent_journal.specs.declared.setup.Phase.TheVariants.{Down, Opening, Up, Spilled, Off}
use Rattle.agent_table.specs.Arrivals as arrivals
use Rattle.agent_table.specs.Breaks as breaks
use Rattle.agent_table.specs.Deliveries.{is_among}
use Rattle.agent_table.specs.Effects.{is_reached, passed_below, pass, fresh_id}
use Rattle.agent_table.specs.Histories.{first_row}
use Rattle.agent_table.specs.Readings.{Readings}
use Rattle.agent_table.specs.Routes.{Route, route, has_route, is_route, with_routes}
use Rattle.agent_table.specs.Rows.{to, when, ends}
use Rattle.agent_table.specs.Sizes.{Sizes}
use Rattle.agent_table.specs.Table.{row_of, cause_row}
use Rattle.agent_table.specs.Takes as takes
use Rattle.subscriptions.specs.Rooms.{each_once}
use Rattle.subscriptions.proofs.Sets.{any_with_all, once_with_all, no_more}

module _ (s : Setup) (l : Sizes) (r : Readings) (rs : List Route) (same : (test : Route → Bool) → list_any test r.routes ≡ list_any test rs) where
  abbrev twin : Readings
  twin = record r { routes = rs }

  -- ---- What is read of routes

  reached_same : (name : List ℕ) (task : ℕ) → is_reached r name task ≡ is_reached twin name task
  reached_same name task = same (λ other. other.task == task && fits other.topics name)

  passed_same : (n : ℕ) (message : Message) → passed_below n r message ≡ passed_below n twin message
  passed_same zero message = refl
  passed_same (suc n) message =
      ap (λ es. es ++ (if is_reached r message.topic n then f.Pass n message ∷ [] else [])) (passed_same n message)
      ∙ ap (λ b. passed_below n twin message ++ (if b then f.Pass n message ∷ [] else [])) (reached_same message.topic n)

  pass_same : (qos : Qos) (topic payload : List ℕ) → pass s r qos topic payload ≡ pass s twin qos topic payload
  pass_same qos topic payload = passed_same s.tasks (record { topic = topic; qos = qos; payload = payload })

  own_same : (task : ℕ) (filters : List (List ℕ)) → takes.own_filters r task filters ≡ takes.own_filters twin task filters
  own_same task filters = λ i. filter (λ topics. not (same (λ other. not (other.task == task) && bytes_eq other.topics topics) i)) filters

  within : (task : ℕ) (asks : List Ask) (x y : Readings) → ((test : Route → Bool) → list_any test x.routes ≡ list_any test y.routes) → (one : Route) → has_route (takes.routes_with x task asks) one ≡ true → has_route (takes.routes_with y task asks) one ≡ true
  within task asks x y all one has =
      let test : Route → Bool = λ other. is_route other one in
      let news : List Route = map (λ (ask : Ask). route task ask.filter) asks in
      any_with_all test (with_routes [] y.routes) news ∙ ap (λ b. b || list_any test news) (any_with_all test [] y.routes ∙ sym (all test) ∙ sym (any_with_all test [] x.routes))
      ∙ sym (any_with_all test (with_routes [] x.routes) news) ∙ has

  each_once_with : (task : ℕ) (asks : List Ask) (x : Readings) → each_once (takes.routes_with x task asks) ≡ true
  each_once_with task asks x = once_with_all (with_routes [] x.routes) (map (λ (ask : Ask). route task ask.filter) asks) (once_with_all [] x.routes refl)

  count_same : (task : ℕ) (asks : List Ask) → length (takes.routes_with r task asks) ≡ length (takes.routes_with twin task asks)
  count_same task asks =
      let most = no_more (takes.routes_with r task asks) (takes.routes_with twin task asks) (each_once_with task asks r) (λ one has. within task asks r twin same one has) in
      let least = no_more (takes.routes_with twin task asks) (takes.routes_with r task asks) (each_once_with task asks twin) (λ one has. within task asks twin r (λ test. sym (same test)) one has) in
      omega (arith, most, least)

  -- ---- Takes

  publish_same : (task seq : ℕ) (qos : Qos) (topic payload : List ℕ) → takes.publish_row l r task seq qos topic payload ≡ takes.publish_row l twin task seq qos topic payload
  unfolding takes.publish_row
  publish_same task seq AtMostOnce topic payload = refl
  publish_same task seq AtLeastOnce topic payload = refl
  publish_same task seq ExactlyOnce topic payload = refl

  subscribe_same : (task seq : ℕ) (asks : List Ask) → takes.subscribe_row l r task seq asks ≡ takes.subscribe_row l twin task seq asks
  unfolding takes.subscribe_row
  subscribe_same task seq asks =
      ap (λ n. to Up (if takes.is_full l r then takes.at_once task seq o.NoRoom else if nat_lt l.routes n then takes.at_once task seq o.NoRoute else f.Send (p.Subscribe (fresh_id r) asks) ∷ [])) (count_same task asks)

  unsubscribed_same : (task seq : ℕ) (filters : List (List ℕ)) → takes.unsubscribed l r task seq filters ≡ takes.unsubscribed l twin task seq filters
  unsubscribed_same task seq [] = refl
  unsubscribed_same task seq (topics ∷ filters) = refl

  unsubscribe_same : (task seq : ℕ) (filters : List (List ℕ)) → takes.unsubscribe_row l r task seq filters ≡ takes.unsubscribe_row l twin task seq filters
  unfolding takes.unsubscribe_row
  unsubscribe_same task seq filters = ap (λ es. to Up es) (ap (takes.unsubscribed l r task seq) (own_same task filters) ∙ unsubscribed_same task seq (takes.own_filters twin task filters))

  disconnect_same : (task seq : ℕ) → takes.disconnect_row s r task seq ≡ takes.disconnect_row s twin task seq
  unfolding takes.disconnect_row
  disconnect_same task seq = refl

  up_same : (task seq : ℕ) (request : Request) → takes.up_row s l r task seq request ≡ takes.up_row s l twin task seq request
  up_same task seq (requests.Publish qos topic payload) = publish_same task seq qos topic payload
  up_same task seq (requests.Subscribe asks) = subscribe_same task seq asks
  up_same task seq (requests.Unsubscribe filters) = unsubscribe_same task seq filters
  up_same task seq requests.Ping = refl
  up_same task seq requests.Disconnect = disconnect_same task seq
  up_same task seq requests.Terminate = disconnect_same task seq
  up_same task seq requests.Leave = refl

  off_same : (task seq : ℕ) (request : Request) → takes.off_row r task seq request ≡ takes.off_row twin task seq request
  off_same task seq (requests.Publish qos topic payload) = refl
  off_same task seq (requests.Subscribe asks) = refl
  off_same task seq (requests.Unsubscribe filters) = refl
  off_same task seq requests.Ping = refl
  off_same task seq requests.Disconnect = refl
  off_same task seq requests.Terminate = refl
  off_same task seq requests.Leave = refl

  taken_same : (task seq : ℕ) (request : Request) (phase : Phase) → takes.take_in s l r task seq request phase ≡ takes.take_in s l twin task seq request phase
  taken_same task seq request Down = refl
  taken_same task seq request Opening = refl
  taken_same task seq request Up = up_same task seq request
  taken_same task seq request Spilled = refl
  taken_same task seq request Off = off_same task seq request

  take_same : (task seq : ℕ) (request : Request) → takes.take_row s l r task seq request ≡ takes.take_row s l twin task seq request
  unfolding takes.take_row takes.may_take
  take_same task seq request = ap (when (takes.may_take s r task seq request)) (taken_same task seq request r.phase)

  -- ---- Packets

  first_same : (present : Bool) → arrivals.first_row s r present ≡ arrivals.first_row s twin present
  first_same true = refl
  first_same false = refl

  resumed_same : (present : Bool) → arrivals.resumed_row r present ≡ arrivals.resumed_row twin present
  resumed_same true = refl
  resumed_same false = refl

  connack_same : (present : Bool) (code : ℕ) → arrivals.connack_row s r present code ≡ arrivals.connack_row s twin present code
  unfolding arrivals.connack_row
  connack_same present code =
      ap (λ x. if not (code == 0) then ends s r else if r.wiping then to Down (f.Send p.Disconnect ∷ []) else if r.first then x else arrivals.resumed_row r present) (first_same present)
      ∙ ap (λ x. if not (code == 0) then ends s r else if r.wiping then to Down (f.Send p.Disconnect ∷ []) else if r.first then arrivals.first_row s twin present else x) (resumed_same present)

  opening_same : (packet : Packet) → arrivals.opening_row s r packet ≡ arrivals.opening_row s twin packet
  opening_same (p.Connect clean keep_alive client will user password) = refl
  opening_same (p.ConnAck present code) = connack_same present code
  opening_same (p.Publish dup qos retain topic id payload) = refl
  opening_same (p.PubAck id) = refl
  opening_same (p.PubRec id) = refl
  opening_same (p.PubRel id) = refl
  opening_same (p.PubComp id) = refl
  opening_same (p.Subscribe id asks) = refl
  opening_same (p.SubAck id codes) = refl
  opening_same (p.Unsubscribe id filters) = refl
  opening_same (p.UnsubAck id) = refl
  opening_same p.PingReq = refl
  opening_same p.PingResp = refl
  opening_same p.Disconnect = refl

  message_same : (qos : Qos) (topic : List ℕ) (id : ℕ) (payload : List ℕ) → arrivals.message_row s l r qos topic id payload ≡ arrivals.message_row s l twin qos topic id payload
  message_same AtMostOnce topic id payload = ap (λ es. to Up es) (pass_same AtMostOnce topic payload)
  message_same AtLeastOnce topic id payload = ap (λ es. to Up (es ++ f.Send (p.PubAck id) ∷ [])) (pass_same AtLeastOnce topic payload)
  message_same ExactlyOnce topic id payload =
      ap (λ es. if is_among r.held id then to Up (f.Send (p.PubRec id) ∷ []) else if nat_lt (length r.held) l.inbound then to Up (es ++ f.Send (p.PubRec id) ∷ []) else to Spilled []) (pass_same ExactlyOnce topic payload)

  hears_same : (packet : Packet) → arrivals.up_row s l r packet ≡ arrivals.up_row s l twin packet
  unfolding arrivals.publish_row arrivals.puback_row arrivals.pubrec_row arrivals.pubcomp_row arrivals.suback_row arrivals.unsuback_row
  hears_same (p.Connect clean keep_alive client will user password) = refl
  hears_same (p.ConnAck present code) = refl
  hears_same (p.Publish dup qos retain topic id payload) = ap (λ x. if is_name topic then x else ends s r) (message_same qos topic id payload)
  hears_same (p.PubAck id) = refl
  hears_same (p.PubRec id) = refl
  hears_same (p.PubRel id) = refl
  hears_same (p.PubComp id) = refl
  hears_same (p.Subscribe id asks) = refl
  hears_same (p.SubAck id codes) = refl
  hears_same (p.Unsubscribe id filters) = refl
  hears_same (p.UnsubAck id) = refl
  hears_same p.PingReq = refl
  hears_same p.PingResp = refl
  hears_same p.Disconnect = refl

  arrived_same : (packet : Packet) (phase : Phase) → arrivals.arrived_in s l r packet phase ≡ arrivals.arrived_in s l twin packet phase
  arrived_same packet Down = refl
  arrived_same packet Opening = opening_same packet
  arrived_same packet Up = hears_same packet
  arrived_same packet Spilled = refl
  arrived_same packet Off = refl

  packet_same : (packet : Packet) → arrivals.arrived_row s l r packet ≡ arrivals.arrived_row s l twin packet
  unfolding arrivals.arrived_row
  packet_same packet = ap (when (is_sound packet)) (arrived_same packet r.phase)

  -- ---- Connections and times

  opened_same : (phase : Phase) → breaks.opened_row s r phase ≡ breaks.opened_row s twin phase
  unfolding breaks.opened_row
  opened_same Down = refl
  opened_same Opening = refl
  opened_same Up = refl
  opened_same Spilled = refl
  opened_same Off = refl

  fault_same : (phase : Phase) → breaks.fault_row s r phase ≡ breaks.fault_row s twin phase
  unfolding breaks.fault_row
  fault_same Down = refl
  fault_same Opening = refl
  fault_same Up = refl
  fault_same Spilled = refl
  fault_same Off = refl

  end_same : (phase : Phase) → breaks.end_row r phase ≡ breaks.end_row twin phase
  unfolding breaks.end_row
  end_same Down = refl
  end_same Opening = refl
  end_same Up = refl
  end_same Spilled = refl
  end_same Off = refl

  idle_same : (phase : Phase) → breaks.idle_row r phase ≡ breaks.idle_row twin phase
  unfolding breaks.idle_row
  idle_same Down = refl
  idle_same Opening = refl
  idle_same Up = refl
  idle_same Spilled = refl
  idle_same Off = refl

  bytes_same : (phase : Phase) → breaks.bytes_row s r phase ≡ breaks.bytes_row s twin phase
  unfolding breaks.bytes_row
  bytes_same Down = refl
  bytes_same Opening = refl
  bytes_same Up = refl
  bytes_same Spilled = refl
  bytes_same Off = refl

  keep_alive_same : (at : ℕ) (phase : Phase) → breaks.keep_alive_row r at phase ≡ breaks.keep_alive_row twin at phase
  unfolding breaks.keep_alive_row
  keep_alive_same at Down = refl
  keep_alive_same at Opening = refl
  keep_alive_same at Up = refl
  keep_alive_same at Spilled = refl
  keep_alive_same at Off = refl

  in_full_same : (phase : Phase) → breaks.in_full_row r phase ≡ breaks.in_full_row twin phase
  unfolding breaks.in_full_row
  in_full_same Down = refl
  in_full_same Opening = refl
  in_full_same Up = refl
  in_full_same Spilled = refl
  in_full_same Off = refl

  broke_same : (at : ℕ) (why : Why) → breaks.broke_row s r at why ≡ breaks.broke_row s twin at why
  broke_same at w.Fault = fault_same r.phase
  broke_same at w.End = end_same r.phase
  broke_same at w.Idle = idle_same r.phase
  broke_same at (w.Bad offset) = bytes_same r.phase
  broke_same at (w.TooLong size) = bytes_same r.phase
  broke_same at w.KeepAlive = keep_alive_same at r.phase
  broke_same at w.InFull = in_full_same r.phase

  tick_same : (at : ℕ) (phase : Phase) → breaks.tick_row s r at phase ≡ breaks.tick_row s twin at phase
  unfolding breaks.tick_row
  tick_same at Down = refl
  tick_same at Opening = refl
  tick_same at Up = refl
  tick_same at Spilled = refl
  tick_same at Off = refl

  gave_up_same : (phase : Phase) → breaks.gave_up_row s r phase ≡ breaks.gave_up_row s twin phase
  unfolding breaks.gave_up_row
  gave_up_same Down = refl
  gave_up_same Opening = refl
  gave_up_same Up = refl
  gave_up_same Spilled = refl
  gave_up_same Off = refl

  finish_same : (phase : Phase) → breaks.finish_row s r phase ≡ breaks.finish_row s twin phase
  unfolding breaks.finish_row
  finish_same Down = refl
  finish_same Opening = refl
  finish_same Up = refl
  finish_same Spilled = refl
  finish_same Off = refl

  cause_same : (at : ℕ) (cause : Cause) → cause_row s l r at cause ≡ cause_row s l twin at cause
  cause_same at c.Opened = opened_same r.phase
  cause_same at (c.Take task seq request) = take_same task seq request
  cause_same at (c.Arrived packet) = packet_same packet
  cause_same at (c.Broke why) = broke_same at why
  cause_same at c.Tick = tick_same at r.phase
  cause_same at c.GaveUp = gave_up_same r.phase
  cause_same at c.Finish = finish_same r.phase

  pub row_same : (at : ℕ) (cause : Cause) → row_of s l r at cause ≡ row_of s l twin at cause
  unfolding row_of
  row_same at cause = ap (when (nat_le r.last_time at)) (cause_same at cause)

  pub due_same : (at : ℕ) (causes : List Cause) → first_row s l r at causes ≡ first_row s l twin at causes
  due_same at [] = refl
  due_same at (cause ∷ causes) =
      ap (λ x. if is_some x then Some cause else first_row s l r at causes) (row_same at cause)
      ∙ ap (λ x. if is_some (row_of s l twin at cause) then Some cause else x) (due_same at causes)

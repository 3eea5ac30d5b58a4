-- What a row completes: open commands, each at most once, and the command that is taken.
use Rattle.std.proofs.Common.{ℕ, zero, suc, ◌+◌, ◌≤◌, Bool, true, false, cond, List, [], ◌∷◌, ◌++◌, map, take, drop, filter, Option, Some, None, arith}
use Rattle.std.specs.Prelude.{◌&&◌, ◌==◌, not, nat_lt, length}
use Rattle.std.specs.List.{list_any, flat_map}
use Rattle.mqtt_packet.specs.declared.qos.Qos.{Qos}
use Rattle.mqtt_packet.specs.declared.qos.Qos.TheVariants.{AtMostOnce, AtLeastOnce, ExactlyOnce}
use Rattle.mqtt_packet.specs.declared.packet.Packet.{Packet}
use Rattle.mqtt_packet.specs.declared.packet.Packet.TheVariants as p
use Rattle.mqtt_packet.specs.declared.will.Ask.{Ask}
use Rattle.mqtt_packet.specs.Spelling.{is_sound}
use Rattle.topic_filter.specs.Texts.{is_name}
use Rattle.agent_journal.specs.declared.request.Request.{Request}
use Rattle.agent_journal.specs.declared.request.Request.TheVariants as requests
use Rattle.agent_journal.specs.declared.message.Message.{Message}
use Rattle.agent_journal.specs.declared.outcome.Outcome.{Outcome}
use Rattle.agent_journal.specs.declared.outcome.Outcome.TheVariants as o
use Rattle.agent_journal.specs.declared.entry.Cause.{Cause}
use Rattle.agent_journal.specs.declared.entry.Cause.TheVariants as c
use Rattle.agent_journal.specs.declared.entry.Why.{Why}
use Rattle.agent_journal.specs.declared.entry.Why.TheVariants as w
use Rattle.agent_journal.specs.declared.effect.Effect.{Effect}
use Rattle.agent_journal.specs.declared.effect.Effect.TheVariants as f
use Rattle.agent_journal.specs.declared.setup.Setup.{Setup}
use Rattle.agent_journal.specs.declared.setup.Phase.{Phase}
use Rattle.agent_journal.specs.declared.setup.Phase.TheVariants.{Down, Opening, Up, Spilled, Off}
use Rattle.agent_journal.specs.Readings.{Pending, completes}
use Rattle.agent_table.proofs.Commands.{answered_in, answered_by}
use Rattle.agent_table.specs.Arrivals.{arrived_row, arrived_in, opening_row, up_row, connack_row, first_row, resumed_row, publish_row, message_row, puback_row, pubrec_row, pubcomp_row, suback_row, unsuback_row, awaited}
use Rattle.agent_table.specs.Breaks.{opened_row, broke_row, fault_row, end_row, idle_row, bytes_row, keep_alive_row, in_full_row, gave_up_row, tick_row, finish_row, down}
use Rattle.agent_table.specs.Deliveries.{is_among, is_open_publish, is_exactly_once}
use Rattle.agent_table.specs.Effects.{done, cancel_all, close, closed_below, lose_session, resume, again_by, renew, subscribes, pass, passed_below, is_reached, used}
use Rattle.agent_table.specs.Identifiers.{fresh}
use Rattle.agent_table.specs.Readings.{Readings}
use Rattle.agent_table.specs.Rows.{Row, to, when, ends}
use Rattle.agent_table.specs.Sizes.{Sizes}
use Rattle.agent_table.specs.Table.{row_of, cause_row}
use Rattle.agent_table.specs.Takes as takes
use Rattle.agent_table.proofs.Counts.{opened, dones, count_append, count_more, all_dones, fewer}

module _ (t q : ℕ) where
  -- at most so many completions of command q of task t
  abbrev pub AtMost : ℕ → List Effect → Type 0
  AtMost n effects = dones t q effects ≤ n

  both_most : (n m : ℕ) (xs ys : List Effect) → AtMost n xs → AtMost m ys → AtMost (n + m) (xs ++ ys)
  both_most n m xs ys h k = let sum = count_append (completes t q) xs ys in omega (arith, sum, h, k)

  then_none : (n : ℕ) (xs ys : List Effect) → AtMost n xs → AtMost 0 ys → AtMost n (xs ++ ys)
  then_none n xs ys h k = let sum = count_append (completes t q) xs ys in omega (arith, sum, h, k)

  sends_none : (packet : Packet) (ys : List Effect) → AtMost 0 ys → AtMost 0 (f.Send packet ∷ ys)
  sends_none packet ys h = let sum = count_more (completes t q) (f.Send packet) ys in omega (arith, sum, h)

  one_closed : (gone : Bool) (n : ℕ) → AtMost 0 (cond gone [] (f.Closed n ∷ []))
  one_closed true n = omega arith
  one_closed false n = omega arith

  pub none_closed : (n : ℕ) (left : ℕ → Bool) → AtMost 0 (closed_below n left)
  none_closed zero left = omega arith
  none_closed (suc n) left = then_none 0 (closed_below n left) _ (none_closed n left) (one_closed (left n) n)

  one_passed : (reached : Bool) (n : ℕ) (message : Message) → AtMost 0 (cond reached (f.Pass n message ∷ []) [])
  one_passed true n message = omega arith
  one_passed false n message = omega arith

  pub none_passed : (n : ℕ) (r : Readings) (message : Message) → AtMost 0 (passed_below n r message)
  none_passed zero r message = omega arith
  none_passed (suc n) r message = then_none 0 (passed_below n r message) _ (none_passed n r message) (one_passed (is_reached r message.topic n) n message)

  none_released : (ids : List ℕ) → AtMost 0 (map (λ id. f.Send (p.PubRel id)) ids)
  none_released [] = omega arith
  none_released (id ∷ ids) = sends_none (p.PubRel id) (map (λ n. f.Send (p.PubRel n)) ids) (none_released ids)

  one_again : (id : ℕ) (request : Request) → AtMost 0 (again_by id request)
  one_again id (requests.Publish qos topic payload) = omega arith
  one_again id (requests.Subscribe asks) = omega arith
  one_again id (requests.Unsubscribe filters) = omega arith
  one_again id requests.Ping = omega arith
  one_again id requests.Disconnect = omega arith
  one_again id requests.Terminate = omega arith
  one_again id requests.Leave = omega arith

  none_again : (commands : List Pending) → AtMost 0 (flat_map (λ command. again_by command.id command.request) commands)
  none_again [] = omega arith
  none_again (command ∷ commands) = then_none 0 (again_by command.id command.request) _ (one_again command.id command.request) (none_again commands)

  none_subscribed : (k last : ℕ) (in_use : List ℕ) (asks : List Ask) → AtMost 0 (subscribes k last in_use asks)
  none_subscribed zero last in_use asks = omega arith
  none_subscribed (suc k) last in_use [] = omega arith
  none_subscribed (suc k) last in_use (ask ∷ asks) = sends_none (p.Subscribe (fresh last in_use) (take 8 (ask ∷ asks))) (subscribes k (fresh last in_use) (fresh last in_use ∷ in_use) (drop 8 (ask ∷ asks))) (none_subscribed k (fresh last in_use) (fresh last in_use ∷ in_use) (drop 8 (ask ∷ asks)))

  -- these commands are open ones
  done_open : (outcome : Outcome) (commands : List Pending) (all : ℕ) → opened t q commands ≤ all → AtMost all (map (done outcome) commands)
  done_open outcome commands all h = let same = all_dones t q outcome commands in omega (arith, same, h)

  part_open : (outcome : Outcome) (keeps : Pending → Bool) (commands : List Pending) → AtMost (opened t q commands) (map (done outcome) (filter keeps commands))
  part_open outcome keeps commands = done_open outcome (filter keeps commands) (opened t q commands) (fewer t q keeps commands)

  part_of_part : (outcome : Outcome) (also keeps : Pending → Bool) (commands : List Pending) → AtMost (opened t q commands) (map (done outcome) (filter also (filter keeps commands)))
  part_of_part outcome also keeps commands =
      let a = fewer t q also (filter keeps commands) in let b = fewer t q keeps commands in
      done_open outcome (filter also (filter keeps commands)) (opened t q commands) (omega (arith, a, b))

  all_open : (outcome : Outcome) (commands : List Pending) → AtMost (opened t q commands) (map (done outcome) commands)
  all_open outcome commands = done_open outcome commands (opened t q commands) (omega arith)

  none_most : (n : ℕ) (effects : List Effect) → AtMost 0 effects → AtMost n effects
  none_most n effects h = omega (arith, h)

  -- a row that completes no more than this
  abbrev pub Within : ℕ → Option Row → Type 0
  Within n None = Unit {0}
  Within n (Some row) = AtMost n row.effects

  within_when : (n : ℕ) (b : Bool) (row : Option Row) → Within n row → Within n (when b row)
  within_when n true row h = h
  within_when n false row h = tt

  within_if : (n : ℕ) (b : Bool) (x y : Option Row) → Within n x → Within n y → Within n (cond b x y)
  within_if n true x y h k = h
  within_if n false x y h k = k

  pub most_if : (n : ℕ) (b : Bool) (x y : List Effect) → AtMost n x → AtMost n y → AtMost n (cond b x y)
  most_if n true x y h k = h
  most_if n false x y h k = k

  within_ends : (s : Setup) (r : Readings) → Within (opened t q r.pending) (ends s r)
  within_ends s r = then_none (opened t q r.pending) (cancel_all r) (close s r) (all_open o.Cancelled r.pending) (none_closed s.tasks r.left)

  pub none_renewed : (r : Readings) (asks : List Ask) → AtMost 0 (renew r asks)
  none_renewed r asks = none_subscribed (length asks) r.last_drawn (used r) asks

  pub none_resumed : (r : Readings) → AtMost 0 (resume r)
  none_resumed r =
      let rest = filter (λ command. not (is_among r.released command.id)) r.pending in
      then_none 0 (map (λ id. f.Send (p.PubRel id)) r.released) (flat_map (λ command. again_by command.id command.request) rest) (none_released r.released) (none_again rest)

  within_first : (s : Setup) (r : Readings) (present : Bool) → Within (opened t q r.pending) (first_row s r present)
  within_first s r false = omega arith
  within_first s r true = none_most (opened t q r.pending) (close s r) (none_closed s.tasks r.left)

  within_resumed : (r : Readings) (present : Bool) → Within (opened t q r.pending) (resumed_row r present)
  within_resumed r true =
      none_most (opened t q r.pending) (resume r ++ renew r r.unsure)
      (then_none 0 (resume r) (renew r r.unsure) (none_resumed r) (none_renewed r r.unsure))
  within_resumed r false = then_none (opened t q r.pending) (lose_session r) _ (part_open o.SessionLost _ r.pending) (none_renewed r r.renewable)

  within_connack : (s : Setup) (r : Readings) (present : Bool) (code : ℕ) → Within (opened t q r.pending) (connack_row s r present code)
  unfolding connack_row
  within_connack s r present code =
      let n = opened t q r.pending in
      within_if n (not (code == 0)) (ends s r) _ (within_ends s r)
      (within_if n r.wiping (to Down (f.Send p.Disconnect ∷ [])) _ (omega arith)
      (within_if n r.first (first_row s r present) (resumed_row r present) (within_first s r present) (within_resumed r present)))

  within_opening : (s : Setup) (r : Readings) (packet : Packet) → Within (opened t q r.pending) (opening_row s r packet)
  within_opening s r (p.Connect clean keep_alive client will user password) = within_ends s r
  within_opening s r (p.ConnAck present code) = within_connack s r present code
  within_opening s r (p.Publish dup qos retain topic id payload) = within_ends s r
  within_opening s r (p.PubAck id) = within_ends s r
  within_opening s r (p.PubRec id) = within_ends s r
  within_opening s r (p.PubRel id) = within_ends s r
  within_opening s r (p.PubComp id) = within_ends s r
  within_opening s r (p.Subscribe id asks) = within_ends s r
  within_opening s r (p.SubAck id codes) = within_ends s r
  within_opening s r (p.Unsubscribe id filters) = within_ends s r
  within_opening s r (p.UnsubAck id) = within_ends s r
  within_opening s r p.PingReq = within_ends s r
  within_opening s r p.PingResp = within_ends s r
  within_opening s r p.Disconnect = within_ends s r

  pub answered_pass : (s : Setup) (r : Readings) (qos : Qos) (topic payload : List ℕ) (packet : Packet) (n : ℕ) → AtMost n (pass s r qos topic payload ++ f.Send packet ∷ [])
  answered_pass s r qos topic payload packet n = none_most n (pass s r qos topic payload ++ f.Send packet ∷ []) (then_none 0 (pass s r qos topic payload) (f.Send packet ∷ []) (none_passed s.tasks r (record { topic = topic; qos = qos; payload = payload })) (omega arith))

  within_message : (s : Setup) (l : Sizes) (r : Readings) (qos : Qos) (topic : List ℕ) (id : ℕ) (payload : List ℕ) → Within (opened t q r.pending) (message_row s l r qos topic id payload)
  within_message s l r AtMostOnce topic id payload = none_most (opened t q r.pending) (pass s r AtMostOnce topic payload) (none_passed s.tasks r (record { topic = topic; qos = AtMostOnce; payload = payload }))
  within_message s l r AtLeastOnce topic id payload = answered_pass s r AtLeastOnce topic payload (p.PubAck id) (opened t q r.pending)
  within_message s l r ExactlyOnce topic id payload =
      let n = opened t q r.pending in
      within_if n (is_among r.held id) (to Up (f.Send (p.PubRec id) ∷ [])) _ (omega arith)
      (within_if n (nat_lt (length r.held) l.inbound) _ (to Spilled []) (answered_pass s r ExactlyOnce topic payload (p.PubRec id) n) (omega arith))

  within_publish : (s : Setup) (l : Sizes) (r : Readings) (qos : Qos) (topic : List ℕ) (id : ℕ) (payload : List ℕ) → Within (opened t q r.pending) (publish_row s l r qos topic id payload)
  unfolding publish_row
  within_publish s l r qos topic id payload = within_if (opened t q r.pending) (is_name topic) (message_row s l r qos topic id payload) (ends s r) (within_message s l r qos topic id payload) (within_ends s r)

  within_up : (s : Setup) (l : Sizes) (r : Readings) (packet : Packet) → Within (opened t q r.pending) (up_row s l r packet)
  unfolding puback_row pubrec_row pubcomp_row suback_row unsuback_row
  within_up s l r (p.Connect clean keep_alive client will user password) = within_ends s r
  within_up s l r (p.ConnAck present code) = within_ends s r
  within_up s l r (p.Publish dup qos retain topic id payload) = within_publish s l r qos topic id payload
  within_up s l r (p.PubAck id) = part_of_part o.Done _ _ r.pending
  within_up s l r (p.PubRec id) = most_if (opened t q r.pending) (is_open_publish is_exactly_once r.pending id) _ [] (omega arith) (omega arith)
  within_up s l r (p.PubRel id) = omega arith
  within_up s l r (p.PubComp id) = most_if (opened t q r.pending) (is_among r.released id) _ [] (part_of_part o.Done _ _ r.pending) (omega arith)
  within_up s l r (p.Subscribe id asks) = within_ends s r
  within_up s l r (p.SubAck id codes) =
      within_if (opened t q r.pending) (list_any (λ count. not (count == length codes)) (awaited r id)) (ends s r) _ (within_ends s r) (part_of_part (o.Granted codes) _ _ r.pending)
  within_up s l r (p.Unsubscribe id filters) = within_ends s r
  within_up s l r (p.UnsubAck id) = part_of_part o.Done _ _ r.pending
  within_up s l r p.PingReq = within_ends s r
  within_up s l r p.PingResp = omega arith
  within_up s l r p.Disconnect = within_ends s r

  within_arrived : (s : Setup) (l : Sizes) (r : Readings) (packet : Packet) (phase : Phase) → Within (opened t q r.pending) (arrived_in s l r packet phase)
  within_arrived s l r packet Down = tt
  within_arrived s l r packet Opening = within_opening s r packet
  within_arrived s l r packet Up = within_up s l r packet
  within_arrived s l r packet Spilled = tt
  within_arrived s l r packet Off = tt

  within_down : (r : Readings) → Within (opened t q r.pending) (down r)
  within_down r = part_open o.LinkLost _ r.pending

  within_fault : (s : Setup) (r : Readings) (phase : Phase) → Within (opened t q r.pending) (fault_row s r phase)
  unfolding fault_row
  within_fault s r Down = within_when (opened t q r.pending) _ (to Down []) (omega arith)
  within_fault s r Opening = within_down r
  within_fault s r Up = within_down r
  within_fault s r Spilled = within_down r
  within_fault s r Off = within_when (opened t q r.pending) _ (to Off []) (omega arith)

  within_end : (r : Readings) (phase : Phase) → Within (opened t q r.pending) (end_row r phase)
  unfolding end_row
  within_end r Down = tt
  within_end r Opening = within_down r
  within_end r Up = within_down r
  within_end r Spilled = tt
  within_end r Off = tt

  within_idle : (r : Readings) (phase : Phase) → Within (opened t q r.pending) (idle_row r phase)
  unfolding idle_row
  within_idle r Down = tt
  within_idle r Opening = within_down r
  within_idle r Up = within_when (opened t q r.pending) _ (down r) (within_down r)
  within_idle r Spilled = tt
  within_idle r Off = tt

  within_bytes : (s : Setup) (r : Readings) (phase : Phase) → Within (opened t q r.pending) (bytes_row s r phase)
  unfolding bytes_row
  within_bytes s r Down = tt
  within_bytes s r Opening = within_ends s r
  within_bytes s r Up = within_ends s r
  within_bytes s r Spilled = tt
  within_bytes s r Off = tt

  within_keep_alive : (r : Readings) (time : ℕ) (phase : Phase) → Within (opened t q r.pending) (keep_alive_row r time phase)
  unfolding keep_alive_row
  within_keep_alive r time Down = tt
  within_keep_alive r time Opening = tt
  within_keep_alive r time Up = within_when (opened t q r.pending) _ (down r) (within_down r)
  within_keep_alive r time Spilled = tt
  within_keep_alive r time Off = tt

  within_in_full : (r : Readings) (phase : Phase) → Within (opened t q r.pending) (in_full_row r phase)
  unfolding in_full_row
  within_in_full r Down = tt
  within_in_full r Opening = tt
  within_in_full r Up = tt
  within_in_full r Spilled = within_down r
  within_in_full r Off = tt

  within_broke : (s : Setup) (r : Readings) (time : ℕ) (why : Why) → Within (opened t q r.pending) (broke_row s r time why)
  within_broke s r time w.Fault = within_fault s r r.phase
  within_broke s r time w.End = within_end r r.phase
  within_broke s r time w.Idle = within_idle r r.phase
  within_broke s r time (w.Bad offset) = within_bytes s r r.phase
  within_broke s r time (w.TooLong size) = within_bytes s r r.phase
  within_broke s r time w.KeepAlive = within_keep_alive r time r.phase
  within_broke s r time w.InFull = within_in_full r r.phase

  within_opened : (s : Setup) (r : Readings) (n : ℕ) (phase : Phase) → Within n (opened_row s r phase)
  unfolding opened_row
  within_opened s r n Down = within_when n _ (to Opening _) (omega arith)
  within_opened s r n Opening = tt
  within_opened s r n Up = tt
  within_opened s r n Spilled = tt
  within_opened s r n Off = tt

  within_gave_up : (s : Setup) (r : Readings) (phase : Phase) → Within (opened t q r.pending) (gave_up_row s r phase)
  unfolding gave_up_row
  within_gave_up s r Down = within_when (opened t q r.pending) _ (ends s r) (within_ends s r)
  within_gave_up s r Opening = tt
  within_gave_up s r Up = tt
  within_gave_up s r Spilled = tt
  within_gave_up s r Off = tt

  within_tick : (s : Setup) (r : Readings) (time n : ℕ) (phase : Phase) → Within n (tick_row s r time phase)
  unfolding tick_row
  within_tick s r time n Down = tt
  within_tick s r time n Opening = tt
  within_tick s r time n Up = within_when n _ (to Up _) (omega arith)
  within_tick s r time n Spilled = tt
  within_tick s r time n Off = tt

  within_finish : (s : Setup) (r : Readings) (n : ℕ) (phase : Phase) → Within n (finish_row s r phase)
  unfolding finish_row
  within_finish s r n Down = tt
  within_finish s r n Opening = tt
  within_finish s r n Up = within_when n _ (to Off _) (omega arith)
  within_finish s r n Spilled = tt
  within_finish s r n Off = tt

  -- ---- Takes

  -- the command that is taken
  abbrev pub own : ℕ → ℕ → ℕ
  own task seq = cond ((task == t) && (seq == q)) 1 0

  pub one_done : (task seq : ℕ) (outcome : Outcome) → AtMost (own task seq) (f.Done task seq outcome ∷ [])
  one_done task seq outcome = let one = count_more (completes t q) (f.Done task seq outcome) [] in omega (arith, one)

  pub sent_done : (task seq : ℕ) (packet : Packet) (outcome : Outcome) → AtMost (own task seq) (f.Send packet ∷ f.Done task seq outcome ∷ [])
  sent_done task seq packet outcome =
      let first = count_more (completes t q) (f.Send packet) (f.Done task seq outcome ∷ []) in let one = one_done task seq outcome in omega (arith, first, one)

  pub within_delivered : (l : Sizes) (r : Readings) (task seq : ℕ) (qos : Qos) (topic payload : List ℕ) → AtMost (own task seq) (takes.delivered l r task seq qos topic payload)
  within_delivered l r task seq qos topic payload = most_if (own task seq) (takes.is_full l r) (takes.at_once task seq o.NoRoom) _ (one_done task seq o.NoRoom) (omega arith)

  pub within_request : (l : Sizes) (r : Readings) (task seq : ℕ) (qos : Qos) (topic payload : List ℕ) → Within (own task seq) (takes.publish_row l r task seq qos topic payload)
  unfolding takes.publish_row
  within_request l r task seq AtMostOnce topic payload = sent_done task seq (p.Publish false AtMostOnce false topic 0 payload) o.Done
  within_request l r task seq AtLeastOnce topic payload = within_delivered l r task seq AtLeastOnce topic payload
  within_request l r task seq ExactlyOnce topic payload = within_delivered l r task seq ExactlyOnce topic payload

  pub within_unsubscribed : (l : Sizes) (r : Readings) (task seq : ℕ) (filters : List (List ℕ)) → AtMost (own task seq) (takes.unsubscribed l r task seq filters)
  within_unsubscribed l r task seq [] = one_done task seq o.Done
  within_unsubscribed l r task seq (topics ∷ filters) = most_if (own task seq) (takes.is_full l r) (takes.at_once task seq o.NoRoom) _ (one_done task seq o.NoRoom) (omega arith)

  within_disconnect : (s : Setup) (r : Readings) (task seq : ℕ) → Within (opened t q r.pending + own task seq) (takes.disconnect_row s r task seq)
  unfolding takes.disconnect_row
  within_disconnect s r task seq =
      let rest : AtMost (own task seq) (f.Send p.Disconnect ∷ f.Done task seq o.Done ∷ close s r) = then_none (own task seq) (f.Send p.Disconnect ∷ f.Done task seq o.Done ∷ []) (close s r) (sent_done task seq p.Disconnect o.Done) (none_closed s.tasks r.left) in
      both_most (opened t q r.pending) (own task seq) (cancel_all r) _ (all_open o.Cancelled r.pending) rest

  more : (n m : ℕ) (row : Option Row) → Within m row → Within (n + m) row
  more n m None h = tt
  more n m (Some row) h = omega (arith, h)

  within_take_up : (s : Setup) (l : Sizes) (r : Readings) (task seq : ℕ) (request : Request) → Within (opened t q r.pending + answered_in t q task seq request) (takes.up_row s l r task seq request)
  unfolding takes.subscribe_row takes.unsubscribe_row
  within_take_up s l r task seq (requests.Publish qos topic payload) = more (opened t q r.pending) (own task seq) (takes.up_row s l r task seq (requests.Publish qos topic payload)) (within_request l r task seq qos topic payload)
  within_take_up s l r task seq (requests.Subscribe asks) =
      more (opened t q r.pending) (own task seq) (takes.up_row s l r task seq (requests.Subscribe asks))
      (most_if (own task seq) (takes.is_full l r) (takes.at_once task seq o.NoRoom) _ (one_done task seq o.NoRoom)
      (most_if (own task seq) (nat_lt l.routes (length (takes.routes_with r task asks))) (takes.at_once task seq o.NoRoute) _ (one_done task seq o.NoRoute) (omega arith)))
  within_take_up s l r task seq (requests.Unsubscribe filters) = more (opened t q r.pending) (own task seq) (takes.up_row s l r task seq (requests.Unsubscribe filters)) (within_unsubscribed l r task seq (takes.own_filters r task filters))
  within_take_up s l r task seq requests.Ping = more (opened t q r.pending) (own task seq) (takes.up_row s l r task seq requests.Ping) (sent_done task seq p.PingReq o.Done)
  within_take_up s l r task seq requests.Disconnect = within_disconnect s r task seq
  within_take_up s l r task seq requests.Terminate = within_disconnect s r task seq
  within_take_up s l r task seq requests.Leave = omega arith

  within_take_off : (r : Readings) (task seq : ℕ) (request : Request) → Within (opened t q r.pending + answered_in t q task seq request) (takes.off_row r task seq request)
  within_take_off r task seq (requests.Publish qos topic payload) = more (opened t q r.pending) (own task seq) (takes.off_row r task seq (requests.Publish qos topic payload)) (one_done task seq (takes.refusal r))
  within_take_off r task seq (requests.Subscribe asks) = more (opened t q r.pending) (own task seq) (takes.off_row r task seq (requests.Subscribe asks)) (one_done task seq (takes.refusal r))
  within_take_off r task seq (requests.Unsubscribe filters) = more (opened t q r.pending) (own task seq) (takes.off_row r task seq (requests.Unsubscribe filters)) (one_done task seq (takes.refusal r))
  within_take_off r task seq requests.Ping = more (opened t q r.pending) (own task seq) (takes.off_row r task seq requests.Ping) (one_done task seq (takes.refusal r))
  within_take_off r task seq requests.Disconnect = more (opened t q r.pending) (own task seq) (takes.off_row r task seq requests.Disconnect) (one_done task seq (takes.refusal r))
  within_take_off r task seq requests.Terminate = more (opened t q r.pending) (own task seq) (takes.off_row r task seq requests.Terminate) (one_done task seq o.Done)
  within_take_off r task seq requests.Leave = omega arith

  within_take : (s : Setup) (l : Sizes) (r : Readings) (task seq : ℕ) (request : Request) (phase : Phase) → Within (opened t q r.pending + answered_in t q task seq request) (takes.take_in s l r task seq request phase)
  within_take s l r task seq request Down = tt
  within_take s l r task seq request Opening = tt
  within_take s l r task seq request Up = within_take_up s l r task seq request
  within_take s l r task seq request Spilled = tt
  within_take s l r task seq request Off = within_take_off r task seq request

  no_more : (n : ℕ) (row : Option Row) → Within n row → Within (n + 0) row
  no_more n None h = tt
  no_more n (Some row) h = omega (arith, h)

  within_cause : (s : Setup) (l : Sizes) (r : Readings) (time : ℕ) (cause : Cause) → Within (opened t q r.pending + answered_by t q cause) (cause_row s l r time cause)
  unfolding takes.take_row arrived_row
  within_cause s l r time c.Opened = no_more (opened t q r.pending) _ (within_opened s r (opened t q r.pending) r.phase)
  within_cause s l r time (c.Take task seq request) = within_when (opened t q r.pending + answered_in t q task seq request) _ _ (within_take s l r task seq request r.phase)
  within_cause s l r time (c.Arrived packet) = no_more (opened t q r.pending) _ (within_when (opened t q r.pending) (is_sound packet) _ (within_arrived s l r packet r.phase))
  within_cause s l r time (c.Broke why) = no_more (opened t q r.pending) _ (within_broke s r time why)
  within_cause s l r time c.Tick = no_more (opened t q r.pending) _ (within_tick s r time (opened t q r.pending) r.phase)
  within_cause s l r time c.GaveUp = no_more (opened t q r.pending) _ (within_gave_up s r r.phase)
  within_cause s l r time c.Finish = no_more (opened t q r.pending) _ (within_finish s r (opened t q r.pending) r.phase)

  -- A row completes a command no more often than it is open, and once more where it is taken.
  pub within_row : (s : Setup) (l : Sizes) (r : Readings) (time : ℕ) (cause : Cause) → Within (opened t q r.pending + answered_by t q cause) (row_of s l r time cause)
  unfolding row_of
  within_row s l r time cause = within_when (opened t q r.pending + answered_by t q cause) _ _ (within_cause s l r time cause)

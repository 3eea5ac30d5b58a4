-- The table's rows for requests that are taken in Up: which command they open, and which PUBLISH they send.
use Rattle.std.proofs.Common.{◌≡◌, ◌⊎◌, ℕ, ◌+◌, ◌≤◌, Bool, true, false, List, [], ◌∷◌, ◌++◌, map, filter, count_by, length, Option, Some, None, refl, sym, ap, ◌∙◌, subst, arith, append-nil}
use Rattle.std.specs.Prelude.{◌==◌, ◌&&◌, nat_lt, if◌then◌else◌}
use Rattle.std.proofs.lemmas.Bool.{eqb-true, eq-eqb}
use mathlib.Core.Logic.{inl, inr}
use Rattle.mqtt_packet.specs.declared.packet.Packet.{Packet}
use Rattle.mqtt_packet.specs.declared.packet.Packet.TheVariants as p
use Rattle.mqtt_packet.specs.declared.qos.Qos.{Qos}
use Rattle.mqtt_packet.specs.declared.qos.Qos.TheVariants.{AtMostOnce, AtLeastOnce, ExactlyOnce}
use Rattle.mqtt_packet.specs.declared.will.Ask.{Ask}
use Rattle.agent_journal.specs.declared.entry.Cause.TheVariants as c
use Rattle.agent_journal.specs.declared.request.Request.{Request}
use Rattle.agent_journal.specs.declared.request.Request.TheVariants as requests
use Rattle.agent_journal.specs.declared.outcome.Outcome.{Outcome}
use Rattle.agent_journal.specs.declared.outcome.Outcome.TheVariants as o
use Rattle.agent_journal.specs.declared.effect.Effect.{Effect}
use Rattle.agent_journal.specs.declared.effect.Effect.TheVariants as f
use Rattle.agent_journal.specs.declared.setup.Setup.{Setup}
use Rattle.agent_journal.specs.declared.setup.Phase.TheVariants.{Up, Off}
use Rattle.agent_journal.specs.Readings.{Pending, opens, stays_open}
use Rattle.agent_journal.specs.Wires.{sends}
use Rattle.agent_table.specs.Deliveries.{publishes, is_at_least_once, is_among}
use Rattle.agent_table.specs.Effects.{used, fresh_id}
use Rattle.agent_table.specs.Readings.{Readings}
use Rattle.agent_table.specs.Rows.{Row, to}
use Rattle.agent_table.specs.Sizes.{Sizes}
use Rattle.agent_table.specs.Takes as table
use Rattle.agent_table.proofs.Counts.{count_append, is_command, opened, dones, stays_is}
use Rattle.session_world.specs.World.{Rising, rising}
use Rattle.once_laws.specs.Followed.{is_of, is_first, is_mine, is_beginning, publishes_first, rises_first, carries}
use Rattle.once_laws.proofs.Following.{IsAdded, carried_first}
use Rattle.once_laws.proofs.Labels.{risen_count}
use Rattle.once_laws.proofs.Parts.{IsIn, all_in, filter_same, all_pass, own, some, digit, counted}

-- what is open behind it
abbrev pub taken : List Pending → ℕ → ℕ → Request → List Effect → List Pending
taken commands task seq request effects = filter (stays_open effects) (commands ++ opens (c.Take task seq request) effects)

-- what is sent
abbrev pub raised : Setup → Sizes → List Pending → ℕ → ℕ → Request → List Effect → List Rising
raised s l commands task seq request effects = map (rising s l (c.Take task seq request) commands) (sends effects)

-- A row adds its command and its PUBLISH, or leads to Off.
abbrev pub Adds : Setup → Sizes → ℕ → ℕ → ℕ → Readings → ℕ → ℕ → Request → Option Row → Type 0
Adds s l t q n r task seq request None = Unit {0}
Adds s l t q n r task seq request (Some row) =
    (row.phase ≡ Off)
    ⊎ ((is_beginning row.phase ≡ false)
    × (adds : ℕ)
    × IsAdded t q n r.pending (taken r.pending task seq request row.effects) (raised s l (taken r.pending task seq request row.effects) task seq request row.effects) adds)

-- an identifier that isn't in use has no open command
pub unused : (commands : List Pending) (ids : List ℕ) (n : ℕ) → is_among (map (λ (command : Pending). command.id) commands ++ ids) n ≡ false → count_by (is_of n) commands ≡ 0
unused [] ids n free = refl
unused (command ∷ commands) ids n free = go (command.id == n) refl (unused commands ids n)
  where
    go : (t : Bool) → (command.id == n) ≡ t → (is_among (map (λ (other : Pending). other.id) commands ++ ids) n ≡ false → count_by (is_of n) commands ≡ 0) → count_by (is_of n) (command ∷ commands) ≡ 0
    go true e rest = absurd (cc (rw e at free))
    go false e rest = omega (arith, counted (is_of n) command commands, ap digit e, rest (rw e at free))

pub and_none : (b : Bool) → (b && false) ≡ false
and_none true = refl
and_none false = refl

-- completions of the request alone
abbrev pub IsOwn : ℕ → ℕ → List Effect → Type 0
IsOwn task seq effects = (i j : ℕ) → dones i j effects ≡ 0 ⊎ ((i ≡ task) × (j ≡ seq))

pub one_own : (task seq : ℕ) (outcome : Outcome) → IsOwn task seq (f.Done task seq outcome ∷ [])
one_own task seq outcome i j = go (task == i) (seq == j) refl refl
  where
    go : (a b : Bool) → (task == i) ≡ a → (seq == j) ≡ b → dones i j (f.Done task seq outcome ∷ []) ≡ 0 ⊎ ((i ≡ task) × (j ≡ seq))
    go true true ea eb = inr (sym (eqb-true task i ea), sym (eqb-true seq j eb))
    go true false ea eb = inl (rw (ea, eb) refl)
    go false b ea eb = inl (rw ea refl)

pub all_stay : (commands : List Pending) (task seq : ℕ) → opened task seq commands ≡ 0 → (effects : List Effect) → IsOwn task seq effects → filter (stays_open effects) commands ≡ commands
all_stay commands task seq new effects h = filter_same (stays_open effects) (λ x. true) commands (all_in _ commands each) ∙ all_pass commands
  where
    each : (command : Pending) → IsIn command commands → stays_open effects command ≡ true
    each command here = go (h command.task command.seq)
      where
        go : dones command.task command.seq effects ≡ 0 ⊎ ((command.task ≡ task) × (command.seq ≡ seq)) → stays_open effects command ≡ true
        go (inl none) = stays_is command.task command.seq effects command (own command) ∙ eq-eqb (dones command.task command.seq effects) 0 none
        go (inr same) =
            let one = some (is_command task seq) command commands here (rw (same.0, same.1) (rw (eq-eqb task task refl, eq-eqb seq seq refl) refl)) in
            absurd (omega (arith, one, new))

module _ (s : Setup) (l : Sizes) (t q n : ℕ) (r : Readings) (alone : count_by (is_of n) r.pending ≤ 1) (task seq : ℕ) (new : opened task seq r.pending ≡ 0) (free : is_among (used r) (fresh_id r) ≡ false) where
  abbrev Holds : Request → Option Row → Type 0
  Holds request row = Adds s l t q n r task seq request row

  either : (b : Bool) (request : Request) (one other : List Effect) → Holds request (to Up one) → Holds request (to Up other) → Holds request (to Up (if b then one else other))
  either true request one other h g = h
  either false request one other h g = g

  -- ---- Nothing is opened

  settled : (request : Request) (effects : List Effect) → opens (c.Take task seq request) effects ≡ [] → IsOwn task seq effects → count_by (publishes_first n) (sends effects) ≡ 0 → Holds request (to Up effects)
  settled request effects none own_alone silent =
      let is : taken r.pending task seq request effects ≡ r.pending =
      ap (λ more. filter (stays_open effects) (r.pending ++ more)) none ∙ ap (filter (stays_open effects)) (append-nil r.pending) ∙ all_stay r.pending task seq new effects own_alone in
      let more = raised s l (taken r.pending task seq request effects) task seq request effects in
      let firsts : count_by (rises_first n) more ≡ 0 = risen_count s l n (c.Take task seq request) (taken r.pending task seq request effects) (sends effects) ∙ silent in
      inr (
        refl,
        0,
        record {
          all = omega (arith, ap (count_by (is_of n)) is);
          free = omega (arith, alone);
          first = omega (arith, ap (count_by (is_first n)) is, firsts);
          mine = omega (arith, ap (count_by (is_mine t q n)) is);
          few = omega (arith, carried_first t q n more, firsts);
        },
      )

  at_once : (request : Request) (outcome : Outcome) → Holds request (to Up (table.at_once task seq outcome))
  at_once request outcome = settled request (f.Done task seq outcome ∷ []) refl (one_own task seq outcome) refl

  -- ---- A command with its own packet

  -- its PUBLISH comes from it
  abbrev IsOwnPacket : Request → Pending → Packet → Type 0
  IsOwnPacket request command packet =
      (commands : List Pending) → count_by (carries t q n) (map (rising s l (c.Take task seq request) commands) (packet ∷ [])) ≡ digit (is_mine t q n command)

  opens_one : (request : Request) (packet : Packet) (command : Pending) → opens (c.Take task seq request) (f.Send packet ∷ []) ≡ command ∷ [] → command.id ≡ fresh_id r
      → count_by (publishes_first n) (packet ∷ []) ≡ digit (is_first n command) → IsOwnPacket request command packet → Holds request (to Up (f.Send packet ∷ []))
  opens_one request packet command is id first mine =
      let behind : taken r.pending task seq request (f.Send packet ∷ []) ≡ r.pending ++ command ∷ [] =
      ap (λ more. filter (stays_open (f.Send packet ∷ [])) (r.pending ++ more)) is ∙ all_pass (r.pending ++ command ∷ []) in
      let commands = taken r.pending task seq request (f.Send packet ∷ []) in
      let more = raised s l commands task seq request (f.Send packet ∷ []) in
      let firsts = risen_count s l n (c.Take task seq request) commands (packet ∷ []) in
      inr (
        refl,
        digit (is_of n command),
        record {
          all = omega (arith, ap (count_by (is_of n)) behind, count_append (is_of n) r.pending (command ∷ []), counted (is_of n) command []);
          free = unused_by (command.id == n) refl;
          first = omega (arith, firsts, first, ap (count_by (is_first n)) behind, count_append (is_first n) r.pending (command ∷ []), counted (is_first n) command []);
          mine = omega (arith, mine commands, ap (count_by (is_mine t q n)) behind, count_append (is_mine t q n) r.pending (command ∷ []), counted (is_mine t q n) command []);
          few = omega (arith, carried_first t q n more, firsts, first, kind (is_of n command) (publishes is_at_least_once command.request));
        },
      )
    where
      unused_by : (b : Bool) → (command.id == n) ≡ b → count_by (is_of n) r.pending + digit b ≤ 1
      unused_by true e = omega (arith, unused r.pending (map (λ renewal. renewal.id) r.renewals) n (subst (λ m. is_among (used r) m ≡ false) (sym id ∙ eqb-true command.id n e) free))
      unused_by false e = omega (arith, alone)

      kind : (a b : Bool) → digit (a && b) ≤ digit a
      kind true true = omega arith
      kind true false = omega arith
      kind false b = omega arith

  -- one whose packet is no PUBLISH at quality of service 1
  opens_other : (request : Request) (packet : Packet) (command : Pending) → opens (c.Take task seq request) (f.Send packet ∷ []) ≡ command ∷ [] → command.id ≡ fresh_id r
      → publishes_first n packet ≡ false → is_first n command ≡ false → Holds request (to Up (f.Send packet ∷ []))
  opens_other request packet command is id silent differs =
      opens_one request packet command is id (omega (arith, counted (publishes_first n) packet [], ap digit silent, ap digit differs))
      (λ commands.
      let more = map (rising s l (c.Take task seq request) commands) (packet ∷ []) in
      let mine : is_mine t q n command ≡ false = ap (λ b. b && (command.task == t && command.seq == q)) differs in
      omega (arith, carried_first t q n more, risen_count s l n (c.Take task seq request) commands (packet ∷ []), counted (publishes_first n) packet [], ap digit silent, ap digit mine))

  -- ---- Request by request

  publish : (qos : Qos) (topic payload : List ℕ) → Holds (requests.Publish qos topic payload) (table.publish_row l r task seq qos topic payload)
  unfolding table.publish_row
  publish AtMostOnce topic payload =
      let packet = p.Publish false AtMostOnce false topic 0 payload in
      settled (requests.Publish AtMostOnce topic payload) (f.Send packet ∷ f.Done task seq o.Done ∷ []) refl (one_own task seq o.Done) (omega (arith, counted (publishes_first n) packet [], ap digit (and_none (0 == n))))
  publish AtLeastOnce topic payload =
      let request = requests.Publish AtLeastOnce topic payload in
      let packet = p.Publish false AtLeastOnce false topic (fresh_id r) payload in
      let command : Pending = record { id = fresh_id r; task = task; seq = seq; request = request; sent_filters = [] } in
      either (table.is_full l r) request (table.at_once task seq o.NoRoom) (f.Send packet ∷ []) (at_once request o.NoRoom)
      (opens_one request packet command refl refl (omega (arith, counted (publishes_first n) packet []))
      (λ commands. omega (arith, counted (carries t q n) (rising s l (c.Take task seq request) commands packet) [])))
  publish ExactlyOnce topic payload =
      let request = requests.Publish ExactlyOnce topic payload in
      let packet = p.Publish false ExactlyOnce false topic (fresh_id r) payload in
      let command : Pending = record { id = fresh_id r; task = task; seq = seq; request = request; sent_filters = [] } in
      either (table.is_full l r) request (table.at_once task seq o.NoRoom) (f.Send packet ∷ []) (at_once request o.NoRoom)
      (opens_other request packet command refl refl (and_none (fresh_id r == n)) (and_none (fresh_id r == n)))

  subscribe : (asks : List Ask) → Holds (requests.Subscribe asks) (table.subscribe_row l r task seq asks)
  unfolding table.subscribe_row
  subscribe asks =
      let request = requests.Subscribe asks in
      let packet = p.Subscribe (fresh_id r) asks in
      let command : Pending = record { id = fresh_id r; task = task; seq = seq; request = request; sent_filters = [] } in
      let many = nat_lt l.routes (length (table.routes_with r task asks)) in
      either (table.is_full l r) request (table.at_once task seq o.NoRoom) (if many then table.at_once task seq o.NoRoute else f.Send packet ∷ []) (at_once request o.NoRoom)
      (either many request (table.at_once task seq o.NoRoute) (f.Send packet ∷ []) (at_once request o.NoRoute)
      (opens_other request packet command refl refl refl (and_none (fresh_id r == n))))

  unsubscribe : (filters own_filters : List (List ℕ)) → Holds (requests.Unsubscribe filters) (to Up (table.unsubscribed l r task seq own_filters))
  unsubscribe filters [] = at_once (requests.Unsubscribe filters) o.Done
  unsubscribe filters (topics ∷ others) =
      let request = requests.Unsubscribe filters in
      let packet = p.Unsubscribe (fresh_id r) (topics ∷ others) in
      let command : Pending = record { id = fresh_id r; task = task; seq = seq; request = request; sent_filters = (topics ∷ others) ++ [] } in
      either (table.is_full l r) request (table.at_once task seq o.NoRoom) (f.Send packet ∷ []) (at_once request o.NoRoom)
      (opens_other request packet command refl refl refl (and_none (fresh_id r == n)))

  pub takes_up : (request : Request) → Holds request (table.up_row s l r task seq request)
  unfolding table.unsubscribe_row table.disconnect_row
  takes_up (requests.Publish qos topic payload) = publish qos topic payload
  takes_up (requests.Subscribe asks) = subscribe asks
  takes_up (requests.Unsubscribe filters) = unsubscribe filters (table.own_filters r task filters)
  takes_up requests.Ping = settled requests.Ping (f.Send p.PingReq ∷ f.Done task seq o.Done ∷ []) refl (one_own task seq o.Done) refl
  takes_up requests.Disconnect = inl refl
  takes_up requests.Terminate = inl refl
  takes_up requests.Leave = settled requests.Leave [] refl (λ i j. inl refl) refl

-- The table's rows for requests that are taken in Up: which publish at quality of service 2 they open, and what they
-- send.
use Rattle.std.proofs.Common.{◌≡◌, ◌⊎◌, ℕ, ◌+◌, ◌≤◌, Bool, true, false, List, [], ◌∷◌, ◌++◌, map, filter, count_by, length, Option, Some, None, refl, sym, ap, ◌∙◌, subst, arith, append-nil}
use Rattle.std.specs.Prelude.{◌==◌, ◌&&◌, nat_lt, if◌then◌else◌}
use Rattle.std.proofs.lemmas.Bool.{eqb-true}
use Rattle.std.specs.List.{AllByRecursion}
use mathlib.Core.Logic.{inl, inr}
use Rattle.mqtt_packet.specs.declared.packet.Packet.{Packet}
use Rattle.mqtt_packet.specs.declared.packet.Packet.TheVariants as p
use Rattle.mqtt_packet.specs.declared.qos.Qos.{Qos}
use Rattle.mqtt_packet.specs.declared.qos.Qos.TheVariants.{AtMostOnce, AtLeastOnce, ExactlyOnce}
use Rattle.mqtt_packet.specs.declared.will.Ask.{Ask}
use Rattle.agent_journal.specs.declared.entry.Cause.TheVariants as c
use Rattle.agent_journal.specs.declared.request.Request.{Request}
use Rattle.agent_journal.specs.declared.request.Request.TheVariants as requests
use Rattle.agent_journal.specs.declared.outcome.Outcome.{Outcome}
use Rattle.agent_journal.specs.declared.outcome.Outcome.TheVariants as o
use Rattle.agent_journal.specs.declared.effect.Effect.{Effect}
use Rattle.agent_journal.specs.declared.effect.Effect.TheVariants as f
use Rattle.agent_journal.specs.declared.setup.Setup.{Setup}
use Rattle.agent_journal.specs.declared.setup.Phase.TheVariants.{Up, Off}
use Rattle.agent_journal.specs.Readings.{Pending, opens, stays_open}
use Rattle.agent_journal.specs.Wires.{sends}
use Rattle.agent_table.specs.Deliveries.{publishes, is_exactly_once, is_among}
use Rattle.agent_table.specs.Effects.{used, fresh_id, cancel_all, close}
use Rattle.agent_table.specs.Readings.{Readings}
use Rattle.agent_table.specs.Rows.{Row, to}
use Rattle.agent_table.specs.Sizes.{Sizes}
use Rattle.agent_table.specs.Takes as table
use Rattle.agent_table.proofs.Counts.{count_append, opened}
use Rattle.session_world.specs.World.{rising}
use Rattle.once_laws.specs.Counted.{digit, is_second, is_ours, publishes_second, releases, rises_second, brings}
use Rattle.once_laws.specs.Followed.{is_of, is_beginning}
use Rattle.once_laws.proofs.Counting.{IsOpened, brought_second}
use Rattle.once_laws.proofs.Effects.{sends_append, dones_send}
use Rattle.once_laws.proofs.Labels.{risen_second}
use Rattle.once_laws.proofs.Parts.{all_pass, counted}
use Rattle.once_laws.proofs.TakenRows.{taken, raised, unused, and_none, IsOwn, all_stay, one_own}
use Rattle.once_laws.proofs.UpSeconds.{AreAside, closes_send}

-- ---- What is asked

-- whether a packet is what a request asks to be sent
abbrev pub is_lower : Qos → Bool
is_lower AtMostOnce = true
is_lower AtLeastOnce = true
is_lower ExactlyOnce = false

abbrev pub asks_at : Qos → Request → Bool
asks_at AtMostOnce request = publishes is_lower request
asks_at AtLeastOnce request = publishes is_lower request
asks_at ExactlyOnce request = publishes is_exactly_once request

abbrev pub IsAsked : Request → Packet → Type 0
IsAsked request (p.Publish dup qos retain topic id payload) = asks_at qos request ≡ true
IsAsked request (p.Connect clean keep_alive client will user password) = ⊥
IsAsked request _ = Unit {0}

-- ---- What a row adds

-- so many commands of the identifier, where there was none, each with its own packet
pub record IsTakenRow (s : Setup) (l : Sizes) (t q n : ℕ) (r : Readings) (task seq : ℕ) (request : Request) (row : Row) : Type 0 where
  pub ongoing : is_beginning row.phase ≡ false
  pub adds : ℕ
  pub opened : IsOpened t q n r.pending (taken r.pending task seq request row.effects) (raised s l (taken r.pending task seq request row.effects) task seq request row.effects) adds

pub record IsRow (s : Setup) (l : Sizes) (t q n : ℕ) (r : Readings) (task seq : ℕ) (request : Request) (row : Row) : Type 0 where
  pub asked : AllByRecursion (IsAsked request) (sends row.effects)
  pub silent : count_by (releases n) (sends row.effects) ≡ 0
  pub aside : row.phase ≡ Off → AreAside (sends row.effects)
  pub taken_row : (row.phase ≡ Off) ⊎ IsTakenRow s l t q n r task seq request row

abbrev pub Opens : Setup → Sizes → ℕ → ℕ → ℕ → Readings → ℕ → ℕ → Request → Option Row → Type 0
Opens s l t q n r task seq request None = Unit {0}
Opens s l t q n r task seq request (Some row) = IsRow s l t q n r task seq request row

module _ (s : Setup) (l : Sizes) (t q n : ℕ) (r : Readings) (alone : count_by (is_of n) r.pending ≤ 1) (task seq : ℕ) (new : opened task seq r.pending ≡ 0) (free : is_among (used r) (fresh_id r) ≡ false) where
  abbrev Holds : Request → Option Row → Type 0
  Holds request row = Opens s l t q n r task seq request row

  either : (b : Bool) (request : Request) (one other : List Effect) → Holds request (to Up one) → Holds request (to Up other) → Holds request (to Up (if b then one else other))
  either true request one other h g = h
  either false request one other h g = g

  -- ---- Nothing is opened

  settled : (request : Request) (effects : List Effect) → opens (c.Take task seq request) effects ≡ [] → IsOwn task seq effects → AllByRecursion (IsAsked request) (sends effects) → count_by (releases n) (sends effects) ≡ 0
      → count_by (publishes_second n) (sends effects) ≡ 0 → Holds request (to Up effects)
  settled request effects none own_alone asked silent quiet =
      let is : taken r.pending task seq request effects ≡ r.pending =
      ap (λ more. filter (stays_open effects) (r.pending ++ more)) none ∙ ap (filter (stays_open effects)) (append-nil r.pending) ∙ all_stay r.pending task seq new effects own_alone in
      let more = raised s l (taken r.pending task seq request effects) task seq request effects in
      let seconds : count_by (rises_second n) more ≡ 0 = risen_second s l n (c.Take task seq request) (taken r.pending task seq request effects) (sends effects) ∙ quiet in
      record {
        asked = asked;
        silent = silent;
        aside = λ off. absurd (cc off);
        taken_row = inr (record {
          ongoing = refl;
          adds = 0;
          opened = record {
            all = omega (arith, ap (count_by (is_of n)) is);
            free = omega (arith, alone);
            second = omega (arith, ap (count_by (is_second n)) is, seconds);
            ours = omega (arith, ap (count_by (is_ours t q n)) is, brought_second t q n more, seconds);
            few = omega (arith, seconds);
          };
        });
      }

  at_once : (request : Request) (outcome : Outcome) → Holds request (to Up (table.at_once task seq outcome))
  at_once request outcome = settled request (f.Done task seq outcome ∷ []) refl (one_own task seq outcome) tt refl refl

  -- ---- A command with its own packet

  -- its PUBLISH comes from it
  abbrev IsOwnPacket : Request → Pending → Packet → Type 0
  IsOwnPacket request command packet =
      (commands : List Pending) → count_by (brings t q n) (map (rising s l (c.Take task seq request) commands) (packet ∷ [])) ≡ digit (is_ours t q n command)

  opens_one : (request : Request) (packet : Packet) (command : Pending) → opens (c.Take task seq request) (f.Send packet ∷ []) ≡ command ∷ [] → command.id ≡ fresh_id r → IsAsked request packet
      → count_by (releases n) (packet ∷ []) ≡ 0 → count_by (publishes_second n) (packet ∷ []) ≡ digit (is_second n command) → IsOwnPacket request command packet → Holds request (to Up (f.Send packet ∷ []))
  opens_one request packet command is id asked silent second ours =
      let behind : taken r.pending task seq request (f.Send packet ∷ []) ≡ r.pending ++ command ∷ [] =
      ap (λ more. filter (stays_open (f.Send packet ∷ [])) (r.pending ++ more)) is ∙ all_pass (r.pending ++ command ∷ []) in
      let commands = taken r.pending task seq request (f.Send packet ∷ []) in
      let seconds = risen_second s l n (c.Take task seq request) commands (packet ∷ []) in
      record {
        asked = (asked, tt);
        silent = silent;
        aside = λ off. absurd (cc off);
        taken_row = inr (record {
          ongoing = refl;
          adds = digit (is_of n command);
          opened = record {
            all = omega (arith, ap (count_by (is_of n)) behind, count_append (is_of n) r.pending (command ∷ []), counted (is_of n) command []);
            free = unused_by (command.id == n) refl;
            second = omega (arith, seconds, second, ap (count_by (is_second n)) behind, count_append (is_second n) r.pending (command ∷ []), counted (is_second n) command []);
            ours = omega (arith, ours commands, ap (count_by (is_ours t q n)) behind, count_append (is_ours t q n) r.pending (command ∷ []), counted (is_ours t q n) command []);
            few = omega (arith, seconds, second, kind (is_of n command) (publishes is_exactly_once command.request));
          };
        });
      }
    where
      unused_by : (b : Bool) → (command.id == n) ≡ b → count_by (is_of n) r.pending + digit b ≤ 1
      unused_by true e = omega (arith, unused r.pending (map (λ renewal. renewal.id) r.renewals) n (subst (λ m. is_among (used r) m ≡ false) (sym id ∙ eqb-true command.id n e) free))
      unused_by false e = omega (arith, alone)

      kind : (a b : Bool) → digit (a && b) ≤ digit a
      kind true true = omega arith
      kind true false = omega arith
      kind false b = omega arith

  -- one whose packet is no PUBLISH at quality of service 2
  opens_other : (request : Request) (packet : Packet) (command : Pending) → opens (c.Take task seq request) (f.Send packet ∷ []) ≡ command ∷ [] → command.id ≡ fresh_id r → IsAsked request packet
      → count_by (releases n) (packet ∷ []) ≡ 0 → publishes_second n packet ≡ false → is_second n command ≡ false → Holds request (to Up (f.Send packet ∷ []))
  opens_other request packet command is id asked silent none differs =
      opens_one request packet command is id asked silent (omega (arith, counted (publishes_second n) packet [], ap digit none, ap digit differs))
      (λ commands.
      let more = map (rising s l (c.Take task seq request) commands) (packet ∷ []) in
      let ours : is_ours t q n command ≡ false = ap (λ b. b && (command.task == t && command.seq == q)) differs in
      omega (arith, brought_second t q n more, risen_second s l n (c.Take task seq request) commands (packet ∷ []), counted (publishes_second n) packet [], ap digit none, ap digit ours))

  -- ---- Request by request

  publish : (qos : Qos) (topic payload : List ℕ) → Holds (requests.Publish qos topic payload) (table.publish_row l r task seq qos topic payload)
  unfolding table.publish_row
  publish AtMostOnce topic payload =
      let packet = p.Publish false AtMostOnce false topic 0 payload in
      settled (requests.Publish AtMostOnce topic payload) (f.Send packet ∷ f.Done task seq o.Done ∷ []) refl (one_own task seq o.Done) (refl, tt) refl
      (omega (arith, counted (publishes_second n) packet [], ap digit (and_none (0 == n))))
  publish AtLeastOnce topic payload =
      let request = requests.Publish AtLeastOnce topic payload in
      let packet = p.Publish false AtLeastOnce false topic (fresh_id r) payload in
      let command : Pending = record { id = fresh_id r; task = task; seq = seq; request = request; sent_filters = [] } in
      either (table.is_full l r) request (table.at_once task seq o.NoRoom) (f.Send packet ∷ []) (at_once request o.NoRoom)
      (opens_other request packet command refl refl refl refl (and_none (fresh_id r == n)) (and_none (fresh_id r == n)))
  publish ExactlyOnce topic payload =
      let request = requests.Publish ExactlyOnce topic payload in
      let packet = p.Publish false ExactlyOnce false topic (fresh_id r) payload in
      let command : Pending = record { id = fresh_id r; task = task; seq = seq; request = request; sent_filters = [] } in
      either (table.is_full l r) request (table.at_once task seq o.NoRoom) (f.Send packet ∷ []) (at_once request o.NoRoom)
      (opens_one request packet command refl refl refl refl (omega (arith, counted (publishes_second n) packet []))
      (λ commands. omega (arith, counted (brings t q n) (rising s l (c.Take task seq request) commands packet) [])))

  subscribe : (asks : List Ask) → Holds (requests.Subscribe asks) (table.subscribe_row l r task seq asks)
  unfolding table.subscribe_row
  subscribe asks =
      let request = requests.Subscribe asks in
      let packet = p.Subscribe (fresh_id r) asks in
      let command : Pending = record { id = fresh_id r; task = task; seq = seq; request = request; sent_filters = [] } in
      let many = nat_lt l.routes (length (table.routes_with r task asks)) in
      either (table.is_full l r) request (table.at_once task seq o.NoRoom) (if many then table.at_once task seq o.NoRoute else f.Send packet ∷ []) (at_once request o.NoRoom)
      (either many request (table.at_once task seq o.NoRoute) (f.Send packet ∷ []) (at_once request o.NoRoute)
      (opens_other request packet command refl refl tt refl refl (and_none (fresh_id r == n))))

  unsubscribe : (filters own_filters : List (List ℕ)) → Holds (requests.Unsubscribe filters) (to Up (table.unsubscribed l r task seq own_filters))
  unsubscribe filters [] = at_once (requests.Unsubscribe filters) o.Done
  unsubscribe filters (topics ∷ others) =
      let request = requests.Unsubscribe filters in
      let packet = p.Unsubscribe (fresh_id r) (topics ∷ others) in
      let command : Pending = record { id = fresh_id r; task = task; seq = seq; request = request; sent_filters = (topics ∷ others) ++ [] } in
      either (table.is_full l r) request (table.at_once task seq o.NoRoom) (f.Send packet ∷ []) (at_once request o.NoRoom)
      (opens_other request packet command refl refl tt refl refl (and_none (fresh_id r == n)))

  -- the end sends DISCONNECT alone
  ends_sending : (request : Request) → Holds request (table.disconnect_row s r task seq)
  unfolding table.disconnect_row
  ends_sending request =
      let effects = cancel_all r ++ f.Send p.Disconnect ∷ f.Done task seq o.Done ∷ close s r in
      let is : sends effects ≡ p.Disconnect ∷ [] =
      sends_append (cancel_all r) (f.Send p.Disconnect ∷ f.Done task seq o.Done ∷ close s r) ∙ ap (λ ps. ps ++ p.Disconnect ∷ sends (close s r)) (dones_send o.Cancelled r.pending)
      ∙ ap (λ ps. p.Disconnect ∷ ps) (closes_send s.tasks r.left) in
      record { asked = subst (AllByRecursion (IsAsked request)) (sym is) (tt, tt); silent = ap (count_by (releases n)) is; aside = λ off. subst AreAside (sym is) (tt, tt); taken_row = inl refl }

  pub opens_up : (request : Request) → Holds request (table.up_row s l r task seq request)
  unfolding table.unsubscribe_row
  opens_up (requests.Publish qos topic payload) = publish qos topic payload
  opens_up (requests.Subscribe asks) = subscribe asks
  opens_up (requests.Unsubscribe filters) = unsubscribe filters (table.own_filters r task filters)
  opens_up requests.Ping = settled requests.Ping (f.Send p.PingReq ∷ f.Done task seq o.Done ∷ []) refl (one_own task seq o.Done) (tt, tt) refl refl
  opens_up requests.Disconnect = ends_sending requests.Disconnect
  opens_up requests.Terminate = ends_sending requests.Terminate
  opens_up requests.Leave = settled requests.Leave [] refl (λ i j. inl refl) tt refl refl

-- The table's rows for packets that arrive in Opening: which publishes at quality of service 1 they send again.
use Rattle.std.proofs.Common.{◌≡◌, ◌⊎◌, ℕ, ◌≤◌, Bool, true, false, List, [], ◌∷◌, ◌++◌, map, filter, count_by, Option, Some, None, refl, ap, ◌∙◌, arith}
use Rattle.std.specs.Prelude.{◌==◌, ◌&&◌, not, if◌then◌else◌}
use Rattle.std.specs.List.{flat_map}
use mathlib.Core.Logic.{inl, inr}
use Rattle.mqtt_packet.specs.declared.packet.Packet.{Packet}
use Rattle.mqtt_packet.specs.declared.packet.Packet.TheVariants as p
use Rattle.agent_journal.specs.declared.request.Request.{Request}
use Rattle.agent_journal.specs.declared.request.Request.TheVariants as requests
use Rattle.agent_journal.specs.declared.outcome.Outcome.TheVariants as o
use Rattle.agent_journal.specs.declared.effect.Effect.{Effect}
use Rattle.agent_journal.specs.declared.effect.Effect.TheVariants as f
use Rattle.agent_journal.specs.declared.setup.Setup.{Setup}
use Rattle.agent_journal.specs.declared.setup.Phase.TheVariants.{Down, Up, Off}
use Rattle.agent_journal.specs.Readings.{Pending}
use Rattle.agent_journal.specs.Wires.{sends}
use Rattle.agent_table.specs.Arrivals.{opening_row, connack_row, first_row, resumed_row}
use Rattle.agent_table.specs.Deliveries.{is_among}
use Rattle.agent_table.specs.Effects.{is_publish, resume, renew, again_by, lose_session}
use Rattle.agent_table.specs.Readings.{Readings}
use Rattle.agent_table.specs.Rows.{Row, to, ends}
use Rattle.agent_table.proofs.Completions as completions
use Rattle.agent_table.proofs.Counts.{count_append}
use Rattle.once_laws.specs.Followed.{is_first, is_beginning, publishes_first}
use Rattle.once_laws.proofs.Effects.{left, all_left, joined, sends_append, dones_send, none_renewed}
use Rattle.once_laws.proofs.Parts.{fewer}

-- what one command sends again
abbrev pub again : Pending → List Packet
again command = sends (again_by command.id command.request)

pub again_sent : (commands : List Pending) → sends (flat_map (λ command. again_by command.id command.request) commands) ≡ flat_map again commands
again_sent [] = refl
again_sent (command ∷ commands) =
    sends_append (again_by command.id command.request) (flat_map (λ other. again_by other.id other.request) commands) ∙ ap (λ ps. again command ++ ps) (again_sent commands)

releases_sent : (n : ℕ) (ids : List ℕ) → count_by (publishes_first n) (sends (map (λ id. f.Send (p.PubRel id)) ids)) ≡ 0
releases_sent n [] = refl
releases_sent n (id ∷ ids) = releases_sent n ids

-- a publish at quality of service 1 once, and all else not
one_again : (n : ℕ) (command : Pending) → count_by (publishes_first n) (again command) ≡ count_by (is_first n) (command ∷ [])
one_again n command = go command.request
  where
    none : (b : Bool) → 0 ≡ count_by (λ (c : Bool). c) ((b && false) ∷ [])
    none true = refl
    none false = refl

    go : (r : Request) → count_by (publishes_first n) (sends (again_by command.id r)) ≡ count_by (is_first n) (record command { request = r } ∷ [])
    go (requests.Publish qos topic payload) = refl
    go (requests.Subscribe asks) = none (command.id == n)
    go (requests.Unsubscribe filters) = none (command.id == n)
    go requests.Ping = none (command.id == n)
    go requests.Disconnect = none (command.id == n)
    go requests.Terminate = none (command.id == n)
    go requests.Leave = none (command.id == n)

all_again : (n : ℕ) (commands : List Pending) → count_by (publishes_first n) (flat_map again commands) ≡ count_by (is_first n) commands
all_again n [] = refl
all_again n (command ∷ commands) =
    omega (arith, one_again n command, all_again n commands, count_append (publishes_first n) (again command) (flat_map again commands), count_append (is_first n) (command ∷ []) commands)

-- what stays to be sent again as a PUBLISH
abbrev pub unreleased : Readings → List Pending
unreleased r = filter (λ command. not (is_among r.released command.id)) r.pending

resumes : (n : ℕ) (r : Readings) → count_by (publishes_first n) (sends (resume r)) ≤ count_by (is_first n) r.pending
resumes n r =
    let releases = map (λ id. f.Send (p.PubRel id)) r.released in
    let publishes = flat_map (λ command. again_by command.id command.request) (unreleased r) in
    omega (
      arith,
      ap (count_by (publishes_first n)) (sends_append releases publishes),
      count_append (publishes_first n) (sends releases) (sends publishes),
      releases_sent n r.released,
      ap (count_by (publishes_first n)) (again_sent (unreleased r)),
      all_again n (unreleased r),
      fewer (is_first n) (λ command. not (is_among r.released command.id)) r.pending,
    )

-- A row publishes no more than what it leaves open, and nothing where a connection has yet to begin; or it leads to
-- Off.
pub record IsResumed (n : ℕ) (commands : List Pending) (row : Row) : Type 0 where
  pub most : count_by (publishes_first n) (sends row.effects) ≤ count_by (is_first n) (left commands row.effects)
  pub none : is_beginning row.phase ≡ true → count_by (publishes_first n) (sends row.effects) ≡ 0

abbrev pub Resumes : ℕ → List Pending → Option Row → Type 0
Resumes n commands None = Unit {0}
Resumes n commands (Some row) = (row.phase ≡ Off) ⊎ IsResumed n commands row

module _ (n : ℕ) (s : Setup) (r : Readings) where
  abbrev Holds : Option Row → Type 0
  Holds row = Resumes n r.pending row

  either : (b : Bool) (one other : Option Row) → Holds one → Holds other → Holds (if b then one else other)
  either true one other h g = h
  either false one other h g = g

  -- one that leads to Up
  up : (effects : List Effect) → count_by (publishes_first n) (sends effects) ≤ count_by (is_first n) (left r.pending effects) → IsResumed n r.pending (record { effects = effects; phase = Up })
  up effects most = record { most = most; none = λ is. absurd (cc is) }

  first : (present : Bool) → Holds (first_row s r present)
  first false = inr (up [] (omega arith))
  first true = inl refl

  resumed : (present : Bool) → Holds (resumed_row r present)
  resumed true =
      let effects = resume r ++ renew r r.unsure in
      inr (up effects (omega (
        arith,
        ap (count_by (publishes_first n)) (sends_append (resume r) (renew r r.unsure)),
        count_append (publishes_first n) (sends (resume r)) (sends (renew r r.unsure)),
        none_renewed (publishes_first n) (λ id asks. refl) r r.unsure,
        resumes n r,
        ap (count_by (is_first n)) (all_left effects r.pending (joined (resume r) (renew r r.unsure) (λ t q. completions.none_resumed t q r) (λ t q. completions.none_renewed t q r r.unsure))),
      )))
  resumed false =
      inr (up (lose_session r ++ renew r r.renewable) (omega (
        arith,
        ap (count_by (publishes_first n)) (sends_append (lose_session r) (renew r r.renewable)),
        count_append (publishes_first n) (sends (lose_session r)) (sends (renew r r.renewable)),
        ap (count_by (publishes_first n)) (dones_send o.SessionLost (filter (λ command. is_publish command.request) r.pending)),
        none_renewed (publishes_first n) (λ id asks. refl) r r.renewable,
      )))

  connack : (present : Bool) (code : ℕ) → Holds (connack_row s r present code)
  unfolding connack_row
  connack present code =
      either (not (code == 0)) (ends s r) (if r.wiping then to Down (f.Send p.Disconnect ∷ []) else (if r.first then first_row s r present else resumed_row r present)) (inl refl)
      (either r.wiping (to Down (f.Send p.Disconnect ∷ [])) (if r.first then first_row s r present else resumed_row r present) (inr (record { most = omega arith; none = λ is. refl }))
      (either r.first (first_row s r present) (resumed_row r present) (first present) (resumed present)))

  pub arrives_opening : (packet : Packet) → Holds (opening_row s r packet)
  arrives_opening (p.ConnAck present code) = connack present code
  arrives_opening (p.Publish dup qos retain topic id payload) = inl refl
  arrives_opening (p.PubAck id) = inl refl
  arrives_opening (p.PubRec id) = inl refl
  arrives_opening (p.PubRel id) = inl refl
  arrives_opening (p.PubComp id) = inl refl
  arrives_opening (p.SubAck id codes) = inl refl
  arrives_opening (p.UnsubAck id) = inl refl
  arrives_opening p.PingResp = inl refl
  arrives_opening (p.Connect clean keep_alive client will user password) = inl refl
  arrives_opening (p.Subscribe id asks) = inl refl
  arrives_opening (p.Unsubscribe id filters) = inl refl
  arrives_opening p.PingReq = inl refl
  arrives_opening p.Disconnect = inl refl

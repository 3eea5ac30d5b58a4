-- The table's rows for packets that arrive in Opening: which publishes at quality of service 2 go on with the session.
use Rattle.std.proofs.Common.{◌≡◌, ◌⊎◌, ℕ, zero, suc, ◌+◌, ◌≤◌, Bool, true, false, List, [], ◌∷◌, ◌++◌, map, filter, count_by, length, Option, Some, None, refl, sym, ap, ◌∙◌, subst, arith}
use Rattle.std.specs.Prelude.{◌==◌, ◌&&◌, not, drop, if◌then◌else◌}
use Rattle.std.specs.List.{flat_map, AllByRecursion}
use Rattle.std.proofs.lemmas.Bool.{eqb-true}
use mathlib.Core.Logic.{inl, inr}
use Rattle.mqtt_packet.specs.declared.packet.Packet.{Packet}
use Rattle.mqtt_packet.specs.declared.packet.Packet.TheVariants as p
use Rattle.mqtt_packet.specs.declared.qos.Qos.{Qos}
use Rattle.mqtt_packet.specs.declared.qos.Qos.TheVariants.{AtMostOnce, AtLeastOnce, ExactlyOnce}
use Rattle.mqtt_packet.specs.declared.will.Ask.{Ask}
use Rattle.agent_journal.specs.declared.request.Request.{Request}
use Rattle.agent_journal.specs.declared.request.Request.TheVariants as requests
use Rattle.agent_journal.specs.declared.effect.Effect.TheVariants as f
use Rattle.agent_journal.specs.declared.setup.Setup.{Setup}
use Rattle.agent_journal.specs.declared.setup.Phase.TheVariants.{Down, Off}
use Rattle.agent_journal.specs.Readings.{Pending}
use Rattle.agent_journal.specs.Wires.{sends}
use Rattle.agent_table.specs.Arrivals.{opening_row, connack_row, first_row, resumed_row}
use Rattle.agent_table.specs.Deliveries.{publishes, is_exactly_once, is_among}
use Rattle.agent_table.specs.Effects.{resume, renew, again_by, subscribes, used}
use Rattle.agent_table.specs.Identifiers.{fresh}
use Rattle.agent_table.specs.Laws.{IsOneOf}
use Rattle.agent_table.specs.Readings.{Readings}
use Rattle.agent_table.specs.Rows.{Row, to, ends}
use Rattle.agent_table.proofs.Completions as completions
use Rattle.agent_table.proofs.Counts.{count_append}
use Rattle.once_laws.specs.Counted.{digit, is_second, publishes_second, releases}
use Rattle.once_laws.specs.Followed.{is_beginning}
use Rattle.once_laws.proofs.Effects.{IsQuiet, joined, sent, nothing, sends_append, none_renewed}
use Rattle.once_laws.proofs.OpeningRows.{again, again_sent, unreleased}
use Rattle.once_laws.proofs.Parts.{counted, parts, none}
use Rattle.once_laws.proofs.TakenSeconds.{asks_at}
use Rattle.once_laws.proofs.UpSeconds.{closes_send, ends_send}

-- ---- What is sent again

-- a PUBLISH is of an open command, with its identifier and quality of service
abbrev pub IsAgain : List Pending → Packet → Type 0
IsAgain commands (p.Publish dup qos retain topic id payload) = (command : Pending) × IsOneOf command commands × (command.id ≡ id) × (asks_at qos command.request ≡ true)
IsAgain commands (p.Connect clean keep_alive client will user password) = ⊥
IsAgain commands _ = Unit {0}

abbrev pub AreAgain : List Pending → List Packet → Type 0
AreAgain commands packets = AllByRecursion (IsAgain commands) packets

both : (commands : List Pending) (xs ys : List Packet) → AreAgain commands xs → AreAgain commands ys → AreAgain commands (xs ++ ys)
both commands [] ys h g = g
both commands (x ∷ xs) ys h g = (h.0, both commands xs ys h.1 g)

releases_again : (commands : List Pending) (ids : List ℕ) → AreAgain commands (sends (map (λ id. f.Send (p.PubRel id)) ids))
releases_again commands [] = tt
releases_again commands (id ∷ ids) = (tt, releases_again commands ids)

asks_own : (qos : Qos) (topic payload : List ℕ) → asks_at qos (requests.Publish qos topic payload) ≡ true
asks_own AtMostOnce topic payload = refl
asks_own AtLeastOnce topic payload = refl
asks_own ExactlyOnce topic payload = refl

one_again : (commands : List Pending) (command : Pending) → IsOneOf command commands → AreAgain commands (again command)
one_again commands command here = go command.request refl
  where
    go : (r : Request) → command.request ≡ r → AreAgain commands (sends (again_by command.id r))
    go (requests.Publish qos topic payload) is = ((command, here, refl, ap (asks_at qos) is ∙ asks_own qos topic payload), tt)
    go (requests.Subscribe asks) is = tt
    go (requests.Unsubscribe filters) is = tt
    go requests.Ping is = tt
    go requests.Disconnect is = tt
    go requests.Terminate is = tt
    go requests.Leave is = tt

all_again : (commands some : List Pending) → ((command : Pending) → IsOneOf command some → IsOneOf command commands) → AreAgain commands (flat_map again some)
all_again commands [] of = tt
all_again commands (command ∷ some) of = both commands (again command) (flat_map again some) (one_again commands command (of command (inl refl))) (all_again commands some (λ other here. of other (inr here)))

within : (test : Pending → Bool) (commands : List Pending) (command : Pending) → IsOneOf command (filter test commands) → IsOneOf command commands
within test [] command here = here
within test (x ∷ commands) command here = go (test x) here (within test commands command)
  where
    go : (b : Bool) → IsOneOf command (if b then x ∷ filter test commands else filter test commands) → (IsOneOf command (filter test commands) → IsOneOf command commands) → IsOneOf command (x ∷ commands)
    go true (inl same) rest = inl same
    go true (inr later) rest = inr (rest later)
    go false later rest = inr (rest later)

renews_again : (commands : List Pending) (r : Readings) (asks : List Ask) → AreAgain commands (sends (renew r asks))
renews_again commands r asks = go (length asks) r.last_drawn (used r) asks
  where
    go : (k last : ℕ) (in_use : List ℕ) (asks : List Ask) → AreAgain commands (sends (subscribes k last in_use asks))
    go zero last in_use asks = tt
    go (suc k) last in_use [] = tt
    go (suc k) last in_use (ask ∷ asks) = (tt, go k (fresh last in_use) (fresh last in_use ∷ in_use) (drop 8 (ask ∷ asks)))

-- ---- Counts

releases_counted : (n : ℕ) (ids : List ℕ) → count_by (releases n) (sends (map (λ id. f.Send (p.PubRel id)) ids)) ≡ count_by (λ m. m == n) ids
releases_counted n [] = refl
releases_counted n (id ∷ ids) = omega (arith, counted (releases n) (p.PubRel id) (sends (map (λ m. f.Send (p.PubRel m)) ids)), counted (λ m. m == n) id ids, releases_counted n ids)

releases_none : (n : ℕ) (ids : List ℕ) → count_by (publishes_second n) (sends (map (λ id. f.Send (p.PubRel id)) ids)) ≡ 0
releases_none n [] = refl
releases_none n (id ∷ ids) = releases_none n ids

second_again : (n : ℕ) (command : Pending) → count_by (publishes_second n) (again command) ≡ count_by (is_second n) (command ∷ [])
second_again n command = go command.request
  where
    none_of : (b : Bool) → 0 ≡ count_by (λ (x : Bool). x) ((b && false) ∷ [])
    none_of true = refl
    none_of false = refl

    go : (r : Request) → count_by (publishes_second n) (sends (again_by command.id r)) ≡ count_by (is_second n) (record command { request = r } ∷ [])
    go (requests.Publish qos topic payload) = refl
    go (requests.Subscribe asks) = none_of (command.id == n)
    go (requests.Unsubscribe filters) = none_of (command.id == n)
    go requests.Ping = none_of (command.id == n)
    go requests.Disconnect = none_of (command.id == n)
    go requests.Terminate = none_of (command.id == n)
    go requests.Leave = none_of (command.id == n)

all_seconds : (n : ℕ) (commands : List Pending) → count_by (publishes_second n) (flat_map again commands) ≡ count_by (is_second n) commands
all_seconds n [] = refl
all_seconds n (command ∷ commands) =
    omega (arith, second_again n command, all_seconds n commands, count_append (publishes_second n) (again command) (flat_map again commands), count_append (is_second n) (command ∷ []) commands)

release_again : (n : ℕ) (commands : List Pending) → count_by (releases n) (flat_map again commands) ≡ 0
release_again n [] = refl
release_again n (command ∷ commands) = omega (arith, one command.request, release_again n commands, count_append (releases n) (again command) (flat_map again commands))
  where
    one : (r : Request) → count_by (releases n) (sends (again_by command.id r)) ≡ 0
    one (requests.Publish qos topic payload) = refl
    one (requests.Subscribe asks) = refl
    one (requests.Unsubscribe filters) = refl
    one requests.Ping = refl
    one requests.Disconnect = refl
    one requests.Terminate = refl
    one requests.Leave = refl

-- those of an identifier that is released aren't sent again
rest_second : (n : ℕ) (r : Readings) → count_by (is_second n) (unreleased r) + digit (is_among r.released n) ≤ count_by (is_second n) r.pending + digit (is_among r.released n) × (is_among r.released n ≡ true → count_by (is_second n) (unreleased r) ≡ 0)
rest_second n r = (omega (arith, parts (is_second n) (λ command. not (is_among r.released command.id)) r.pending), none_left)
  where
    none_left : is_among r.released n ≡ true → count_by (is_second n) (unreleased r) ≡ 0
    none_left e = none (is_second n) (λ command. not (is_among r.released command.id)) r.pending (λ command out. go (command.id == n) command out refl)
      where
        go : (b : Bool) (command : Pending) → not (is_among r.released command.id) ≡ true → (command.id == n) ≡ b → is_second n command ≡ false
        go true command out is =
            let here : is_among r.released command.id ≡ true = ap (is_among r.released) (eqb-true command.id n is) ∙ e in
            absurd (cc (sym out ∙ ap not here))
        go false command out is = ap (λ b. b && publishes is_exactly_once command.request) is

-- ---- What a row sends

-- It completes nothing; it sends what isn't released, and PUBREL of what is.
pub record IsResumed (n : ℕ) (r : Readings) (row : Row) : Type 0 where
  pub ongoing : row.phase ≡ Off → ⊥
  pub quiet : IsQuiet row.effects
  pub second : count_by (publishes_second n) (sends row.effects) + digit (is_among r.released n) ≤ count_by (is_second n) r.pending
  pub release : count_by (releases n) (sends row.effects) ≤ digit (is_among r.released n)
  pub none : is_beginning row.phase ≡ true → (count_by (publishes_second n) (sends row.effects) ≡ 0) × (count_by (releases n) (sends row.effects) ≡ 0)
  pub again : AreAgain r.pending (sends row.effects)

-- Or it leads to Off, and sends nothing.
abbrev pub Resumes : ℕ → Readings → Option Row → Type 0
Resumes n r None = Unit {0}
Resumes n r (Some row) = ((row.phase ≡ Off) × (sends row.effects ≡ [])) ⊎ IsResumed n r row

-- Where the session is there when it isn't the first one.
abbrev pub IsPresent : Readings → Packet → Type 0
IsPresent r (p.ConnAck present code) = (code == 0) ≡ true → r.first ≡ false → present ≡ true
IsPresent r _ = Unit {0}

module _ (n : ℕ) (s : Setup) (r : Readings) (once : count_by (λ m. m == n) r.released ≤ 1) (tidy : digit (is_among r.released n) ≤ count_by (is_second n) r.pending) (few : count_by (is_second n) r.pending ≤ 1)
    (among_counts : count_by (λ m. m == n) r.released ≤ digit (is_among r.released n)) where
  abbrev Holds : Option Row → Type 0
  Holds row = Resumes n r row

  off : Holds (ends s r)
  off = inl (refl, ends_send s r)

  first : (present : Bool) → Holds (first_row s r present)
  first false = inr (record { ongoing = λ off. cc off; quiet = nothing; second = omega (arith, tidy); release = omega arith; none = λ is. (refl, refl); again = tt })
  first true = inl (refl, closes_send s.tasks r.left)

  goes_on : Holds (resumed_row r true)
  goes_on =
      let effects = resume r ++ renew r r.unsure in
      let releases_effects = map (λ id. f.Send (p.PubRel id)) r.released in
      let publishes_effects = flat_map (λ command. again_by command.id command.request) (unreleased r) in
      let is = sends_append (resume r) (renew r r.unsure) in
      let resumed_is = sends_append releases_effects publishes_effects in
      inr (record {
        ongoing = λ off. cc off;
        quiet = joined (resume r) (renew r r.unsure) (λ t q. completions.none_resumed t q r) (λ t q. completions.none_renewed t q r r.unsure);
        second = omega (
          arith,
          ap (count_by (publishes_second n)) is,
          count_append (publishes_second n) (sends (resume r)) (sends (renew r r.unsure)),
          none_renewed (publishes_second n) (λ id asks. refl) r r.unsure,
          ap (count_by (publishes_second n)) resumed_is,
          count_append (publishes_second n) (sends releases_effects) (sends publishes_effects),
          releases_none n r.released,
          ap (count_by (publishes_second n)) (again_sent (unreleased r)),
          all_seconds n (unreleased r),
          counts (is_among r.released n) refl,
        );
        release = omega (
          arith,
          ap (count_by (releases n)) is,
          count_append (releases n) (sends (resume r)) (sends (renew r r.unsure)),
          none_renewed (releases n) (λ id asks. refl) r r.unsure,
          ap (count_by (releases n)) resumed_is,
          count_append (releases n) (sends releases_effects) (sends publishes_effects),
          releases_counted n r.released,
          ap (count_by (releases n)) (again_sent (unreleased r)),
          release_again n (unreleased r),
          among_counts,
        );
        none = λ begins. absurd (cc begins);
        again = subst (AreAgain r.pending) (sym is)
            (both r.pending (sends (resume r)) (sends (renew r r.unsure))
            (subst (AreAgain r.pending) (sym resumed_is)
            (both r.pending (sends releases_effects) (sends publishes_effects) (releases_again r.pending r.released)
            (subst (AreAgain r.pending) (sym (again_sent (unreleased r))) (all_again r.pending (unreleased r) (within (λ command. not (is_among r.released command.id)) r.pending)))))
            (renews_again r.pending r r.unsure));
      })
    where
      counts : (b : Bool) → is_among r.released n ≡ b → count_by (is_second n) (unreleased r) + digit b ≤ count_by (is_second n) r.pending
      counts true e = omega (arith, (rest_second n r).1 e, tidy, ap digit e)
      counts false e = omega (arith, parts (is_second n) (λ command. not (is_among r.released command.id)) r.pending)

  resumed : (present : Bool) → present ≡ true → Holds (resumed_row r present)
  resumed true is = goes_on
  resumed false is = absurd (cc is)

  either : (b : Bool) (one other : Option Row) → (b ≡ true → Holds one) → (b ≡ false → Holds other) → Holds (if b then one else other)
  either true one other h g = h refl
  either false one other h g = g refl

  accepted : (b : Bool) → not b ≡ false → b ≡ true
  accepted true e = refl
  accepted false e = absurd (cc e)

  connack : (present : Bool) (code : ℕ) → ((code == 0) ≡ true → r.first ≡ false → present ≡ true) → Holds (connack_row s r present code)
  unfolding connack_row
  connack present code there =
      either (not (code == 0)) (ends s r) (if r.wiping then to Down (f.Send p.Disconnect ∷ []) else (if r.first then first_row s r present else resumed_row r present)) (λ refused. off)
      (λ zero_is. either r.wiping (to Down (f.Send p.Disconnect ∷ [])) (if r.first then first_row s r present else resumed_row r present)
      (λ wiping. inr (record { ongoing = λ off. cc off; quiet = sent p.Disconnect; second = omega (arith, tidy); release = omega arith; none = λ is. (refl, refl); again = (tt, tt) }))
      (λ not_wiping. either r.first (first_row s r present) (resumed_row r present) (λ is_first. first present) (λ not_first. resumed present (there (accepted (code == 0) zero_is) not_first))))

  pub resumes_opening : (packet : Packet) → IsPresent r packet → Holds (opening_row s r packet)
  resumes_opening (p.ConnAck present code) there = connack present code there
  resumes_opening (p.Publish dup qos retain topic id payload) there = off
  resumes_opening (p.PubAck id) there = off
  resumes_opening (p.PubRec id) there = off
  resumes_opening (p.PubRel id) there = off
  resumes_opening (p.PubComp id) there = off
  resumes_opening (p.SubAck id codes) there = off
  resumes_opening (p.UnsubAck id) there = off
  resumes_opening p.PingResp there = off
  resumes_opening (p.Connect clean keep_alive client will user password) there = off
  resumes_opening (p.Subscribe id asks) there = off
  resumes_opening (p.Unsubscribe id filters) there = off
  resumes_opening p.PingReq there = off
  resumes_opening p.Disconnect there = off

-- The table's rows for packets that arrive in Up: which publishes at quality of service 2 they leave open and released.
use Rattle.std.proofs.Common.{◌≡◌, ◌⊎◌, ℕ, zero, suc, ◌+◌, ◌≤◌, Bool, true, false, cond, List, [], ◌∷◌, ◌++◌, map, filter, count_by, length, Option, Some, None, refl, sym, ap, ◌∙◌, subst, arith, append-nil}
use Rattle.std.specs.Prelude.{◌==◌, ◌||◌, ◌&&◌, not, nat_lt, if◌then◌else◌}
use Rattle.std.specs.List.{list_any, AllByRecursion}
use Rattle.std.proofs.lemmas.Bool.{eqb-true, and_parts}
use Rattle.std.proofs.lemmas.Map.Views.{any-filter_same}
use mathlib.Core.Logic.{inl, inr}
use Rattle.mqtt_packet.specs.declared.packet.Packet.{Packet}
use Rattle.mqtt_packet.specs.declared.packet.Packet.TheVariants as p
use Rattle.mqtt_packet.specs.declared.qos.Qos.{Qos}
use Rattle.mqtt_packet.specs.declared.qos.Qos.TheVariants.{AtMostOnce, AtLeastOnce, ExactlyOnce}
use Rattle.topic_filter.specs.Texts.{is_name}
use Rattle.agent_journal.specs.declared.request.Request.{Request}
use Rattle.agent_journal.specs.declared.request.Request.TheVariants as requests
use Rattle.agent_journal.specs.declared.outcome.Outcome.{Outcome}
use Rattle.agent_journal.specs.declared.outcome.Outcome.TheVariants as o
use Rattle.agent_journal.specs.declared.entry.Cause.TheVariants as c
use Rattle.agent_journal.specs.declared.effect.Effect.{Effect}
use Rattle.agent_journal.specs.declared.effect.Effect.TheVariants as f
use Rattle.agent_journal.specs.declared.setup.Setup.{Setup}
use Rattle.agent_journal.specs.declared.setup.Phase.{Phase}
use Rattle.agent_journal.specs.declared.setup.Phase.TheVariants.{Up, Spilled, Off}
use Rattle.agent_journal.specs.Readings.{Pending, stays_open}
use Rattle.agent_journal.specs.Wires.{sends}
use Rattle.agent_table.specs.Arrivals.{at, publishes_at, all_done, all_granted, is_subscribe, is_unsubscribe, awaited, up_row, publish_row, message_row, received_row, puback_row, pubrec_row, pubcomp_row, suback_row, unsuback_row}
use Rattle.agent_table.specs.Deliveries.{publishes, is_at_least_once, is_exactly_once, is_open_publish, is_among, released_behind, with_released}
use Rattle.agent_table.specs.Effects.{done, pass, cancel_all, close, closed_below}
use Rattle.agent_table.specs.Readings.{Readings}
use Rattle.agent_table.specs.Rows.{Row, to, ends}
use Rattle.agent_table.specs.Sizes.{Sizes}
use Rattle.agent_table.proofs.Completions.{none_passed}
use Rattle.agent_table.proofs.Counts.{opened}
use Rattle.once_laws.specs.Counted.{digit, is_second, is_ours, publishes_second, releases, receives, completes}
use Rattle.once_laws.specs.Followed.{is_of, is_beginning}
use Rattle.once_laws.proofs.Counting.{IsTold, IsRest, second_of, ours_second}
use Rattle.once_laws.proofs.Effects.{left, IsQuiet, all_left, joined, sent, nothing, sends_append, dones_send, passes_send, then_sends}
use Rattle.once_laws.proofs.Parts.{counted, fewer, parts, none, fused, ended_are_out}
use Rattle.once_laws.proofs.Sessions.{at_id}
use Rattle.once_laws.proofs.Sessions as sessions
use Rattle.once_laws.proofs.UpRows.{takes}

-- ---- Packets that neither publish nor connect

abbrev pub IsAside : Packet → Type 0
IsAside (p.Publish dup qos retain topic id payload) = ⊥
IsAside (p.Connect clean keep_alive client will user password) = ⊥
IsAside _ = Unit {0}

abbrev pub AreAside : List Packet → Type 0
AreAside packets = AllByRecursion IsAside packets

pub none_aside : (test : Packet → Bool) → ((packet : Packet) → IsAside packet → test packet ≡ false) → (packets : List Packet) → AreAside packets → count_by test packets ≡ 0
none_aside test no_one [] h = refl
none_aside test no_one (packet ∷ packets) h = omega (arith, counted test packet packets, ap digit (no_one packet h.0), none_aside test no_one packets h.1)

pub second_aside : (n : ℕ) (packet : Packet) → IsAside packet → publishes_second n packet ≡ false
second_aside n (p.Publish dup qos retain topic id payload) h = absurd h
second_aside n (p.Connect a b d e f g) h = absurd h
second_aside n (p.ConnAck a b) h = refl
second_aside n (p.PubAck a) h = refl
second_aside n (p.PubRec a) h = refl
second_aside n (p.PubRel a) h = refl
second_aside n (p.PubComp a) h = refl
second_aside n (p.Subscribe a b) h = refl
second_aside n (p.SubAck a b) h = refl
second_aside n (p.Unsubscribe a b) h = refl
second_aside n (p.UnsubAck a) h = refl
second_aside n p.PingReq h = refl
second_aside n p.PingResp h = refl
second_aside n p.Disconnect h = refl

-- ---- Released identifiers

pub among_open : (commands : List Pending) (ids : List ℕ) (n : ℕ) → is_among (filter (is_open_publish is_exactly_once commands) ids) n ≡ (is_open_publish is_exactly_once commands n && is_among ids n)
among_open commands ids n =
    any-filter_same (λ m. m == n) (is_open_publish is_exactly_once commands) (is_open_publish is_exactly_once commands n) (λ m e. ap (is_open_publish is_exactly_once commands) (eqb-true m n e)) ids

open_count : (commands : List Pending) (n : ℕ) → digit (is_open_publish is_exactly_once commands n) ≤ count_by (is_second n) commands
open_count [] n = omega arith
open_count (command ∷ commands) n = go (is_second n command) refl (open_count commands n)
  where
    go : (b : Bool) → is_second n command ≡ b → digit (is_open_publish is_exactly_once commands n) ≤ count_by (is_second n) commands
        → digit (b || is_open_publish is_exactly_once commands n) ≤ count_by (is_second n) (command ∷ commands)
    go true e rest = omega (arith, counted (is_second n) command commands, ap digit e)
    go false e rest = omega (arith, counted (is_second n) command commands, rest)

count_open : (commands : List Pending) (n : ℕ) → count_by (is_second n) commands ≤ 1 → count_by (is_second n) commands ≤ digit (is_open_publish is_exactly_once commands n)
count_open [] n most = omega arith
count_open (command ∷ commands) n most = go (is_second n command) refl (count_open commands n (omega (arith, most, counted (is_second n) command commands)))
  where
    go : (b : Bool) → is_second n command ≡ b → count_by (is_second n) commands ≤ digit (is_open_publish is_exactly_once commands n)
        → count_by (is_second n) (command ∷ commands) ≤ digit (b || is_open_publish is_exactly_once commands n)
    go true e rest = omega (arith, most)
    go false e rest = omega (arith, counted (is_second n) command commands, rest, ap digit e)

-- which of the identifiers stay released
pub rest_of : (n : ℕ) (commands : List Pending) (ids : List ℕ) → count_by (is_of n) commands ≤ 1 → IsRest n commands ids (filter (is_open_publish is_exactly_once commands) ids)
rest_of n commands ids alone =
    let is = ap digit (among_open commands ids n) in
    let both = meet (is_open_publish is_exactly_once commands n) (is_among ids n) in
    record {
      less = omega (arith, is, both.0);
      most = omega (arith, is, both.1, open_count commands n);
      keeps = omega (arith, is, both.2, count_open commands n (omega (arith, alone, second_of n commands)), second_of n commands, alone);
    }
  where
    meet : (a b : Bool) → (digit (a && b) ≤ digit b) × (digit (a && b) ≤ digit a) × (digit b + digit a ≤ digit (a && b) + 1)
    meet true true = (omega arith, omega arith, omega arith)
    meet true false = (omega arith, omega arith, omega arith)
    meet false true = (omega arith, omega arith, omega arith)
    meet false false = (omega arith, omega arith, omega arith)

abbrev pub behind : List Pending → List ℕ → List Effect → List ℕ
behind commands ids effects = filter (is_open_publish is_exactly_once (left commands effects)) ids

-- ---- What a row leaves

-- nothing ends, and these are released with it
pub stays_told : (t q n : ℕ) (commands : List Pending) (released ids : List ℕ) (effects : List Effect) (hears finishes frees : ℕ) → count_by (is_of n) commands ≤ 1 → IsQuiet effects
    → digit (is_among released n) ≤ digit (is_among ids n) → digit (is_among ids n) ≤ digit (is_among released n) + hears → frees ≤ hears
    → frees + 1 ≤ digit (is_among ids n) + 1 → frees ≤ count_by (is_second n) commands → IsTold t q n commands (left commands effects) released (behind commands ids effects) hears finishes frees
stays_told t q n commands released ids effects hears finishes frees alone h low high answered there open_is =
    subst (λ cs. IsTold t q n commands cs released (filter (is_open_publish is_exactly_once cs) ids) hears finishes frees) (sym (all_left effects commands h))
    (let rest = rest_of n commands ids alone in
    let few = second_of n commands in
    record {
      all = omega arith;
      ours = omega arith;
      removed = omega arith;
      fewer = omega arith;
      received = omega (arith, rest.less, high);
      answered = answered;
      freed = omega (arith, rest.keeps, there, open_is, few, alone);
      keeps = omega (arith, rest.keeps, low);
      completed = omega arith;
    })

module _ (t q n : ℕ) (commands : List Pending) (released : List ℕ) (alone : count_by (is_of n) commands ≤ 1) (once : (i j : ℕ) → opened i j commands ≤ 1) where
  -- commands of an identifier and a kind end
  ended : (id : ℕ) (kind : Request → Bool) (outcome : Outcome) (hears finishes : ℕ)
      → count_by (is_second n) (filter (takes id kind) commands) + digit (is_among (filter (is_open_publish is_exactly_once (filter (λ command. not (takes id kind command)) commands)) released) n) ≤ digit (is_among released n) + hears
      → count_by (is_second n) (filter (takes id kind) commands) ≤ finishes
      → IsTold t q n commands (left commands (map (done outcome) (filter (λ command. kind command.request) (at id commands)))) released
      (behind commands released (map (done outcome) (filter (λ command. kind command.request) (at id commands)))) hears finishes 0
  ended id kind outcome hears finishes some most =
      let effects = map (done outcome) (filter (λ command. kind command.request) (at id commands)) in
      let rest_is : left commands effects ≡ filter (λ command. not (takes id kind command)) commands =
      ap (filter (stays_open effects)) (append-nil commands)
      ∙ ap (λ gone. filter (stays_open (map (done outcome) gone)) commands) (fused (λ (command : Pending). kind command.request) (λ command. command.id == id) commands)
      ∙ ended_are_out outcome (takes id kind) commands once in
      subst (λ cs. IsTold t q n commands cs released (filter (is_open_publish is_exactly_once cs) released) hears finishes 0) (sym rest_is)
      (let all = parts (is_of n) (takes id kind) commands in
      let seconds = parts (is_second n) (takes id kind) commands in
      let ours = parts (is_ours t q n) (takes id kind) commands in
      let rest = rest_of n (filter (λ command. not (takes id kind command)) commands) released (omega (arith, all, alone)) in
      record {
        all = omega (arith, all);
        ours = omega (arith, ours);
        removed = omega (arith, seconds, ours, ours_second t q n (filter (takes id kind) commands));
        fewer = omega (arith, seconds);
        received = omega (arith, seconds, some);
        answered = omega arith;
        freed = omega arith;
        keeps = omega (arith, rest.keeps);
        completed = omega (arith, seconds, most);
      })

  -- of another kind
  others_end : (id : ℕ) (kind : Request → Bool) (outcome : Outcome) (hears finishes : ℕ) → ((r : Request) → kind r ≡ true → publishes is_exactly_once r ≡ false)
      → IsTold t q n commands (left commands (map (done outcome) (filter (λ command. kind command.request) (at id commands)))) released
      (behind commands released (map (done outcome) (filter (λ command. kind command.request) (at id commands)))) hears finishes 0
  others_end id kind outcome hears finishes differ =
      let none_gone = none (is_second n) (takes id kind) commands (λ command e. no_second (command.id == n) command.request (differ command.request (and_parts (command.id == id) (kind command.request) e).1)) in
      let rest = rest_of n (filter (λ command. not (takes id kind command)) commands) released (omega (arith, parts (is_of n) (takes id kind) commands, alone)) in
      ended id kind outcome hears finishes (omega (arith, none_gone, rest.less)) (omega (arith, none_gone))
    where
      no_second : (b : Bool) (r : Request) → publishes is_exactly_once r ≡ false → (b && publishes is_exactly_once r) ≡ false
      no_second true r e = e
      no_second false r e = refl

  -- a publish at quality of service 2 that was released ends by its PUBCOMP
  completed : (id : ℕ) → is_among released id ≡ true
      → IsTold t q n commands (left commands (all_done (publishes_at is_exactly_once id commands))) released (behind commands released (all_done (publishes_at is_exactly_once id commands))) 0 (digit (id == n)) 0
  completed id among = ended id (publishes is_exactly_once) o.Done 0 (digit (id == n)) (received (id == n) refl) (gone (id == n) refl)
    where
      seconds : count_by (is_second n) commands ≡ count_by (is_second n) (filter (takes id (publishes is_exactly_once)) commands) + count_by (is_second n) (filter (λ command. not (takes id (publishes is_exactly_once) command)) commands)
      seconds = parts (is_second n) (takes id (publishes is_exactly_once)) commands

      few : count_by (is_second n) commands ≤ 1
      few = omega (arith, alone, second_of n commands)

      gone : (b : Bool) → (id == n) ≡ b → count_by (is_second n) (filter (takes id (publishes is_exactly_once)) commands) ≤ digit b
      gone true e = omega (arith, few, fewer (is_second n) (takes id (publishes is_exactly_once)) commands)
      gone false e = omega (arith, none (is_second n) (takes id (publishes is_exactly_once)) commands differs)
        where
          differs : (command : Pending) → takes id (publishes is_exactly_once) command ≡ true → is_second n command ≡ false
          differs command is =
              let same : command.id ≡ id = eqb-true command.id id (and_parts (command.id == id) (publishes is_exactly_once command.request) is).0 in
              ap (λ m. m == n && publishes is_exactly_once command.request) same ∙ ap (λ b. b && publishes is_exactly_once command.request) e

      rest : IsRest n (filter (λ command. not (takes id (publishes is_exactly_once) command)) commands) released (filter (is_open_publish is_exactly_once (filter (λ command. not (takes id (publishes is_exactly_once) command)) commands)) released)
      rest = rest_of n (filter (λ command. not (takes id (publishes is_exactly_once) command)) commands) released (omega (arith, parts (is_of n) (takes id (publishes is_exactly_once)) commands, alone))

      received : (b : Bool) → (id == n) ≡ b
          → count_by (is_second n) (filter (takes id (publishes is_exactly_once)) commands)
          + digit (is_among (filter (is_open_publish is_exactly_once (filter (λ command. not (takes id (publishes is_exactly_once) command)) commands)) released) n)
          ≤ digit (is_among released n) + 0
      received true e = omega (arith, seconds, few, rest.most, at_id released id n among, ap digit e)
      received false e = omega (arith, rest.less, gone false e)

-- ---- Packet by packet

-- What a row leaves; or it leads to Off. It neither publishes nor connects.
pub record IsAnswered (n : ℕ) (r : Readings) (packet : Packet) (row : Row) : Type 0 where
  pub ongoing : is_beginning row.phase ≡ false
  pub told : (t q : ℕ)
      → IsTold t q n r.pending (left r.pending row.effects) r.released (behind r.pending (released_behind r.pending r.released (c.Arrived packet)) row.effects) (digit (receives n packet)) (digit (completes n packet))
      (count_by (releases n) (sends row.effects))

pub record IsRow (n : ℕ) (r : Readings) (packet : Packet) (row : Row) : Type 0 where
  pub aside : AreAside (sends row.effects)
  pub silent : row.phase ≡ Off → count_by (releases n) (sends row.effects) ≡ 0
  pub answered : (row.phase ≡ Off) ⊎ IsAnswered n r packet row

abbrev pub Answers : ℕ → Readings → Packet → Option Row → Type 0
Answers n r packet None = Unit {0}
Answers n r packet (Some row) = IsRow n r packet row

pub closes_send : (n : ℕ) (gone : ℕ → Bool) → sends (closed_below n gone) ≡ []
closes_send zero gone = refl
closes_send (suc n) gone = sends_append (closed_below n gone) _ ∙ ap (λ ps. ps ++ sends (cond (gone n) [] (f.Closed n ∷ []))) (closes_send n gone) ∙ one (gone n)
  where
    one : (b : Bool) → sends (cond b [] (f.Closed n ∷ [])) ≡ []
    one true = refl
    one false = refl

-- the end sends nothing
pub ends_send : (s : Setup) (r : Readings) → sends (cancel_all r ++ close s r) ≡ []
ends_send s r = sends_append (cancel_all r) (close s r) ∙ ap (λ ps. ps ++ sends (close s r)) (dones_send o.Cancelled r.pending) ∙ closes_send s.tasks r.left

first_isnt : (r : Request) → publishes is_at_least_once r ≡ true → publishes is_exactly_once r ≡ false
first_isnt (requests.Publish AtMostOnce topic payload) e = absurd (cc e)
first_isnt (requests.Publish AtLeastOnce topic payload) e = refl
first_isnt (requests.Publish ExactlyOnce topic payload) e = absurd (cc e)
first_isnt (requests.Subscribe asks) e = refl
first_isnt (requests.Unsubscribe filters) e = refl
first_isnt requests.Ping e = refl
first_isnt requests.Disconnect e = refl
first_isnt requests.Terminate e = refl
first_isnt requests.Leave e = refl

subscribe_isnt : (r : Request) → is_subscribe r ≡ true → publishes is_exactly_once r ≡ false
subscribe_isnt (requests.Publish qos topic payload) e = absurd (cc e)
subscribe_isnt (requests.Subscribe asks) e = refl
subscribe_isnt (requests.Unsubscribe filters) e = refl
subscribe_isnt requests.Ping e = refl
subscribe_isnt requests.Disconnect e = refl
subscribe_isnt requests.Terminate e = refl
subscribe_isnt requests.Leave e = refl

unsubscribe_isnt : (r : Request) → is_unsubscribe r ≡ true → publishes is_exactly_once r ≡ false
unsubscribe_isnt (requests.Publish qos topic payload) e = absurd (cc e)
unsubscribe_isnt (requests.Subscribe asks) e = refl
unsubscribe_isnt (requests.Unsubscribe filters) e = refl
unsubscribe_isnt requests.Ping e = refl
unsubscribe_isnt requests.Disconnect e = refl
unsubscribe_isnt requests.Terminate e = refl
unsubscribe_isnt requests.Leave e = refl

module _ (n : ℕ) (s : Setup) (l : Sizes) (r : Readings) (alone : count_by (is_of n) r.pending ≤ 1) (once : (i j : ℕ) → opened i j r.pending ≤ 1) where
  abbrev Holds : Packet → Option Row → Type 0
  Holds packet row = Answers n r packet row

  either : (packet : Packet) (b : Bool) (one other : Option Row) → Holds packet one → Holds packet other → Holds packet (if b then one else other)
  either packet true one other h g = h
  either packet false one other h g = g

  off : (packet : Packet) → Holds packet (ends s r)
  off packet = record { aside = subst AreAside (sym (ends_send s r)) tt; silent = λ is. ap (count_by (releases n)) (ends_send s r); answered = inl refl }

  -- nothing ends, and nothing is released
  stays : (packet : Packet) (phase : Phase) (effects : List Effect) (sent_is : List Packet) → is_beginning phase ≡ false → IsQuiet effects → sends effects ≡ sent_is → AreAside sent_is → count_by (releases n) sent_is ≡ 0
      → released_behind r.pending r.released (c.Arrived packet) ≡ r.released → Holds packet (to phase effects)
  stays packet phase effects sent_is goes_on h is aside none same =
      let silent = ap (count_by (releases n)) is ∙ none in
      record {
        aside = subst AreAside (sym is) aside;
        silent = λ off. silent;
        answered = inr (record {
          ongoing = goes_on;
          told = λ t q.
              subst (λ ids. IsTold t q n r.pending (left r.pending effects) r.released (behind r.pending ids effects) (digit (receives n packet)) (digit (completes n packet)) (count_by (releases n) (sends effects))) (sym same)
              (stays_told t q n r.pending r.released r.released effects (digit (receives n packet)) (digit (completes n packet)) (count_by (releases n) (sends effects)) alone h (omega arith) (omega arith) (omega (arith, silent))
              (omega (arith, silent)) (omega (arith, silent)));
        });
      }

  -- commands end
  ends_some : (packet : Packet) (outcome : Outcome) (gone : List Pending) → released_behind r.pending r.released (c.Arrived packet) ≡ r.released
      → ((t q : ℕ) → IsTold t q n r.pending (left r.pending (map (done outcome) gone)) r.released (behind r.pending r.released (map (done outcome) gone)) (digit (receives n packet)) (digit (completes n packet)) 0)
      → Holds packet (to Up (map (done outcome) gone))
  ends_some packet outcome gone same told =
      let is = dones_send outcome gone in
      record {
        aside = subst AreAside (sym is) tt;
        silent = λ off. absurd (cc off);
        answered = inr (record {
          ongoing = refl;
          told = λ t q.
              subst (λ ids. IsTold t q n r.pending (left r.pending (map (done outcome) gone)) r.released (behind r.pending ids (map (done outcome) gone)) (digit (receives n packet)) (digit (completes n packet))
              (count_by (releases n) (sends (map (done outcome) gone)))) (sym same)
              (subst (λ m. IsTold t q n r.pending (left r.pending (map (done outcome) gone)) r.released (behind r.pending r.released (map (done outcome) gone)) (digit (receives n packet)) (digit (completes n packet)) m)
              (sym (ap (count_by (releases n)) is)) (told t q));
        });
      }

  passes : (qos : Qos) (topic payload : List ℕ) → IsQuiet (pass s r qos topic payload)
  passes qos topic payload t q = none_passed t q s.tasks r (record { topic = topic; qos = qos; payload = payload })

  -- a message that is passed and answered
  message_answered : (packet : Packet) (qos : Qos) (topic payload : List ℕ) (answer : Packet) → IsAside answer → count_by (releases n) (answer ∷ []) ≡ 0 → released_behind r.pending r.released (c.Arrived packet) ≡ r.released
      → Holds packet (to Up (pass s r qos topic payload ++ f.Send answer ∷ []))
  message_answered packet qos topic payload answer aside none same =
      stays packet Up (pass s r qos topic payload ++ f.Send answer ∷ []) (answer ∷ []) refl (joined (pass s r qos topic payload) (f.Send answer ∷ []) (passes qos topic payload) (sent answer))
      (then_sends (pass s r qos topic payload) answer (passes_send r (record { topic = topic; qos = qos; payload = payload }) s.tasks)) (aside, tt) none same

  received : (packet : Packet) (topic : List ℕ) (id : ℕ) (payload : List ℕ) → released_behind r.pending r.released (c.Arrived packet) ≡ r.released → Holds packet (received_row s l r topic id payload)
  received packet topic id payload same =
      let passed = to Up (pass s r ExactlyOnce topic payload ++ f.Send (p.PubRec id) ∷ []) in
      either packet (is_among r.held id) (to Up (f.Send (p.PubRec id) ∷ [])) (if nat_lt (length r.held) l.inbound then passed else to Spilled [])
      (stays packet Up (f.Send (p.PubRec id) ∷ []) (p.PubRec id ∷ []) refl (sent (p.PubRec id)) refl (tt, tt) refl same)
      (either packet (nat_lt (length r.held) l.inbound) passed (to Spilled []) (message_answered packet ExactlyOnce topic payload (p.PubRec id) tt refl same) (stays packet Spilled [] [] refl nothing refl tt refl same))

  message : (dup retain : Bool) (qos : Qos) (topic : List ℕ) (id : ℕ) (payload : List ℕ) → Holds (p.Publish dup qos retain topic id payload) (message_row s l r qos topic id payload)
  message dup retain AtMostOnce topic id payload =
      stays (p.Publish dup AtMostOnce retain topic id payload) Up (pass s r AtMostOnce topic payload) [] refl (passes AtMostOnce topic payload) (passes_send r (record { topic = topic; qos = AtMostOnce; payload = payload }) s.tasks) tt refl
      refl
  message dup retain AtLeastOnce topic id payload = message_answered (p.Publish dup AtLeastOnce retain topic id payload) AtLeastOnce topic payload (p.PubAck id) tt refl refl
  message dup retain ExactlyOnce topic id payload = received (p.Publish dup ExactlyOnce retain topic id payload) topic id payload refl

  -- a PUBREC releases
  released_ids : (id : ℕ) → is_open_publish is_exactly_once r.pending id ≡ true
      → (digit (is_among r.released n) ≤ digit (is_among (with_released r.pending r.released id) n)) × (digit (is_among (with_released r.pending r.released id) n) ≤ digit (is_among r.released n) + digit (id == n))
      × (digit (id == n) ≤ digit (is_among (with_released r.pending r.released id) n))
  released_ids id is = go (is_among r.released id) refl
    where
      go : (b : Bool) → is_among r.released id ≡ b
          → (digit (is_among r.released n) ≤ digit (is_among (with_released r.pending r.released id) n)) × (digit (is_among (with_released r.pending r.released id) n) ≤ digit (is_among r.released n) + digit (id == n))
          × (digit (id == n) ≤ digit (is_among (with_released r.pending r.released id) n))
      go true among = rw (is, among) (omega arith, omega arith, at_id r.released id n among)
      go false among = rw (is, among) (let more = ap digit (sessions.among_more r.released id n) in let three = sessions.either_more (is_among r.released n) (id == n) in (omega (arith, more, three.1), omega (arith, more, three.0), omega (arith, more, three.2)))

  pubrec : (b : Bool) (id : ℕ) → is_open_publish is_exactly_once r.pending id ≡ b → Holds (p.PubRec id) (to Up (if b then f.Send (p.PubRel id) ∷ [] else []))
  pubrec true id is =
      let ids = released_ids id is in
      let one = counted (releases n) (p.PubRel id) [] in
      record {
        aside = (tt, tt);
        silent = λ off. absurd (cc off);
        answered = inr (record {
          ongoing = refl;
          told = λ t q.
              stays_told t q n r.pending r.released (with_released r.pending r.released id) (f.Send (p.PubRel id) ∷ []) (digit (id == n)) 0 (count_by (releases n) (p.PubRel id ∷ [])) alone (sent (p.PubRel id)) ids.0 ids.1
              (omega (arith, one)) (omega (arith, one, ids.2)) (omega (arith, one, there (id == n) refl));
        });
      }
    where
      there : (b : Bool) → (id == n) ≡ b → digit b ≤ count_by (is_second n) r.pending
      there true e = omega (arith, open_count r.pending n, ap digit (subst (λ m. is_open_publish is_exactly_once r.pending m ≡ true) (eqb-true id n e) is))
      there false e = omega arith
  pubrec false id is = stays (p.PubRec id) Up [] [] refl nothing refl tt refl (rw is refl)

  pubcomp : (b : Bool) (id : ℕ) → is_among r.released id ≡ b → Holds (p.PubComp id) (to Up (if b then all_done (publishes_at is_exactly_once id r.pending) else []))
  pubcomp true id among = ends_some (p.PubComp id) o.Done (publishes_at is_exactly_once id r.pending) refl (λ t q. completed t q n r.pending r.released alone once id among)
  pubcomp false id among = stays (p.PubComp id) Up [] [] refl nothing refl tt refl refl

  suback : (b : Bool) (id : ℕ) (codes : List ℕ) → Holds (p.SubAck id codes) (if b then ends s r else to Up (all_granted codes (filter (λ command. is_subscribe command.request) (at id r.pending))))
  suback true id codes = off (p.SubAck id codes)
  suback false id codes =
      ends_some (p.SubAck id codes) (o.Granted codes) (filter (λ command. is_subscribe command.request) (at id r.pending)) refl (λ t q. others_end t q n r.pending r.released alone once id is_subscribe (o.Granted codes) 0 0 subscribe_isnt)

  pub answers_up : (packet : Packet) → Holds packet (up_row s l r packet)
  unfolding publish_row puback_row pubrec_row pubcomp_row suback_row unsuback_row
  answers_up (p.Publish dup qos retain topic id payload) =
      let packet = p.Publish dup qos retain topic id payload in
      either packet (is_name topic) (message_row s l r qos topic id payload) (ends s r) (message dup retain qos topic id payload) (off packet)
  answers_up (p.PubAck id) =
      ends_some (p.PubAck id) o.Done (publishes_at is_at_least_once id r.pending) refl (λ t q. others_end t q n r.pending r.released alone once id (publishes is_at_least_once) o.Done 0 0 first_isnt)
  answers_up (p.PubRec id) = pubrec (is_open_publish is_exactly_once r.pending id) id refl
  answers_up (p.PubRel id) = stays (p.PubRel id) Up (f.Send (p.PubComp id) ∷ []) (p.PubComp id ∷ []) refl (sent (p.PubComp id)) refl (tt, tt) refl refl
  answers_up (p.PubComp id) = pubcomp (is_among r.released id) id refl
  answers_up (p.SubAck id codes) = suback (list_any (λ count. not (count == length codes)) (awaited r id)) id codes
  answers_up (p.UnsubAck id) =
      ends_some (p.UnsubAck id) o.Done (filter (λ command. is_unsubscribe command.request) (at id r.pending)) refl (λ t q. others_end t q n r.pending r.released alone once id is_unsubscribe o.Done 0 0 unsubscribe_isnt)
  answers_up p.PingResp = stays p.PingResp Up [] [] refl nothing refl tt refl refl
  answers_up (p.Connect clean keep_alive client will user password) = off (p.Connect clean keep_alive client will user password)
  answers_up (p.ConnAck present code) = off (p.ConnAck present code)
  answers_up (p.Subscribe id asks) = off (p.Subscribe id asks)
  answers_up (p.Unsubscribe id filters) = off (p.Unsubscribe id filters)
  answers_up p.PingReq = off p.PingReq
  answers_up p.Disconnect = off p.Disconnect

-- No PUBLISH is sent of an identifier that is released, or whose PUBCOMP is awaited.
use Rattle.std.proofs.Common.{◌≡◌, ◌⊎◌, ℕ, ◌<◌, ◌≤◌, Bool, true, false, cond, List, [], ◌∷◌, ◌++◌, map, filter, length, Option, Some, None, is_some, refl, sym, ap, ◌∙◌, subst, arith}
use Rattle.std.specs.Prelude.{◌&&◌, ◌||◌, ◌==◌, not}
use Rattle.std.specs.List.{list_any, AllByRecursion}
use Rattle.std.proofs.lemmas.Bool.{eqb-true, eq-eqb, le-ltb, not-true}
use Rattle.std.proofs.Math.Bool.{or-true}
use mathlib.Core.Logic.{inl, inr}
use Rattle.mqtt_packet.specs.declared.packet.Packet.{Packet}
use Rattle.mqtt_packet.specs.declared.packet.Packet.TheVariants as p
use Rattle.agent_journal.specs.declared.request.Request.{Request}
use Rattle.agent_journal.specs.declared.entry.Cause.{Cause}
use Rattle.agent_journal.specs.declared.entry.Cause.TheVariants as c
use Rattle.agent_journal.specs.declared.entry.Entry.{Entry}
use Rattle.agent_journal.specs.declared.effect.Effect.{Effect}
use Rattle.agent_journal.specs.declared.effect.Effect.TheVariants as f
use Rattle.agent_journal.specs.declared.setup.Setup.{Setup}
use Rattle.agent_journal.specs.declared.setup.Phase.TheVariants.{Off}
use Rattle.agent_journal.specs.Projections.{commands_of}
use Rattle.agent_journal.specs.Readings.{Pending, pending_of, opens, stays_open, takes_of}
use Rattle.agent_journal.specs.Wires.{sends}
use Rattle.agent_table.proofs.Commands.{below, all_commands}
use Rattle.std.proofs.lemmas.Bool.{and_parts}
use Rattle.agent_table.specs.Awaiting.{is_publish_of, is_release_of, sends_publish, sends_release, ends_waiting, awaits_completion}
use Rattle.agent_table.specs.Deliveries.{publishes, is_among, is_open_publish, is_exactly_once, with_released, released_by, released_behind, released_of}
use Rattle.agent_table.specs.Effects.{used}
use Rattle.agent_table.specs.Histories.{IsLegalPast, readings, row, effects_of, phase_of, phase_by}
use Rattle.agent_table.specs.Identifiers.{last_drawn_of}
use Rattle.agent_table.specs.Laws.{HasIdentifiers, IsOneOf, NoReleasedIsPublished, AwaitedStayUnpublished}
use Rattle.agent_table.specs.Readings.{Readings}
use Rattle.agent_table.specs.Rows.{Row}
use Rattle.agent_table.specs.Sends.{drawn_by, drawn_in}
use Rattle.agent_table.specs.Sizes.{Sizes}
use Rattle.agent_table.proofs.Counts.{is_command, opened, dones, count_more, stays_is}
use Rattle.agent_table.proofs.FewUsed.{identifiers_are_few}
use Rattle.agent_table.proofs.Once.{taken_next, each_is_open_or_done, few}
use Rattle.agent_table.proofs.Sendings.{IsDue, FitsSent, Fit, FitsRow, fit_row}
use Rattle.agent_table.proofs.SoundPasts.{last_low}
use Rattle.agent_table.proofs.SoundRows.{IsLow, all_both, all_passed}
use Rattle.agent_table.proofs.Staying.{IsIt, OnlyIt, Keeps, keeps_row, StaysOff, off_row}

-- ---- What fits, of all effects

module _ (s : Setup) (l : Sizes) (r : Readings) (cause : Cause) where
  packet_unreleased : (n : ℕ) → is_among r.released n ≡ true → (packet : Packet) → FitsSent s l r cause packet → is_publish_of n packet ≡ false
  packet_unreleased n one (p.Connect clean keep_alive client will user password) fit = refl
  packet_unreleased n one (p.ConnAck present code) fit = refl
  packet_unreleased n one (p.Publish dup qos retain topic id payload) fit = fit.unreleased n one
  packet_unreleased n one (p.PubAck id) fit = refl
  packet_unreleased n one (p.PubRec id) fit = refl
  packet_unreleased n one (p.PubRel id) fit = refl
  packet_unreleased n one (p.PubComp id) fit = refl
  packet_unreleased n one (p.Subscribe id asks) fit = refl
  packet_unreleased n one (p.SubAck id codes) fit = refl
  packet_unreleased n one (p.Unsubscribe id filters) fit = refl
  packet_unreleased n one (p.UnsubAck id) fit = refl
  packet_unreleased n one p.PingReq fit = refl
  packet_unreleased n one p.PingResp fit = refl
  packet_unreleased n one p.Disconnect fit = refl

  none_unreleased : (n : ℕ) → is_among r.released n ≡ true → (effects : List Effect) → Fit s l r cause effects → sends_publish n effects ≡ false
  none_unreleased n one [] fit = refl
  none_unreleased n one (f.Send packet ∷ effects) fit = ap (λ b. b || sends_publish n effects) (packet_unreleased n one packet fit.0) ∙ none_unreleased n one effects fit.1
  none_unreleased n one (f.Done task seq outcome ∷ effects) fit = none_unreleased n one effects fit.1
  none_unreleased n one (f.Pass task message ∷ effects) fit = none_unreleased n one effects fit.1
  none_unreleased n one (f.Closed task ∷ effects) fit = none_unreleased n one effects fit.1

  packet_alone : (m n : ℕ) → cause ≡ c.Arrived (p.PubRec m) → (packet : Packet) → FitsSent s l r cause packet → is_publish_of n packet ≡ false
  packet_alone m n is (p.Connect clean keep_alive client will user password) fit = refl
  packet_alone m n is (p.ConnAck present code) fit = refl
  packet_alone m n is (p.Publish dup qos retain topic id payload) fit = absurd (fit.alone m is)
  packet_alone m n is (p.PubAck id) fit = refl
  packet_alone m n is (p.PubRec id) fit = refl
  packet_alone m n is (p.PubRel id) fit = refl
  packet_alone m n is (p.PubComp id) fit = refl
  packet_alone m n is (p.Subscribe id asks) fit = refl
  packet_alone m n is (p.SubAck id codes) fit = refl
  packet_alone m n is (p.Unsubscribe id filters) fit = refl
  packet_alone m n is (p.UnsubAck id) fit = refl
  packet_alone m n is p.PingReq fit = refl
  packet_alone m n is p.PingResp fit = refl
  packet_alone m n is p.Disconnect fit = refl

  none_alone : (m n : ℕ) → cause ≡ c.Arrived (p.PubRec m) → (effects : List Effect) → Fit s l r cause effects → sends_publish n effects ≡ false
  none_alone m n is [] fit = refl
  none_alone m n is (f.Send packet ∷ effects) fit = ap (λ b. b || sends_publish n effects) (packet_alone m n is packet fit.0) ∙ none_alone m n is effects fit.1
  none_alone m n is (f.Done task seq outcome ∷ effects) fit = none_alone m n is effects fit.1
  none_alone m n is (f.Pass task message ∷ effects) fit = none_alone m n is effects fit.1
  none_alone m n is (f.Closed task ∷ effects) fit = none_alone m n is effects fit.1

  packet_due : (n : ℕ) (packet : Packet) → FitsSent s l r cause packet → is_release_of n packet ≡ true → IsDue s l r cause n
  packet_due n (p.Connect clean keep_alive client will user password) fit e = absurd (cc e)
  packet_due n (p.ConnAck present code) fit e = absurd (cc e)
  packet_due n (p.Publish dup qos retain topic id payload) fit e = absurd (cc e)
  packet_due n (p.PubAck id) fit e = absurd (cc e)
  packet_due n (p.PubRec id) fit e = absurd (cc e)
  packet_due n (p.PubRel id) fit e = let same : id ≡ n = eqb-true id n e in subst (IsDue s l r cause) same fit
  packet_due n (p.PubComp id) fit e = absurd (cc e)
  packet_due n (p.Subscribe id asks) fit e = absurd (cc e)
  packet_due n (p.SubAck id codes) fit e = absurd (cc e)
  packet_due n (p.Unsubscribe id filters) fit e = absurd (cc e)
  packet_due n (p.UnsubAck id) fit e = absurd (cc e)
  packet_due n p.PingReq fit e = absurd (cc e)
  packet_due n p.PingResp fit e = absurd (cc e)
  packet_due n p.Disconnect fit e = absurd (cc e)

  first_or : (n : ℕ) (a b : Bool) → (a ≡ true → IsDue s l r cause n) → (b ≡ true → IsDue s l r cause n) → (a || b) ≡ true → IsDue s l r cause n
  first_or n true b h k e = h refl
  first_or n false b h k e = k e

  some_due : (n : ℕ) (effects : List Effect) → Fit s l r cause effects → sends_release n effects ≡ true → IsDue s l r cause n
  some_due n [] fit e = absurd (cc e)
  some_due n (f.Send packet ∷ effects) fit e = first_or n (is_release_of n packet) (sends_release n effects) (packet_due n packet fit.0) (some_due n effects fit.1) e
  some_due n (f.Done task seq outcome ∷ effects) fit e = some_due n effects fit.1 e
  some_due n (f.Pass task message ∷ effects) fit e = some_due n effects fit.1 e
  some_due n (f.Closed task ∷ effects) fit e = some_due n effects fit.1 e

  packet_low : (packet : Packet) → FitsSent s l r cause packet → AllByRecursion IsLow (drawn_by packet)
  packet_low (p.Connect clean keep_alive client will user password) fit = tt
  packet_low (p.ConnAck present code) fit = tt
  packet_low (p.Publish dup qos retain topic id payload) fit = fit.drawn
  packet_low (p.PubAck id) fit = tt
  packet_low (p.PubRec id) fit = tt
  packet_low (p.PubRel id) fit = tt
  packet_low (p.PubComp id) fit = tt
  packet_low (p.Subscribe id asks) fit = (fit, tt)
  packet_low (p.SubAck id codes) fit = tt
  packet_low (p.Unsubscribe id filters) fit = (fit, tt)
  packet_low (p.UnsubAck id) fit = tt
  packet_low p.PingReq fit = tt
  packet_low p.PingResp fit = tt
  packet_low p.Disconnect fit = tt

  all_low : (effects : List Effect) → Fit s l r cause effects → AllByRecursion IsLow (drawn_in effects)
  all_low [] fit = tt
  all_low (f.Send packet ∷ effects) fit = all_both IsLow (drawn_by packet) (drawn_in effects) (packet_low packet fit.0) (all_low effects fit.1)
  all_low (f.Done task seq outcome ∷ effects) fit = all_low effects fit.1
  all_low (f.Pass task message ∷ effects) fit = all_low effects fit.1
  all_low (f.Closed task ∷ effects) fit = all_low effects fit.1

-- ---- What is released is open

passes : (test : ℕ → Bool) (ns : List ℕ) (n : ℕ) → AllByRecursion (λ m. test m ≡ true) ns → is_among ns n ≡ true → test n ≡ true
passes test [] n all e = absurd (cc e)
passes test (m ∷ ns) n all e = by (m == n) refl e (passes test ns n all.1)
  where
    by : (b : Bool) → (m == n) ≡ b → (b || is_among ns n) ≡ true → (is_among ns n ≡ true → test n ≡ true) → test n ≡ true
    by true is e rest = let same : m ≡ n = eqb-true m n is in subst (λ k. test k ≡ true) same all.0
    by false is e rest = rest e

released_open : (past : List Entry) (n : ℕ) → is_among (released_of past) n ≡ true → is_open_publish is_exactly_once (pending_of past) n ≡ true
released_open [] n e = absurd (cc e)
released_open (e ∷ past) n one =
    let test : ℕ → Bool = is_open_publish is_exactly_once (pending_of (e ∷ past)) in
    passes test (released_of (e ∷ past)) n (all_passed test (released_behind (pending_of past) (released_of past) e.cause)) one

open_among : (commands : List Pending) (n : ℕ) → is_open_publish is_exactly_once commands n ≡ true → is_among (map (λ command. command.id) commands) n ≡ true
open_among [] n e = absurd (cc e)
open_among (command ∷ commands) n e = by (command.id == n) (publishes is_exactly_once command.request) (is_open_publish is_exactly_once commands n) (is_among (map (λ other. other.id) commands) n) (open_among commands n) e
  where
    by : (a b others among : Bool) → (others ≡ true → among ≡ true) → ((a && b) || others) ≡ true → (a || among) ≡ true
    by true b others among h e = refl
    by false b others among h e = h e

pub front_among : (ns ms : List ℕ) (n : ℕ) → is_among ns n ≡ true → is_among (ns ++ ms) n ≡ true
front_among [] ms n e = absurd (cc e)
front_among (m ∷ ns) ms n e = by (m == n) (is_among ns n) (is_among (ns ++ ms) n) (front_among ns ms n) e
  where
    by : (a b d : Bool) → (b ≡ true → d ≡ true) → (a || b) ≡ true → (a || d) ≡ true
    by true b d h e = refl
    by false b d h e = h e

pub released_used : (s : Setup) (l : Sizes) (past : List Entry) (n : ℕ) → is_among (released_of past) n ≡ true → is_among (used (readings s l past)) n ≡ true
released_used s l past n one =
    let r = readings s l past in
    front_among (map (λ command. command.id) r.pending) (map (λ renewal. renewal.id) r.renewals) n (open_among (pending_of past) n (released_open past n one))

-- ---- An open publish, and only it has its numbers

find_open : (commands : List Pending) (n : ℕ) → is_open_publish is_exactly_once commands n ≡ true → (command : Pending) × IsOneOf command commands × IsIt n command
find_open [] n e = absurd (cc e)
find_open (command ∷ commands) n e = by (command.id == n && publishes is_exactly_once command.request) refl e (find_open commands n)
  where
    by : (b : Bool) → (command.id == n && publishes is_exactly_once command.request) ≡ b → (b || is_open_publish is_exactly_once commands n) ≡ true
        → (is_open_publish is_exactly_once commands n ≡ true → (other : Pending) × IsOneOf other commands × IsIt n other) → (other : Pending) × IsOneOf other (command ∷ commands) × IsIt n other
    by true is e rest = let two = and_parts (command.id == n) (publishes is_exactly_once command.request) is in (command, inl refl, record { id = eqb-true command.id n two.0; publish = two.1 })
    by false is e rest = let found = rest e in (found.0, inr found.1, found.2)

own_numbers : (command : Pending) → is_command command.task command.seq command ≡ true
own_numbers command = rw (eq-eqb command.task command.task refl, eq-eqb command.seq command.seq refl) refl

module _ (command : Pending) (n : ℕ) where
  abbrev count : List Pending → ℕ
  count commands = opened command.task command.seq commands

  abbrev more : Pending → ℕ
  more other = cond (is_command command.task command.seq other) 1 0

  pub counted : (commands : List Pending) → IsOneOf command commands → 1 ≤ count commands
  counted [] one = absurd one
  counted (other ∷ commands) (inl same) =
      let sum = count_more (is_command command.task command.seq) other commands in
      let one = ap (λ b. cond {A = ℕ} b 1 0) (ap (λ (x : Pending). is_command command.task command.seq x) (sym same) ∙ own_numbers command) in omega (arith, sum, one)
  counted (other ∷ commands) (inr later) = let sum = count_more (is_command command.task command.seq) other commands in let rest = counted commands later in omega (arith, sum, rest)

  none_of : (other : Pending) → more other ≤ 0 → OnlyIt command.task command.seq n other
  none_of other h its = let one = ap (λ b. cond {A = ℕ} b 1 0) its in absurd (omega (arith, one, h))

  none_counted : (commands : List Pending) → count commands ≤ 0 → AllByRecursion (OnlyIt command.task command.seq n) commands
  none_counted [] h = tt
  none_counted (other ∷ commands) h = let sum = count_more (is_command command.task command.seq) other commands in (none_of other (omega (arith, sum, h)), none_counted commands (omega (arith, sum, h)))

  only_it : (commands : List Pending) → IsOneOf command commands → IsIt n command → count commands ≤ 1 → AllByRecursion (OnlyIt command.task command.seq n) commands
  only_it [] one it h = tt
  only_it (other ∷ commands) (inl same) it h =
      let sum = count_more (is_command command.task command.seq) other commands in
      let one = ap (λ b. cond {A = ℕ} b 1 0) (ap (λ (x : Pending). is_command command.task command.seq x) (sym same) ∙ own_numbers command) in
      (λ its. subst (IsIt n) same it, none_counted commands (omega (arith, sum, one, h)))
  only_it (other ∷ commands) (inr later) it h =
      let sum = count_more (is_command command.task command.seq) other commands in let rest = counted commands later in
      (none_of other (omega (arith, sum, rest, h)), only_it commands later it (omega (arith, sum, h)))

  stays_in : (keeps : Pending → Bool) (commands : List Pending) → IsOneOf command commands → keeps command ≡ true → IsOneOf command (filter keeps commands)
  stays_in keeps [] one e = one
  stays_in keeps (other ∷ commands) one e = by (keeps other) refl one (λ later. stays_in keeps commands later e)
    where
      by : (b : Bool) → keeps other ≡ b → IsOneOf command (other ∷ commands) → (IsOneOf command commands → IsOneOf command (filter keeps commands)) → IsOneOf command (cond b (other ∷ filter keeps commands) (filter keeps commands))
      by true is (inl same) rest = inl same
      by true is (inr later) rest = inr (rest later)
      by false is (inl same) rest = absurd (cc (sym is ∙ ap keeps (sym same) ∙ e))
      by false is (inr later) rest = rest later

  stands_in : (commands others : List Pending) → IsOneOf command commands → IsOneOf command (commands ++ others)
  stands_in [] others one = absurd one
  stands_in (other ∷ commands) others (inl same) = inl same
  stands_in (other ∷ commands) others (inr later) = inr (stands_in commands others later)

  pub is_open : (commands : List Pending) → IsOneOf command commands → IsIt n command → is_open_publish is_exactly_once commands n ≡ true
  is_open [] one it = absurd one
  is_open (other ∷ commands) (inl same) it =
      let its = subst (IsIt n) same it in rw (eq-eqb other.id n its.id, its.publish) refl
  is_open (other ∷ commands) (inr later) it = ap (λ b. (other.id == n && publishes is_exactly_once other.request) || b) (is_open commands later it) ∙ or-true (other.id == n && publishes is_exactly_once other.request)

-- ---- Released behind an entry

behind_last : (ns : List ℕ) (n : ℕ) → is_among (ns ++ n ∷ []) n ≡ true
behind_last [] n = rw (eq-eqb n n refl) refl
behind_last (m ∷ ns) n = ap (λ b. (m == n) || b) (behind_last ns n) ∙ or-true (m == n)

with_kept : (commands : List Pending) (released : List ℕ) (id n : ℕ) → is_among released n ≡ true → is_among (with_released commands released id) n ≡ true
with_kept commands released id n one = by (is_open_publish is_exactly_once commands id && not (is_among released id))
  where
    by : (b : Bool) → is_among (cond b (released ++ id ∷ []) released) n ≡ true
    by true = front_among released (id ∷ []) n one
    by false = one

pub behind_kept : (commands : List Pending) (released : List ℕ) (cause : Cause) (n : ℕ) → is_among released n ≡ true → is_among (released_behind commands released cause) n ≡ true
behind_kept commands released c.Opened n one = one
behind_kept commands released (c.Take task seq request) n one = one
behind_kept commands released (c.Arrived packet) n one = by packet
  where
    by : (packet : Packet) → is_among (released_by commands released packet) n ≡ true
    by (p.Connect clean keep_alive client will user password) = one
    by (p.ConnAck present code) = one
    by (p.Publish dup qos retain topic id payload) = one
    by (p.PubAck id) = one
    by (p.PubRec id) = with_kept commands released id n one
    by (p.PubRel id) = one
    by (p.PubComp id) = one
    by (p.Subscribe id asks) = one
    by (p.SubAck id codes) = one
    by (p.Unsubscribe id filters) = one
    by (p.UnsubAck id) = one
    by p.PingReq = one
    by p.PingResp = one
    by p.Disconnect = one
behind_kept commands released (c.Broke why) n one = one
behind_kept commands released c.Tick n one = one
behind_kept commands released c.GaveUp n one = one
behind_kept commands released c.Finish n one = one

pub with_new : (commands : List Pending) (released : List ℕ) (n : ℕ) → is_open_publish is_exactly_once commands n ≡ true → is_among (with_released commands released n) n ≡ true
with_new commands released n e = by (is_open_publish is_exactly_once commands n) (is_among released n) e refl
  where
    by : (a b : Bool) → a ≡ true → is_among released n ≡ b → is_among (cond (a && not b) (released ++ n ∷ []) released) n ≡ true
    by false b a k = absurd (cc a)
    by true false a k = behind_last released n
    by true true a k = k

pub filter_among : (test : ℕ → Bool) (ns : List ℕ) (n : ℕ) → is_among ns n ≡ true → test n ≡ true → is_among (filter test ns) n ≡ true
filter_among test [] n one e = one
filter_among test (m ∷ ns) n one e = by (test m) (m == n) refl refl one (λ h. filter_among test ns n h e)
  where
    by : (a b : Bool) → test m ≡ a → (m == n) ≡ b → (b || is_among ns n) ≡ true → (is_among ns n ≡ true → is_among (filter test ns) n ≡ true) → is_among (cond a (m ∷ filter test ns) (filter test ns)) n ≡ true
    by true true i k h rest = ap (λ x. x || is_among (filter test ns) n) k
    by true false i k h rest = ap (λ x. x || is_among (filter test ns) n) k ∙ rest h
    by false true i k h rest = absurd (let same : m ≡ n = eqb-true m n k in cc (sym i ∙ ap test same ∙ e))
    by false false i k h rest = rest h

-- ---- A past

record IsKept (s : Setup) (l : Sizes) (past : List Entry) : Type 0 where
  drawn : last_drawn_of past ≤ 65535
  waits : (n : ℕ) → awaits_completion n past ≡ true → (is_among (released_of past) n ≡ true) ⊎ (phase_of s l past ≡ Off)

module _ (s : Setup) (l : Sizes) (past : List Entry) (e : Entry) (legal : IsLegalPast s l past) (kept : IsKept s l past) (free : length (used (readings s l past)) < 65535) (found : Row) (made : row s l past e.at e.cause ≡ Some found) (same : found.effects ≡ e.effects) where
  abbrev r : Readings
  r = readings s l past

  fit : Fit s l r e.cause e.effects
  fit = subst (Fit s l r e.cause) same (subst (FitsRow s l r e.cause) made (fit_row s l r e.cause kept.drawn free (released_used s l past) e.at))

  phase_is : phase_of s l (e ∷ past) ≡ found.phase
  phase_is = ap (λ (x : Option Row). phase_by x (phase_of s l past)) made

  off : phase_of s l past ≡ Off → (found.phase ≡ Off) × (sends found.effects ≡ [])
  off is = subst StaysOff made (off_row s l r e.at e.cause is)

  unreleased : (n : ℕ) → is_among (released_of past) n ≡ true → sends_publish n e.effects ≡ false
  unreleased n one = none_unreleased s l r e.cause n one e.effects fit

  off_none : (n : ℕ) → phase_of s l past ≡ Off → sends_publish n e.effects ≡ false
  off_none n is = ap (λ packets. list_any (is_publish_of n) packets) (ap sends (sym same) ∙ (off is).1)

  by_due : (n : ℕ) → IsDue s l r e.cause n → sends_publish n e.effects ≡ false
  by_due n (inl (one, waits)) = unreleased n one
  by_due n (inr (is, open_is)) = none_alone s l r e.cause n n is e.effects fit

  by_kept : (n : ℕ) → (is_among (released_of past) n ≡ true) ⊎ (phase_of s l past ≡ Off) → sends_publish n e.effects ≡ false
  by_kept n (inl one) = unreleased n one
  by_kept n (inr is) = off_none n is

  unpublished : (n : ℕ) → (sends_release n e.effects || awaits_completion n past) ≡ true → sends_publish n e.effects ≡ false
  unpublished n h = by (sends_release n e.effects) refl h
    where
      by : (b : Bool) → sends_release n e.effects ≡ b → (b || awaits_completion n past) ≡ true → sends_publish n e.effects ≡ false
      by true is h = by_due n (some_due s l r e.cause n e.effects fit is)
      by false is h = by_kept n (kept.waits n h)

  -- the numbers of what is open aren't taken again
  another : (command : Pending) → IsOneOf command (pending_of past) → (task seq : ℕ) (request : Request) → e.cause ≡ c.Take task seq request → (task == command.task && seq == command.seq) ≡ false
  another command one task seq request is = by (task == command.task && seq == command.seq) refl
    where
      next : (seq ≡ takes_of task past) × (r.left task ≡ false)
      next = taken_next s l r e.at task seq request (subst (λ (k : Cause). is_some (row s l past e.at k) ≡ true) is (ap is_some made))

      by : (b : Bool) → (task == command.task && seq == command.seq) ≡ b → b ≡ false
      by false k = refl
      by true k =
          let two = and_parts (task == command.task) (seq == command.seq) k in
          let t : task ≡ command.task = eqb-true task command.task two.0 in
          let q : seq ≡ command.seq = eqb-true seq command.seq two.1 in
          let all : seq ≡ commands_of command.task past = next.0 ∙ all_commands task past next.1 ∙ ap (λ (u : ℕ). commands_of u past) t in
          let sum = each_is_open_or_done s l past legal command.task command.seq in
          let some = counted command 0 (pending_of past) one in
          let none : below command.seq (commands_of command.task past) ≡ 0 = rw (le-ltb command.seq (commands_of command.task past) (omega (arith, all, q))) refl in
          absurd (omega (arith, sum, some, none))

  stays_open_publish : (n : ℕ) → is_open_publish is_exactly_once (pending_of past) n ≡ true → ends_waiting n e.cause ≡ false → (is_open_publish is_exactly_once (pending_of (e ∷ past)) n ≡ true) ⊎ (phase_of s l (e ∷ past) ≡ Off)
  stays_open_publish n open_is waits =
      let found_one = find_open (pending_of past) n open_is in
      by found_one.0 found_one.1 found_one.2
    where
      by : (command : Pending) → IsOneOf command (pending_of past) → IsIt n command → (is_open_publish is_exactly_once (pending_of (e ∷ past)) n ≡ true) ⊎ (phase_of s l (e ∷ past) ≡ Off)
      by command one it = lands (subst (Keeps command.task command.seq n) made (keeps_row command.task command.seq n s l r e.cause only waits e.at (another command one)))
        where
          only : AllByRecursion (OnlyIt command.task command.seq n) r.pending
          only =
              let sum = each_is_open_or_done s l past legal command.task command.seq in let most_one = few command.seq (commands_of command.task past) in
              only_it command n (pending_of past) one it (omega (arith, sum, most_one))

          lands : Keeps command.task command.seq n (Some found) → (is_open_publish is_exactly_once (pending_of (e ∷ past)) n ≡ true) ⊎ (phase_of s l (e ∷ past) ≡ Off)
          lands (inl is) = inr (phase_is ∙ is)
          lands (inr none) =
              let zero_is : dones command.task command.seq e.effects ≡ 0 = (let h = subst (λ (es : List Effect). dones command.task command.seq es ≤ 0) same none in omega (arith, h)) in
              let stays : stays_open e.effects command ≡ true = stays_is command.task command.seq e.effects command (own_numbers command) ∙ eq-eqb (dones command.task command.seq e.effects) 0 zero_is in
              inl (is_open command n (pending_of (e ∷ past)) (stays_in command n (stays_open e.effects) (pending_of past ++ opens e.cause e.effects) (stands_in command n (pending_of past) (opens e.cause e.effects) one) stays) it)

  released_or_off : (n : ℕ) → is_among (released_behind (pending_of past) (released_of past) e.cause) n ≡ true → (is_open_publish is_exactly_once (pending_of (e ∷ past)) n ≡ true) ⊎ (phase_of s l (e ∷ past) ≡ Off)
      → (is_among (released_of (e ∷ past)) n ≡ true) ⊎ (phase_of s l (e ∷ past) ≡ Off)
  released_or_off n one (inl open_is) = inl (filter_among (is_open_publish is_exactly_once (pending_of (e ∷ past))) (released_behind (pending_of past) (released_of past) e.cause) n one open_is)
  released_or_off n one (inr is) = inr is

  still : (n : ℕ) → is_among (released_of past) n ≡ true → ends_waiting n e.cause ≡ false → (is_among (released_of (e ∷ past)) n ≡ true) ⊎ (phase_of s l (e ∷ past) ≡ Off)
  still n one waits = released_or_off n (behind_kept (pending_of past) (released_of past) e.cause n one) (stays_open_publish n (released_open past n one) waits)

  due_kept : (n : ℕ) → IsDue s l r e.cause n → (is_among (released_of (e ∷ past)) n ≡ true) ⊎ (phase_of s l (e ∷ past) ≡ Off)
  due_kept n (inl (one, waits)) = still n one waits
  due_kept n (inr (is, open_is)) =
      released_or_off n (ap (λ (k : Cause). is_among (released_behind (pending_of past) (released_of past) k) n) is ∙ with_new (pending_of past) (released_of past) n open_is)
      (stays_open_publish n open_is (ap (ends_waiting n) is))

  waits_on : (n : ℕ) → awaits_completion n (e ∷ past) ≡ true → (is_among (released_of (e ∷ past)) n ≡ true) ⊎ (phase_of s l (e ∷ past) ≡ Off)
  waits_on n h = by (sends_release n e.effects) refl h
    where
      on : (is_among (released_of past) n ≡ true) ⊎ (phase_of s l past ≡ Off) → not (ends_waiting n e.cause) ≡ true → (is_among (released_of (e ∷ past)) n ≡ true) ⊎ (phase_of s l (e ∷ past) ≡ Off)
      on (inl one) waits = still n one (not-true (ends_waiting n e.cause) waits)
      on (inr is) waits = inr (phase_is ∙ (off is).0)

      by : (b : Bool) → sends_release n e.effects ≡ b → (b || (awaits_completion n past && not (ends_waiting n e.cause))) ≡ true → (is_among (released_of (e ∷ past)) n ≡ true) ⊎ (phase_of s l (e ∷ past) ≡ Off)
      by true is h = due_kept n (some_due s l r e.cause n e.effects fit is)
      by false is h = let two = and_parts (awaits_completion n past) (not (ends_waiting n e.cause)) h in on (kept.waits n two.0) two.1

  kept_on : IsKept s l (e ∷ past)
  kept_on = record { drawn = last_low (last_drawn_of past) (drawn_in e.effects) kept.drawn (all_low s l r e.cause e.effects fit); waits = waits_on }

-- of the row of an entry
record Goes (s : Setup) (l : Sizes) (past : List Entry) (e : Entry) : Type 0 where
  kept : IsKept s l (e ∷ past)
  unreleased : (n : ℕ) → is_among (released_of past) n ≡ true → sends_publish n e.effects ≡ false
  unpublished : (n : ℕ) → (sends_release n e.effects || awaits_completion n past) ≡ true → sends_publish n e.effects ≡ false

goes : (s : Setup) (l : Sizes) (past : List Entry) (e : Entry) → IsLegalPast s l (e ∷ past) → IsKept s l past → length (used (readings s l past)) < 65535 → Goes s l past e
goes s l past e legal kept free = by (row s l past e.at e.cause) refl legal.0
  where
    by : (found : Option Row) → row s l past e.at e.cause ≡ found → effects_of found ≡ Some e.effects → Goes s l past e
    by None made has = absurd (cc has)
    by (Some found) made has =
        let same : found.effects ≡ e.effects = cc in
        record { kept = kept_on s l past e legal.1 kept free found made same; unreleased = unreleased s l past e legal.1 kept free found made same; unpublished = unpublished s l past e legal.1 kept free found made same }

pub some_free : (s : Setup) (l : Sizes) (past : List Entry) → HasIdentifiers l → IsLegalPast s l past → length (used (readings s l past)) < 65535
some_free s l past free legal = let few = identifiers_are_few s l past legal in omega (arith, few, free)

is_kept : (s : Setup) (l : Sizes) (past : List Entry) → HasIdentifiers l → IsLegalPast s l past → IsKept s l past
is_kept s l [] free legal = record { drawn = omega arith; waits = λ n h. absurd (cc h) }
is_kept s l (e ∷ past) free legal = (goes s l past e legal (is_kept s l past free legal.1) (some_free s l past free legal.1)).kept

pub drawn_low : (s : Setup) (l : Sizes) (past : List Entry) → HasIdentifiers l → IsLegalPast s l past → last_drawn_of past ≤ 65535
drawn_low s l past free legal = (is_kept s l past free legal).drawn

pub no_released_is_published : NoReleasedIsPublished
no_released_is_published s l [] free legal = tt
no_released_is_published s l (e ∷ past) free legal = ((goes s l past e legal (is_kept s l past free legal.1) (some_free s l past free legal.1)).unreleased, no_released_is_published s l past free legal.1)

pub awaited_stay_unpublished : AwaitedStayUnpublished
awaited_stay_unpublished s l [] free legal = tt
awaited_stay_unpublished s l (e ∷ past) free legal = ((goes s l past e legal (is_kept s l past free legal.1) (some_free s l past free legal.1)).unpublished, awaited_stay_unpublished s l past free legal.1)

-- What is kept behind an entry is what the journal with that entry reads as.
use Rattle.std.proofs.Common.{◌≡◌, ℕ, ◌≤◌, Bool, true, false, not, List, [], ◌∷◌, ◌++◌, length, Option, Some, None, ◌⊎◌, inl, inr, refl, ap, sym, ◌∙◌, subst, arith}
use Rattle.std.specs.Prelude.{◌&&◌, ◌||◌, ◌==◌, nat_lt, filter, if◌then◌else◌}
use Rattle.std.specs.List.{AllByRecursion}
use Rattle.std.proofs.lemmas.List.{append-nil}
use Rattle.mqtt_packet.specs.declared.packet.Packet.{Packet}
use Rattle.mqtt_packet.specs.declared.packet.Packet.TheVariants as p
use Rattle.agent_journal.specs.declared.entry.Cause.{Cause}
use Rattle.agent_journal.specs.declared.entry.Cause.TheVariants as c
use Rattle.agent_journal.specs.declared.entry.Entry.{Entry}
use Rattle.agent_journal.specs.declared.effect.Effect.{Effect}
use Rattle.agent_journal.specs.declared.effect.Effect.TheVariants as f
use Rattle.agent_journal.specs.declared.request.Request.{Request}
use Rattle.agent_journal.specs.Readings.{Pending, opens, opened_by, sent_id, stays_open, pending_of, accepted_of, takes_behind, leaves_by, breaks_of, sent_filters}
use Rattle.agent_journal.specs.declared.setup.Phase.{Phase}
use Rattle.agent_journal.specs.Endings.{off_behind}
use Rattle.agent_journal.specs.Offs.{is_terminated}
use Rattle.agent_table.proofs.Connecting.{only_opened_connects}
use Rattle.agent_table.proofs.Told.{terminated_is_told}
use Rattle.agent_table.proofs.Once.{each_is_open_or_done}
use Rattle.agent_table.specs.Deliveries.{released_behind, held_behind, with_released, is_open_publish, is_exactly_once, is_among}
use Rattle.agent_table.specs.Histories.{IsLegalPast, phase_of, phase_by, readings, row}
use Rattle.agent_journal.specs.Projections.{commands_of}
use Rattle.agent_table.specs.Deliveries.{publishes}
use Rattle.agent_table.specs.Identifiers.{last_or}
use Rattle.agent_table.specs.Readings.{read_at, unless_off}
use Rattle.agent_table.specs.Routes.{routes_of, renewals_of, renewable_of, unsure_of, while_opening}
use Rattle.agent_table.specs.Sends.{drawn_in}
use Rattle.subscriptions.specs.Routing.{renewable}
use Rattle.agent_table.specs.Rows.{Row}
use Rattle.agent_table.specs.Offs.{is_connected}
use Rattle.agent_table.specs.Sessions.{loses_session, ping_of, last_sent_of}
use Rattle.agent_table.specs.Table.{cause_row}
use Rattle.agent_core.specs.After.{after, begun, closed}
use Rattle.agent_core.specs.Completions.{all_ended}
use Rattle.agent_core.specs.Kept.{Kept, readings_in}
use Rattle.agent_core.specs.Stands.{Keeps}
use Rattle.agent_core.specs.Tied.{InRange}
use Rattle.agent_core.proofs.Alone.{take_alone}
use Rattle.agent_core.proofs.Closing.{IsApart, IsSingle, pending_closed, released_closed}
use Rattle.agent_core.proofs.Noting.{wiping_same, first_same, breaks_next, accepted_next, lost_same, takes_next, left_next, ping_next, sent_next, IsNext}

-- ---- Commands that are opened

-- what an entry opens is nothing, or one command that it only sends
abbrev OpensAlone : Cause → List Effect → Type 0
OpensAlone cause effects = (opens cause effects ≡ []) ⊎ ((packet : Packet) × (effects ≡ f.Send packet ∷ []))

one_or_none : (task seq : ℕ) (request : Request) (effects : List Effect) (id : Option ℕ) → sent_id effects ≡ id → ((n : ℕ) → sent_id effects ≡ Some n → (packet : Packet) × (effects ≡ f.Send packet ∷ []))
    → OpensAlone (c.Take task seq request) effects
one_or_none task seq request effects None is alone = inl (ap (opened_by task seq request (sent_filters effects)) is)
one_or_none task seq request effects (Some id) is alone = inr (alone id is)

opens_alone : (k : Kept) (at : ℕ) (cause : Cause) (row : Row) → cause_row k.setup k.sizes (readings_in k) at cause ≡ Some row → OpensAlone cause row.effects
opens_alone k at c.Opened row e = inl refl
opens_alone k at (c.Take task seq request) row e = one_or_none task seq request row.effects (sent_id row.effects) refl (take_alone k.setup k.sizes (readings_in k) task seq request row e)
opens_alone k at (c.Arrived packet) row e = inl refl
opens_alone k at (c.Broke why) row e = inl refl
opens_alone k at c.Tick row e = inl refl
opens_alone k at c.GaveUp row e = inl refl
opens_alone k at c.Finish row e = inl refl

-- ---- Commands

kept_all : (commands : List Pending) → filter (λ command. true) commands ≡ commands
kept_all [] = refl
kept_all (command ∷ commands) = ap (λ cs. command ∷ cs) (kept_all commands)

module _ (k : Kept) (cause : Cause) (effects : List Effect) where
  pending_same : OpensAlone cause effects → IsApart k.pending → IsSingle k.pending → (closed k cause effects).pending ≡ filter (stays_open effects) (k.pending ++ opens cause effects)
  pending_same (inl none) apart single =
      let commands : k.pending ++ opens cause effects ≡ k.pending = ap (λ cs. k.pending ++ cs) none ∙ append-nil k.pending in
      pending_closed effects (k.pending ++ opens cause effects) (begun k cause effects).released (begun k cause effects).routing
      (subst (λ (cs : List Pending). IsApart cs) (sym commands) apart) (subst (λ (cs : List Pending). IsSingle cs) (sym commands) single)
  pending_same (inr h) apart single = subst (λ (es : List Effect). (all_ended (begun k cause effects) es).pending ≡ filter (stays_open es) (k.pending ++ opens cause effects)) (sym h.1) (sym (kept_all (k.pending ++ opens cause effects)))

-- ---- Released identifiers

all_and_one : (commands : List Pending) (n : ℕ) (ns : List ℕ) → AllByRecursion (λ m. is_open_publish is_exactly_once commands m ≡ true) ns → is_open_publish is_exactly_once commands n ≡ true
    → AllByRecursion (λ m. is_open_publish is_exactly_once commands m ≡ true) (ns ++ n ∷ [])
all_and_one commands n [] all here = (here, tt)
all_and_one commands n (m ∷ ns) all here = (all.0, all_and_one commands n ns all.1 here)

with_open : (commands : List Pending) (released : List ℕ) (n : ℕ) → AllByRecursion (λ m. is_open_publish is_exactly_once commands m ≡ true) released
    → AllByRecursion (λ m. is_open_publish is_exactly_once commands m ≡ true) (with_released commands released n)
with_open commands released n all = go (is_open_publish is_exactly_once commands n) (is_among released n) refl
  where
    go : (here there : Bool) → is_open_publish is_exactly_once commands n ≡ here → AllByRecursion (λ m. is_open_publish is_exactly_once commands m ≡ true) (if here && not there then released ++ n ∷ [] else released)
    go true true e = all
    go true false e = all_and_one commands n released all e
    go false there e = all

still_open : (commands : List Pending) (released : List ℕ) (cause : Cause) → AllByRecursion (λ m. is_open_publish is_exactly_once commands m ≡ true) released
    → AllByRecursion (λ m. is_open_publish is_exactly_once commands m ≡ true) (released_behind commands released cause)
still_open commands released c.Opened all = all
still_open commands released (c.Take task seq request) all = all
still_open commands released (c.Arrived packet) all = by packet
  where
    by : (packet : Packet) → AllByRecursion (λ m. is_open_publish is_exactly_once commands m ≡ true) (released_behind commands released (c.Arrived packet))
    by (p.Connect clean keep_alive client will user password) = all
    by (p.ConnAck present code) = all
    by (p.Publish dup qos retain topic id payload) = all
    by (p.PubAck id) = all
    by (p.PubRec id) = with_open commands released id all
    by (p.PubRel id) = all
    by (p.PubComp id) = all
    by (p.Subscribe id asks) = all
    by (p.SubAck id codes) = all
    by (p.Unsubscribe id filters) = all
    by (p.UnsubAck id) = all
    by p.PingReq = all
    by p.PingResp = all
    by p.Disconnect = all
still_open commands released (c.Broke why) all = all
still_open commands released c.Tick all = all
still_open commands released c.GaveUp all = all
still_open commands released c.Finish all = all

open_more : (more : List Pending) (n : ℕ) (commands : List Pending) → is_open_publish is_exactly_once commands n ≡ true → is_open_publish is_exactly_once (commands ++ more) n ≡ true
open_more more n [] here = absurd (cc here)
open_more more n (command ∷ commands) here = go ((command.id == n) && publishes is_exactly_once command.request) refl here (open_more more n commands)
  where
    go : (b : Bool) → ((command.id == n) && publishes is_exactly_once command.request) ≡ b → is_open_publish is_exactly_once (command ∷ commands) n ≡ true
        → (is_open_publish is_exactly_once commands n ≡ true → is_open_publish is_exactly_once (commands ++ more) n ≡ true) → is_open_publish is_exactly_once ((command ∷ commands) ++ more) n ≡ true
    go true e here rest = rw e refl
    go false e here rest = rw e (rest (rw e at here))

all_more : (commands more : List Pending) (ns : List ℕ) → AllByRecursion (λ m. is_open_publish is_exactly_once commands m ≡ true) ns → AllByRecursion (λ m. is_open_publish is_exactly_once (commands ++ more) m ≡ true) ns
all_more commands more [] all = tt
all_more commands more (n ∷ ns) all = (open_more more n commands all.0, all_more commands more ns all.1)

all_pass : (test : ℕ → Bool) (ns : List ℕ) → AllByRecursion (λ n. test n ≡ true) ns → ns ≡ filter test ns
all_pass test [] all = refl
all_pass test (n ∷ ns) all = rw all.0 (ap (λ ms. n ∷ ms) (all_pass test ns all.1))

module _ (k : Kept) (cause : Cause) (effects : List Effect) where
  pub released_same : OpensAlone cause effects → IsApart k.pending → IsSingle k.pending → AllByRecursion (λ n. is_open_publish is_exactly_once k.pending n ≡ true) k.released
      → (closed k cause effects).released ≡ filter (is_open_publish is_exactly_once (filter (stays_open effects) (k.pending ++ opens cause effects))) (released_behind k.pending k.released cause)
  released_same (inl none) apart single all =
      let commands : k.pending ≡ k.pending ++ opens cause effects = sym (ap (λ cs. k.pending ++ cs) none ∙ append-nil k.pending) in
      released_closed effects (k.pending ++ opens cause effects) (released_behind k.pending k.released cause) (begun k cause effects).routing
      (subst (λ (cs : List Pending). IsApart cs) commands apart) (subst (λ (cs : List Pending). IsSingle cs) commands single)
      (all_more k.pending (opens cause effects) (released_behind k.pending k.released cause) (still_open k.pending k.released cause all))
  released_same (inr h) apart single all =
      subst (λ (es : List Effect). (all_ended (begun k cause effects) es).released ≡ filter (is_open_publish is_exactly_once (filter (stays_open es) (k.pending ++ opens cause effects))) (released_behind k.pending k.released cause)) (sym h.1)
      (all_pass (is_open_publish is_exactly_once (k.pending ++ opens cause effects)) (released_behind k.pending k.released cause) (all_more k.pending (opens cause effects) (released_behind k.pending k.released cause) (still_open k.pending k.released cause all))
      ∙ ap (λ cs. filter (is_open_publish is_exactly_once cs) (released_behind k.pending k.released cause)) (sym (kept_all (k.pending ++ opens cause effects))))

-- ---- All of it

at_most_one : (b : Bool) → (if b then 1 else 0) ≤ 1
at_most_one true = omega arith
at_most_one false = omega arith

-- in a legal journal each open command is the only one of its task and number
single_open : (k : Kept) (past : List Entry) → IsLegalPast k.setup k.sizes past → k.pending ≡ pending_of past → IsSingle k.pending
single_open k past legal is = subst (λ (cs : List Pending). IsSingle cs) (sym is) (λ t q.
    let sum = each_is_open_or_done k.setup k.sizes past legal t q in
    let most = at_most_one (nat_lt q (commands_of t past)) in
    omega (arith, sum, most))

-- what the table reads is what is kept, but for the order of routes
pub same_readings : (k : Kept) (past : List Entry) → IsLegalPast k.setup k.sizes past → Keeps k past → unless_off k.phase k.routing.renewals ≡ unless_off k.phase (renewals_of past)
    → while_opening k.phase (renewable true k.routing) ≡ while_opening k.phase (renewable_of past) → while_opening k.phase (renewable false k.routing) ≡ while_opening k.phase (unsure_of k.setup past)
    → record (readings_in k) { routes = unless_off k.phase (routes_of past) } ≡ readings k.setup k.sizes past
same_readings k past legal keeps renewals_are all_are unsure_are =
    (λ i. record {
      phase = k.phase;
      last_time = keeps.last_time i;
      just_sent = keeps.just_sent i;
      takes = λ t. keeps.takes t i;
      left = λ t. keeps.left t i;
      breaks = keeps.breaks i;
      wiping = wiping_same k.setup (accepted_of past) k.accepted keeps.accepted i;
      first = first_same k.setup (accepted_of past) k.accepted keeps.accepted i;
      pending = keeps.pending i;
      released = keeps.released i;
      held = keeps.held i;
      last_drawn = keeps.last_drawn i;
      ping = keeps.ping i;
      last_sent = keeps.last_sent i;
      routes = unless_off k.phase (routes_of past);
      renewals = renewals_are i;
      renewable = all_are i;
      unsure = unsure_are i;
      terminated = (ap is_terminated keeps.off ∙ sym (terminated_is_told k.setup k.sizes past legal)) i;
    }) ∙ ap (λ phase. read_at k.setup phase past) keeps.phase

module _ (k : Kept) (past : List Entry) (at : ℕ) (cause : Cause) (found : Row) where
  abbrev entry : Entry
  entry = record { at = at; cause = cause; effects = found.effects }

  pub keeps_next : IsLegalPast k.setup k.sizes past → IsApart k.pending → AllByRecursion (λ n. is_open_publish is_exactly_once k.pending n ≡ true) k.released → InRange cause (length k.takes) (length k.left) → IsNext cause k.takes
      → cause_row k.setup k.sizes (readings_in k) at cause ≡ Some found → row k.setup k.sizes past at cause ≡ Some found → Keeps k past → Keeps (after k at cause found.effects found.phase) (entry ∷ past)
  keeps_next legal apart released_are_open range next has is keeps =
      let alone = opens_alone k at cause found has in
      let single = single_open k past legal keeps.pending in
      let phase : found.phase ≡ phase_of k.setup k.sizes (entry ∷ past) = sym (ap (λ r. phase_by r (phase_of k.setup k.sizes past)) is) in
      let leads : is_connected found.phase ≡ true → (is_connected k.phase ≡ true) ⊎ (cause ≡ c.Opened) =
      λ to. subst (λ (p : Phase). (is_connected p ≡ true) ⊎ (cause ≡ c.Opened)) (sym keeps.phase) (only_opened_connects k.setup k.sizes past at cause found is to) in
      let commands : (closed k cause found.effects).pending ≡ pending_of (entry ∷ past) =
      pending_same k cause found.effects alone apart single ∙ ap (λ cs. filter (stays_open found.effects) (cs ++ opens cause found.effects)) keeps.pending in
      record {
        phase = phase;
        last_time = refl;
        just_sent = refl;
        takes = λ t. takes_next cause k.takes (length k.left) t range next ∙ ap (takes_behind t cause) (keeps.takes t);
        left = λ t. left_next cause k.left (length k.takes) t range ∙ ap (λ b. leaves_by t cause || b) (keeps.left t);
        breaks = breaks_next k.setup cause (breaks_of past) k.breaks keeps.breaks;
        accepted = accepted_next k.setup cause (accepted_of past) k.accepted keeps.accepted;
        pending = commands;
        released = released_same k cause found.effects alone apart single released_are_open
            ∙ ap (λ cs. filter (is_open_publish is_exactly_once (filter (stays_open found.effects) (cs ++ opens cause found.effects))) (released_behind cs k.released cause)) keeps.pending
            ∙ ap (λ ns. filter (is_open_publish is_exactly_once (pending_of (entry ∷ past))) (released_behind (pending_of past) ns cause)) keeps.released;
        held = ap (λ lost. if lost then [] else held_behind cause entry k.held) (lost_same k.setup (accepted_of past) k.accepted cause keeps.accepted)
            ∙ ap (λ ns. if loses_session k.setup (accepted_of past) cause then [] else held_behind cause entry ns) keeps.held;
        last_drawn = ap (λ n. last_or n (drawn_in found.effects)) keeps.last_drawn;
        ping = ping_next entry k.phase found.phase leads k.ping (ping_of past) keeps.ping;
        last_sent = sent_next entry k.phase found.phase leads k.last_sent (last_sent_of past) keeps.last_sent;
        off = ap (λ p. off_behind p found.phase cause k.off) keeps.phase ∙ ap (λ p. off_behind (phase_of k.setup k.sizes past) p cause k.off) phase
            ∙ ap (off_behind (phase_of k.setup k.sizes past) (phase_of k.setup k.sizes (entry ∷ past)) cause) keeps.off;
      }

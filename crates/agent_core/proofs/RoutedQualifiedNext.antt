-- The qualities of service that are kept stand for the journal behind each entry: all causes.
use Rattle.std.proofs.Common.{◌≡◌, ◌≢◌, ℕ, Bool, true, false, not, List, [], ◌∷◌, ◌++◌, length, Option, Some, None, refl, ap, sym, ◌∙◌, subst}
use Rattle.std.specs.Prelude.{◌==◌, filter, find}
use Rattle.std.specs.List.{list_any, flat_map}
use Rattle.std.proofs.lemmas.List.{append-nil}
use Rattle.mqtt_packet.specs.declared.packet.Packet.{Packet}
use Rattle.mqtt_packet.specs.declared.packet.Packet.TheVariants as p
use Rattle.agent_journal.specs.declared.effect.Effect.{Effect}
use Rattle.agent_journal.specs.declared.effect.Effect.TheVariants as f
use Rattle.agent_journal.specs.declared.outcome.Outcome.TheVariants as o
use Rattle.agent_journal.specs.declared.entry.Cause.{Cause}
use Rattle.agent_journal.specs.declared.entry.Cause.TheVariants as c
use Rattle.agent_journal.specs.declared.entry.Entry.{Entry}
use Rattle.agent_journal.specs.declared.setup.Setup.{Setup}
use Rattle.agent_journal.specs.declared.setup.Phase.{Phase}
use Rattle.agent_journal.specs.declared.setup.Phase.TheVariants.{Off}
use Rattle.agent_journal.specs.Readings.{Pending, pending_of, opens, accepted_of}
use Rattle.agent_journal.specs.Wires.{sends}
use Rattle.agent_table.specs.Arrivals.{all_done, at, counts_of, renewal_counts, is_subscribe, is_unsubscribe}
use Rattle.agent_table.specs.Histories.{IsLegalPast, row, phase_of, effects_of}
use Rattle.agent_table.specs.Readings.{unless_off}
use Rattle.agent_table.specs.Routes.{renewal_in, renewals_of, granted_to, filters_in, qos_of}
use Rattle.agent_table.specs.Sessions.{loses_session, loses}
use Rattle.agent_table.specs.Sizes.{Sizes}
use Rattle.pending_acks.specs.Commands.{Differ, has_id}
use Rattle.subscriptions.specs.Routing.{Granted, Routing, broke, renewals_set, is_any_of, filters_dropped}
use Rattle.agent_core.specs.After.{routing_asked, routing_caused, routing_lost, closed, begun}
use Rattle.agent_core.specs.Completions.{books, all_ended, ended_with}
use Rattle.agent_core.specs.Kept.{Kept}
use Rattle.agent_core.specs.Routed.{Matched, Routed, IsAskedFor, IsQualified, subscribes_in}
use Rattle.agent_core.proofs.Acknowledged.{at_one, at_none}
use Rattle.agent_core.proofs.RoutedAnswered.{found_by, unsuback_effects, suback_effects}
use Rattle.agent_core.proofs.RoutedEnds.{AreApart, subscribes_stay}
use Rattle.agent_core.proofs.RoutedLists.{all_filter, all_of}
use Rattle.agent_core.proofs.RoutedPast.{are_numbered}
use Rattle.agent_core.proofs.RoutedQualified.{qualified_by, still_qualified, still_for, qualified_plain, qualified_take}
use Rattle.agent_core.proofs.RoutedQualifies.{qualified_suback}
use Rattle.agent_core.proofs.RoutedQuiet.{quiet_grants}
use Rattle.agent_core.proofs.RoutedSteps.{entry, are_apart}
use Rattle.agent_core.proofs.RoutedUnsuback.{unsubscribe_drops, not_both, done_grants, still_open}

-- ---- An UNSUBACK

none_done : (s : Setup) (l : Sizes) (past : List Entry) (time n : ℕ) (released : List ℕ) (k : Routing) → IsLegalPast s l past → AreApart (pending_of past) → IsQualified past k
    → IsQualified (entry time (c.Arrived (p.UnsubAck n)) [] ∷ past) (all_ended (books (pending_of past ++ []) released k) []).routing
none_done s l past time n released k legal apart qualified =
    let cause = c.Arrived (p.UnsubAck n) in
    let none = quiet_grants (pending_of past) [] tt in
    qualified_by past time cause [] released k (subst AreApart (sym (append-nil (pending_of past))) apart) tt
    (still_qualified s l past time cause [] k.granted legal tt none qualified.granted)
    (subst (λ (cs : List Pending). Matched (IsAskedFor (entry time cause [] ∷ past)) k.asked (subscribes_in cs)) (sym (append-nil (pending_of past))) (still_for s l past time cause [] k.asked legal tt none qualified.asked))

one_done : (s : Setup) (l : Sizes) (past : List Entry) (time n : ℕ) (released : List ℕ) (k : Routing) (command : Pending) → IsLegalPast s l past → AreApart (pending_of past) → find (has_id n) (pending_of past) ≡ Some command → is_unsubscribe command.request ≡ true
    → IsQualified past k → IsQualified (entry time (c.Arrived (p.UnsubAck n)) (f.Done command.task command.seq o.Done ∷ []) ∷ past) (all_ended (books (pending_of past ++ []) released k) (f.Done command.task command.seq o.Done ∷ [])).routing
one_done s l past time n released k command legal apart found is qualified =
    let effects = f.Done command.task command.seq o.Done ∷ [] in
    let cause = c.Arrived (p.UnsubAck n) in
    let now = entry time cause effects ∷ past in
    let there = found_by n (pending_of past) command apart found in
    let none = all_of (λ (other : Pending). granted_to effects other ≡ []) (pending_of past) (λ other. done_grants command.task command.seq other) in
    let ends : (all_ended (books (pending_of past ++ []) released k) effects).routing ≡ filters_dropped command.task (filters_in command.request) k =
    ap (λ (cs : List Pending). (all_ended (books cs released k) effects).routing) (append-nil (pending_of past))
    ∙ ap (λ (x : Option Pending). (ended_with o.Done (books (pending_of past) released k) x).routing) there
    ∙ unsubscribe_drops command command.request k is in
    subst (λ (x : Routing). IsQualified now x) (sym ends) (record {
      granted = all_filter (λ (g : Granted). g.qos ≡ qos_of now g.topics) (λ g. not (is_any_of command.task (filters_in command.request) g)) k.granted (still_qualified s l past time cause effects k.granted legal tt none qualified.granted);
      asked = subst (λ (cs : List Pending). Matched (IsAskedFor now) k.asked cs)
          (sym (ap subscribes_in (still_open command.task command.seq past time n) ∙ subscribes_stay command.task command.seq (pending_of past) command apart there (not_both command.request is)))
          (still_for s l past time cause effects k.asked legal tt none qualified.asked);
    })

qualified_unsuback : (s : Setup) (l : Sizes) (past : List Entry) (time n : ℕ) (effects : List Effect) (released : List ℕ) (k : Routing) → IsLegalPast s l past → Differ (pending_of past) → AreApart (pending_of past)
    → effects ≡ all_done (filter (λ command. is_unsubscribe command.request) (at n (pending_of past))) → IsQualified past k
    → IsQualified (entry time (c.Arrived (p.UnsubAck n)) effects ∷ past) (all_ended (books (pending_of past ++ []) released k) effects).routing
qualified_unsuback s l past time n effects released k legal differ apart is qualified = go (find (has_id n) (pending_of past)) refl
  where
    one : (command : Pending) (b : Bool) → find (has_id n) (pending_of past) ≡ Some command → is_unsubscribe command.request ≡ b
        → IsQualified (entry time (c.Arrived (p.UnsubAck n)) (all_done (filter (λ other. is_unsubscribe other.request) (command ∷ []))) ∷ past) (all_ended (books (pending_of past ++ []) released k) (all_done (filter (λ other. is_unsubscribe other.request) (command ∷ [])))).routing
    one command true found its = rw its (one_done s l past time n released k command legal apart found its qualified)
    one command false found its = rw its (none_done s l past time n released k legal apart qualified)

    go : (found : Option Pending) → find (has_id n) (pending_of past) ≡ found → IsQualified (entry time (c.Arrived (p.UnsubAck n)) effects ∷ past) (all_ended (books (pending_of past ++ []) released k) effects).routing
    go None e =
        let same : [] ≡ effects = at_none (λ cs. all_done (filter (λ other. is_unsubscribe other.request) cs)) n (pending_of past) differ (sym e) ∙ sym is in
        subst (λ (es : List Effect). IsQualified (entry time (c.Arrived (p.UnsubAck n)) es ∷ past) (all_ended (books (pending_of past ++ []) released k) es).routing) same (none_done s l past time n released k legal apart qualified)
    go (Some command) e =
        let same : all_done (filter (λ other. is_unsubscribe other.request) (command ∷ [])) ≡ effects = at_one (λ cs. all_done (filter (λ other. is_unsubscribe other.request) cs)) n (pending_of past) command differ (sym e) ∙ sym is in
        subst (λ (es : List Effect). IsQualified (entry time (c.Arrived (p.UnsubAck n)) es ∷ past) (all_ended (books (pending_of past ++ []) released k) es).routing) same (one command (is_unsubscribe command.request) e refl)

-- ---- All

module _ (s : Setup) (l : Sizes) (past : List Entry) (time : ℕ) (effects : List Effect) (released : List ℕ) (k : Routing) (legal : IsLegalPast s l past) (routed : Routed s past k) (qualified : IsQualified past k) where
  abbrev Behind : Cause → Type 0
  Behind cause = IsQualified (entry time cause effects ∷ past)
      (all_ended (books (pending_of past ++ opens cause effects) released (routing_lost (loses_session s (accepted_of past) cause) (routing_caused cause effects (routing_asked cause effects (opens cause effects) k)))) effects).routing

  differ_now : Differ (pending_of past ++ []) → Differ (pending_of past)
  differ_now differ = subst Differ (append-nil (pending_of past)) differ

  apart_now : Differ (pending_of past ++ []) → AreApart (pending_of past)
  apart_now differ = are_apart (pending_of past) (differ_now differ) (are_numbered s l past legal)

  by_suback : (n : ℕ) (codes : List ℕ) → effects_of (row s l past time (c.Arrived (p.SubAck n codes))) ≡ Some effects → phase_of s l (entry time (c.Arrived (p.SubAck n codes)) effects ∷ past) ≢ Off
      → Differ (pending_of past ++ []) → Behind (c.Arrived (p.SubAck n codes))
  by_suback n codes e goes differ =
      let its = suback_effects s l past time n codes effects e goes in
      qualified_suback s l past time n codes effects released k legal (differ_now differ) (apart_now differ)
      (subst (λ (phase : Phase). list_any (λ count. not (count == length codes)) (counts_of (filter (λ command. is_subscribe command.request) (at n (pending_of past))) ++ renewal_counts (find (λ renewal. renewal.id == n) (unless_off phase (renewals_of past)))) ≡ false) its.0 its.1)
      its.2 routed qualified

  by_packet : (packet : Packet) → effects_of (row s l past time (c.Arrived packet)) ≡ Some effects → phase_of s l (entry time (c.Arrived packet) effects ∷ past) ≢ Off → Differ (pending_of past ++ []) → Behind (c.Arrived packet)
  by_packet (p.Connect clean keep_alive client will user password) e goes differ = qualified_plain s l past time (c.Arrived (p.Connect clean keep_alive client will user password)) effects released k k false legal e tt differ qualified refl refl
  by_packet (p.ConnAck present code) e goes differ = qualified_plain s l past time (c.Arrived (p.ConnAck present code)) effects released (renewals_set (flat_map renewal_in (sends effects)) k) k (loses s (accepted_of past) present code) legal e tt differ qualified refl refl
  by_packet (p.Publish dup qos retain topic id payload) e goes differ = qualified_plain s l past time (c.Arrived (p.Publish dup qos retain topic id payload)) effects released k k false legal e tt differ qualified refl refl
  by_packet (p.PubAck id) e goes differ = qualified_plain s l past time (c.Arrived (p.PubAck id)) effects released k k false legal e tt differ qualified refl refl
  by_packet (p.PubRec id) e goes differ = qualified_plain s l past time (c.Arrived (p.PubRec id)) effects released k k false legal e tt differ qualified refl refl
  by_packet (p.PubRel id) e goes differ = qualified_plain s l past time (c.Arrived (p.PubRel id)) effects released k k false legal e tt differ qualified refl refl
  by_packet (p.PubComp id) e goes differ = qualified_plain s l past time (c.Arrived (p.PubComp id)) effects released k k false legal e tt differ qualified refl refl
  by_packet (p.Subscribe id asks) e goes differ = qualified_plain s l past time (c.Arrived (p.Subscribe id asks)) effects released k k false legal e tt differ qualified refl refl
  by_packet (p.SubAck id codes) e goes differ = by_suback id codes e goes differ
  by_packet (p.Unsubscribe id filters) e goes differ = qualified_plain s l past time (c.Arrived (p.Unsubscribe id filters)) effects released k k false legal e tt differ qualified refl refl
  by_packet (p.UnsubAck id) e goes differ = qualified_unsuback s l past time id effects released k legal (differ_now differ) (apart_now differ) (unsuback_effects s l past time id effects e goes) qualified
  by_packet p.PingReq e goes differ = qualified_plain s l past time (c.Arrived p.PingReq) effects released k k false legal e tt differ qualified refl refl
  by_packet p.PingResp e goes differ = qualified_plain s l past time (c.Arrived p.PingResp) effects released k k false legal e tt differ qualified refl refl
  by_packet p.Disconnect e goes differ = qualified_plain s l past time (c.Arrived p.Disconnect) effects released k k false legal e tt differ qualified refl refl

  by_cause : (cause : Cause) → effects_of (row s l past time cause) ≡ Some effects → phase_of s l (entry time cause effects ∷ past) ≢ Off → Differ (pending_of past ++ opens cause effects) → Behind cause
  by_cause c.Opened e goes differ = qualified_plain s l past time c.Opened effects released k k false legal e tt differ qualified refl refl
  by_cause (c.Take task seq request) e goes differ = qualified_take s l past time task seq request effects released k legal e differ qualified
  by_cause (c.Arrived packet) e goes differ = by_packet packet e goes differ
  by_cause (c.Broke why) e goes differ = qualified_plain s l past time (c.Broke why) effects released (broke k) k false legal e tt differ qualified refl refl
  by_cause c.Tick e goes differ = qualified_plain s l past time c.Tick effects released k k false legal e tt differ qualified refl refl
  by_cause c.GaveUp e goes differ = qualified_plain s l past time c.GaveUp effects released k k false legal e tt differ qualified refl refl
  by_cause c.Finish e goes differ = qualified_plain s l past time c.Finish effects released k k false legal e tt differ qualified refl refl

pub qualified_next : (s : Setup) (l : Sizes) (past : List Entry) (e : Entry) (kept : Kept) → IsLegalPast s l (e ∷ past) → phase_of s l (e ∷ past) ≢ Off → kept.setup ≡ s → kept.pending ≡ pending_of past
    → Differ (kept.pending ++ opens e.cause e.effects) → loses_session s kept.accepted e.cause ≡ loses_session s (accepted_of past) e.cause → Routed s past kept.routing → IsQualified past kept.routing
    → IsQualified (e ∷ past) (closed kept e.cause e.effects).routing
qualified_next s l past e kept legal goes same_setup same_pending differ same_lost routed qualified =
    let its = by_cause s l past e.at e.effects (begun kept e.cause e.effects).released kept.routing legal.1 routed qualified e.cause legal.0 goes (subst (λ (cs : List Pending). Differ (cs ++ opens e.cause e.effects)) same_pending differ) in
    let lost : loses_session kept.setup kept.accepted e.cause ≡ loses_session s (accepted_of past) e.cause = ap (λ (x : Setup). loses_session x kept.accepted e.cause) same_setup ∙ same_lost in
    subst (λ (b : Bool). IsQualified (e ∷ past) (all_ended (books (kept.pending ++ opens e.cause e.effects) (begun kept e.cause e.effects).released (routing_lost b (routing_caused e.cause e.effects (routing_asked e.cause e.effects (opens e.cause e.effects) kept.routing)))) e.effects).routing) (sym lost)
    (subst (λ (cs : List Pending). IsQualified (e ∷ past) (all_ended (books (cs ++ opens e.cause e.effects) (begun kept e.cause e.effects).released (routing_lost (loses_session s (accepted_of past) e.cause) (routing_caused e.cause e.effects (routing_asked e.cause e.effects (opens e.cause e.effects) kept.routing)))) e.effects).routing) (sym same_pending) its)

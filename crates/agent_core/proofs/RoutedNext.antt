-- What the agent keeps of its routes stands for its journal behind each entry.
use Rattle.std.proofs.Common.{◌≡◌, ◌≢◌, ℕ, Bool, false, not, List, [], ◌∷◌, ◌++◌, length, Some, refl, ap, sym, ◌∙◌, subst}
use Rattle.std.specs.Prelude.{◌==◌, filter, find}
use Rattle.std.specs.List.{list_any, flat_map}
use Rattle.std.proofs.lemmas.List.{append-nil}
use Rattle.mqtt_packet.specs.declared.packet.Packet.{Packet}
use Rattle.mqtt_packet.specs.declared.packet.Packet.TheVariants as p
use Rattle.agent_journal.specs.declared.effect.Effect.{Effect}
use Rattle.agent_journal.specs.declared.entry.Cause.{Cause}
use Rattle.agent_journal.specs.declared.entry.Cause.TheVariants as c
use Rattle.agent_journal.specs.declared.entry.Entry.{Entry}
use Rattle.agent_journal.specs.declared.setup.Setup.{Setup}
use Rattle.agent_journal.specs.declared.setup.Phase.{Phase}
use Rattle.agent_journal.specs.declared.setup.Phase.TheVariants.{Off}
use Rattle.agent_journal.specs.Readings.{Pending, pending_of, opens, accepted_of}
use Rattle.agent_journal.specs.Wires.{sends}
use Rattle.agent_table.specs.Arrivals.{at, counts_of, renewal_counts, is_subscribe}
use Rattle.agent_table.specs.Histories.{IsLegalPast, row, phase_of, effects_of}
use Rattle.agent_table.specs.Readings.{unless_off}
use Rattle.agent_table.specs.Routes.{renewal_in, renewals_of}
use Rattle.agent_table.specs.Sessions.{loses_session, loses}
use Rattle.agent_table.specs.Sizes.{Sizes}
use Rattle.pending_acks.specs.Commands.{Differ}
use Rattle.subscriptions.specs.Routing.{Routing, broke, renewals_set}
use Rattle.agent_core.specs.After.{routing_asked, routing_caused, routing_lost, closed, begun}
use Rattle.agent_core.specs.Completions.{books, all_ended}
use Rattle.agent_core.specs.Kept.{Kept}
use Rattle.agent_core.specs.Routed.{Routed}
use Rattle.agent_core.proofs.RoutedAnswered.{unsuback_effects, suback_effects, connack_opening}
use Rattle.agent_core.proofs.RoutedEnds.{AreApart}
use Rattle.agent_core.proofs.RoutedPast.{are_numbered}
use Rattle.agent_core.proofs.RoutedRest.{at_rest, is_closed}
use Rattle.agent_core.proofs.RoutedSteps.{entry, are_apart, plain_step}
use Rattle.agent_core.proofs.RoutedSuback.{suback_step}
use Rattle.agent_core.proofs.RoutedTakes.{take_step}
use Rattle.agent_core.proofs.RoutedUnsuback.{unsuback_step}

module _ (s : Setup) (l : Sizes) (past : List Entry) (time : ℕ) (effects : List Effect) (released : List ℕ) (k : Routing) (legal : IsLegalPast s l past) (routed : Routed s past k) where
  abbrev Behind : Cause → Type 0
  Behind cause = Routed s (entry time cause effects ∷ past)
      (all_ended (books (pending_of past ++ opens cause effects) released (routing_lost (loses_session s (accepted_of past) cause) (routing_caused cause effects (routing_asked cause effects (opens cause effects) k)))) effects).routing

  differ_now : Differ (pending_of past ++ []) → Differ (pending_of past)
  differ_now differ = subst Differ (append-nil (pending_of past)) differ

  apart_now : Differ (pending_of past ++ []) → AreApart (pending_of past)
  apart_now differ = are_apart (pending_of past) (differ_now differ) (are_numbered s l past legal)

  by_suback : (n : ℕ) (codes : List ℕ) → effects_of (row s l past time (c.Arrived (p.SubAck n codes))) ≡ Some effects → phase_of s l (entry time (c.Arrived (p.SubAck n codes)) effects ∷ past) ≢ Off
      → Differ (pending_of past ++ []) → Behind (c.Arrived (p.SubAck n codes))
  by_suback n codes e goes differ =
      let its = suback_effects s l past time n codes effects e goes in
      suback_step s past time n codes effects released k (differ_now differ) (apart_now differ)
      (subst (λ (phase : Phase). list_any (λ count. not (count == length codes)) (counts_of (filter (λ command. is_subscribe command.request) (at n (pending_of past))) ++ renewal_counts (find (λ renewal. renewal.id == n) (unless_off phase (renewals_of past)))) ≡ false) its.0 its.1)
      its.2 routed

  by_connack : (present : Bool) (code : ℕ) → effects_of (row s l past time (c.Arrived (p.ConnAck present code))) ≡ Some effects → phase_of s l (entry time (c.Arrived (p.ConnAck present code)) effects ∷ past) ≢ Off
      → Differ (pending_of past ++ []) → Behind (c.Arrived (p.ConnAck present code))
  by_connack present code e goes differ =
      let opening = connack_opening s l past time present code effects e goes in
      let none = (at_rest s l past legal (ap is_closed opening)).renewals in
      plain_step s l past time (c.Arrived (p.ConnAck present code)) effects released (renewals_set (flat_map renewal_in (sends effects)) k) k (loses s (accepted_of past) present code) legal e tt differ refl routed refl refl
      (ap (λ rs. rs ++ flat_map renewal_in (sends effects)) (sym none))

  by_packet : (packet : Packet) → effects_of (row s l past time (c.Arrived packet)) ≡ Some effects → phase_of s l (entry time (c.Arrived packet) effects ∷ past) ≢ Off → Differ (pending_of past ++ []) → Behind (c.Arrived packet)
  by_packet (p.Connect clean keep_alive client will user password) e goes differ = plain_step s l past time (c.Arrived (p.Connect clean keep_alive client will user password)) effects released k k false legal e tt differ refl routed refl refl routed.renewals
  by_packet (p.ConnAck present code) e goes differ = by_connack present code e goes differ
  by_packet (p.Publish dup qos retain topic id payload) e goes differ = plain_step s l past time (c.Arrived (p.Publish dup qos retain topic id payload)) effects released k k false legal e tt differ refl routed refl refl routed.renewals
  by_packet (p.PubAck id) e goes differ = plain_step s l past time (c.Arrived (p.PubAck id)) effects released k k false legal e tt differ refl routed refl refl routed.renewals
  by_packet (p.PubRec id) e goes differ = plain_step s l past time (c.Arrived (p.PubRec id)) effects released k k false legal e tt differ refl routed refl refl routed.renewals
  by_packet (p.PubRel id) e goes differ = plain_step s l past time (c.Arrived (p.PubRel id)) effects released k k false legal e tt differ refl routed refl refl routed.renewals
  by_packet (p.PubComp id) e goes differ = plain_step s l past time (c.Arrived (p.PubComp id)) effects released k k false legal e tt differ refl routed refl refl routed.renewals
  by_packet (p.Subscribe id asks) e goes differ = plain_step s l past time (c.Arrived (p.Subscribe id asks)) effects released k k false legal e tt differ refl routed refl refl routed.renewals
  by_packet (p.SubAck id codes) e goes differ = by_suback id codes e goes differ
  by_packet (p.Unsubscribe id filters) e goes differ = plain_step s l past time (c.Arrived (p.Unsubscribe id filters)) effects released k k false legal e tt differ refl routed refl refl routed.renewals
  by_packet (p.UnsubAck id) e goes differ = unsuback_step s past time id effects released k (differ_now differ) (apart_now differ) (unsuback_effects s l past time id effects e goes) routed
  by_packet p.PingReq e goes differ = plain_step s l past time (c.Arrived p.PingReq) effects released k k false legal e tt differ refl routed refl refl routed.renewals
  by_packet p.PingResp e goes differ = plain_step s l past time (c.Arrived p.PingResp) effects released k k false legal e tt differ refl routed refl refl routed.renewals
  by_packet p.Disconnect e goes differ = plain_step s l past time (c.Arrived p.Disconnect) effects released k k false legal e tt differ refl routed refl refl routed.renewals

  by_cause : (cause : Cause) → effects_of (row s l past time cause) ≡ Some effects → phase_of s l (entry time cause effects ∷ past) ≢ Off → Differ (pending_of past ++ opens cause effects) → Behind cause
  by_cause c.Opened e goes differ = plain_step s l past time c.Opened effects released k k false legal e tt differ refl routed refl refl routed.renewals
  by_cause (c.Take task seq request) e goes differ = take_step s l past time task seq request effects released k legal e differ routed
  by_cause (c.Arrived packet) e goes differ = by_packet packet e goes differ
  by_cause (c.Broke why) e goes differ = plain_step s l past time (c.Broke why) effects released (broke k) k false legal e tt differ refl routed refl refl refl
  by_cause c.Tick e goes differ = plain_step s l past time c.Tick effects released k k false legal e tt differ refl routed refl refl routed.renewals
  by_cause c.GaveUp e goes differ = plain_step s l past time c.GaveUp effects released k k false legal e tt differ refl routed refl refl routed.renewals
  by_cause c.Finish e goes differ = plain_step s l past time c.Finish effects released k k false legal e tt differ refl routed refl refl routed.renewals

-- Behind one more entry of a legal past that doesn't end the agent. What is kept has the journal's open commands, of which
-- no two have one identifier, also with the one that the entry opens, and knows of the same lost sessions.
pub routed_next : (s : Setup) (l : Sizes) (past : List Entry) (e : Entry) (kept : Kept) → IsLegalPast s l (e ∷ past) → phase_of s l (e ∷ past) ≢ Off → kept.setup ≡ s → kept.pending ≡ pending_of past
    → Differ (kept.pending ++ opens e.cause e.effects) → loses_session s kept.accepted e.cause ≡ loses_session s (accepted_of past) e.cause → Routed s past kept.routing → Routed s (e ∷ past) (closed kept e.cause e.effects).routing
routed_next s l past e kept legal goes same_setup same_pending differ same_lost routed =
    let its = by_cause s l past e.at e.effects (begun kept e.cause e.effects).released kept.routing legal.1 routed e.cause legal.0 goes (subst (λ (cs : List Pending). Differ (cs ++ opens e.cause e.effects)) same_pending differ) in
    let lost : loses_session kept.setup kept.accepted e.cause ≡ loses_session s (accepted_of past) e.cause = ap (λ (x : Setup). loses_session x kept.accepted e.cause) same_setup ∙ same_lost in
    subst (λ (b : Bool). Routed s (e ∷ past) (all_ended (books (kept.pending ++ opens e.cause e.effects) (begun kept e.cause e.effects).released (routing_lost b (routing_caused e.cause e.effects (routing_asked e.cause e.effects (opens e.cause e.effects) kept.routing)))) e.effects).routing) (sym lost)
    (subst (λ (cs : List Pending). Routed s (e ∷ past) (all_ended (books (cs ++ opens e.cause e.effects) (begun kept e.cause e.effects).released (routing_lost (loses_session s (accepted_of past) e.cause) (routing_caused e.cause e.effects (routing_asked e.cause e.effects (opens e.cause e.effects) kept.routing)))) e.effects).routing) (sym same_pending) its)

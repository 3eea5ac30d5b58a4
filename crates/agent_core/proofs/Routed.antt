-- What the agent keeps of its routes stands for its journal: at its beginning, behind each entry, and what the table reads.
use Rattle.std.proofs.Common.{◌≡◌, ◌≢◌, Bool, true, false, not, List, [], ◌∷◌, ◌++◌, map, refl, ap, sym, ◌∙◌, subst}
use Rattle.std.specs.Prelude.{◌||◌, filter}
use Rattle.std.specs.List.{list_any, flat_map}
use Rattle.agent_journal.specs.declared.entry.Entry.{Entry}
use Rattle.agent_journal.specs.declared.setup.Setup.{Setup}
use Rattle.agent_journal.specs.declared.setup.Phase.TheVariants.{Opening, Off}
use Rattle.agent_journal.specs.Readings.{pending_of, opens, accepted_of}
use Rattle.agent_table.specs.Histories.{IsLegalPast, phase_of}
use Rattle.agent_table.specs.Routes.{Route, routes_of, renewals_of, renewable_of, unsure_of}
use Rattle.agent_table.specs.Sessions.{loses_session}
use Rattle.agent_table.specs.Sizes.{Sizes}
use Rattle.pending_acks.specs.Commands.{Differ}
use Rattle.subscriptions.specs.Routing.{Asked, Routing, nothing, routes, renewable, route_of, routes_asked}
use Rattle.subscriptions.proofs.Sets.{any_with_all}
use Rattle.agent_core.specs.After.{closed}
use Rattle.agent_core.specs.Kept.{Kept}
use Rattle.agent_core.specs.Routed.{Routed, IsQualified, RoutesStand}
use Rattle.agent_core.proofs.Alike.{alike_is, closed_alike}
use Rattle.agent_core.proofs.Reorders.{any_reordered, map_reordered}
use Rattle.agent_core.proofs.RoutedEnded.{not_ended}
use Rattle.agent_core.proofs.RoutedNext.{routed_next}
use Rattle.agent_core.proofs.RoutedQualifiedNext.{qualified_next}
use Rattle.agent_core.proofs.RoutedReads.{routed_routes}
use Rattle.agent_core.proofs.RoutedRenewable.{routed_renewable, routed_unsure, renewable_same}

pub routed_begins : (s : Setup) → RoutesStand s [] nothing
routed_begins s = record { ordered = []; granted = λ weight. refl; routed = record { granted = refl; sure = tt; asked = tt; renewals = refl }; qualified = record { granted = tt; asked = tt } }

-- Behind one more entry of a legal past that doesn't end the agent. What is kept has the journal's open commands, of which
-- no two have one identifier, also with the one that the entry opens, and knows of the same lost sessions.
pub stands_next : (s : Setup) (l : Sizes) (past : List Entry) (e : Entry) (kept : Kept) → IsLegalPast s l (e ∷ past) → phase_of s l (e ∷ past) ≢ Off → kept.setup ≡ s → kept.pending ≡ pending_of past
    → Differ (kept.pending ++ opens e.cause e.effects) → loses_session s kept.accepted e.cause ≡ loses_session s (accepted_of past) e.cause → RoutesStand s past kept.routing → RoutesStand s (e ∷ past) (closed kept e.cause e.effects).routing
stands_next s l past e kept legal goes same_setup same_pending differ same_lost stands =
    let inner : Kept = record kept { routing = record kept.routing { granted = stands.ordered } } in
    let alike = closed_alike kept stands.ordered e.cause e.effects stands.granted in
    let is = alike_is (closed kept e.cause e.effects).routing (closed inner e.cause e.effects).routing alike in
    record {
      ordered = (closed inner e.cause e.effects).routing.granted;
      granted = alike.granted;
      routed = subst (λ (x : Routing). Routed s (e ∷ past) x) is (routed_next s l past e inner legal goes same_setup same_pending differ same_lost stands.routed);
      qualified = subst (λ (x : Routing). IsQualified (e ∷ past) x) is (qualified_next s l past e inner legal goes same_setup same_pending differ same_lost stands.routed stands.qualified);
    }

-- What the table reads: the open renewals, the routes as a set, and in Opening what renewals ask for.
pub stands_routes : (s : Setup) (past : List Entry) (k : Routing) → RoutesStand s past k → (test : Route → Bool) → list_any test (routes k) ≡ list_any test (routes_of past)
stands_routes s past k stands test =
    let asked = flat_map (λ (a : Asked). routes_asked a.task a.asks) (filter (λ (a : Asked). not a.left) k.asked) in
    any_with_all test (map route_of k.granted) asked
    ∙ ap (λ b. b || list_any test asked) (sym (any_reordered test (map route_of stands.ordered) (map route_of k.granted) (map_reordered route_of stands.ordered k.granted stands.granted)))
    ∙ sym (any_with_all test (map route_of stands.ordered) asked) ∙ ap (list_any test) (routed_routes s past (record k { granted = stands.ordered }) stands.routed)

pub stands_renewals : (s : Setup) (past : List Entry) (k : Routing) → RoutesStand s past k → k.renewals ≡ renewals_of past
stands_renewals s past k stands = stands.routed.renewals

pub stands_renewable : (s : Setup) (l : Sizes) (past : List Entry) (k : Routing) → IsLegalPast s l past → phase_of s l past ≡ Opening → RoutesStand s past k → renewable true k ≡ renewable_of past
stands_renewable s l past k legal opening stands =
    renewable_same past true k stands.ordered stands.granted stands.qualified.granted ∙ routed_renewable s l past (record k { granted = stands.ordered }) legal opening stands.routed stands.qualified

pub stands_unsure : (s : Setup) (l : Sizes) (past : List Entry) (k : Routing) → IsLegalPast s l past → phase_of s l past ≡ Opening → RoutesStand s past k → renewable false k ≡ unsure_of s past
stands_unsure s l past k legal opening stands =
    renewable_same past false k stands.ordered stands.granted stands.qualified.granted ∙ routed_unsure s l past (record k { granted = stands.ordered }) legal opening stands.routed stands.qualified

-- The same, where it is known to stand only while the agent hasn't ended.
pub stands_on : (s : Setup) (l : Sizes) (past : List Entry) (e : Entry) (kept : Kept) → IsLegalPast s l (e ∷ past) → kept.setup ≡ s → kept.pending ≡ pending_of past → Differ (kept.pending ++ opens e.cause e.effects)
    → loses_session s kept.accepted e.cause ≡ loses_session s (accepted_of past) e.cause → (phase_of s l past ≢ Off → RoutesStand s past kept.routing) → phase_of s l (e ∷ past) ≢ Off → RoutesStand s (e ∷ past) (closed kept e.cause e.effects).routing
stands_on s l past e kept legal same_setup same_pending differ same_lost stands goes = stands_next s l past e kept legal goes same_setup same_pending differ same_lost (stands (not_ended s l past e goes))

-- Behind an UNSUBACK.
use Rattle.std.proofs.Common.{◌≡◌, ℕ, Bool, true, false, not, List, [], ◌∷◌, ◌++◌, map, Option, Some, None, refl, ap, sym, ◌∙◌, subst}
use Rattle.std.specs.Prelude.{◌&&◌, ◌||◌, ◌==◌, filter, find}
use Rattle.std.proofs.lemmas.List.{append-nil}
use Rattle.std.proofs.lemmas.Bool.{eq-eqb}
use Rattle.mqtt_packet.specs.declared.packet.Packet.TheVariants as p
use Rattle.mqtt_packet.specs.declared.will.Ask.{Ask}
use Rattle.agent_journal.specs.declared.request.Request.{Request}
use Rattle.agent_journal.specs.declared.request.Request.TheVariants as requests
use Rattle.agent_journal.specs.declared.outcome.Outcome.TheVariants as o
use Rattle.agent_journal.specs.declared.effect.Effect.{Effect}
use Rattle.agent_journal.specs.declared.effect.Effect.TheVariants as f
use Rattle.agent_journal.specs.declared.entry.Cause.TheVariants as c
use Rattle.agent_journal.specs.declared.entry.Entry.{Entry}
use Rattle.agent_journal.specs.declared.setup.Setup.{Setup}
use Rattle.agent_journal.specs.Readings.{Pending, pending_of, stays_open, completes}
use Rattle.agent_table.specs.Arrivals.{all_done, at, is_subscribe, is_unsubscribe}
use Rattle.agent_table.specs.Routes.{route, has_route, without, dropped_to, granted_to, granted_of, granted_in, coded, asks_in, filters_in}
use Rattle.pending_acks.specs.Commands.{Differ, has_id, is_command}
use Rattle.subscriptions.specs.Routing.{Granted, Routing, is_any_of, filters_dropped}
use Rattle.agent_core.specs.Completions.{books, all_ended, ended_with, routing_ended}
use Rattle.agent_core.specs.Routed.{Matched, Routed, IsAsked, subscribes_in, is_here, is_sure}
use Rattle.agent_core.proofs.Acknowledged.{at_one, at_none}
use Rattle.agent_core.proofs.RoutedAnswered.{found_by, flat_one}
use Rattle.agent_core.proofs.RoutedEnds.{AreApart, as_completes, subscribes_stay}
use Rattle.agent_core.proofs.RoutedLists.{all_filter, all_map, all_of, filter_as, filter_swapped, flat_none}
use Rattle.agent_core.proofs.RoutedQuiet.{quiet_grants, quiet_drops, no_routes, none_without}
use Rattle.agent_core.proofs.RoutedSteps.{entry, arrived_asked, granted_is, made_none, sure_same, routed_by}
use Rattle.agent_core.proofs.RoutedTakes.{drops_both}

-- none is done
none_ended : (s : Setup) (past : List Entry) (time n : ℕ) (released : List ℕ) (k : Routing) → AreApart (pending_of past) → Routed s past k
    → Routed s (entry time (c.Arrived (p.UnsubAck n)) [] ∷ past) (all_ended (books (pending_of past ++ []) released k) []).routing
none_ended s past time n released k apart routed =
    let cause = c.Arrived (p.UnsubAck n) in
    let now = entry time cause [] ∷ past in
    let none = quiet_grants (pending_of past) [] tt in
    routed_by s past time cause [] released k
    (subst AreApart (sym (append-nil (pending_of past))) apart) tt
    (routed.granted ∙ ap (filter (is_here now)) (sym (granted_is past time cause [] refl (no_routes (pending_of past) [] none)
    ∙ ap (λ d. without d (granted_of past)) (flat_none (λ (command : Pending). dropped_to [] command.task command.seq command.request) (pending_of past) (quiet_drops (pending_of past) [] tt)) ∙ none_without (granted_of past))))
    (all_map (λ (g : Granted). g.sure ≡ is_sure s past g.topics) (λ (g : Granted). g.sure ≡ is_sure s now g.topics) k.granted
    (λ g is. is ∙ sym (sure_same s past (entry time cause []) g.topics refl (made_none past time cause [] refl none))) routed.sure)
    (subst (λ (cs : List Pending). Matched (IsAsked now) k.asked (subscribes_in cs)) (sym (append-nil (pending_of past))) (arrived_asked past time (p.UnsubAck n) [] k.asked (subscribes_in (pending_of past)) routed.asked))
    routed.renewals

pub unsubscribe_drops : (command : Pending) (request : Request) (k : Routing) → is_unsubscribe request ≡ true → routing_ended command request o.Done k ≡ filters_dropped command.task (filters_in request) k
unsubscribe_drops command (requests.Publish qos topic payload) k is = absurd (cc is)
unsubscribe_drops command (requests.Subscribe asks) k is = absurd (cc is)
unsubscribe_drops command (requests.Unsubscribe filters) k is = refl
unsubscribe_drops command requests.Ping k is = absurd (cc is)
unsubscribe_drops command requests.Disconnect k is = absurd (cc is)
unsubscribe_drops command requests.Terminate k is = absurd (cc is)
unsubscribe_drops command requests.Leave k is = absurd (cc is)

pub not_both : (request : Request) → is_unsubscribe request ≡ true → is_subscribe request ≡ false
not_both (requests.Publish qos topic payload) is = refl
not_both (requests.Subscribe asks) is = absurd (cc is)
not_both (requests.Unsubscribe filters) is = refl
not_both requests.Ping is = refl
not_both requests.Disconnect is = refl
not_both requests.Terminate is = refl
not_both requests.Leave is = refl

coded_none : (asks : List Ask) → coded asks [] ≡ []
coded_none [] = refl
coded_none (ask ∷ asks) = refl

-- one Done grants nothing
pub done_grants : (t q : ℕ) (other : Pending) → granted_to (f.Done t q o.Done ∷ []) other ≡ []
done_grants t q other = go (t == other.task && q == other.seq) refl
  where
    go : (b : Bool) → (t == other.task && q == other.seq) ≡ b → granted_to (f.Done t q o.Done ∷ []) other ≡ []
    go true e = rw e (ap granted_in (coded_none (asks_in other.request)))
    go false e = rw e (ap granted_in (coded_none (asks_in other.request)))

drops_nothing : (t q : ℕ) (other : Pending) → is_command t q other ≡ false → dropped_to (f.Done t q o.Done ∷ []) other.task other.seq other.request ≡ []
drops_nothing t q other e = let none : (t == other.task && q == other.seq) ≡ false = sym (as_completes t q o.Done other) ∙ e in rw none refl

drops_its : (command : Pending) → dropped_to (f.Done command.task command.seq o.Done ∷ []) command.task command.seq command.request ≡ map (route command.task) (filters_in command.request)
drops_its command = rw (eq-eqb command.task command.task refl, eq-eqb command.seq command.seq refl) refl

pub still_open : (t q : ℕ) (past : List Entry) (time : ℕ) (n : ℕ) → pending_of (entry time (c.Arrived (p.UnsubAck n)) (f.Done t q o.Done ∷ []) ∷ past) ≡ filter (λ other. not (is_command t q other)) (pending_of past)
still_open t q past time n =
    ap (filter (stays_open (f.Done t q o.Done ∷ []))) (append-nil (pending_of past))
    ∙ filter_as (stays_open (f.Done t q o.Done ∷ [])) (λ other. not (is_command t q other)) (pending_of past)
    (all_of (λ (other : Pending). stays_open (f.Done t q o.Done ∷ []) other ≡ not (is_command t q other)) (pending_of past) (λ other. ap not (or_none (completes other.task other.seq (f.Done t q o.Done)) ∙ sym (as_completes t q o.Done other))))
  where
    or_none : (b : Bool) → (b || false) ≡ b
    or_none true = refl
    or_none false = refl

-- one is done
one_ended : (s : Setup) (past : List Entry) (time n : ℕ) (released : List ℕ) (k : Routing) (command : Pending) → AreApart (pending_of past) → find (has_id n) (pending_of past) ≡ Some command → is_unsubscribe command.request ≡ true → Routed s past k
    → Routed s (entry time (c.Arrived (p.UnsubAck n)) (f.Done command.task command.seq o.Done ∷ []) ∷ past) (all_ended (books (pending_of past ++ []) released k) (f.Done command.task command.seq o.Done ∷ [])).routing
one_ended s past time n released k command apart found is routed =
    let effects = f.Done command.task command.seq o.Done ∷ [] in
    let cause = c.Arrived (p.UnsubAck n) in
    let now = entry time cause effects ∷ past in
    let there = found_by n (pending_of past) command apart found in
    let none = all_of (λ (other : Pending). granted_to effects other ≡ []) (pending_of past) (λ other. done_grants command.task command.seq other) in
    let drops = flat_one (λ (other : Pending). dropped_to effects other.task other.seq other.request) command.task command.seq (pending_of past) command apart there (λ other differs. drops_nothing command.task command.seq other differs) ∙ drops_its command in
    let ends : (all_ended (books (pending_of past ++ []) released k) effects).routing ≡ filters_dropped command.task (filters_in command.request) k =
    ap (λ (cs : List Pending). (all_ended (books cs released k) effects).routing) (append-nil (pending_of past))
    ∙ ap (λ (x : Option Pending). (ended_with o.Done (books (pending_of past) released k) x).routing) there
    ∙ unsubscribe_drops command command.request k is in
    subst (λ (x : Routing). Routed s now x) (sym ends) (record {
      granted = drops_both command.task (filters_in command.request) k.granted ∙ ap (without (map (route command.task) (filters_in command.request))) routed.granted
          ∙ filter_swapped (λ r. not (has_route (map (route command.task) (filters_in command.request)) r)) (is_here now) (granted_of past)
          ∙ ap (λ d. filter (is_here now) (without d (granted_of past))) (sym drops)
          ∙ ap (filter (is_here now)) (sym (granted_is past time cause effects refl (no_routes (pending_of past) effects none)));
      sure = all_map (λ (g : Granted). g.sure ≡ is_sure s past g.topics) (λ (g : Granted). g.sure ≡ is_sure s now g.topics) (filters_dropped command.task (filters_in command.request) k).granted
          (λ g its. its ∙ sym (sure_same s past (entry time cause effects) g.topics refl (made_none past time cause effects refl none)))
          (all_filter (λ (g : Granted). g.sure ≡ is_sure s past g.topics) (λ g. not (is_any_of command.task (filters_in command.request) g)) k.granted routed.sure);
      asked = subst (λ (cs : List Pending). Matched (IsAsked now) k.asked cs)
          (sym (ap subscribes_in (still_open command.task command.seq past time n) ∙ subscribes_stay command.task command.seq (pending_of past) command apart there (not_both command.request is))) (arrived_asked past time (p.UnsubAck n) effects k.asked (subscribes_in (pending_of past)) routed.asked);
      renewals = routed.renewals;
    })

pub unsuback_step : (s : Setup) (past : List Entry) (time n : ℕ) (effects : List Effect) (released : List ℕ) (k : Routing) → Differ (pending_of past) → AreApart (pending_of past)
    → effects ≡ all_done (filter (λ command. is_unsubscribe command.request) (at n (pending_of past))) → Routed s past k
    → Routed s (entry time (c.Arrived (p.UnsubAck n)) effects ∷ past) (all_ended (books (pending_of past ++ []) released k) effects).routing
unsuback_step s past time n effects released k differ apart is routed = go (find (has_id n) (pending_of past)) refl
  where
    one : (command : Pending) (b : Bool) → find (has_id n) (pending_of past) ≡ Some command → is_unsubscribe command.request ≡ b
        → Routed s (entry time (c.Arrived (p.UnsubAck n)) (all_done (filter (λ other. is_unsubscribe other.request) (command ∷ []))) ∷ past) (all_ended (books (pending_of past ++ []) released k) (all_done (filter (λ other. is_unsubscribe other.request) (command ∷ [])))).routing
    one command true found its = rw its (one_ended s past time n released k command apart found its routed)
    one command false found its = rw its (none_ended s past time n released k apart routed)

    go : (found : Option Pending) → find (has_id n) (pending_of past) ≡ found → Routed s (entry time (c.Arrived (p.UnsubAck n)) effects ∷ past) (all_ended (books (pending_of past ++ []) released k) effects).routing
    go None e =
        let same : [] ≡ effects = at_none (λ cs. all_done (filter (λ other. is_unsubscribe other.request) cs)) n (pending_of past) differ (sym e) ∙ sym is in
        subst (λ (es : List Effect). Routed s (entry time (c.Arrived (p.UnsubAck n)) es ∷ past) (all_ended (books (pending_of past ++ []) released k) es).routing) same (none_ended s past time n released k apart routed)
    go (Some command) e =
        let same : all_done (filter (λ other. is_unsubscribe other.request) (command ∷ [])) ≡ effects = at_one (λ cs. all_done (filter (λ other. is_unsubscribe other.request) cs)) n (pending_of past) command differ (sym e) ∙ sym is in
        subst (λ (es : List Effect). Routed s (entry time (c.Arrived (p.UnsubAck n)) es ∷ past) (all_ended (books (pending_of past ++ []) released k) es).routing) same (one command (is_unsubscribe command.request) e refl)

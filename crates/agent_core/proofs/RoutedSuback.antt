-- Behind a SUBACK.
use Rattle.std.proofs.Common.{◌≡◌, ℕ, Bool, true, false, not, List, [], ◌∷◌, ◌++◌, map, length, Option, Some, None, refl, ap, sym, ◌∙◌, subst}
use Rattle.std.specs.Prelude.{◌&&◌, ◌||◌, ◌==◌, filter, find, if◌then◌else◌}
use Rattle.std.specs.List.{list_any, flat_map}
use Rattle.std.specs.Option.{option_map}
use Rattle.std.proofs.lemmas.List.{append-nil, length-map}
use Rattle.std.proofs.lemmas.List.Folds.{list_any-append}
use Rattle.std.proofs.lemmas.Bool.{eq-eqb, eqb-true}
use Rattle.mqtt_packet.specs.declared.packet.Packet.TheVariants as p
use Rattle.mqtt_packet.specs.declared.will.Ask.{Ask}
use Rattle.agent_journal.specs.declared.request.Request.{Request}
use Rattle.agent_journal.specs.declared.request.Request.TheVariants as requests
use Rattle.agent_journal.specs.declared.outcome.Outcome.TheVariants as o
use Rattle.agent_journal.specs.declared.effect.Effect.{Effect}
use Rattle.agent_journal.specs.declared.effect.Effect.TheVariants as f
use Rattle.agent_journal.specs.declared.entry.Cause.TheVariants as c
use Rattle.agent_journal.specs.declared.entry.Entry.{Entry}
use Rattle.agent_journal.specs.declared.setup.Setup.{Setup}
use Rattle.agent_journal.specs.Readings.{Pending, pending_of, stays_open, completes, has_left}
use Rattle.agent_table.specs.Arrivals.{all_granted, at, counts_of, renewal_counts, is_subscribe}
use Rattle.agent_table.specs.Filters.{is_one_of}
use Rattle.agent_table.specs.Routes.{Route, Renewal, route, with_routes, without, without_filters, dropped_to, granted_to, granted_of, granted_in, refused_in, coded, coded_by, renewals_of, asks_in, routes_to, lost_of, sure_of}
use Rattle.pending_acks.specs.Commands.{Differ, has_id, is_command, others}
use Rattle.subscriptions.specs.Routing.{Granted, Asked, Routing, route_of, is_renewal, granted_by, settled_before, asked_len, granted}
use Rattle.subscriptions.specs.Routing as routing
use Rattle.agent_core.specs.After.{renewal_answered}
use Rattle.agent_core.specs.Completions.{books, all_ended, ended_with, routing_ended, granted_or_lost, is_count}
use Rattle.agent_core.specs.Routed.{Matched, Routed, IsAsked, subscribes_in, is_here, is_sure, filters_of}
use Rattle.agent_core.proofs.Acknowledged.{at_one, at_none}
use Rattle.agent_core.proofs.RoutedAnswered.{found_by, flat_one}
use Rattle.agent_core.proofs.RoutedEnds.{AreApart, as_completes, others_found, apart_filter}
use Rattle.agent_core.proofs.RoutedLists.{all_found, all_map, all_of, filter_as, filter_swapped, flat_none}
use Rattle.agent_core.proofs.RoutedQuiet.{quiet_grants, quiet_drops, no_routes, none_without}
use Rattle.agent_core.proofs.RoutedRenewed.{RenewedAs, renewed_as_coded, granted_here, granted_sure, settled_matched, find_asked, coded_as}
use Rattle.agent_core.proofs.RoutedSteps.{entry, arrived_asked, routed_by}

-- the renewals that such a SUBACK answers
abbrev pub answers : List Entry → ℕ → List ℕ → List (List ℕ × ℕ)
answers past n codes = coded_by n codes (renewals_of past)

-- ---- What the journal says

still_here : (past : List Entry) (time n : ℕ) (codes : List ℕ) (effects : List Effect) → flat_map (λ (command : Pending). dropped_to effects command.task command.seq command.request) (pending_of past) ≡ []
    → granted_of (entry time (c.Arrived (p.SubAck n codes)) effects ∷ past) ≡ with_routes (without_filters (refused_in (answers past n codes)) (granted_of past)) (flat_map (routes_to effects) (pending_of past))
still_here past time n codes effects drops =
    ap (λ d. with_routes (without_filters (refused_in (answers past n codes)) (without d (granted_of past))) (flat_map (routes_to effects) (pending_of past))) drops
    ∙ ap (λ rs. with_routes (without_filters (refused_in (answers past n codes)) rs) (flat_map (routes_to effects) (pending_of past))) (none_without (granted_of past))

-- what is sure then: what was, and what is granted to a task or in a renewal
sure_is : (s : Setup) (past : List Entry) (time n : ℕ) (codes : List ℕ) (effects : List Effect) (filters : List (List ℕ)) (topics : List ℕ) → flat_map (granted_to effects) (pending_of past) ≡ filters
    → ((is_sure s past topics || is_one_of (granted_in (answers past n codes)) topics) || is_one_of filters topics) ≡ is_sure s (entry time (c.Arrived (p.SubAck n codes)) effects ∷ past) topics
sure_is s past time n codes effects filters topics made =
    bools (not (lost_of s past)) (is_one_of (sure_of s past) topics) (is_one_of (granted_in (answers past n codes)) topics) (is_one_of filters topics)
    ∙ ap (λ b. not (lost_of s past) || (is_one_of (sure_of s past) topics || b)) (sym (append_one filters (granted_in (answers past n codes))))
    ∙ ap (λ b. not (lost_of s past) || b) (sym (append_one (sure_of s past) (filters ++ granted_in (answers past n codes))))
    ∙ ap (λ fs. not (lost_of s past) || is_one_of (sure_of s past ++ (fs ++ granted_in (answers past n codes))) topics) (sym made)
  where
    append_one : (xs ys : List (List ℕ)) → is_one_of (xs ++ ys) topics ≡ (is_one_of xs topics || is_one_of ys topics)
    append_one xs ys = list_any-append _ xs ys

    bools : (a b d e : Bool) → (((a || b) || d) || e) ≡ (a || (b || (e || d)))
    bools true b d e = refl
    bools false true d e = refl
    bools false false true true = refl
    bools false false true false = refl
    bools false false false true = refl
    bools false false false false = refl

here_refused : (past : List Entry) (refused : List (List ℕ)) (routes : List Route) → without_filters refused (filter (is_here past) routes) ≡ filter (is_here past) (without_filters refused routes)
here_refused past refused routes = filter_swapped (λ r. not (is_one_of refused r.topics)) (is_here past) routes

-- ---- No subscribe is granted

none_granted : (s : Setup) (past : List Entry) (time n : ℕ) (codes : List ℕ) (released : List ℕ) (k now : Routing) → AreApart (pending_of past) → Routed s past k
    → RenewedAs (answers past n codes) (filter (λ renewal. not (renewal.id == n)) (renewals_of past)) k now
    → Routed s (entry time (c.Arrived (p.SubAck n codes)) [] ∷ past) (all_ended (books (pending_of past ++ []) released now) []).routing
none_granted s past time n codes released k now apart routed renewed =
    let behind = entry time (c.Arrived (p.SubAck n codes)) [] ∷ past in
    let none = quiet_grants (pending_of past) [] tt in
    let made = flat_none (granted_to []) (pending_of past) none in
    routed_by s past time (c.Arrived (p.SubAck n codes)) [] released now
    (subst AreApart (sym (append-nil (pending_of past))) apart) tt
    (renewed.granted ∙ ap (without_filters (refused_in (answers past n codes))) routed.granted ∙ here_refused past (refused_in (answers past n codes)) (granted_of past)
    ∙ ap (λ rs. filter (is_here past) (with_routes (without_filters (refused_in (answers past n codes)) (granted_of past)) rs)) (sym (no_routes (pending_of past) [] none))
    ∙ ap (filter (is_here behind)) (sym (still_here past time n codes [] (flat_none (λ (command : Pending). dropped_to [] command.task command.seq command.request) (pending_of past) (quiet_drops (pending_of past) [] tt)))))
    (all_map (λ (g : Granted). g.sure ≡ (is_sure s past g.topics || is_one_of (granted_in (answers past n codes)) g.topics)) (λ (g : Granted). g.sure ≡ is_sure s behind g.topics) now.granted
    (λ g is. is ∙ or_false (is_sure s past g.topics || is_one_of (granted_in (answers past n codes)) g.topics) ∙ sure_is s past time n codes [] [] g.topics made) (renewed.sure (is_sure s past) routed.sure))
    (subst (λ (as' : List Asked). Matched (IsAsked behind) as' (subscribes_in (pending_of past ++ []))) (sym renewed.asked)
    (subst (λ (cs : List Pending). Matched (IsAsked behind) k.asked (subscribes_in cs)) (sym (append-nil (pending_of past))) (arrived_asked past time (p.SubAck n codes) [] k.asked (subscribes_in (pending_of past)) routed.asked)))
    renewed.renewals
  where
    or_false : (b : Bool) → b ≡ (b || false)
    or_false true = refl
    or_false false = refl

-- ---- One is

abbrev pub grants_it : Pending → List ℕ → List Effect
grants_it command codes = f.Done command.task command.seq (o.Granted codes) ∷ []

pub other_grants : (t q : ℕ) (codes : List ℕ) (other : Pending) → is_command t q other ≡ false → granted_to (f.Done t q (o.Granted codes) ∷ []) other ≡ []
other_grants t q codes other e =
    let none : (t == other.task && q == other.seq) ≡ false = sym (as_completes t q (o.Granted codes) other) ∙ e in rw none (go (asks_in other.request))
  where
    go : (asks : List Ask) → granted_in (coded asks []) ≡ []
    go [] = refl
    go (ask ∷ asks) = refl

pub its_grants : (command : Pending) (codes : List ℕ) → granted_to (grants_it command codes) command ≡ granted_in (coded (asks_in command.request) codes)
its_grants command codes = rw (eq-eqb command.task command.task refl, eq-eqb command.seq command.seq refl) (ap (λ cs. granted_in (coded (asks_in command.request) cs)) (append-nil codes))

grants_drop : (t q : ℕ) (codes : List ℕ) (other : Pending) → dropped_to (f.Done t q (o.Granted codes) ∷ []) other.task other.seq other.request ≡ []
grants_drop t q codes other = go (t == other.task && q == other.seq) refl
  where
    go : (b : Bool) → (t == other.task && q == other.seq) ≡ b → dropped_to (f.Done t q (o.Granted codes) ∷ []) other.task other.seq other.request ≡ []
    go true e = rw e refl
    go false e = rw e refl

pub left_open : (t q : ℕ) (past : List Entry) (time n : ℕ) (codes : List ℕ) → pending_of (entry time (c.Arrived (p.SubAck n codes)) (f.Done t q (o.Granted codes) ∷ []) ∷ past) ≡ filter (λ other. not (is_command t q other)) (pending_of past)
left_open t q past time n codes =
    ap (filter (stays_open (f.Done t q (o.Granted codes) ∷ []))) (append-nil (pending_of past))
    ∙ filter_as (stays_open (f.Done t q (o.Granted codes) ∷ [])) (λ other. not (is_command t q other)) (pending_of past)
    (all_of (λ (other : Pending). stays_open (f.Done t q (o.Granted codes) ∷ []) other ≡ not (is_command t q other)) (pending_of past) (λ other. ap not (or_none (completes other.task other.seq (f.Done t q (o.Granted codes))) ∙ sym (as_completes t q (o.Granted codes) other))))
  where
    or_none : (b : Bool) → (b || false) ≡ b
    or_none true = refl
    or_none false = refl

pub find_subscribe : (n : ℕ) (commands : List Pending) (command : Pending) → find (has_id n) commands ≡ Some command → is_subscribe command.request ≡ true → find (has_id n) (subscribes_in commands) ≡ Some command
find_subscribe n [] command e is = absurd (cc e)
find_subscribe n (first ∷ commands) command e is = go (has_id n first) (is_subscribe first.request) refl refl (λ there. find_subscribe n commands command there is)
  where
    go : (x y : Bool) → has_id n first ≡ x → is_subscribe first.request ≡ y → (find (has_id n) commands ≡ Some command → find (has_id n) (subscribes_in commands) ≡ Some command) → find (has_id n) (subscribes_in (first ∷ commands)) ≡ Some command
    go true true x y rest = rw (y, x) (rw x at e)
    go true false x y rest = let same : first ≡ command = cc (rw x at e) in absurd (cc (ap (λ (z : Pending). is_subscribe z.request) same ∙ is, y))
    go false true x y rest = rw (y, x) (rest (rw x at e))
    go false false x y rest = rw y (rest (rw x at e))

grant_ends : (command : Pending) (request : Request) (codes : List ℕ) (k : Routing) → is_subscribe request ≡ true → routing_ended command request (o.Granted codes) k ≡ granted_or_lost command.id codes k
grant_ends command (requests.Publish qos topic payload) codes k is = absurd (cc is)
grant_ends command (requests.Subscribe asks) codes k is = refl
grant_ends command (requests.Unsubscribe filters) codes k is = absurd (cc is)
grant_ends command requests.Ping codes k is = absurd (cc is)
grant_ends command requests.Disconnect codes k is = absurd (cc is)
grant_ends command requests.Terminate codes k is = absurd (cc is)
grant_ends command requests.Leave codes k is = absurd (cc is)

-- what is kept then
abbrev pub granted_now : Asked → Pending → List ℕ → Routing → Routing
granted_now a command codes k = record k {
  granted = granted_by a (granted_in (coded (asks_in command.request) codes)) k.granted;
  asked = settled_before command.id (granted_in (coded (asks_in command.request) codes)) a.asks k.asked;
}

pub ends_granted : (past : List Entry) (released : List ℕ) (now : Routing) (a : Asked) (command : Pending) (codes : List ℕ) → AreApart (pending_of past) → find (has_id command.id) (pending_of past) ≡ Some command → is_subscribe command.request ≡ true
    → find (routing.has_id command.id) now.asked ≡ Some a → filters_of a.asks ≡ filters_of (asks_in command.request) → (length (asks_in command.request) == length codes) ≡ true
    → (all_ended (books (pending_of past ++ []) released now) (grants_it command codes)).routing ≡ granted_now a command codes now
ends_granted past released now a command codes apart found is kept filters count =
    ap (λ (cs : List Pending). (all_ended (books cs released now) (grants_it command codes)).routing) (append-nil (pending_of past))
    ∙ ap (λ (x : Option Pending). (ended_with (o.Granted codes) (books (pending_of past) released now) x).routing) (found_by command.id (pending_of past) command apart found)
    ∙ grant_ends command command.request codes now is
    ∙ ap (λ (x : Option Asked). if is_count (option_map (λ (y : Asked). length y.asks) x) (length codes) then granted command.id codes now else routing.lost command.id now) kept
    ∙ ap (λ (b : Bool). if b then granted command.id codes now else routing.lost command.id now) (ap (λ m. m == length codes) size ∙ count)
    ∙ ap (λ (x : Option Asked). routing.granted_to command.id x codes now) kept
    ∙ ap (λ ps. record now { granted = granted_by a (granted_in ps) now.granted; asked = settled_before command.id (granted_in ps) a.asks now.asked }) (coded_as a.asks (asks_in command.request) codes filters)
  where
    size : length a.asks ≡ length (asks_in command.request)
    size = sym (length-map a.asks (λ (ask : Ask). ask.filter)) ∙ ap length filters ∙ length-map (asks_in command.request) (λ (ask : Ask). ask.filter)

one_granted : (s : Setup) (past : List Entry) (time : ℕ) (codes : List ℕ) (released : List ℕ) (k now : Routing) (command : Pending) → AreApart (pending_of past) → Routed s past k
    → RenewedAs (answers past command.id codes) (filter (λ renewal. not (renewal.id == command.id)) (renewals_of past)) k now
    → find (has_id command.id) (pending_of past) ≡ Some command → is_subscribe command.request ≡ true → (length (asks_in command.request) == length codes) ≡ true
    → Routed s (entry time (c.Arrived (p.SubAck command.id codes)) (grants_it command codes) ∷ past) (all_ended (books (pending_of past ++ []) released now) (grants_it command codes)).routing
one_granted s past time codes released k now command apart routed renewed found is count =
    let effects = grants_it command codes in
    let behind = entry time (c.Arrived (p.SubAck command.id codes)) effects ∷ past in
    let filters = granted_in (coded (asks_in command.request) codes) in
    let there = found_by command.id (pending_of past) command apart found in
    let kept = find_asked (IsAsked past) command.id k.asked (subscribes_in (pending_of past)) command (λ a other its. its.id) routed.asked (find_subscribe command.id (pending_of past) command found is) in
    let a = kept.0 in
    let here : find (routing.has_id command.id) now.asked ≡ Some a = ap (find (routing.has_id command.id)) renewed.asked ∙ kept.1 in
    let ends = ends_granted past released now a command codes apart found is here kept.2.filters count in
    let made : flat_map (granted_to effects) (pending_of past) ≡ filters =
    flat_one (granted_to effects) command.task command.seq (pending_of past) command apart there (λ other differs. other_grants command.task command.seq codes other differs) ∙ its_grants command codes in
    let new_routes : flat_map (routes_to effects) (pending_of past) ≡ map (route command.task) filters =
    flat_one (routes_to effects) command.task command.seq (pending_of past) command apart there (λ other differs. ap (map (route other.task)) (other_grants command.task command.seq codes other differs)) ∙ ap (map (route command.task)) (its_grants command codes) in
    let drops = flat_none (λ (other : Pending). dropped_to effects other.task other.seq other.request) (pending_of past) (all_of (λ (other : Pending). dropped_to effects other.task other.seq other.request ≡ []) (pending_of past) (λ other. grants_drop command.task command.seq codes other)) in
    let front : map route_of now.granted ≡ filter (is_here past) (without_filters (refused_in (answers past command.id codes)) (granted_of past)) =
    renewed.granted ∙ ap (without_filters (refused_in (answers past command.id codes))) routed.granted ∙ here_refused past (refused_in (answers past command.id codes)) (granted_of past) in
    let rest : others command.id (pending_of past) ≡ filter (λ other. not (is_command command.task command.seq other)) (pending_of past) = others_found command.task command.seq (pending_of past) command apart there in
    subst (λ (x : Routing). Routed s behind x) (sym ends) (record {
      granted = granted_here past a filters now.granted (without_filters (refused_in (answers past command.id codes)) (granted_of past)) (kept.2.left ∙ ap (λ t. has_left t past) (sym kept.2.task)) front
          ∙ ap (λ t. filter (is_here past) (with_routes (without_filters (refused_in (answers past command.id codes)) (granted_of past)) (map (route t) filters))) kept.2.task
          ∙ ap (λ rs. filter (is_here past) (with_routes (without_filters (refused_in (answers past command.id codes)) (granted_of past)) rs)) (sym new_routes)
          ∙ ap (filter (is_here behind)) (sym (still_here past time command.id codes effects drops));
      sure = all_map (λ (g : Granted). g.sure ≡ ((is_sure s past g.topics || is_one_of (granted_in (answers past command.id codes)) g.topics) || is_one_of filters g.topics)) (λ (g : Granted). g.sure ≡ is_sure s behind g.topics) (granted_by a filters now.granted)
          (λ g its. its ∙ sure_is s past time command.id codes effects filters g.topics made)
          (granted_sure (λ topics. is_sure s past topics || is_one_of (granted_in (answers past command.id codes)) topics) a filters now.granted (renewed.sure (is_sure s past) routed.sure));
      asked = subst (λ (cs : List Pending). Matched (IsAsked behind) (settled_before command.id filters a.asks now.asked) cs)
          (filter_swapped (λ other. not (has_id command.id other)) (λ (other : Pending). is_subscribe other.request) (pending_of past)
          ∙ ap subscribes_in (rest ∙ sym (left_open command.task command.seq past time command.id codes)))
          (subst (λ (as' : List Asked). Matched (IsAsked behind) (settled_before command.id filters a.asks as') (filter (λ other. not (has_id command.id other)) (subscribes_in (pending_of past)))) (sym renewed.asked)
          (arrived_asked past time (p.SubAck command.id codes) effects (settled_before command.id filters a.asks k.asked) (filter (λ other. not (has_id command.id other)) (subscribes_in (pending_of past)))
          (settled_matched past command.id filters a.asks k.asked (subscribes_in (pending_of past)) (apart_filter (λ (other : Pending). is_subscribe other.request) (pending_of past) apart) routed.asked)));
      renewals = renewed.renewals;
    })

-- ---- All of it

none_left : (test : ℕ → Bool) (xs ys : List ℕ) → list_any test (xs ++ ys) ≡ false → (list_any test xs ≡ false) × (list_any test ys ≡ false)
none_left test [] ys e = (refl, e)
none_left test (x ∷ xs) ys e = go (test x) refl (none_left test xs ys)
  where
    go : (b : Bool) → test x ≡ b → (list_any test (xs ++ ys) ≡ false → (list_any test xs ≡ false) × (list_any test ys ≡ false)) → (list_any test (x ∷ xs) ≡ false) × (list_any test ys ≡ false)
    go true is rest = absurd (cc (rw is at e))
    go false is rest = rw is (rest (rw is at e))

counted_one : (b : Bool) → (not b || false) ≡ false → b ≡ true
counted_one true e = refl
counted_one false e = absurd (cc e)

pub suback_step : (s : Setup) (past : List Entry) (time n : ℕ) (codes : List ℕ) (effects : List Effect) (released : List ℕ) (k : Routing) → Differ (pending_of past) → AreApart (pending_of past)
    → list_any (λ count. not (count == length codes)) (counts_of (filter (λ command. is_subscribe command.request) (at n (pending_of past))) ++ renewal_counts (find (λ renewal. renewal.id == n) (renewals_of past))) ≡ false
    → effects ≡ all_granted codes (filter (λ command. is_subscribe command.request) (at n (pending_of past))) → Routed s past k
    → Routed s (entry time (c.Arrived (p.SubAck n codes)) effects ∷ past) (all_ended (books (pending_of past ++ []) released (renewal_answered n codes k)) effects).routing
suback_step s past time n codes effects released k differ apart counts is routed =
    let two = none_left (λ count. not (count == length codes)) (counts_of (filter (λ command. is_subscribe command.request) (at n (pending_of past)))) (renewal_counts (find (λ renewal. renewal.id == n) (renewals_of past))) counts in
    let fits : (renewal : Renewal) → find (is_renewal n) k.renewals ≡ Some renewal → (length renewal.asks == length codes) ≡ true =
    λ renewal e. counted_one (length renewal.asks == length codes) (ap (λ (x : Option Renewal). list_any (λ count. not (count == length codes)) (renewal_counts x)) (sym e ∙ ap (find (is_renewal n)) routed.renewals) ∙ two.1) in
    let renewed : RenewedAs (answers past n codes) (filter (λ renewal. not (renewal.id == n)) (renewals_of past)) k (renewal_answered n codes k) =
    subst (λ (rs : List Renewal). RenewedAs (coded_by n codes rs) (filter (λ renewal. not (renewal.id == n)) rs) k (renewal_answered n codes k)) routed.renewals (renewed_as_coded n codes k fits) in
    go (find (has_id n) (pending_of past)) refl two.0 renewed
  where
    one : (command : Pending) (b : Bool) → find (has_id n) (pending_of past) ≡ Some command → is_subscribe command.request ≡ b → list_any (λ count. not (count == length codes)) (counts_of (filter (λ other. is_subscribe other.request) (command ∷ []))) ≡ false
        → RenewedAs (answers past n codes) (filter (λ renewal. not (renewal.id == n)) (renewals_of past)) k (renewal_answered n codes k)
        → Routed s (entry time (c.Arrived (p.SubAck n codes)) (all_granted codes (filter (λ other. is_subscribe other.request) (command ∷ []))) ∷ past) (all_ended (books (pending_of past ++ []) released (renewal_answered n codes k)) (all_granted codes (filter (λ other. is_subscribe other.request) (command ∷ [])))).routing
    one command true found its count renewed =
        let same : command.id ≡ n = eqb-true command.id n (all_found (λ (x : Pending). Unit {0}) (has_id n) (pending_of past) command (all_of (λ (x : Pending). Unit {0}) (pending_of past) (λ x. tt)) found).1 in
        let sized : (length (asks_in command.request) == length codes) ≡ true = counted_one (length (asks_in command.request) == length codes) (rw its at count) in
        rw its (subst (λ (m : ℕ). Routed s (entry time (c.Arrived (p.SubAck m codes)) (grants_it command codes) ∷ past) (all_ended (books (pending_of past ++ []) released (renewal_answered n codes k)) (grants_it command codes)).routing) same
        (one_granted s past time codes released k (renewal_answered n codes k) command apart routed
        (subst (λ (m : ℕ). RenewedAs (answers past m codes) (filter (λ renewal. not (renewal.id == m)) (renewals_of past)) k (renewal_answered n codes k)) (sym same) renewed)
        (subst (λ (m : ℕ). find (has_id m) (pending_of past) ≡ Some command) (sym same) found) its sized))
    one command false found its count renewed = rw its (none_granted s past time n codes released k (renewal_answered n codes k) apart routed renewed)

    go : (found : Option Pending) → find (has_id n) (pending_of past) ≡ found → list_any (λ count. not (count == length codes)) (counts_of (filter (λ command. is_subscribe command.request) (at n (pending_of past)))) ≡ false
        → RenewedAs (answers past n codes) (filter (λ renewal. not (renewal.id == n)) (renewals_of past)) k (renewal_answered n codes k)
        → Routed s (entry time (c.Arrived (p.SubAck n codes)) effects ∷ past) (all_ended (books (pending_of past ++ []) released (renewal_answered n codes k)) effects).routing
    go None e count renewed =
        let same : [] ≡ effects = at_none (λ cs. all_granted codes (filter (λ other. is_subscribe other.request) cs)) n (pending_of past) differ (sym e) ∙ sym is in
        subst (λ (es : List Effect). Routed s (entry time (c.Arrived (p.SubAck n codes)) es ∷ past) (all_ended (books (pending_of past ++ []) released (renewal_answered n codes k)) es).routing) same (none_granted s past time n codes released k (renewal_answered n codes k) apart routed renewed)
    go (Some command) e count renewed =
        let same : all_granted codes (filter (λ other. is_subscribe other.request) (command ∷ [])) ≡ effects = at_one (λ cs. all_granted codes (filter (λ other. is_subscribe other.request) cs)) n (pending_of past) command differ (sym e) ∙ sym is in
        let its = at_one (λ cs. list_any (λ count. not (count == length codes)) (counts_of (filter (λ other. is_subscribe other.request) cs))) n (pending_of past) command differ (sym e) ∙ count in
        subst (λ (es : List Effect). Routed s (entry time (c.Arrived (p.SubAck n codes)) es ∷ past) (all_ended (books (pending_of past ++ []) released (renewal_answered n codes k)) es).routing) same (one command (is_subscribe command.request) e refl its renewed)

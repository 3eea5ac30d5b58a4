-- Behind a Take.
use Rattle.std.proofs.Common.{◌≡◌, ℕ, Bool, true, false, cond, not, List, [], ◌∷◌, ◌++◌, map, Option, Some, None, refl, ap, sym, ◌∙◌, subst}
use Rattle.std.specs.Prelude.{◌&&◌, ◌||◌, ◌==◌, filter, if◌then◌else◌}
use Rattle.std.specs.List.{AllByRecursion, list_any}
use Rattle.std.specs.Str.{bytes_eq}
use Rattle.std.proofs.lemmas.List.{append-nil}
use Rattle.mqtt_packet.specs.declared.will.Ask.{Ask}
use Rattle.agent_journal.specs.declared.request.Request.{Request}
use Rattle.agent_journal.specs.declared.request.Request.TheVariants as requests
use Rattle.agent_journal.specs.declared.effect.Effect.{Effect}
use Rattle.agent_journal.specs.declared.effect.Effect.TheVariants as f
use Rattle.agent_journal.specs.declared.entry.Cause.TheVariants as c
use Rattle.agent_journal.specs.declared.entry.Entry.{Entry}
use Rattle.agent_journal.specs.declared.setup.Setup.{Setup}
use Rattle.agent_journal.specs.Readings.{Pending, pending_of, opens, opened_by, sent_id, has_left, is_leave, sent_filters}
use Rattle.agent_table.specs.Arrivals.{is_subscribe}
use Rattle.agent_table.specs.Filters.{is_one_of}
use Rattle.agent_table.specs.Histories.{IsLegalPast, row, effects_of}
use Rattle.agent_table.specs.Routes.{Route, route, has_route, without, dropped_to, granted_of, renewals_of, is_done, outcomes_in}
use Rattle.agent_table.specs.Sizes.{Sizes}
use Rattle.pending_acks.specs.Commands.{Differ, is_command}
use Rattle.subscriptions.specs.Routing.{Granted, Asked, Routing, route_of, is_any_of, leaves, filters_dropped, task_dropped}
use Rattle.agent_core.specs.After.{taken_by, asked_by}
use Rattle.agent_core.specs.Completions.{books, all_ended}
use Rattle.agent_core.specs.Routed.{Matched, Routed, IsAsked, subscribes_in, is_here, is_sure}
use Rattle.agent_core.proofs.RoutedEnds.{AreQuiet, QuietBy, IsQuiet, turned}
use Rattle.agent_core.proofs.RoutedLists.{all_filter, all_first, all_map, all_of, filter_as, filter_map, filter_swapped, filter_twice, filter_append, matched_map, matched_behind}
use Rattle.agent_core.proofs.RoutedPast.{are_numbered, are_taken, is_next, numbered_behind}
use Rattle.agent_core.proofs.RoutedQuiet.{quiet_grants, no_routes, none_without, no_unsubscribe}
use Rattle.agent_core.proofs.RoutedRows.{take_quiet}
use Rattle.agent_core.proofs.RoutedSteps.{entry, are_apart, granted_is, made_none, sure_same, routed_by, still_asked}

pub first_quiet : (commands more : List Pending) (effect : Effect) → QuietBy (commands ++ more) effect → QuietBy commands effect
first_quiet commands more (f.Send packet) quiet = tt
first_quiet commands more (f.Done t q outcome) quiet = all_first (λ (command : Pending). is_command t q command ≡ true → IsQuiet command.request outcome) commands more quiet
first_quiet commands more (f.Pass task message) quiet = tt
first_quiet commands more (f.Closed task) quiet = tt

-- from what is kept before the completions
take_by : (s : Setup) (l : Sizes) (past : List Entry) (at task seq : ℕ) (request : Request) (effects : List Effect) (released : List ℕ) (k : Routing) → IsLegalPast s l past → effects_of (row s l past at (c.Take task seq request)) ≡ Some effects
    → Differ (pending_of past ++ opens (c.Take task seq request) effects)
    → map route_of k.granted ≡ filter (is_here (entry at (c.Take task seq request) effects ∷ past)) (without (dropped_to effects task seq request) (granted_of past))
    → AllByRecursion (λ (g : Granted). g.sure ≡ is_sure s past g.topics) k.granted
    → Matched (IsAsked (entry at (c.Take task seq request) effects ∷ past)) k.asked (subscribes_in (pending_of past ++ opens (c.Take task seq request) effects)) → k.renewals ≡ renewals_of past
    → Routed s (entry at (c.Take task seq request) effects ∷ past) (all_ended (books (pending_of past ++ opens (c.Take task seq request) effects) released k) effects).routing
take_by s l past at task seq request effects released k legal e differ granted sure asked renewals =
    let cause = c.Take task seq request in
    let now = entry at cause effects ∷ past in
    let quiet = take_quiet s l past at task seq request effects legal e in
    let own : AreQuiet (pending_of past) effects = all_map (QuietBy (pending_of past ++ opens cause effects)) (QuietBy (pending_of past)) effects (λ effect q. first_quiet (pending_of past) (opens cause effects) effect q) quiet in
    let none = quiet_grants (pending_of past) effects own in
    routed_by s past at cause effects released k
    (are_apart (pending_of past ++ opens cause effects) differ (numbered_behind past (pending_of past) cause effects (is_next s l past at cause effects e) (are_taken s l past legal) (are_numbered s l past legal)))
    quiet
    (granted ∙ ap (filter (is_here now)) (sym (granted_is past at cause effects refl (no_routes (pending_of past) effects none))))
    (all_map (λ (g : Granted). g.sure ≡ is_sure s past g.topics) (λ (g : Granted). g.sure ≡ is_sure s now g.topics) k.granted
    (λ g is. is ∙ sym (sure_same s past (entry at cause effects) g.topics refl (made_none past at cause effects refl none))) sure)
    asked renewals

-- ---- Requests that aren't Leave

stays_here : (past : List Entry) (at task seq : ℕ) (request : Request) (effects : List Effect) (t : ℕ) → is_leave request ≡ false → has_left t (entry at (c.Take task seq request) effects ∷ past) ≡ has_left t past
stays_here past at task seq request effects t nay = rw nay (go (t == task))
  where
    go : (b : Bool) → ((b && false) || has_left t past) ≡ has_left t past
    go true = refl
    go false = refl

here_as : (past : List Entry) (at task seq : ℕ) (request : Request) (effects : List Effect) (routes : List Route) → is_leave request ≡ false → filter (is_here past) routes ≡ filter (is_here (entry at (c.Take task seq request) effects ∷ past)) routes
here_as past at task seq request effects routes nay =
    filter_as (is_here past) (is_here (entry at (c.Take task seq request) effects ∷ past)) routes
    (all_of (λ (r : Route). is_here past r ≡ is_here (entry at (c.Take task seq request) effects ∷ past) r) routes (λ r. ap not (sym (stays_here past at task seq request effects r.task nay))))

pub opens_none : (commands : List Pending) (task seq : ℕ) (request : Request) (names : List (List ℕ)) (id : Option ℕ) → is_subscribe request ≡ false → subscribes_in (commands ++ opened_by task seq request names id) ≡ subscribes_in commands
opens_none commands task seq request names None nay = ap subscribes_in (append-nil commands)
opens_none commands task seq request names (Some id) nay =
    filter_append (λ (command : Pending). is_subscribe command.request) commands (record { id = id; task = task; seq = seq; request = request; sent_filters = names } ∷ []) ∙ (rw nay (append-nil (subscribes_in commands)))

still_all : (now past : List Entry) (asks : List Asked) (commands : List Pending) → ((t : ℕ) → has_left t now ≡ has_left t past) → Matched (IsAsked past) asks commands → Matched (IsAsked now) asks commands
still_all now past asks commands same m = matched_map (IsAsked past) (IsAsked now) asks commands (λ a command is. still_asked now past a command (same command.task) is) m

-- one that neither asks nor drops
take_other : (s : Setup) (l : Sizes) (past : List Entry) (at task seq : ℕ) (request : Request) (effects : List Effect) (released : List ℕ) (k : Routing) → IsLegalPast s l past → effects_of (row s l past at (c.Take task seq request)) ≡ Some effects
    → Differ (pending_of past ++ opens (c.Take task seq request) effects) → is_leave request ≡ false → is_subscribe request ≡ false → dropped_to effects task seq request ≡ [] → Routed s past k
    → Routed s (entry at (c.Take task seq request) effects ∷ past) (all_ended (books (pending_of past ++ opens (c.Take task seq request) effects) released k) effects).routing
take_other s l past at task seq request effects released k legal e differ stays asks drops routed =
    let now = entry at (c.Take task seq request) effects ∷ past in
    take_by s l past at task seq request effects released k legal e differ
    (routed.granted ∙ here_as past at task seq request effects (granted_of past) stays ∙ ap (filter (is_here now)) (sym (ap (λ d. without d (granted_of past)) drops ∙ none_without (granted_of past))))
    routed.sure
    (subst (λ (cs : List Pending). Matched (IsAsked now) k.asked cs) (sym (opens_none (pending_of past) task seq request (sent_filters effects) (sent_id effects) asks))
    (still_all now past k.asked (subscribes_in (pending_of past)) (λ t. stays_here past at task seq request effects t stays) routed.asked))
    routed.renewals

-- ---- A subscribe

take_subscribe : (s : Setup) (l : Sizes) (past : List Entry) (at task seq : ℕ) (asks : List Ask) (effects : List Effect) (released : List ℕ) (k : Routing) → IsLegalPast s l past → effects_of (row s l past at (c.Take task seq (requests.Subscribe asks))) ≡ Some effects
    → Differ (pending_of past ++ opens (c.Take task seq (requests.Subscribe asks)) effects) → has_left task past ≡ false → Routed s past k
    → Routed s (entry at (c.Take task seq (requests.Subscribe asks)) effects ∷ past)
    (all_ended (books (pending_of past ++ opens (c.Take task seq (requests.Subscribe asks)) effects) released (asked_by task (requests.Subscribe asks) (opens (c.Take task seq (requests.Subscribe asks)) effects) k)) effects).routing
take_subscribe s l past at task seq asks effects released k legal e differ here routed =
    let request = requests.Subscribe asks in
    let now = entry at (c.Take task seq request) effects ∷ past in
    let drops : dropped_to effects task seq request ≡ [] = no_unsubscribe effects task seq request refl in
    let held : filter (is_here past) (granted_of past) ≡ filter (is_here now) (without (dropped_to effects task seq request) (granted_of past)) =
    here_as past at task seq request effects (granted_of past) refl ∙ ap (filter (is_here now)) (sym (ap (λ d. without d (granted_of past)) drops ∙ none_without (granted_of past))) in
    let before = still_all now past k.asked (subscribes_in (pending_of past)) (λ t. stays_here past at task seq request effects t refl) routed.asked in
    take_by s l past at task seq request effects released (asked_by task request (opens (c.Take task seq request) effects) k) legal e differ
    (ap (map route_of) (same_granted (sent_id effects)) ∙ routed.granted ∙ held)
    (subst (λ (gs : List Granted). AllByRecursion (λ (g : Granted). g.sure ≡ is_sure s past g.topics) gs) (sym (same_granted (sent_id effects))) routed.sure)
    (asked (sent_id effects) before)
    (same_renewals (sent_id effects) ∙ routed.renewals)
  where
    request : Request
    request = requests.Subscribe asks

    now : List Entry
    now = entry at (c.Take task seq (requests.Subscribe asks)) effects ∷ past

    same_granted : (id : Option ℕ) → (asked_by task (requests.Subscribe asks) (opened_by task seq (requests.Subscribe asks) (sent_filters effects) id) k).granted ≡ k.granted
    same_granted None = refl
    same_granted (Some id) = refl

    same_renewals : (id : Option ℕ) → (asked_by task (requests.Subscribe asks) (opened_by task seq (requests.Subscribe asks) (sent_filters effects) id) k).renewals ≡ k.renewals
    same_renewals None = refl
    same_renewals (Some id) = refl

    asked : (id : Option ℕ) → Matched (IsAsked (entry at (c.Take task seq (requests.Subscribe asks)) effects ∷ past)) k.asked (subscribes_in (pending_of past))
        → Matched (IsAsked (entry at (c.Take task seq (requests.Subscribe asks)) effects ∷ past)) (asked_by task (requests.Subscribe asks) (opened_by task seq (requests.Subscribe asks) (sent_filters effects) id) k).asked
        (subscribes_in (pending_of past ++ opened_by task seq (requests.Subscribe asks) (sent_filters effects) id))
    asked None m = subst (λ (cs : List Pending). Matched (IsAsked (entry at (c.Take task seq (requests.Subscribe asks)) effects ∷ past)) k.asked (subscribes_in cs)) (sym (append-nil (pending_of past))) m
    asked (Some id) m =
        subst (λ (cs : List Pending). Matched (IsAsked (entry at (c.Take task seq (requests.Subscribe asks)) effects ∷ past)) (k.asked ++ record { task = task; id = id; asks = asks; left = false } ∷ []) cs)
        (sym (filter_append (λ (command : Pending). is_subscribe command.request) (pending_of past) (record { id = id; task = task; seq = seq; request = requests.Subscribe asks; sent_filters = sent_filters effects } ∷ [])))
        (matched_behind (IsAsked (entry at (c.Take task seq (requests.Subscribe asks)) effects ∷ past)) k.asked (subscribes_in (pending_of past)) (record { task = task; id = id; asks = asks; left = false }) (record { id = id; task = task; seq = seq; request = requests.Subscribe asks; sent_filters = sent_filters effects }) m
        (record { task = refl; id = refl; left = sym (stays_here past at task seq (requests.Subscribe asks) effects task refl ∙ here); filters = refl }))

-- ---- An unsubscribe

pub dropped_has : (task : ℕ) (filters : List (List ℕ)) (r : Route) → has_route (map (route task) filters) r ≡ (r.task == task && is_one_of filters r.topics)
dropped_has task [] r = go (r.task == task)
  where
    go : (b : Bool) → false ≡ (b && false)
    go true = refl
    go false = refl
dropped_has task (filter ∷ filters) r = ap (λ b. (task == r.task && bytes_eq filter r.topics) || b) (dropped_has task filters r) ∙ ap (λ b. (b && bytes_eq filter r.topics) || (r.task == task && is_one_of filters r.topics)) (turned task r.task)
    ∙ go (r.task == task) (bytes_eq filter r.topics) (is_one_of filters r.topics)
  where
    go : (a b d : Bool) → ((a && b) || (a && d)) ≡ (a && (b || d))
    go true b d = refl
    go false b d = refl

-- routes that an unsubscribe of a task drops
pub drops_both : (task : ℕ) (filters : List (List ℕ)) (gs : List Granted) → map route_of (filter (λ g. not (is_any_of task filters g)) gs) ≡ without (map (route task) filters) (map route_of gs)
drops_both task filters gs =
    ap (map route_of) (filter_as (λ g. not (is_any_of task filters g)) (λ g. not (has_route (map (route task) filters) (route_of g))) gs
    (all_of (λ (g : Granted). not (is_any_of task filters g) ≡ not (has_route (map (route task) filters) (route_of g))) gs (λ g. ap not (sym (dropped_has task filters (route_of g))))))
    ∙ sym (filter_map (λ r. not (has_route (map (route task) filters) r)) route_of gs)

take_unsubscribe : (s : Setup) (l : Sizes) (past : List Entry) (at task seq : ℕ) (filters : List (List ℕ)) (effects : List Effect) (released : List ℕ) (k : Routing) → IsLegalPast s l past
    → effects_of (row s l past at (c.Take task seq (requests.Unsubscribe filters))) ≡ Some effects
    → Differ (pending_of past ++ opens (c.Take task seq (requests.Unsubscribe filters)) effects) → Routed s past k
    → Routed s (entry at (c.Take task seq (requests.Unsubscribe filters)) effects ∷ past)
    (all_ended (books (pending_of past ++ opens (c.Take task seq (requests.Unsubscribe filters)) effects) released (taken_by task seq (requests.Unsubscribe filters) effects k)) effects).routing
take_unsubscribe s l past at task seq filters effects released k legal e differ routed = go (list_any is_done (outcomes_in task seq effects)) refl
  where
    go : (b : Bool) → list_any is_done (outcomes_in task seq effects) ≡ b → Routed s (entry at (c.Take task seq (requests.Unsubscribe filters)) effects ∷ past)
        (all_ended (books (pending_of past ++ opens (c.Take task seq (requests.Unsubscribe filters)) effects) released (taken_by task seq (requests.Unsubscribe filters) effects k)) effects).routing
    go false is =
        subst (λ (x : Bool). Routed s (entry at (c.Take task seq (requests.Unsubscribe filters)) effects ∷ past) (all_ended (books (pending_of past ++ opens (c.Take task seq (requests.Unsubscribe filters)) effects) released (if x then filters_dropped task filters k else k)) effects).routing) (sym is)
        (take_other s l past at task seq (requests.Unsubscribe filters) effects released k legal e differ refl refl (rw is refl) routed)
    go true is =
        let request = requests.Unsubscribe filters in
        let now = entry at (c.Take task seq request) effects ∷ past in
        let drops : dropped_to effects task seq request ≡ map (route task) filters = rw is refl in
        subst (λ (x : Bool). Routed s (entry at (c.Take task seq (requests.Unsubscribe filters)) effects ∷ past) (all_ended (books (pending_of past ++ opens (c.Take task seq (requests.Unsubscribe filters)) effects) released (if x then filters_dropped task filters k else k)) effects).routing) (sym is)
        (take_by s l past at task seq request effects released (filters_dropped task filters k) legal e differ
        (drops_both task filters k.granted ∙ ap (without (map (route task) filters)) (routed.granted ∙ here_as past at task seq request effects (granted_of past) refl)
        ∙ filter_swapped (λ r. not (has_route (map (route task) filters) r)) (is_here now) (granted_of past) ∙ ap (λ d. filter (is_here now) (without d (granted_of past))) (sym drops))
        (all_filter (λ (g : Granted). g.sure ≡ is_sure s past g.topics) (λ g. not (is_any_of task filters g)) k.granted routed.sure)
        (subst (λ (cs : List Pending). Matched (IsAsked now) k.asked cs) (sym (opens_none (pending_of past) task seq request (sent_filters effects) (sent_id effects) refl))
        (still_all now past k.asked (subscribes_in (pending_of past)) (λ t. stays_here past at task seq request effects t refl) routed.asked))
        routed.renewals)

-- ---- Leave

gone_or : (t task : ℕ) (b : Bool) → not ((t == task && true) || b) ≡ (not b && not (t == task))
gone_or t task b = go (t == task) b
  where
    go : (x y : Bool) → not ((x && true) || y) ≡ (not y && not x)
    go true true = refl
    go true false = refl
    go false true = refl
    go false false = refl

matched_over : (P Q : Asked → Pending → Type 0) (h : Asked → Asked) (asks : List Asked) (commands : List Pending) → ((a : Asked) (command : Pending) → P a command → Q (h a) command) → Matched P asks commands → Matched Q (map h asks) commands
matched_over P Q h [] [] to m = tt
matched_over P Q h [] (y ∷ ys) to m = absurd m
matched_over P Q h (x ∷ xs) [] to m = absurd m
matched_over P Q h (x ∷ xs) (y ∷ ys) to m = (to x y m.0, matched_over P Q h xs ys to m.1)

leave_asked : (past : List Entry) (at task seq : ℕ) (effects : List Effect) (a : Asked) (command : Pending) → IsAsked past a command → IsAsked (entry at (c.Take task seq requests.Leave) effects ∷ past) (leaves task a) command
leave_asked past at task seq effects a command is = go (a.task == task) refl
  where
    left_now : (b : Bool) → (a.task == task) ≡ b → cond b true a.left ≡ ((command.task == task && true) || has_left command.task past)
    left_now true e = rw (sym (ap (λ t. t == task) is.task) ∙ e) refl
    left_now false e = rw (sym (ap (λ t. t == task) is.task) ∙ e) is.left

    go : (b : Bool) → (a.task == task) ≡ b → IsAsked (entry at (c.Take task seq requests.Leave) effects ∷ past) (leaves task a) command
    go true e = subst (λ (x : Bool). IsAsked (entry at (c.Take task seq requests.Leave) effects ∷ past) (if x then record a { left = true } else a) command) (sym e) (record { task = is.task; id = is.id; left = left_now true e; filters = is.filters })
    go false e = subst (λ (x : Bool). IsAsked (entry at (c.Take task seq requests.Leave) effects ∷ past) (if x then record a { left = true } else a) command) (sym e) (record { task = is.task; id = is.id; left = left_now false e; filters = is.filters })

take_leave : (s : Setup) (l : Sizes) (past : List Entry) (at task seq : ℕ) (effects : List Effect) (released : List ℕ) (k : Routing) → IsLegalPast s l past
    → effects_of (row s l past at (c.Take task seq requests.Leave)) ≡ Some effects → Differ (pending_of past ++ opens (c.Take task seq requests.Leave) effects) → Routed s past k
    → Routed s (entry at (c.Take task seq requests.Leave) effects ∷ past) (all_ended (books (pending_of past ++ opens (c.Take task seq requests.Leave) effects) released (task_dropped task k)) effects).routing
take_leave s l past at task seq effects released k legal e differ routed =
    let now = entry at (c.Take task seq requests.Leave) effects ∷ past in
    take_by s l past at task seq requests.Leave effects released (task_dropped task k) legal e differ
    (sym (filter_map (λ (r : Route). not (r.task == task)) route_of k.granted) ∙ ap (filter (λ (r : Route). not (r.task == task))) routed.granted
    ∙ filter_twice (λ (r : Route). not (r.task == task)) (is_here past) (granted_of past)
    ∙ filter_as (λ (r : Route). is_here past r && not (r.task == task)) (is_here now) (granted_of past) (all_of (λ (r : Route). (is_here past r && not (r.task == task)) ≡ is_here now r) (granted_of past) (λ r. sym (gone_or r.task task (has_left r.task past))))
    ∙ ap (filter (is_here now)) (sym (ap (λ d. without d (granted_of past)) (no_unsubscribe effects task seq requests.Leave refl) ∙ none_without (granted_of past))))
    (all_filter (λ (g : Granted). g.sure ≡ is_sure s past g.topics) (λ g. not (g.task == task)) k.granted routed.sure)
    (subst (λ (cs : List Pending). Matched (IsAsked now) (map (leaves task) k.asked) cs) (sym (opens_none (pending_of past) task seq requests.Leave (sent_filters effects) (sent_id effects) refl))
    (matched_over (IsAsked past) (IsAsked now) (leaves task) k.asked (subscribes_in (pending_of past)) (λ a command is. leave_asked past at task seq effects a command is) routed.asked))
    routed.renewals

-- ---- All

pub take_step : (s : Setup) (l : Sizes) (past : List Entry) (at task seq : ℕ) (request : Request) (effects : List Effect) (released : List ℕ) (k : Routing) → IsLegalPast s l past
    → effects_of (row s l past at (c.Take task seq request)) ≡ Some effects → Differ (pending_of past ++ opens (c.Take task seq request) effects) → Routed s past k
    → Routed s (entry at (c.Take task seq request) effects ∷ past)
    (all_ended (books (pending_of past ++ opens (c.Take task seq request) effects) released (taken_by task seq request effects (asked_by task request (opens (c.Take task seq request) effects) k))) effects).routing
take_step s l past at task seq (requests.Publish qos topic payload) effects released k legal e differ routed =
    take_other s l past at task seq (requests.Publish qos topic payload) effects released k legal e differ refl refl (no_unsubscribe effects task seq (requests.Publish qos topic payload) refl) routed
take_step s l past at task seq (requests.Subscribe asks) effects released k legal e differ routed =
    take_subscribe s l past at task seq asks effects released k legal e differ (is_next s l past at (c.Take task seq (requests.Subscribe asks)) effects e).1 routed
take_step s l past at task seq (requests.Unsubscribe filters) effects released k legal e differ routed = take_unsubscribe s l past at task seq filters effects released k legal e differ routed
take_step s l past at task seq requests.Ping effects released k legal e differ routed = take_other s l past at task seq requests.Ping effects released k legal e differ refl refl (no_unsubscribe effects task seq requests.Ping refl) routed
take_step s l past at task seq requests.Disconnect effects released k legal e differ routed = take_other s l past at task seq requests.Disconnect effects released k legal e differ refl refl (no_unsubscribe effects task seq requests.Disconnect refl) routed
take_step s l past at task seq requests.Terminate effects released k legal e differ routed = take_other s l past at task seq requests.Terminate effects released k legal e differ refl refl (no_unsubscribe effects task seq requests.Terminate refl) routed
take_step s l past at task seq requests.Leave effects released k legal e differ routed = take_leave s l past at task seq effects released k legal e differ routed

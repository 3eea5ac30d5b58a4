-- The qualities of service that are kept, behind each entry that is no SUBACK.
use Rattle.std.proofs.Common.{◌≡◌, ℕ, Bool, true, false, not, List, [], ◌∷◌, ◌++◌, map, Option, Some, None, refl, ap, sym, ◌∙◌, subst}
use Rattle.std.specs.Prelude.{◌||◌, ◌==◌, if◌then◌else◌}
use Rattle.std.specs.List.{AllByRecursion, list_any}
use Rattle.std.specs.Str.{bytes_eq}
use Rattle.std.proofs.lemmas.List.{append-nil}
use Rattle.std.proofs.lemmas.Bool.{eq-eqb}
use Rattle.std.proofs.lemmas.Slice.Eq.{bytes_eq-Decides}
use Rattle.mqtt_packet.specs.declared.qos.Qos.{Qos}
use Rattle.mqtt_packet.specs.declared.will.Ask.{Ask}
use Rattle.agent_journal.specs.declared.effect.Effect.{Effect}
use Rattle.agent_journal.specs.declared.request.Request.{Request}
use Rattle.agent_journal.specs.declared.request.Request.TheVariants as requests
use Rattle.agent_journal.specs.declared.entry.Cause.{Cause}
use Rattle.agent_journal.specs.declared.entry.Cause.TheVariants as c
use Rattle.agent_journal.specs.declared.entry.Entry.{Entry}
use Rattle.agent_journal.specs.declared.setup.Setup.{Setup}
use Rattle.agent_journal.specs.Readings.{Pending, pending_of, opens, opened_by, sent_id, sent_filters}
use Rattle.agent_table.specs.Arrivals.{is_subscribe}
use Rattle.agent_table.specs.Filters.{is_one_of}
use Rattle.agent_table.specs.Histories.{IsLegalPast, row, effects_of}
use Rattle.agent_table.specs.Routes.{Grant, grants_of, grants, last_asked, or_last, granted_to, qos_of, is_done, outcomes_in}
use Rattle.agent_table.specs.Sizes.{Sizes}
use Rattle.pending_acks.specs.Commands.{Differ}
use Rattle.subscriptions.specs.Routing.{Granted, Asked, Routing, unsure_now, leaves, is_any_of, filters_dropped}
use Rattle.agent_core.specs.After as after
use Rattle.agent_core.specs.After.{routing_lost, taken_by}
use Rattle.agent_core.specs.Completions.{books, all_ended}
use Rattle.agent_core.specs.Routed.{Matched, IsAskedFor, IsQualified, subscribes_in, grant, qos_if, filters_of}
use Rattle.agent_core.proofs.RoutedEnds.{AreApart, AreQuiet, QuietBy, ends_all}
use Rattle.agent_core.proofs.RoutedLists.{all_filter, all_map, all_over, filter_append, matched_behind}
use Rattle.agent_core.proofs.RoutedPast.{WasTaken, IsNext, are_taken, is_next, are_numbered, numbered_behind}
use Rattle.agent_core.proofs.RoutedQos.{qos_quiet, if_quiet}
use Rattle.agent_core.proofs.RoutedQuiet.{quiet_grants, grants_append, grants_by}
use Rattle.agent_core.proofs.RoutedRows.{IsPlain, plain_quiet, take_quiet}
use Rattle.agent_core.proofs.RoutedSteps.{entry, are_apart, lost_asked}
use Rattle.agent_core.proofs.RoutedTakes.{first_quiet, opens_none}

pub matched_with : {X Y : Type 0} (R : Y → Type 0) (P Q : X → Y → Type 0) (xs : List X) (ys : List Y) → ((x : X) (y : Y) → R y → P x y → Q x y) → AllByRecursion R ys → Matched P xs ys → Matched Q xs ys
matched_with R P Q [] [] to all m = tt
matched_with R P Q [] (y ∷ ys) to all m = absurd m
matched_with R P Q (x ∷ xs) [] to all m = absurd m
matched_with R P Q (x ∷ xs) (y ∷ ys) to all m = (to x y all.0 m.0, matched_with R P Q xs ys to all.1 m.1)

-- from what is kept before quiet completions
pub qualified_by : (past : List Entry) (at : ℕ) (cause : Cause) (effects : List Effect) (released : List ℕ) (k : Routing) → AreApart (pending_of past ++ opens cause effects) → AreQuiet (pending_of past ++ opens cause effects) effects
    → AllByRecursion (λ (g : Granted). g.qos ≡ qos_of (entry at cause effects ∷ past) g.topics) k.granted → Matched (IsAskedFor (entry at cause effects ∷ past)) k.asked (subscribes_in (pending_of past ++ opens cause effects))
    → IsQualified (entry at cause effects ∷ past) (all_ended (books (pending_of past ++ opens cause effects) released k) effects).routing
qualified_by past at cause effects released k apart quiet granted asked =
    let now = entry at cause effects ∷ past in
    let ends = ends_all (IsAskedFor now) (books (pending_of past ++ opens cause effects) released k) effects (λ a command is. is.id) apart quiet asked in
    record {
      granted = subst (λ (gs : List Granted). AllByRecursion (λ (g : Granted). g.qos ≡ qos_of now g.topics) gs) (sym ends.granted) granted;
      asked = subst (λ (cs : List Pending). Matched (IsAskedFor now) (all_ended (books (pending_of past ++ opens cause effects) released k) effects).routing.asked (subscribes_in cs)) ends.pending ends.asked;
    }

-- the qualities of service stay where nothing is granted
pub still_qualified : (s : Setup) (l : Sizes) (past : List Entry) (at : ℕ) (cause : Cause) (effects : List Effect) (gs : List Granted) → IsLegalPast s l past → IsNext past cause → AllByRecursion (λ (command : Pending). granted_to effects command ≡ []) (pending_of past)
    → AllByRecursion (λ (g : Granted). g.qos ≡ qos_of past g.topics) gs → AllByRecursion (λ (g : Granted). g.qos ≡ qos_of (entry at cause effects ∷ past) g.topics) gs
still_qualified s l past at cause effects gs legal next none all =
    all_map (λ (g : Granted). g.qos ≡ qos_of past g.topics) (λ (g : Granted). g.qos ≡ qos_of (entry at cause effects ∷ past) g.topics) gs (λ g is. is ∙ sym (qos_quiet s l past at cause effects g.topics legal next none)) all

pub still_for : (s : Setup) (l : Sizes) (past : List Entry) (at : ℕ) (cause : Cause) (effects : List Effect) (asked : List Asked) → IsLegalPast s l past → IsNext past cause → AllByRecursion (λ (command : Pending). granted_to effects command ≡ []) (pending_of past)
    → Matched (IsAskedFor past) asked (subscribes_in (pending_of past)) → Matched (IsAskedFor (entry at cause effects ∷ past)) asked (subscribes_in (pending_of past))
still_for s l past at cause effects asked legal next none m =
    matched_with (λ (command : Pending). WasTaken past command.task command.seq) (IsAskedFor past) (IsAskedFor (entry at cause effects ∷ past)) asked (subscribes_in (pending_of past))
    (λ a command taken is. record { id = is.id; asks = λ topics one. is.asks topics one ∙ ap Some (sym (if_quiet s l past at cause effects command topics legal next none taken)) })
    (all_filter (λ (command : Pending). WasTaken past command.task command.seq) (λ (command : Pending). is_subscribe command.request) (pending_of past) (are_taken s l past legal)) m

lost_qos : (past : List Entry) (lost : Bool) (k : Routing) → AllByRecursion (λ (g : Granted). g.qos ≡ qos_of past g.topics) k.granted → AllByRecursion (λ (g : Granted). g.qos ≡ qos_of past g.topics) (routing_lost lost k).granted
lost_qos past true k all = all_over (λ (g : Granted). g.qos ≡ qos_of past g.topics) (λ (g : Granted). g.qos ≡ qos_of past g.topics) unsure_now k.granted (λ g is. is) all
lost_qos past false k all = all

none_open : (cause : Cause) (effects : List Effect) → IsPlain cause → opens cause effects ≡ []
none_open c.Opened effects plain = refl
none_open (c.Take task seq request) effects plain = absurd plain
none_open (c.Arrived packet) effects plain = refl
none_open (c.Broke why) effects plain = refl
none_open c.Tick effects plain = refl
none_open c.GaveUp effects plain = refl
none_open c.Finish effects plain = refl

pub qualified_plain : (s : Setup) (l : Sizes) (past : List Entry) (at : ℕ) (cause : Cause) (effects : List Effect) (released : List ℕ) (k before : Routing) (lost : Bool)
    → IsLegalPast s l past → effects_of (row s l past at cause) ≡ Some effects → IsPlain cause → Differ (pending_of past ++ opens cause effects)
    → IsQualified past before → k.granted ≡ before.granted → k.asked ≡ before.asked
    → IsQualified (entry at cause effects ∷ past) (all_ended (books (pending_of past ++ opens cause effects) released (routing_lost lost k)) effects).routing
qualified_plain s l past at cause effects released k before lost legal e plain differ qualified same_granted same_asked =
    let now = entry at cause effects ∷ past in
    let quiet = plain_quiet s l past at cause effects legal e plain in
    let none = quiet_grants (pending_of past) effects quiet in
    let next = is_next s l past at cause effects e in
    let all_open : pending_of past ++ opens cause effects ≡ pending_of past = ap (λ cs. pending_of past ++ cs) (none_open cause effects plain) ∙ append-nil (pending_of past) in
    qualified_by past at cause effects released (routing_lost lost k)
    (are_apart (pending_of past ++ opens cause effects) differ (numbered_behind past (pending_of past) cause effects next (are_taken s l past legal) (are_numbered s l past legal)))
    (subst (λ (cs : List Pending). AreQuiet cs effects) (sym all_open) quiet)
    (lost_qos now lost k (subst (λ (gs : List Granted). AllByRecursion (λ (g : Granted). g.qos ≡ qos_of now g.topics) gs) (sym same_granted) (still_qualified s l past at cause effects before.granted legal next none qualified.granted)))
    (subst (λ (xs : List Asked). Matched (IsAskedFor now) xs (subscribes_in (pending_of past ++ opens cause effects))) (sym (lost_asked lost k ∙ same_asked))
    (subst (λ (cs : List Pending). Matched (IsAskedFor now) before.asked (subscribes_in cs)) (sym all_open) (still_for s l past at cause effects before.asked legal next none qualified.asked)))

-- ---- Takes

pub last_some : (asks : List Ask) (topics : List ℕ) → is_one_of (filters_of asks) topics ≡ true → (qos : Qos) × (last_asked asks topics ≡ Some qos)
last_some [] topics e = absurd (cc e)
last_some (ask ∷ asks) topics e = go (bytes_eq ask.filter topics) refl (last_some asks topics)
  where
    found : (later : Option Qos) → (qos : Qos) × (or_last later ask.qos ≡ Some qos)
    found None = (ask.qos, refl)
    found (Some qos) = (qos, refl)

    go : (b : Bool) → bytes_eq ask.filter topics ≡ b → (is_one_of (filters_of asks) topics ≡ true → (qos : Qos) × (last_asked asks topics ≡ Some qos)) → (qos : Qos) × (last_asked (ask ∷ asks) topics ≡ Some qos)
    go true is rest = rw is (found (last_asked asks topics))
    go false is rest = rw is (rest (rw is at e))

-- a command that is granted a filter is granted it
pub granted_itself : (all : List Grant) (command : Pending) (topics : List ℕ) → grants (all ++ grant command topics ∷ []) command.task command.seq topics ≡ true
granted_itself all command topics = grants_append all (grant command topics ∷ []) command.task command.seq topics
    ∙ ap (λ b. grants all command.task command.seq topics || b) own ∙ or_true (grants all command.task command.seq topics)
  where
    own : grants (grant command topics ∷ []) command.task command.seq topics ≡ true
    own = rw (eq-eqb command.task command.task refl, eq-eqb command.seq command.seq refl, (bytes_eq-Decides topics topics).1 refl) refl

    or_true : (b : Bool) → (b || true) ≡ true
    or_true true = refl
    or_true false = refl

new_asked : (past : List Entry) (at task seq id : ℕ) (asks : List Ask) (effects : List Effect)
    → IsAskedFor (entry at (c.Take task seq (requests.Subscribe asks)) effects ∷ past) (record { task = task; id = id; asks = asks; left = false }) (record { id = id; task = task; seq = seq; request = requests.Subscribe asks; sent_filters = sent_filters effects })
new_asked past at task seq id asks effects = record { id = refl; asks = λ topics one. its topics (last_some asks topics one) }
  where
    its : (topics : List ℕ) → ((qos : Qos) × (last_asked asks topics ≡ Some qos))
        → last_asked asks topics ≡ Some (qos_if (entry at (c.Take task seq (requests.Subscribe asks)) effects ∷ past) (record { id = id; task = task; seq = seq; request = requests.Subscribe asks; sent_filters = sent_filters effects }) topics)
    its topics (qos, last) = last ∙ ap Some (sym (rw (granted_itself (grants_of past ++ grants_by effects (pending_of past)) (record { id = id; task = task; seq = seq; request = requests.Subscribe asks; sent_filters = sent_filters effects }) topics, last) refl))

left_for : (now : List Entry) (task : ℕ) (asked : List Asked) (commands : List Pending) → Matched (IsAskedFor now) asked commands → Matched (IsAskedFor now) (map (leaves task) asked) commands
left_for now task [] [] m = tt
left_for now task [] (command ∷ commands) m = absurd m
left_for now task (a ∷ asked) [] m = absurd m
left_for now task (a ∷ asked) (command ∷ commands) m = (go (a.task == task), left_for now task asked commands m.1)
  where
    go : (b : Bool) → IsAskedFor now (if b then record a { left = true } else a) command
    go true = record { id = m.0.id; asks = m.0.asks }
    go false = m.0

pub qualified_take : (s : Setup) (l : Sizes) (past : List Entry) (at task seq : ℕ) (request : Request) (effects : List Effect) (released : List ℕ) (k : Routing) → IsLegalPast s l past
    → effects_of (row s l past at (c.Take task seq request)) ≡ Some effects → Differ (pending_of past ++ opens (c.Take task seq request) effects) → IsQualified past k
    → IsQualified (entry at (c.Take task seq request) effects ∷ past)
    (all_ended (books (pending_of past ++ opens (c.Take task seq request) effects) released (taken_by task seq request effects (after.asked_by task request (opens (c.Take task seq request) effects) k))) effects).routing
qualified_take s l past at task seq request effects released k legal e differ qualified =
    let cause = c.Take task seq request in
    let quiet = take_quiet s l past at task seq request effects legal e in
    let own : AreQuiet (pending_of past) effects = all_map (QuietBy (pending_of past ++ opens cause effects)) (QuietBy (pending_of past)) effects (λ effect q. first_quiet (pending_of past) (opens cause effects) effect q) quiet in
    let none = quiet_grants (pending_of past) effects own in
    let next = is_next s l past at cause effects e in
    qualified_by past at cause effects released (taken_by task seq request effects (after.asked_by task request (opens cause effects) k))
    (are_apart (pending_of past ++ opens cause effects) differ (numbered_behind past (pending_of past) cause effects next (are_taken s l past legal) (are_numbered s l past legal)))
    quiet
    (granted request (entry at cause effects ∷ past) (sent_id effects) (still_qualified s l past at cause effects k.granted legal next none qualified.granted))
    (asked request (sent_id effects) (still_for s l past at cause effects k.asked legal next none qualified.asked))
  where
    dropped : (b : Bool) (now : List Entry) (filters : List (List ℕ)) → AllByRecursion (λ (g : Granted). g.qos ≡ qos_of now g.topics) k.granted → AllByRecursion (λ (g : Granted). g.qos ≡ qos_of now g.topics) (if b then filters_dropped task filters k else k).granted
    dropped true now filters all = all_filter (λ (g : Granted). g.qos ≡ qos_of now g.topics) (λ g. not (is_any_of task filters g)) k.granted all
    dropped false now filters all = all

    granted : (x : Request) (now : List Entry) (id : Option ℕ) → AllByRecursion (λ (g : Granted). g.qos ≡ qos_of now g.topics) k.granted
        → AllByRecursion (λ (g : Granted). g.qos ≡ qos_of now g.topics) (taken_by task seq x effects (after.asked_by task x (opened_by task seq x (sent_filters effects) id) k)).granted
    granted (requests.Publish qos topic payload) now id all = all
    granted (requests.Subscribe asks) now None all = all
    granted (requests.Subscribe asks) now (Some id) all = all
    granted (requests.Unsubscribe filters) now id all = dropped (list_any is_done (outcomes_in task seq effects)) now filters all
    granted requests.Ping now id all = all
    granted requests.Disconnect now id all = all
    granted requests.Terminate now id all = all
    granted requests.Leave now id all = all_filter (λ (g : Granted). g.qos ≡ qos_of now g.topics) (λ g. not (g.task == task)) k.granted all

    same : (b : Bool) (filters : List (List ℕ)) → (if b then filters_dropped task filters k else k).asked ≡ k.asked
    same true filters = refl
    same false filters = refl

    other : (x : Request) (now : List Entry) (id : Option ℕ) (xs : List Asked) → is_subscribe x ≡ false → Matched (IsAskedFor now) xs (subscribes_in (pending_of past)) → Matched (IsAskedFor now) xs (subscribes_in (pending_of past ++ opened_by task seq x (sent_filters effects) id))
    other x now id xs nay m = subst (λ (cs : List Pending). Matched (IsAskedFor now) xs cs) (sym (opens_none (pending_of past) task seq x (sent_filters effects) id nay)) m

    asked : (x : Request) (id : Option ℕ) → Matched (IsAskedFor (entry at (c.Take task seq x) effects ∷ past)) k.asked (subscribes_in (pending_of past))
        → Matched (IsAskedFor (entry at (c.Take task seq x) effects ∷ past)) (taken_by task seq x effects (after.asked_by task x (opened_by task seq x (sent_filters effects) id) k)).asked (subscribes_in (pending_of past ++ opened_by task seq x (sent_filters effects) id))
    asked (requests.Publish qos topic payload) id m = other (requests.Publish qos topic payload) (entry at (c.Take task seq (requests.Publish qos topic payload)) effects ∷ past) id k.asked refl m
    asked (requests.Subscribe asks) None m = subst (λ (cs : List Pending). Matched (IsAskedFor (entry at (c.Take task seq (requests.Subscribe asks)) effects ∷ past)) k.asked (subscribes_in cs)) (sym (append-nil (pending_of past))) m
    asked (requests.Subscribe asks) (Some id) m =
        subst (λ (cs : List Pending). Matched (IsAskedFor (entry at (c.Take task seq (requests.Subscribe asks)) effects ∷ past)) (k.asked ++ record { task = task; id = id; asks = asks; left = false } ∷ []) cs)
        (sym (filter_append (λ (command : Pending). is_subscribe command.request) (pending_of past) (record { id = id; task = task; seq = seq; request = requests.Subscribe asks; sent_filters = sent_filters effects } ∷ [])))
        (matched_behind (IsAskedFor (entry at (c.Take task seq (requests.Subscribe asks)) effects ∷ past)) k.asked (subscribes_in (pending_of past)) (record { task = task; id = id; asks = asks; left = false }) (record { id = id; task = task; seq = seq; request = requests.Subscribe asks; sent_filters = sent_filters effects }) m
        (new_asked past at task seq id asks effects))
    asked (requests.Unsubscribe filters) id m =
        subst (λ (xs : List Asked). Matched (IsAskedFor (entry at (c.Take task seq (requests.Unsubscribe filters)) effects ∷ past)) xs (subscribes_in (pending_of past ++ opened_by task seq (requests.Unsubscribe filters) (sent_filters effects) id))) (sym (same (list_any is_done (outcomes_in task seq effects)) filters))
        (other (requests.Unsubscribe filters) (entry at (c.Take task seq (requests.Unsubscribe filters)) effects ∷ past) id k.asked refl m)
    asked requests.Ping id m = other requests.Ping (entry at (c.Take task seq requests.Ping) effects ∷ past) id k.asked refl m
    asked requests.Disconnect id m = other requests.Disconnect (entry at (c.Take task seq requests.Disconnect) effects ∷ past) id k.asked refl m
    asked requests.Terminate id m = other requests.Terminate (entry at (c.Take task seq requests.Terminate) effects ∷ past) id k.asked refl m
    asked requests.Leave id m = left_for (entry at (c.Take task seq requests.Leave) effects ∷ past) task k.asked (subscribes_in (pending_of past ++ opened_by task seq requests.Leave (sent_filters effects) id)) (other requests.Leave (entry at (c.Take task seq requests.Leave) effects ∷ past) id k.asked refl m)

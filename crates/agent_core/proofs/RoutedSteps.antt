-- Behind an entry whose effects grant nothing and drop nothing.
use Rattle.std.proofs.Common.{◌≡◌, ℕ, Bool, true, false, not, List, [], ◌∷◌, ◌++◌, map, Some, refl, ap, sym, ◌∙◌, subst, arith}
use Rattle.std.specs.Prelude.{filter}
use Rattle.std.specs.List.{AllByRecursion, flat_map}
use Rattle.std.proofs.lemmas.List.{append-nil}
use Rattle.std.proofs.lemmas.Bool.{eq-eqb}
use Rattle.mqtt_packet.specs.declared.packet.Packet.{Packet}
use Rattle.mqtt_packet.specs.declared.packet.Packet.TheVariants as p
use Rattle.agent_journal.specs.declared.effect.Effect.{Effect}
use Rattle.agent_journal.specs.declared.entry.Cause.{Cause}
use Rattle.agent_journal.specs.declared.entry.Cause.TheVariants as c
use Rattle.agent_journal.specs.declared.entry.Entry.{Entry}
use Rattle.agent_journal.specs.declared.setup.Setup.{Setup}
use Rattle.agent_journal.specs.Readings.{Pending, pending_of, opens, has_left, accepted_of}
use Rattle.agent_table.specs.Histories.{IsLegalPast, row, effects_of}
use Rattle.agent_table.specs.Routes.{Route, Renewal, without, without_filters, with_routes, refused_in, renewed, dropped_by, dropped_to, routes_to, granted_to, granted_of, granted_in, made_sure, renewals_of}
use Rattle.agent_table.specs.Sessions.{loses_session}
use Rattle.agent_table.specs.Sizes.{Sizes}
use Rattle.pending_acks.specs.Commands.{Differ, has_id, is_command}
use Rattle.subscriptions.specs.Routing.{Granted, Asked, Routing, route_of, unsure_now}
use Rattle.agent_core.specs.After.{routing_lost}
use Rattle.agent_core.specs.Completions.{books, all_ended}
use Rattle.agent_core.specs.Routed.{Matched, Routed, IsAsked, subscribes_in, is_here, is_sure}
use Rattle.agent_core.proofs.Acknowledged.{tail_differs, second_skipped, other_id}
use Rattle.agent_core.proofs.RoutedEnds.{AreApart, IsApart, AreQuiet, ends_all}
use Rattle.agent_core.proofs.RoutedLists.{all_map, all_of, filter_as, flat_none, matched_map}
use Rattle.agent_core.proofs.RoutedPast.{AreNumbered, are_numbered, are_taken, is_next, numbered_behind}
use Rattle.agent_core.proofs.RoutedQuiet.{quiet_grants, quiet_drops, no_routes, none_without, none_without_filters}
use Rattle.agent_core.proofs.RoutedRows.{IsPlain, IsPlainPacket, plain_quiet}

abbrev pub entry : ℕ → Cause → List Effect → Entry
entry at cause effects = record { at = at; cause = cause; effects = effects }

-- ---- Commands that differ

differ_first : (command : Pending) (commands : List Pending) → Differ (command ∷ commands) → AllByRecursion (λ (other : Pending). has_id command.id other ≡ false) commands
differ_first command [] differ = tt
differ_first command (other ∷ commands) differ =
    (other_id command other command.id (eq-eqb command.id command.id refl) (differ 0 1 command (omega arith) (omega arith)), differ_first command commands (second_skipped command other commands differ))

pub are_apart : (commands : List Pending) → Differ commands → AreNumbered commands → AreApart commands
are_apart [] differ numbered = tt
are_apart (command ∷ commands) differ numbered = (both commands (differ_first command commands differ) numbered.0, are_apart commands (tail_differs command commands differ) numbered.1)
  where
    both : (cs : List Pending) → AllByRecursion (λ (other : Pending). has_id command.id other ≡ false) cs → AllByRecursion (λ (other : Pending). is_command command.task command.seq other ≡ false) cs → AllByRecursion (IsApart command) cs
    both [] one two = tt
    both (x ∷ cs) one two = ((one.0, two.0), both cs one.1 two.1)

-- ---- What the journal says

pub granted_is : (past : List Entry) (at : ℕ) (cause : Cause) (effects : List Effect) → renewed cause (renewals_of past) ≡ [] → flat_map (routes_to effects) (pending_of past) ≡ []
    → granted_of (entry at cause effects ∷ past) ≡ without (dropped_by cause effects (pending_of past)) (granted_of past)
granted_is past at cause effects renewed_none routes_none =
    ap (with_routes (without_filters (refused_in (renewed cause (renewals_of past))) (without (dropped_by cause effects (pending_of past)) (granted_of past)))) routes_none
    ∙ ap (λ rs. without_filters (refused_in rs) (without (dropped_by cause effects (pending_of past)) (granted_of past))) renewed_none
    ∙ none_without_filters (without (dropped_by cause effects (pending_of past)) (granted_of past))

pub made_none : (past : List Entry) (at : ℕ) (cause : Cause) (effects : List Effect) → renewed cause (renewals_of past) ≡ [] → AllByRecursion (λ (command : Pending). granted_to effects command ≡ []) (pending_of past)
    → made_sure (entry at cause effects) past ≡ []
made_none past at cause effects renewed_none none =
    ap (λ rs. flat_map (granted_to effects) (pending_of past) ++ granted_in rs) renewed_none ∙ append-nil (flat_map (granted_to effects) (pending_of past)) ∙ flat_none (granted_to effects) (pending_of past) none

pub sure_same : (s : Setup) (past : List Entry) (e : Entry) (topics : List ℕ) → loses_session s (accepted_of past) e.cause ≡ false → made_sure e past ≡ [] → is_sure s (e ∷ past) topics ≡ is_sure s past topics
sure_same s past e topics loses none = rw (loses, none, append-nil) refl

pub sure_lost : (s : Setup) (past : List Entry) (e : Entry) (topics : List ℕ) → loses_session s (accepted_of past) e.cause ≡ true → is_sure s (e ∷ past) topics ≡ false
sure_lost s past e topics loses = rw loses refl

-- ---- The whole, from what is kept before the completions

pub routed_by : (s : Setup) (past : List Entry) (at : ℕ) (cause : Cause) (effects : List Effect) (released : List ℕ) (k : Routing)
    → AreApart (pending_of past ++ opens cause effects) → AreQuiet (pending_of past ++ opens cause effects) effects
    → map route_of k.granted ≡ filter (is_here (entry at cause effects ∷ past)) (granted_of (entry at cause effects ∷ past))
    → AllByRecursion (λ (g : Granted). g.sure ≡ is_sure s (entry at cause effects ∷ past) g.topics) k.granted
    → Matched (IsAsked (entry at cause effects ∷ past)) k.asked (subscribes_in (pending_of past ++ opens cause effects))
    → k.renewals ≡ renewals_of (entry at cause effects ∷ past)
    → Routed s (entry at cause effects ∷ past) (all_ended (books (pending_of past ++ opens cause effects) released k) effects).routing
routed_by s past at cause effects released k apart quiet granted sure asked renewals =
    let now = entry at cause effects ∷ past in
    let ends = ends_all (IsAsked now) (books (pending_of past ++ opens cause effects) released k) effects (λ a command is. is.id) apart quiet asked in
    record {
      granted = ap (map route_of) ends.granted ∙ granted;
      sure = subst (λ (gs : List Granted). AllByRecursion (λ (g : Granted). g.sure ≡ is_sure s now g.topics) gs) (sym ends.granted) sure;
      asked = subst (λ (cs : List Pending). Matched (IsAsked now) (all_ended (books (pending_of past ++ opens cause effects) released k) effects).routing.asked (subscribes_in cs)) ends.pending ends.asked;
      renewals = ends.renewals ∙ renewals;
    }

-- ---- A session that is lost, or not

pub lost_routes : (lost : Bool) (k : Routing) → map route_of (routing_lost lost k).granted ≡ map route_of k.granted
lost_routes true k = go k.granted
  where
    go : (gs : List Granted) → map route_of (map unsure_now gs) ≡ map route_of gs
    go [] = refl
    go (g ∷ gs) = ap (λ rs. route_of g ∷ rs) (go gs)
lost_routes false k = refl

pub lost_asked : (lost : Bool) (k : Routing) → (routing_lost lost k).asked ≡ k.asked
lost_asked true k = refl
lost_asked false k = refl

pub lost_renewals : (lost : Bool) (k : Routing) → (routing_lost lost k).renewals ≡ k.renewals
lost_renewals true k = refl
lost_renewals false k = refl

pub lost_sure : (s : Setup) (past : List Entry) (e : Entry) (lost : Bool) (k : Routing) → loses_session s (accepted_of past) e.cause ≡ lost → made_sure e past ≡ []
    → AllByRecursion (λ (g : Granted). g.sure ≡ is_sure s past g.topics) k.granted → AllByRecursion (λ (g : Granted). g.sure ≡ is_sure s (e ∷ past) g.topics) (routing_lost lost k).granted
lost_sure s past e true k loses none all = go k.granted
  where
    go : (gs : List Granted) → AllByRecursion (λ (g : Granted). g.sure ≡ is_sure s (e ∷ past) g.topics) (map unsure_now gs)
    go [] = tt
    go (g ∷ gs) = (sym (sure_lost s past e g.topics loses), go gs)
lost_sure s past e false k loses none all =
    all_map (λ (g : Granted). g.sure ≡ is_sure s past g.topics) (λ (g : Granted). g.sure ≡ is_sure s (e ∷ past) g.topics) k.granted (λ g is. is ∙ sym (sure_same s past e g.topics loses none)) all

-- ---- Plain causes

plain_renewed : (cause : Cause) (renewals : List Renewal) → IsPlain cause → renewed cause renewals ≡ []
plain_renewed c.Opened renewals plain = refl
plain_renewed (c.Take task seq request) renewals plain = absurd plain
plain_renewed (c.Arrived packet) renewals plain = go packet plain
  where
    go : (packet : Packet) → IsPlainPacket packet → renewed (c.Arrived packet) renewals ≡ []
    go (p.Connect clean keep_alive client will user password) plain = refl
    go (p.ConnAck present code) plain = refl
    go (p.Publish dup qos retain topic id payload) plain = refl
    go (p.PubAck id) plain = refl
    go (p.PubRec id) plain = refl
    go (p.PubRel id) plain = refl
    go (p.PubComp id) plain = refl
    go (p.Subscribe id asks) plain = refl
    go (p.SubAck id codes) plain = absurd plain
    go (p.Unsubscribe id filters) plain = refl
    go (p.UnsubAck id) plain = absurd plain
    go p.PingReq plain = refl
    go p.PingResp plain = refl
    go p.Disconnect plain = refl
plain_renewed (c.Broke why) renewals plain = refl
plain_renewed c.Tick renewals plain = refl
plain_renewed c.GaveUp renewals plain = refl
plain_renewed c.Finish renewals plain = refl

plain_drops : (cause : Cause) (effects : List Effect) (commands : List Pending) → IsPlain cause → AreQuiet commands effects → dropped_by cause effects commands ≡ []
plain_drops c.Opened effects commands plain quiet = refl
plain_drops (c.Take task seq request) effects commands plain quiet = absurd plain
plain_drops (c.Arrived packet) effects commands plain quiet = flat_none (λ (command : Pending). dropped_to effects command.task command.seq command.request) commands (quiet_drops commands effects quiet)
plain_drops (c.Broke why) effects commands plain quiet = refl
plain_drops c.Tick effects commands plain quiet = refl
plain_drops c.GaveUp effects commands plain quiet = refl
plain_drops c.Finish effects commands plain quiet = refl

plain_left : (past : List Entry) (at : ℕ) (cause : Cause) (effects : List Effect) (task : ℕ) → IsPlain cause → has_left task (entry at cause effects ∷ past) ≡ has_left task past
plain_left past at c.Opened effects task plain = refl
plain_left past at (c.Take t seq request) effects task plain = absurd plain
plain_left past at (c.Arrived packet) effects task plain = refl
plain_left past at (c.Broke why) effects task plain = refl
plain_left past at c.Tick effects task plain = refl
plain_left past at c.GaveUp effects task plain = refl
plain_left past at c.Finish effects task plain = refl

plain_opens : (cause : Cause) (effects : List Effect) → IsPlain cause → opens cause effects ≡ []
plain_opens c.Opened effects plain = refl
plain_opens (c.Take task seq request) effects plain = absurd plain
plain_opens (c.Arrived packet) effects plain = refl
plain_opens (c.Broke why) effects plain = refl
plain_opens c.Tick effects plain = refl
plain_opens c.GaveUp effects plain = refl
plain_opens c.Finish effects plain = refl

pub still_asked : (now past : List Entry) (a : Asked) (command : Pending) → has_left command.task now ≡ has_left command.task past → IsAsked past a command → IsAsked now a command
still_asked now past a command same is = record { task = is.task; id = is.id; left = is.left ∙ sym same; filters = is.filters }

here_same : (now past : List Entry) (routes : List Route) → ((task : ℕ) → has_left task now ≡ has_left task past) → filter (is_here past) routes ≡ filter (is_here now) routes
here_same now past routes same = filter_as (is_here past) (is_here now) routes (all_of (λ (r : Route). is_here past r ≡ is_here now r) routes (λ r. ap not (sym (same r.task))))

pub plain_step : (s : Setup) (l : Sizes) (past : List Entry) (at : ℕ) (cause : Cause) (effects : List Effect) (released : List ℕ) (k before : Routing) (lost : Bool)
    → IsLegalPast s l past → effects_of (row s l past at cause) ≡ Some effects → IsPlain cause → Differ (pending_of past ++ opens cause effects) → loses_session s (accepted_of past) cause ≡ lost
    → Routed s past before → k.granted ≡ before.granted → k.asked ≡ before.asked → k.renewals ≡ renewals_of (entry at cause effects ∷ past)
    → Routed s (entry at cause effects ∷ past) (all_ended (books (pending_of past ++ opens cause effects) released (routing_lost lost k)) effects).routing
plain_step s l past at cause effects released k before lost legal e plain differ loses routed same_granted same_asked renewals =
    let now = entry at cause effects ∷ past in
    let quiet = plain_quiet s l past at cause effects legal e plain in
    let none = plain_opens cause effects plain in
    let all_open : pending_of past ++ opens cause effects ≡ pending_of past = ap (λ cs. pending_of past ++ cs) none ∙ append-nil (pending_of past) in
    let grants_none = quiet_grants (pending_of past) effects quiet in
    let stay : granted_of now ≡ granted_of past =
    granted_is past at cause effects (plain_renewed cause (renewals_of past) plain) (no_routes (pending_of past) effects grants_none)
    ∙ ap (λ d. without d (granted_of past)) (plain_drops cause effects (pending_of past) plain quiet) ∙ none_without (granted_of past) in
    routed_by s past at cause effects released (routing_lost lost k)
    (are_apart (pending_of past ++ opens cause effects) differ (numbered_behind past (pending_of past) cause effects (is_next s l past at cause effects e) (are_taken s l past legal) (are_numbered s l past legal)))
    (subst (λ (cs : List Pending). AreQuiet cs effects) (sym all_open) quiet)
    (lost_routes lost k ∙ ap (map route_of) same_granted ∙ routed.granted ∙ here_same now past (granted_of past) (λ task. plain_left past at cause effects task plain) ∙ ap (filter (is_here now)) (sym stay))
    (lost_sure s past (entry at cause effects) lost k loses (made_none past at cause effects (plain_renewed cause (renewals_of past) plain) grants_none)
    (subst (λ (gs : List Granted). AllByRecursion (λ (g : Granted). g.sure ≡ is_sure s past g.topics) gs) (sym same_granted) routed.sure))
    (subst (λ (asks : List Asked). Matched (IsAsked now) asks (subscribes_in (pending_of past ++ opens cause effects))) (sym (lost_asked lost k ∙ same_asked))
    (subst (λ (cs : List Pending). Matched (IsAsked now) before.asked (subscribes_in cs)) (sym all_open)
    (matched_map (IsAsked past) (IsAsked now) before.asked (subscribes_in (pending_of past)) (λ a command is. still_asked now past a command (plain_left past at cause effects command.task plain) is) routed.asked)))
    (lost_renewals lost k ∙ renewals)

-- Nobody leaves with a packet.
pub arrived_asked : (past : List Entry) (time : ℕ) (packet : Packet) (effects : List Effect) (asks : List Asked) (commands : List Pending) → Matched (IsAsked past) asks commands → Matched (IsAsked (entry time (c.Arrived packet) effects ∷ past)) asks commands
arrived_asked past time packet effects asks commands m = matched_map (IsAsked past) (IsAsked (entry time (c.Arrived packet) effects ∷ past)) asks commands (λ a command is. still_asked (entry time (c.Arrived packet) effects ∷ past) past a command refl is) m

-- Completions that grant nothing and drop nothing: what the journal says of them.
use Rattle.std.proofs.Common.{◌≡◌, ℕ, Bool, true, false, not, List, [], ◌∷◌, ◌++◌, map, None, refl, ap, ◌∙◌}
use Rattle.std.specs.Prelude.{◌&&◌, ◌||◌, ◌==◌, if◌then◌else◌}
use Rattle.std.specs.List.{AllByRecursion, list_any, flat_map}
use Rattle.mqtt_packet.specs.declared.will.Ask.{Ask}
use Rattle.agent_journal.specs.declared.entry.Cause.{Cause}
use Rattle.agent_journal.specs.declared.entry.Cause.TheVariants as c
use Rattle.agent_journal.specs.declared.entry.Entry.{Entry}
use Rattle.agent_journal.specs.declared.request.Request.{Request}
use Rattle.agent_journal.specs.declared.request.Request.TheVariants as requests
use Rattle.agent_journal.specs.declared.outcome.Outcome.{Outcome}
use Rattle.agent_journal.specs.declared.outcome.Outcome.TheVariants as o
use Rattle.agent_journal.specs.declared.effect.Effect.{Effect}
use Rattle.agent_journal.specs.declared.effect.Effect.TheVariants as f
use Rattle.agent_journal.specs.Readings.{Pending}
use Rattle.agent_table.specs.Arrivals.{is_unsubscribe}
use Rattle.agent_table.specs.Filters.{is_one_of}
use Rattle.agent_table.specs.Routes.{Route, Grant, route, has_route, without, without_filters, is_done, codes_by, coded, granted_in, asks_in, filters_in, granted_to, routes_to, dropped_to, outcomes_in, grants, asked_in, asked_by, or_earlier, last_asked}
use Rattle.pending_acks.specs.Commands.{is_command}
use Rattle.agent_core.proofs.RoutedEnds.{is_granted, IsQuiet, QuietBy, AreQuiet, as_completes}
use Rattle.agent_core.proofs.RoutedLists.{all_map, filter_all, flat_none}

abbrev QuietFor : Pending → Effect → Type 0
QuietFor command (f.Send packet) = Unit {0}
QuietFor command (f.Done t q outcome) = is_command t q command ≡ true → IsQuiet command.request outcome
QuietFor command (f.Pass task message) = Unit {0}
QuietFor command (f.Closed task) = Unit {0}

first_quiet : (command : Pending) (commands : List Pending) (effect : Effect) → QuietBy (command ∷ commands) effect → QuietFor command effect
first_quiet command commands (f.Send packet) quiet = tt
first_quiet command commands (f.Done t q outcome) quiet = quiet.0
first_quiet command commands (f.Pass task message) quiet = tt
first_quiet command commands (f.Closed task) quiet = tt

rest_quiet : (command : Pending) (commands : List Pending) (effect : Effect) → QuietBy (command ∷ commands) effect → QuietBy commands effect
rest_quiet command commands (f.Send packet) quiet = tt
rest_quiet command commands (f.Done t q outcome) quiet = quiet.1
rest_quiet command commands (f.Pass task message) quiet = tt
rest_quiet command commands (f.Closed task) quiet = tt

no_codes : (outcome : Outcome) → is_granted outcome ≡ false → codes_by outcome ≡ []
no_codes o.Done e = refl
no_codes (o.Granted codes) e = absurd (cc e)
no_codes o.NoRoom e = refl
no_codes o.NoRoute e = refl
no_codes o.NotConnected e = refl
no_codes o.LinkLost e = refl
no_codes o.SessionLost e = refl
no_codes o.Cancelled e = refl
no_codes o.NoMemory e = refl

-- the outcomes of a command in quiet effects have no codes
codes_none : (command : Pending) (effects : List Effect) → AllByRecursion (QuietFor command) effects → flat_map codes_by (outcomes_in command.task command.seq effects) ≡ []
codes_none command [] quiet = refl
codes_none command (f.Send packet ∷ effects) quiet = codes_none command effects quiet.1
codes_none command (f.Done t q outcome ∷ effects) quiet = go (t == command.task && q == command.seq) refl (codes_none command effects quiet.1)
  where
    go : (b : Bool) → (t == command.task && q == command.seq) ≡ b → flat_map codes_by (outcomes_in command.task command.seq effects) ≡ []
        → flat_map codes_by (outcomes_in command.task command.seq (f.Done t q outcome ∷ effects)) ≡ []
    go true e rest = rw e (ap (λ cs. cs ++ flat_map codes_by (outcomes_in command.task command.seq effects)) (no_codes outcome (quiet.0 (as_completes t q outcome command ∙ e)).0) ∙ rest)
    go false e rest = rw e rest
codes_none command (f.Pass task message ∷ effects) quiet = codes_none command effects quiet.1
codes_none command (f.Closed task ∷ effects) quiet = codes_none command effects quiet.1

-- those of an unsubscribe aren't Done
dones_none : (command : Pending) (effects : List Effect) → AllByRecursion (QuietFor command) effects → is_unsubscribe command.request ≡ true → list_any is_done (outcomes_in command.task command.seq effects) ≡ false
dones_none command [] quiet is = refl
dones_none command (f.Send packet ∷ effects) quiet is = dones_none command effects quiet.1 is
dones_none command (f.Done t q outcome ∷ effects) quiet is = go (t == command.task && q == command.seq) refl (dones_none command effects quiet.1 is)
  where
    go : (b : Bool) → (t == command.task && q == command.seq) ≡ b → list_any is_done (outcomes_in command.task command.seq effects) ≡ false
        → list_any is_done (outcomes_in command.task command.seq (f.Done t q outcome ∷ effects)) ≡ false
    go true e rest = rw e (ap (λ b. b || list_any is_done (outcomes_in command.task command.seq effects)) ((quiet.0 (as_completes t q outcome command ∙ e)).1 is) ∙ rest)
    go false e rest = rw e rest
dones_none command (f.Pass task message ∷ effects) quiet is = dones_none command effects quiet.1 is
dones_none command (f.Closed task ∷ effects) quiet is = dones_none command effects quiet.1 is

coded_none : (asks : List Ask) → coded asks [] ≡ []
coded_none [] = refl
coded_none (ask ∷ asks) = refl

granted_none : (command : Pending) (effects : List Effect) → AllByRecursion (QuietFor command) effects → granted_to effects command ≡ []
granted_none command effects quiet = ap (λ codes. granted_in (coded (asks_in command.request) codes)) (codes_none command effects quiet) ∙ ap granted_in (coded_none (asks_in command.request))

pub not_filters : (request : Request) → is_unsubscribe request ≡ false → filters_in request ≡ []
not_filters (requests.Publish qos topic payload) e = refl
not_filters (requests.Subscribe asks) e = refl
not_filters (requests.Unsubscribe filters) e = absurd (cc e)
not_filters requests.Ping e = refl
not_filters requests.Disconnect e = refl
not_filters requests.Terminate e = refl
not_filters requests.Leave e = refl

-- a request that isn't an unsubscribe drops nothing
pub no_unsubscribe : (effects : List Effect) (task seq : ℕ) (request : Request) → is_unsubscribe request ≡ false → dropped_to effects task seq request ≡ []
no_unsubscribe effects task seq request e = ap (λ fs. if list_any is_done (outcomes_in task seq effects) then map (route task) fs else []) (not_filters request e) ∙ go (list_any is_done (outcomes_in task seq effects))
  where
    go : (b : Bool) → (if b then map (route task) [] else []) ≡ []
    go true = refl
    go false = refl

dropped_none : (command : Pending) (effects : List Effect) → AllByRecursion (QuietFor command) effects → dropped_to effects command.task command.seq command.request ≡ []
dropped_none command effects quiet = go (is_unsubscribe command.request) refl
  where
    go : (b : Bool) → is_unsubscribe command.request ≡ b → dropped_to effects command.task command.seq command.request ≡ []
    go true e = rw (dones_none command effects quiet e) refl
    go false e = no_unsubscribe effects command.task command.seq command.request e

pub quiet_grants : (commands : List Pending) (effects : List Effect) → AreQuiet commands effects → AllByRecursion (λ (command : Pending). granted_to effects command ≡ []) commands
quiet_grants [] effects quiet = tt
quiet_grants (command ∷ commands) effects quiet = (
  granted_none command effects (all_map (QuietBy (command ∷ commands)) (QuietFor command) effects (λ e q. first_quiet command commands e q) quiet),
  quiet_grants commands effects (all_map (QuietBy (command ∷ commands)) (QuietBy commands) effects (λ e q. rest_quiet command commands e q) quiet),
)

pub quiet_drops : (commands : List Pending) (effects : List Effect) → AreQuiet commands effects → AllByRecursion (λ (command : Pending). dropped_to effects command.task command.seq command.request ≡ []) commands
quiet_drops [] effects quiet = tt
quiet_drops (command ∷ commands) effects quiet = (
  dropped_none command effects (all_map (QuietBy (command ∷ commands)) (QuietFor command) effects (λ e q. first_quiet command commands e q) quiet),
  quiet_drops commands effects (all_map (QuietBy (command ∷ commands)) (QuietBy commands) effects (λ e q. rest_quiet command commands e q) quiet),
)

-- nothing granted: no routes
pub no_routes : (commands : List Pending) (effects : List Effect) → AllByRecursion (λ (command : Pending). granted_to effects command ≡ []) commands → flat_map (routes_to effects) commands ≡ []
no_routes commands effects none = flat_none (routes_to effects) commands (all_map (λ (command : Pending). granted_to effects command ≡ []) (λ (command : Pending). routes_to effects command ≡ []) commands (λ command e. ap (map (route command.task)) e) none)

pub none_without : (routes : List Route) → without [] routes ≡ routes
none_without routes = filter_all (λ r. not (has_route [] r)) routes (each routes)
  where
    each : (rs : List Route) → AllByRecursion (λ (r : Route). not (has_route [] r) ≡ true) rs
    each [] = tt
    each (r ∷ rs) = (refl, each rs)

pub none_without_filters : (routes : List Route) → without_filters [] routes ≡ routes
none_without_filters routes = filter_all (λ r. not (is_one_of [] r.topics)) routes (each routes)
  where
    each : (rs : List Route) → AllByRecursion (λ (r : Route). not (is_one_of [] r.topics) ≡ true) rs
    each [] = tt
    each (r ∷ rs) = (refl, each rs)

-- ---- The quality of service

-- grants that say the same of each command say the same of the filter
pub asked_same : (one other : List Grant) (topics : List ℕ) (past : List Entry) → ((task seq : ℕ) → grants one task seq topics ≡ grants other task seq topics) → asked_in one topics past ≡ asked_in other topics past
asked_same one other topics [] same = refl
asked_same one other topics (e ∷ past) same = ap (λ q. or_earlier q (asked_in one topics past)) (by_cause e.cause) ∙ ap (or_earlier (asked_by other topics e.cause)) (asked_same one other topics past same)
  where
    by_cause : (cause : Cause) → asked_by one topics cause ≡ asked_by other topics cause
    by_cause c.Opened = refl
    by_cause (c.Take task seq request) = ap (λ b. if b then last_asked (asks_in request) topics else None) (same task seq)
    by_cause (c.Arrived packet) = refl
    by_cause (c.Broke why) = refl
    by_cause c.Tick = refl
    by_cause c.GaveUp = refl
    by_cause c.Finish = refl

pub grants_append : (one other : List Grant) (task seq : ℕ) (topics : List ℕ) → grants (one ++ other) task seq topics ≡ (grants one task seq topics || grants other task seq topics)
grants_append [] other task seq topics = refl
grants_append (g ∷ one) other task seq topics = ap (λ b. ((g.task == task && g.seq == seq) && is_one_of g.topics topics) || b) (grants_append one other task seq topics)
    ∙ assoc ((g.task == task && g.seq == seq) && is_one_of g.topics topics) (grants one task seq topics) (grants other task seq topics)
  where
    assoc : (a b d : Bool) → (a || (b || d)) ≡ ((a || b) || d)
    assoc true b d = refl
    assoc false b d = refl

abbrev pub grants_by : List Effect → List Pending → List Grant
grants_by effects commands = map (λ (command : Pending). record { task = command.task; seq = command.seq; topics = granted_to effects command }) commands

pub grants_nothing : (commands : List Pending) (effects : List Effect) (task seq : ℕ) (topics : List ℕ) → AllByRecursion (λ (command : Pending). granted_to effects command ≡ []) commands
    → grants (grants_by effects commands) task seq topics ≡ false
grants_nothing [] effects task seq topics none = refl
grants_nothing (command ∷ commands) effects task seq topics none =
    rw none.0 (ap (λ b. b || grants (grants_by effects commands) task seq topics) (neither (command.task == task && command.seq == seq)) ∙ grants_nothing commands effects task seq topics none.1)
  where
    neither : (b : Bool) → (b && false) ≡ false
    neither true = refl
    neither false = refl

-- What the table reads of the routes is what the agent keeps of them.
use Rattle.std.proofs.Common.{◌≡◌, ℕ, Bool, true, false, cond, not, List, [], ◌∷◌, ◌++◌, map, refl, ap, sym, ◌∙◌}
use Rattle.std.specs.Prelude.{filter}
use Rattle.std.specs.List.{flat_map}
use Rattle.mqtt_packet.specs.declared.will.Ask.{Ask}
use Rattle.agent_journal.specs.declared.request.Request.{Request}
use Rattle.agent_journal.specs.declared.request.Request.TheVariants as requests
use Rattle.agent_journal.specs.declared.entry.Entry.{Entry}
use Rattle.agent_journal.specs.declared.setup.Setup.{Setup}
use Rattle.agent_journal.specs.Readings.{Pending, pending_of, has_left}
use Rattle.agent_table.specs.Arrivals.{is_subscribe}
use Rattle.agent_table.specs.Routes.{Route, route, with_route, with_routes, asked_for, asks_in, granted_of, renewals_of, routes_of}
use Rattle.subscriptions.specs.Routing.{Asked, Routing, routes, routes_asked}
use Rattle.agent_core.specs.Routed.{Matched, Routed, IsAsked, subscribes_in, is_here, filters_of}
use Rattle.agent_core.proofs.RoutedLists.{filter_append}
use Rattle.agent_core.proofs.RoutedRenewed.{here_with}

here_both : (past : List Entry) (rs gs : List Route) → filter (is_here past) (with_routes gs rs) ≡ with_routes (filter (is_here past) gs) (filter (is_here past) rs)
here_both past [] gs = refl
here_both past (r ∷ rs) gs = go (has_left r.task past) refl (here_both past rs (with_route gs r))
  where
    go : (b : Bool) → has_left r.task past ≡ b → filter (is_here past) (with_routes (with_route gs r) rs) ≡ with_routes (filter (is_here past) (with_route gs r)) (filter (is_here past) rs)
        → filter (is_here past) (with_routes (with_route gs r) rs) ≡ with_routes (filter (is_here past) gs) (filter (is_here past) (r ∷ rs))
    go true e rest = rest ∙ ap (λ xs. with_routes xs (filter (is_here past) rs)) (here_with past r.task r.topics true gs e) ∙ (rw e refl)
    go false e rest = rest ∙ ap (λ xs. with_routes xs (filter (is_here past) rs)) (here_with past r.task r.topics false gs e) ∙ (rw e refl)

-- only subscribes ask
asks_none : (request : Request) → is_subscribe request ≡ false → asks_in request ≡ []
asks_none (requests.Publish qos topic payload) e = refl
asks_none (requests.Subscribe asks) e = absurd (cc e)
asks_none (requests.Unsubscribe filters) e = refl
asks_none requests.Ping e = refl
asks_none requests.Disconnect e = refl
asks_none requests.Terminate e = refl
asks_none requests.Leave e = refl

subscribes_ask : (commands : List Pending) → asked_for commands ≡ asked_for (subscribes_in commands)
subscribes_ask [] = refl
subscribes_ask (command ∷ commands) = go (is_subscribe command.request) refl (subscribes_ask commands)
  where
    go : (b : Bool) → is_subscribe command.request ≡ b → asked_for commands ≡ asked_for (subscribes_in commands) → asked_for (command ∷ commands) ≡ asked_for (subscribes_in (command ∷ commands))
    go true e rest = rw e (ap (λ rs. map (λ (ask : Ask). route command.task ask.filter) (asks_in command.request) ++ rs) rest)
    go false e rest = rw e (ap (λ asks. map (λ (ask : Ask). route command.task ask.filter) asks ++ asked_for commands) (asks_none command.request e) ∙ rest)

by_filters : (task : ℕ) (asks : List Ask) → map (route task) (filters_of asks) ≡ map (λ (ask : Ask). route task ask.filter) asks
by_filters task [] = refl
by_filters task (ask ∷ asks) = ap (λ rs. route task ask.filter ∷ rs) (by_filters task asks)

of_task : (past : List Entry) (task : ℕ) (b : Bool) (asks : List Ask) → has_left task past ≡ b → filter (is_here past) (map (λ (ask : Ask). route task ask.filter) asks) ≡ cond b [] (map (λ (ask : Ask). route task ask.filter) asks)
of_task past task true [] e = refl
of_task past task false [] e = refl
of_task past task true (ask ∷ asks) e = rw e (of_task past task true asks e)
of_task past task false (ask ∷ asks) e = rw e (ap (λ rs. route task ask.filter ∷ rs) (of_task past task false asks e))

asked_here : (past : List Entry) (asked : List Asked) (commands : List Pending) → Matched (IsAsked past) asked commands
    → flat_map (λ (a : Asked). routes_asked a.task a.asks) (filter (λ (a : Asked). not a.left) asked) ≡ filter (is_here past) (asked_for commands)
asked_here past [] [] m = refl
asked_here past [] (command ∷ commands) m = absurd m
asked_here past (a ∷ asked) [] m = absurd m
asked_here past (a ∷ asked) (command ∷ commands) m = go a.left refl (asked_here past asked commands m.1)
  where
    same : routes_asked a.task a.asks ≡ map (λ (ask : Ask). route command.task ask.filter) (asks_in command.request)
    same = sym (by_filters a.task a.asks) ∙ ap (λ t. map (route t) (filters_of a.asks)) m.0.task ∙ ap (map (route command.task)) m.0.filters ∙ by_filters command.task (asks_in command.request)

    split : filter (is_here past) (asked_for (command ∷ commands)) ≡ filter (is_here past) (map (λ (ask : Ask). route command.task ask.filter) (asks_in command.request)) ++ filter (is_here past) (asked_for commands)
    split = filter_append (is_here past) (map (λ (ask : Ask). route command.task ask.filter) (asks_in command.request)) (asked_for commands)

    go : (b : Bool) → a.left ≡ b → flat_map (λ (x : Asked). routes_asked x.task x.asks) (filter (λ (x : Asked). not x.left) asked) ≡ filter (is_here past) (asked_for commands)
        → flat_map (λ (x : Asked). routes_asked x.task x.asks) (filter (λ (x : Asked). not x.left) (a ∷ asked)) ≡ filter (is_here past) (asked_for (command ∷ commands))
    go true e rest = rw e (rest ∙ sym (split ∙ ap (λ rs. rs ++ filter (is_here past) (asked_for commands)) (of_task past command.task true (asks_in command.request) (sym m.0.left ∙ e))))
    go false e rest =
        rw e (ap (λ rs. routes_asked a.task a.asks ++ rs) rest ∙ ap (λ rs. rs ++ filter (is_here past) (asked_for commands)) same
        ∙ sym (split ∙ ap (λ rs. rs ++ filter (is_here past) (asked_for commands)) (of_task past command.task false (asks_in command.request) (sym m.0.left ∙ e))))

-- the routes, and the open renewals
pub routed_routes : (s : Setup) (past : List Entry) (k : Routing) → Routed s past k → routes k ≡ routes_of past
routed_routes s past k routed =
    ap (λ gs. with_routes gs (flat_map (λ (a : Asked). routes_asked a.task a.asks) (filter (λ (a : Asked). not a.left) k.asked))) routed.granted
    ∙ ap (with_routes (filter (is_here past) (granted_of past))) (asked_here past k.asked (subscribes_in (pending_of past)) routed.asked ∙ ap (filter (is_here past)) (sym (subscribes_ask (pending_of past))))
    ∙ sym (here_both past (asked_for (pending_of past)) (granted_of past))

pub routed_renewals : (s : Setup) (past : List Entry) (k : Routing) → Routed s past k → k.renewals ≡ renewals_of past
routed_renewals s past k routed = routed.renewals

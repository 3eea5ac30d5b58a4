-- A renewal that a SUBACK answers, and a subscribe that it grants: what is kept then.
use Rattle.std.proofs.Common.{◌≡◌, ℕ, Bool, true, false, cond, not, List, [], ◌∷◌, ◌++◌, map, length, Option, Some, None, refl, ap, sym, ◌∙◌, subst}
use Rattle.std.specs.Prelude.{◌||◌, ◌==◌, filter, find, if◌then◌else◌}
use Rattle.std.specs.List.{AllByRecursion, flat_map}
use Rattle.std.specs.Option.{option_map}
use Rattle.std.specs.Str.{bytes_eq}
use Rattle.std.proofs.lemmas.List.{append-nil}
use Rattle.std.proofs.lemmas.Bool.{eqb-true}
use Rattle.std.proofs.lemmas.Slice.Eq.{bytes_eq-Decides}
use Rattle.mqtt_packet.specs.declared.will.Ask.{Ask}
use Rattle.mqtt_packet.specs.declared.qos.Qos.TheVariants.{AtMostOnce}
use Rattle.agent_journal.specs.declared.entry.Entry.{Entry}
use Rattle.agent_journal.specs.Readings.{Pending, has_left}
use Rattle.agent_table.specs.Filters.{is_one_of}
use Rattle.agent_table.specs.Routes.{Route, Renewal, route, is_route, has_route, with_route, with_routes, without_filters, coded, coded_by, granted_in, refused_in, last_asked, or_earlier}
use Rattle.pending_acks.specs.Commands as commands
use Rattle.subscriptions.specs.Routing.{Granted, Asked, Routing, route_of, is_renewal, renewal_len, renewal_granted, renewal_granted_to, renewal_coded, settled, settled_before, renewed_as, with_granted, with_all_granted, granted_by}
use Rattle.subscriptions.specs.Routing as routing
use Rattle.agent_core.specs.After.{renewal_answered}
use Rattle.agent_core.specs.Completions.{is_count}
use Rattle.agent_core.specs.Routed.{Matched, IsAsked, is_here, filters_of}
use Rattle.agent_core.proofs.RoutedEnds.{AreApart, IsApart}
use Rattle.agent_core.proofs.RoutedLists.{all_map, filter_all}
use Rattle.agent_core.proofs.RoutedLists as lists

-- ---- Renewals

pub record RenewedAs (answered : List (List ℕ × ℕ)) (left : List Renewal) (k now : Routing) : Type 0 where
  pub granted : map route_of now.granted ≡ without_filters (refused_in answered) (map route_of k.granted)
  pub sure : (f : List ℕ → Bool) → AllByRecursion (λ (g : Granted). g.sure ≡ f g.topics) k.granted → AllByRecursion (λ (g : Granted). g.sure ≡ (f g.topics || is_one_of (granted_in answered) g.topics)) now.granted
  pub asked : now.asked ≡ k.asked
  pub renewals : now.renewals ≡ left

coded_none : (n : ℕ) (codes : List ℕ) (renewals : List Renewal) → find (is_renewal n) renewals ≡ None → coded_by n codes renewals ≡ []
coded_none n codes [] e = refl
coded_none n codes (renewal ∷ renewals) e = go (renewal.id == n) refl (coded_none n codes renewals)
  where
    go : (b : Bool) → (renewal.id == n) ≡ b → (find (is_renewal n) renewals ≡ None → coded_by n codes renewals ≡ []) → coded_by n codes (renewal ∷ renewals) ≡ []
    go true is rest = absurd (cc (rw is at e))
    go false is rest = rw is (rest (rw is at e))

coded_one : (n : ℕ) (codes : List ℕ) (renewals : List Renewal) (found : Renewal) → find (is_renewal n) renewals ≡ Some found → coded_by n codes renewals ≡ coded found.asks codes
coded_one n codes [] found e = absurd (cc e)
coded_one n codes (renewal ∷ renewals) found e = go (renewal.id == n) refl (coded_one n codes renewals found)
  where
    go : (b : Bool) → (renewal.id == n) ≡ b → (find (is_renewal n) renewals ≡ Some found → coded_by n codes renewals ≡ coded found.asks codes) → coded_by n codes (renewal ∷ renewals) ≡ coded found.asks codes
    go true is rest = let same : renewal ≡ found = cc (rw is at e) in rw is (ap (λ (x : Renewal). coded x.asks codes) same)
    go false is rest = rw is (rest (rw is at e))

all_stay : (n : ℕ) (renewals : List Renewal) → find (is_renewal n) renewals ≡ None → renewals ≡ filter (λ renewal. not (renewal.id == n)) renewals
all_stay n [] e = refl
all_stay n (renewal ∷ renewals) e = go (renewal.id == n) refl (all_stay n renewals)
  where
    go : (b : Bool) → (renewal.id == n) ≡ b → (find (is_renewal n) renewals ≡ None → renewals ≡ filter (λ x. not (x.id == n)) renewals) → renewal ∷ renewals ≡ filter (λ x. not (x.id == n)) (renewal ∷ renewals)
    go true is rest = absurd (cc (rw is at e))
    go false is rest = rw is (ap (λ rs. renewal ∷ rs) (rest (rw is at e)))

coded_routes : (asks : List Ask) (codes : List ℕ) (gs : List Granted) → map route_of (flat_map (renewal_coded asks codes) gs) ≡ without_filters (refused_in (coded asks codes)) (map route_of gs)
coded_routes asks codes [] = refl
coded_routes asks codes (g ∷ gs) = go (is_one_of (refused_in (coded asks codes)) g.topics) (is_one_of (granted_in (coded asks codes)) g.topics) refl refl (coded_routes asks codes gs)
  where
    go : (x y : Bool) → is_one_of (refused_in (coded asks codes)) g.topics ≡ x → is_one_of (granted_in (coded asks codes)) g.topics ≡ y
        → map route_of (flat_map (renewal_coded asks codes) gs) ≡ without_filters (refused_in (coded asks codes)) (map route_of gs)
        → map route_of (flat_map (renewal_coded asks codes) (g ∷ gs)) ≡ without_filters (refused_in (coded asks codes)) (map route_of (g ∷ gs))
    go true y e h rest = rw e rest
    go false true e h rest = rw (e, h) (ap (λ rs. route_of g ∷ rs) rest)
    go false false e h rest = rw (e, h) (ap (λ rs. route_of g ∷ rs) rest)

or_true : (b : Bool) → true ≡ (b || true)
or_true true = refl
or_true false = refl

or_false : (b : Bool) → b ≡ (b || false)
or_false true = refl
or_false false = refl

coded_sure : (f : List ℕ → Bool) (asks : List Ask) (codes : List ℕ) (gs : List Granted) → AllByRecursion (λ (g : Granted). g.sure ≡ f g.topics) gs
    → AllByRecursion (λ (g : Granted). g.sure ≡ (f g.topics || is_one_of (granted_in (coded asks codes)) g.topics)) (flat_map (renewal_coded asks codes) gs)
coded_sure f asks codes [] all = tt
coded_sure f asks codes (g ∷ gs) all = go (is_one_of (refused_in (coded asks codes)) g.topics) (is_one_of (granted_in (coded asks codes)) g.topics) refl refl (coded_sure f asks codes gs all.1)
  where
    go : (x y : Bool) → is_one_of (refused_in (coded asks codes)) g.topics ≡ x → is_one_of (granted_in (coded asks codes)) g.topics ≡ y
        → AllByRecursion (λ (g : Granted). g.sure ≡ (f g.topics || is_one_of (granted_in (coded asks codes)) g.topics)) (flat_map (renewal_coded asks codes) gs)
        → AllByRecursion (λ (g : Granted). g.sure ≡ (f g.topics || is_one_of (granted_in (coded asks codes)) g.topics)) (flat_map (renewal_coded asks codes) (g ∷ gs))
    go true y e h rest = rw e rest
    go false true e h rest = rw (e, h) (or_true (f g.topics) ∙ ap (λ b. f g.topics || b) (sym h), rest)
    go false false e h rest = rw (e, h) (all.0 ∙ or_false (f g.topics) ∙ ap (λ b. f g.topics || b) (sym h), rest)

-- where an open renewal has as many filters as there are codes
pub renewed_as_coded : (n : ℕ) (codes : List ℕ) (k : Routing) → ((renewal : Renewal) → find (is_renewal n) k.renewals ≡ Some renewal → (length renewal.asks == length codes) ≡ true)
    → RenewedAs (coded_by n codes k.renewals) (filter (λ renewal. not (renewal.id == n)) k.renewals) k (renewal_answered n codes k)
renewed_as_coded n codes k counts = go (find (is_renewal n) k.renewals) refl
  where
    no_filters : (rs : List Route) → rs ≡ without_filters (refused_in []) rs
    no_filters [] = refl
    no_filters (r ∷ rs) = ap (λ xs. r ∷ xs) (no_filters rs)

    go : (found : Option Renewal) → find (is_renewal n) k.renewals ≡ found → RenewedAs (coded_by n codes k.renewals) (filter (λ renewal. not (renewal.id == n)) k.renewals) k (renewal_answered n codes k)
    go None e =
        let none = coded_none n codes k.renewals e in
        let same : renewal_answered n codes k ≡ k = ap (λ (x : Option Renewal). if is_count (option_map (λ (r : Renewal). length r.asks) x) (length codes) then renewal_granted n codes k else k) e in
        subst (λ (now : Routing). RenewedAs (coded_by n codes k.renewals) (filter (λ renewal. not (renewal.id == n)) k.renewals) k now) (sym same) (record {
          granted = no_filters (map route_of k.granted) ∙ ap (λ a. without_filters (refused_in a) (map route_of k.granted)) (sym none);
          sure = λ f all. all_map (λ (g : Granted). g.sure ≡ f g.topics) (λ (g : Granted). g.sure ≡ (f g.topics || is_one_of (granted_in (coded_by n codes k.renewals)) g.topics)) k.granted
              (λ g is. is ∙ or_false (f g.topics) ∙ ap (λ a. f g.topics || is_one_of (granted_in a) g.topics) (sym none)) all;
          asked = refl;
          renewals = all_stay n k.renewals e;
        })
    go (Some renewal) e =
        let its = coded_one n codes k.renewals renewal e in
        let same : renewal_answered n codes k ≡ renewal_granted_to n (Some renewal) codes k =
        ap (λ (x : Option Renewal). if is_count (option_map (λ (r : Renewal). length r.asks) x) (length codes) then renewal_granted n codes k else k) e
        ∙ ap (λ (b : Bool). if b then renewal_granted n codes k else k) (counts renewal e)
        ∙ ap (λ (x : Option Renewal). renewal_granted_to n x codes k) e in
        subst (λ (now : Routing). RenewedAs (coded_by n codes k.renewals) (filter (λ renewal. not (renewal.id == n)) k.renewals) k now) (sym same)
        (subst (λ (a : List (List ℕ × ℕ)). RenewedAs a (filter (λ renewal. not (renewal.id == n)) k.renewals) k (renewal_granted_to n (Some renewal) codes k)) (sym its) (record {
          granted = coded_routes renewal.asks codes k.granted;
          sure = λ f all. coded_sure f renewal.asks codes k.granted all;
          asked = refl;
          renewals = refl;
        }))

-- ---- Routes that a SUBACK grants to a task

renewed_route : (filters : List (List ℕ)) (asks : List Ask) (gs : List Granted) → map route_of (map (renewed_as filters asks) gs) ≡ map route_of gs
renewed_route filters asks [] = refl
renewed_route filters asks (g ∷ gs) = go (is_one_of filters g.topics) refl (renewed_route filters asks gs)
  where
    go : (b : Bool) → is_one_of filters g.topics ≡ b → map route_of (map (renewed_as filters asks) gs) ≡ map route_of gs → map route_of (map (renewed_as filters asks) (g ∷ gs)) ≡ map route_of (g ∷ gs)
    go true e rest = rw e (ap (λ rs. route_of g ∷ rs) rest)
    go false e rest = rw e (ap (λ rs. route_of g ∷ rs) rest)

routes_push : (gs : List Granted) (g : Granted) → map route_of (gs ++ g ∷ []) ≡ map route_of gs ++ route_of g ∷ []
routes_push [] g = refl
routes_push (h ∷ gs) g = ap (λ l. route_of h ∷ l) (routes_push gs g)

granted_routes : (task : ℕ) (asks : List Ask) (gs : List Granted) (topics : List ℕ) → map route_of (with_granted task asks gs topics) ≡ with_route (map route_of gs) (route task topics)
granted_routes task asks gs topics = go (has_route (map route_of gs) (route task topics)) refl
  where
    go : (b : Bool) → has_route (map route_of gs) (route task topics) ≡ b → map route_of (with_granted task asks gs topics) ≡ with_route (map route_of gs) (route task topics)
    go true e = rw e refl
    go false e = rw e (routes_push gs (record { task = task; topics = topics; qos = or_earlier (last_asked asks topics) AtMostOnce; sure = true }))

all_routes : (task : ℕ) (asks : List Ask) (gs : List Granted) (filters : List (List ℕ)) → map route_of (with_all_granted task asks gs filters) ≡ with_routes (map route_of gs) (map (route task) filters)
all_routes task asks gs [] = refl
all_routes task asks gs (topics ∷ filters) = all_routes task asks (with_granted task asks gs topics) filters ∙ ap (λ (l : List Route). with_routes l (map (route task) filters)) (granted_routes task asks gs topics)

-- a route more: its task is here, or not
pub here_with : (past : List Entry) (task : ℕ) (topics : List ℕ) (b : Bool) (routes : List Route) → has_left task past ≡ b
    → filter (is_here past) (with_route routes (route task topics)) ≡ cond b (filter (is_here past) routes) (with_route (filter (is_here past) routes) (route task topics))
here_with past task topics true routes e = go (has_route routes (route task topics)) refl
  where
    pushed : (rs : List Route) → filter (is_here past) (rs ++ route task topics ∷ []) ≡ filter (is_here past) rs
    pushed rs = lists.filter_append (is_here past) rs (route task topics ∷ []) ∙ (rw e (append-nil (filter (is_here past) rs)))

    go : (x : Bool) → has_route routes (route task topics) ≡ x → filter (is_here past) (with_route routes (route task topics)) ≡ filter (is_here past) routes
    go true is = rw is refl
    go false is = rw is (pushed routes)
here_with past task topics false routes e = go (has_route routes (route task topics)) refl
  where
    one : (r : Route) (rs : List Route) (y : Bool) → has_left r.task past ≡ y → has_route (filter (is_here past) rs) (route task topics) ≡ has_route rs (route task topics)
        → has_route (filter (is_here past) (r ∷ rs)) (route task topics) ≡ has_route (r ∷ rs) (route task topics)
    one r rs false h rest = rw h (ap (λ b. is_route r (route task topics) || b) rest)
    one r rs true h rest = rw h (rest ∙ ap (λ b. b || has_route rs (route task topics)) (sym (differs (r.task == task) refl)))
      where
        differs : (z : Bool) → (r.task == task) ≡ z → is_route r (route task topics) ≡ false
        differs true is = let same : r.task ≡ task = eqb-true r.task task is in absurd (cc (ap (λ t. has_left t past) same ∙ e, h))
        differs false is = rw is refl

    still : (rs : List Route) → has_route (filter (is_here past) rs) (route task topics) ≡ has_route rs (route task topics)
    still [] = refl
    still (r ∷ rs) = one r rs (has_left r.task past) refl (still rs)

    go : (x : Bool) → has_route routes (route task topics) ≡ x → filter (is_here past) (with_route routes (route task topics)) ≡ with_route (filter (is_here past) routes) (route task topics)
    go true is = let own : has_route (filter (is_here past) routes) (route task topics) ≡ true = still routes ∙ is in rw (is, own) refl
    go false is =
        let own : has_route (filter (is_here past) routes) (route task topics) ≡ false = still routes ∙ is in
        rw (is, own) (lists.filter_append (is_here past) routes (route task topics ∷ []) ∙ ap (λ rs. filter (is_here past) routes ++ rs) (rw e refl))

here_all : (past : List Entry) (task : ℕ) (filters : List (List ℕ)) (b : Bool) (routes : List Route) → has_left task past ≡ b
    → filter (is_here past) (with_routes routes (map (route task) filters)) ≡ cond b (filter (is_here past) routes) (with_routes (filter (is_here past) routes) (map (route task) filters))
here_all past task [] true routes e = refl
here_all past task [] false routes e = refl
here_all past task (topics ∷ filters) true routes e = here_all past task filters true (with_route routes (route task topics)) e ∙ here_with past task topics true routes e
here_all past task (topics ∷ filters) false routes e =
    here_all past task filters false (with_route routes (route task topics)) e ∙ ap (λ rs. with_routes rs (map (route task) filters)) (here_with past task topics false routes e)

pub granted_here : (past : List Entry) (a : Asked) (filters : List (List ℕ)) (gs : List Granted) (routes : List Route) → a.left ≡ has_left a.task past → map route_of gs ≡ filter (is_here past) routes
    → map route_of (granted_by a filters gs) ≡ filter (is_here past) (with_routes routes (map (route a.task) filters))
granted_here past a filters gs routes left here = go a.left refl
  where
    go : (b : Bool) → a.left ≡ b → map route_of (granted_by a filters gs) ≡ filter (is_here past) (with_routes routes (map (route a.task) filters))
    go true e = rw e (renewed_route filters a.asks gs ∙ here ∙ sym (here_all past a.task filters true routes (sym left ∙ e)))
    go false e = rw e (all_routes a.task a.asks (map (renewed_as filters a.asks) gs) filters ∙ ap (λ rs. with_routes rs (map (route a.task) filters)) (renewed_route filters a.asks gs ∙ here) ∙ sym (here_all past a.task filters false routes (sym left ∙ e)))

-- ---- What is so of all routes that a SUBACK grants

pub one_more : (Q : Granted → Type 0) (task : ℕ) (asks : List Ask) (gs : List Granted) (topics : List ℕ) → AllByRecursion Q gs → Q (record { task = task; topics = topics; qos = or_earlier (last_asked asks topics) AtMostOnce; sure = true })
    → AllByRecursion Q (with_granted task asks gs topics)
one_more Q task asks gs topics all new = go (has_route (map route_of gs) (route task topics))
  where
    go : (b : Bool) → AllByRecursion Q (if b then gs else gs ++ record { task = task; topics = topics; qos = or_earlier (last_asked asks topics) AtMostOnce; sure = true } ∷ [])
    go true = all
    go false = lists.all_append Q gs (record { task = task; topics = topics; qos = or_earlier (last_asked asks topics) AtMostOnce; sure = true } ∷ []) all (new, tt)

pub all_more : (Q : Granted → Type 0) (task : ℕ) (asks : List Ask) (gs : List Granted) (filters : List (List ℕ)) → AllByRecursion Q gs
    → AllByRecursion (λ (topics : List ℕ). Q (record { task = task; topics = topics; qos = or_earlier (last_asked asks topics) AtMostOnce; sure = true })) filters → AllByRecursion Q (with_all_granted task asks gs filters)
all_more Q task asks gs [] all new = all
all_more Q task asks gs (topics ∷ filters) all new = all_more Q task asks (with_granted task asks gs topics) filters (one_more Q task asks gs topics all new.0) new.1

pub all_granted_by : (P Q : Granted → Type 0) (a : Asked) (filters : List (List ℕ)) (gs : List Granted) → AllByRecursion P gs → ((g : Granted) → P g → Q (renewed_as filters a.asks g))
    → AllByRecursion (λ (topics : List ℕ). Q (record { task = a.task; topics = topics; qos = or_earlier (last_asked a.asks topics) AtMostOnce; sure = true })) filters → AllByRecursion Q (granted_by a filters gs)
all_granted_by P Q a filters gs all to new = go a.left
  where
    go : (b : Bool) → AllByRecursion Q (if b then map (renewed_as filters a.asks) gs else with_all_granted a.task a.asks (map (renewed_as filters a.asks) gs) filters)
    go true = lists.all_over P Q (renewed_as filters a.asks) gs to all
    go false = all_more Q a.task a.asks (map (renewed_as filters a.asks) gs) filters (lists.all_over P Q (renewed_as filters a.asks) gs to all) new

pub members : (filters : List (List ℕ)) → AllByRecursion (λ (topics : List ℕ). is_one_of filters topics ≡ true) filters
members [] = tt
members (topics ∷ filters) =
    (rw ((bytes_eq-Decides topics topics).1 refl) refl, all_map (λ (t : List ℕ). is_one_of filters t ≡ true) (λ (t : List ℕ). is_one_of (topics ∷ filters) t ≡ true) filters (λ t e. ap (λ b. bytes_eq topics t || b) e ∙ sym (or_true (bytes_eq topics t))) (members filters))

pub granted_sure : (f : List ℕ → Bool) (a : Asked) (filters : List (List ℕ)) (gs : List Granted) → AllByRecursion (λ (g : Granted). g.sure ≡ f g.topics) gs
    → AllByRecursion (λ (g : Granted). g.sure ≡ (f g.topics || is_one_of filters g.topics)) (granted_by a filters gs)
granted_sure f a filters gs all =
    all_granted_by (λ (g : Granted). g.sure ≡ f g.topics) (λ (g : Granted). g.sure ≡ (f g.topics || is_one_of filters g.topics)) a filters gs all (λ g is. go g is (is_one_of filters g.topics) refl)
    (all_map (λ (topics : List ℕ). is_one_of filters topics ≡ true) (λ (topics : List ℕ). true ≡ (f topics || is_one_of filters topics)) filters (λ topics e. or_true (f topics) ∙ ap (λ b. f topics || b) (sym e)) (members filters))
  where
    go : (g : Granted) → g.sure ≡ f g.topics → (b : Bool) → is_one_of filters g.topics ≡ b → (renewed_as filters a.asks g).sure ≡ (f (renewed_as filters a.asks g).topics || is_one_of filters (renewed_as filters a.asks g).topics)
    go g is true e = rw e (or_true (f g.topics) ∙ ap (λ b. f g.topics || b) (sym e))
    go g is false e = rw e (is ∙ or_false (f g.topics) ∙ ap (λ b. f g.topics || b) (sym e))

-- ---- the open subscribes

pub settled_filters : (filters : List (List ℕ)) (asks own : List Ask) → filters_of (map (settled filters asks) own) ≡ filters_of own
settled_filters filters asks [] = refl
settled_filters filters asks (ask ∷ own) = go (is_one_of filters ask.filter) refl (settled_filters filters asks own)
  where
    go : (b : Bool) → is_one_of filters ask.filter ≡ b → filters_of (map (settled filters asks) own) ≡ filters_of own → filters_of (map (settled filters asks) (ask ∷ own)) ≡ filters_of (ask ∷ own)
    go true e rest = rw e (ap (λ fs. ask.filter ∷ fs) rest)
    go false e rest = rw e (ap (λ fs. ask.filter ∷ fs) rest)

pub settled_matched : (past : List Entry) (id : ℕ) (filters : List (List ℕ)) (asks : List Ask) (asked : List Asked) (waiting : List Pending) → AreApart waiting → Matched (IsAsked past) asked waiting
    → Matched (IsAsked past) (settled_before id filters asks asked) (filter (λ command. not (commands.has_id id command)) waiting)
settled_matched past id filters asks [] [] apart m = tt
settled_matched past id filters asks [] (command ∷ waiting) apart m = absurd m
settled_matched past id filters asks (a ∷ asked) [] apart m = absurd m
settled_matched past id filters asks (a ∷ asked) (command ∷ waiting) apart m = go (command.id == id) refl (settled_matched past id filters asks asked waiting apart.1 m.1)
  where
    go : (b : Bool) → (command.id == id) ≡ b → Matched (IsAsked past) (settled_before id filters asks asked) (filter (λ other. not (commands.has_id id other)) waiting)
        → Matched (IsAsked past) (settled_before id filters asks (a ∷ asked)) (filter (λ other. not (commands.has_id id other)) (command ∷ waiting))
    go true e rest =
        let own : (a.id == id) ≡ true = ap (λ n. n == id) m.0.id ∙ e in
        let same : command.id ≡ id = eqb-true command.id id e in
        let all : filter (λ other. not (commands.has_id id other)) waiting ≡ waiting =
        filter_all (λ other. not (commands.has_id id other)) waiting (all_map (IsApart command) (λ (other : Pending). not (commands.has_id id other) ≡ true) waiting (λ other differs. ap not (ap (λ n. other.id == n) (sym same) ∙ differs.0)) apart.0) in
        rw (own, e) (subst (λ (cs : List Pending). Matched (IsAsked past) asked cs) (sym all) m.1)
    go false e rest =
        let own : (a.id == id) ≡ false = ap (λ n. n == id) m.0.id ∙ e in
        rw (own, e) (record { task = m.0.task; id = m.0.id; left = m.0.left; filters = settled_filters filters asks a.asks ∙ m.0.filters }, rest)

-- an open subscribe is kept
pub find_asked : (P : Asked → Pending → Type 0) (n : ℕ) (asked : List Asked) (waiting : List Pending) (command : Pending) → ((a : Asked) (c : Pending) → P a c → a.id ≡ c.id) → Matched P asked waiting → find (commands.has_id n) waiting ≡ Some command
    → (a : Asked) × (find (routing.has_id n) asked ≡ Some a) × P a command
find_asked P n [] [] command named m e = absurd (cc e)
find_asked P n [] (c ∷ waiting) command named m e = absurd m
find_asked P n (a ∷ asked) [] command named m e = absurd m
find_asked P n (a ∷ asked) (c ∷ waiting) command named m e = go (c.id == n) refl (find_asked P n asked waiting command named m.1)
  where
    go : (b : Bool) → (c.id == n) ≡ b → (find (commands.has_id n) waiting ≡ Some command → (a : Asked) × (find (routing.has_id n) asked ≡ Some a) × P a command)
        → (x : Asked) × (find (routing.has_id n) (a ∷ asked) ≡ Some x) × P x command
    go true is rest =
        let own : (a.id == n) ≡ true = ap (λ k. k == n) (named a c m.0) ∙ is in
        let same : c ≡ command = cc (rw is at e) in
        (a, rw own refl, subst (λ (x : Pending). P a x) same m.0)
    go false is rest =
        let own : (a.id == n) ≡ false = ap (λ k. k == n) (named a c m.0) ∙ is in
        let more = rest (rw is at e) in
        (more.0, rw own more.1, more.2)

-- the filters alone decide which are granted
pub coded_as : (one other : List Ask) (codes : List ℕ) → filters_of one ≡ filters_of other → coded one codes ≡ coded other codes
coded_as one other codes same = sym (pairs one codes) ∙ ap (λ fs. paired fs codes) same ∙ pairs other codes
  where
    paired : List (List ℕ) → List ℕ → List (List ℕ × ℕ)
    paired [] codes = []
    paired (f ∷ fs) [] = []
    paired (f ∷ fs) (code ∷ codes) = (f, code) ∷ paired fs codes

    pairs : (asks : List Ask) (codes : List ℕ) → paired (filters_of asks) codes ≡ coded asks codes
    pairs [] codes = refl
    pairs (ask ∷ asks) [] = refl
    pairs (ask ∷ asks) (code ∷ codes) = ap (λ ps. (ask.filter, code) ∷ ps) (pairs asks codes)

-- Completions that grant nothing and drop nothing: what they do to what is kept.
use Rattle.std.proofs.Common.{◌≡◌, ℕ, Bool, true, false, cond, not, List, [], ◌∷◌, Option, Some, None, refl, ap, sym, ◌∙◌, subst}
use Rattle.std.specs.Prelude.{◌&&◌, ◌||◌, ◌==◌, filter, find, if◌then◌else◌}
use Rattle.std.specs.List.{AllByRecursion, list_any}
use Rattle.std.proofs.lemmas.Bool.{eqb-true, eq-eqb}
use Rattle.agent_journal.specs.declared.request.Request.{Request}
use Rattle.agent_journal.specs.declared.request.Request.TheVariants as requests
use Rattle.agent_journal.specs.declared.outcome.Outcome.{Outcome}
use Rattle.agent_journal.specs.declared.outcome.Outcome.TheVariants as o
use Rattle.agent_journal.specs.declared.effect.Effect.{Effect}
use Rattle.agent_journal.specs.declared.effect.Effect.TheVariants as f
use Rattle.agent_journal.specs.Readings.{Pending, completes}
use Rattle.agent_table.specs.Arrivals.{is_subscribe, is_unsubscribe}
use Rattle.agent_table.specs.Routes.{is_done}
use Rattle.pending_acks.specs.Commands.{has_id, is_command, others}
use Rattle.subscriptions.specs.Routing as routing
use Rattle.subscriptions.specs.Routing.{Routing, Asked, lost}
use Rattle.agent_core.specs.Completions.{Books, ended_with, ended, all_ended, routing_ended, subscribe_ended}
use Rattle.agent_core.specs.Routed.{Matched, subscribes_in}
use Rattle.agent_core.proofs.RoutedLists.{all_filter, all_found, all_map, filter_all, filter_as, filter_twice, filter_swapped, matched_filter}

-- ---- Commands that differ

-- no two have one identifier, and no two one task and number
abbrev pub IsApart : Pending → Pending → Type 0
IsApart one other = (has_id one.id other ≡ false) × (is_command one.task one.seq other ≡ false)

abbrev pub AreApart : List Pending → Type 0
AreApart [] = Unit {0}
AreApart (command ∷ commands) = AllByRecursion (IsApart command) commands × AreApart commands

pub apart_filter : (p : Pending → Bool) (commands : List Pending) → AreApart commands → AreApart (filter p commands)
apart_filter p [] apart = tt
apart_filter p (command ∷ commands) apart = go (p command) (apart_filter p commands apart.1)
  where
    go : (b : Bool) → AreApart (filter p commands) → AreApart (cond b (command ∷ filter p commands) (filter p commands))
    go true rest = (all_filter (IsApart command) p commands apart.0, rest)
    go false rest = rest

pub turned : (n m : ℕ) → (n == m) ≡ (m == n)
turned n m = go (n == m) (m == n) refl refl
  where
    go : (a b : Bool) → (n == m) ≡ a → (m == n) ≡ b → a ≡ b
    go true true e h = refl
    go true false e h = sym (sym h ∙ eq-eqb m n (sym (eqb-true n m e)))
    go false true e h = sym e ∙ eq-eqb n m (sym (eqb-true m n h))
    go false false e h = refl

pub one_false : (a b : Bool) (t q : ℕ) (command other : Pending) → is_command t q command ≡ true → is_command command.task command.seq other ≡ false → is_command t q other ≡ false
one_false a b t q command other e nay = go (command.task == t) (command.seq == q) refl refl (e)
  where
    go : (x y : Bool) → (command.task == t) ≡ x → (command.seq == q) ≡ y → (command.task == t && command.seq == q) ≡ true → is_command t q other ≡ false
    go true true x y h = subst (λ u. (other.task == u && other.seq == q) ≡ false) (eqb-true command.task t x) (subst (λ u. (other.task == command.task && other.seq == u) ≡ false) (eqb-true command.seq q y) nay)
    go true false x y h = absurd (cc (rw (x, y) at h))
    go false y x yy h = absurd (cc (rw x at h))

-- the others of a command that is found are all that aren't it
pub others_found : (t q : ℕ) (commands : List Pending) (command : Pending) → AreApart commands → find (is_command t q) commands ≡ Some command
    → others command.id commands ≡ filter (λ other. not (is_command t q other)) commands
others_found t q [] command apart e = absurd (cc e)
others_found t q (first ∷ commands) command apart e = go (is_command t q first) refl (others_found t q commands command apart.1)
  where
    go : (b : Bool) → is_command t q first ≡ b → (find (is_command t q) commands ≡ Some command → others command.id commands ≡ filter (λ other. not (is_command t q other)) commands) → others command.id (first ∷ commands) ≡ filter (λ other. not (is_command t q other)) (first ∷ commands)
    go true is rest =
        let same : first ≡ command = cc (rw is at e) in
        subst (λ (x : Pending). others x.id (first ∷ commands) ≡ filter (λ other. not (is_command t q other)) (first ∷ commands)) same
        (rw (is, eq-eqb first.id first.id refl)
        (filter_as (λ other. not (has_id first.id other)) (λ other. not (is_command t q other)) commands
        (all_map (IsApart first) (λ other. not (has_id first.id other) ≡ not (is_command t q other)) commands
        (λ other nay. ap not (nay.0 ∙ sym (one_false true true t q first other is nay.1))) apart.0)))
    go false is rest =
        let there : find (is_command t q) commands ≡ Some command = rw is at e in
        let own = (all_found (IsApart first) (is_command t q) commands command apart.0 there).0.0 in
        let miss : has_id command.id first ≡ false = turned first.id command.id ∙ own in
        rw (is, miss) (ap (λ cs. first ∷ cs) (rest there))

-- none is found: it is none of them
pub none_found : (t q : ℕ) (commands : List Pending) → find (is_command t q) commands ≡ None → filter (λ other. not (is_command t q other)) commands ≡ commands
none_found t q [] e = refl
none_found t q (first ∷ commands) e = go (is_command t q first) refl (none_found t q commands)
  where
    go : (b : Bool) → is_command t q first ≡ b → (find (is_command t q) commands ≡ None → filter (λ other. not (is_command t q other)) commands ≡ commands) → filter (λ other. not (is_command t q other)) (first ∷ commands) ≡ first ∷ commands
    go true is rest = absurd (cc (rw is at e))
    go false is rest = rw is (ap (λ cs. first ∷ cs) (rest (rw is at e)))

-- a command that isn't a subscribe goes: the subscribes stay
pub subscribes_stay : (t q : ℕ) (commands : List Pending) (command : Pending) → AreApart commands → find (is_command t q) commands ≡ Some command → is_subscribe command.request ≡ false
    → subscribes_in (filter (λ other. not (is_command t q other)) commands) ≡ subscribes_in commands
subscribes_stay t q [] command apart e nay = refl
subscribes_stay t q (first ∷ commands) command apart e nay = go (is_command t q first) refl (λ there. subscribes_stay t q commands command apart.1 there nay)
  where
    go : (b : Bool) → is_command t q first ≡ b → (find (is_command t q) commands ≡ Some command → subscribes_in (filter (λ other. not (is_command t q other)) commands) ≡ subscribes_in commands) → subscribes_in (filter (λ other. not (is_command t q other)) (first ∷ commands)) ≡ subscribes_in (first ∷ commands)
    go true is rest =
        let same : first ≡ command = cc (rw is at e) in
        let not_one : is_subscribe first.request ≡ false = ap (λ (x : Pending). is_subscribe x.request) same ∙ nay in
        rw (is, not_one) (ap subscribes_in (filter_all (λ other. not (is_command t q other)) commands
        (all_map (IsApart first) (λ other. not (is_command t q other) ≡ true) commands (λ other h. ap not (one_false true true t q first other is h.1)) apart.0)))
    go false is rest = rw is (ap (λ cs. cond (is_subscribe first.request) (first ∷ cs) cs) (rest (rw is at e)))

-- ---- Effects that are quiet

abbrev pub is_granted : Outcome → Bool
is_granted o.Done = false
is_granted (o.Granted codes) = true
is_granted o.NoRoom = false
is_granted o.NoRoute = false
is_granted o.NotConnected = false
is_granted o.LinkLost = false
is_granted o.SessionLost = false
is_granted o.Cancelled = false
is_granted o.NoMemory = false

-- This outcome of such a request grants nothing and drops nothing.
abbrev pub IsQuiet : Request → Outcome → Type 0
IsQuiet request outcome = (is_granted outcome ≡ false) × (is_unsubscribe request ≡ true → is_done outcome ≡ false)

abbrev pub QuietBy : List Pending → Effect → Type 0
QuietBy commands (f.Send packet) = Unit {0}
QuietBy commands (f.Done t q outcome) = AllByRecursion (λ (command : Pending). is_command t q command ≡ true → IsQuiet command.request outcome) commands
QuietBy commands (f.Pass task message) = Unit {0}
QuietBy commands (f.Closed task) = Unit {0}

abbrev pub AreQuiet : List Pending → List Effect → Type 0
AreQuiet commands effects = AllByRecursion (QuietBy commands) effects

still_quiet : (p : Pending → Bool) (commands : List Pending) (effect : Effect) → QuietBy commands effect → QuietBy (filter p commands) effect
still_quiet p commands (f.Send packet) quiet = tt
still_quiet p commands (f.Done t q outcome) quiet = all_filter (λ (command : Pending). is_command t q command ≡ true → IsQuiet command.request outcome) p commands quiet
still_quiet p commands (f.Pass task message) quiet = tt
still_quiet p commands (f.Closed task) quiet = tt

-- ---- One effect

-- a completed subscribe is lost
pub is_lost : (id : ℕ) (outcome : Outcome) (k : Routing) → is_granted outcome ≡ false → subscribe_ended id outcome k ≡ lost id k
is_lost id o.Done k nay = refl
is_lost id (o.Granted codes) k nay = absurd (cc nay)
is_lost id o.NoRoom k nay = refl
is_lost id o.NoRoute k nay = refl
is_lost id o.NotConnected k nay = refl
is_lost id o.LinkLost k nay = refl
is_lost id o.SessionLost k nay = refl
is_lost id o.Cancelled k nay = refl
is_lost id o.NoMemory k nay = refl

-- what one completion does to the routing: it loses the subscribe, where it is one
abbrev lost_if : Bool → ℕ → Routing → Routing
lost_if b id k = if b then lost id k else k

quiet_ends : (command : Pending) (request : Request) (outcome : Outcome) (k : Routing) → IsQuiet request outcome → routing_ended command request outcome k ≡ lost_if (is_subscribe request) command.id k
quiet_ends command (requests.Publish qos topic payload) outcome k quiet = refl
quiet_ends command (requests.Subscribe asks) outcome k quiet = is_lost command.id outcome k quiet.0
quiet_ends command (requests.Unsubscribe filters) outcome k quiet = let nay : is_done outcome ≡ false = quiet.1 refl in rw nay refl
quiet_ends command requests.Ping outcome k quiet = refl
quiet_ends command requests.Disconnect outcome k quiet = refl
quiet_ends command requests.Terminate outcome k quiet = refl
quiet_ends command requests.Leave outcome k quiet = refl

abbrev pub Named : (Asked → Pending → Type 0) → Type 0
Named P = (a : Asked) (command : Pending) → P a command → a.id ≡ command.id

-- What stays as it was behind these effects, and what goes.
pub record EndsAs (P : Asked → Pending → Type 0) (gone : Pending → Bool) (b now : Books) : Type 0 where
  pub pending : now.pending ≡ filter (λ command. not (gone command)) b.pending
  pub granted : now.routing.granted ≡ b.routing.granted
  pub renewals : now.routing.renewals ≡ b.routing.renewals
  pub asked : Matched P now.routing.asked (subscribes_in now.pending)

ends_one : (P : Asked → Pending → Type 0) (b : Books) (t q : ℕ) (outcome : Outcome) (found : Option Pending) → Named P → AreApart b.pending → QuietBy b.pending (f.Done t q outcome)
    → Matched P b.routing.asked (subscribes_in b.pending) → find (is_command t q) b.pending ≡ found → EndsAs P (is_command t q) b (ended_with outcome b found)
ends_one P b t q outcome None named apart quiet m e = record {
  pending = sym (none_found t q b.pending e);
  granted = refl;
  renewals = refl;
  asked = m;
}
ends_one P b t q outcome (Some command) named apart quiet m e =
    let own = all_found (λ (other : Pending). is_command t q other ≡ true → IsQuiet other.request outcome) (is_command t q) b.pending command quiet e in
    let is : routing_ended command command.request outcome b.routing ≡ lost_if (is_subscribe command.request) command.id b.routing = quiet_ends command command.request outcome b.routing (own.0 own.1) in
    let rest : others command.id b.pending ≡ filter (λ other. not (is_command t q other)) b.pending = others_found t q b.pending command apart e in
    record {
      pending = rest;
      granted = ap (λ (k : Routing). k.granted) is ∙ kept_granted (is_subscribe command.request);
      renewals = ap (λ (k : Routing). k.renewals) is ∙ kept_renewals (is_subscribe command.request);
      asked = subst (λ (k : Routing). Matched P k.asked (subscribes_in (others command.id b.pending))) (sym is) (go (is_subscribe command.request) refl);
    }
  where
    kept_granted : (x : Bool) → (lost_if x command.id b.routing).granted ≡ b.routing.granted
    kept_granted true = refl
    kept_granted false = refl

    kept_renewals : (x : Bool) → (lost_if x command.id b.routing).renewals ≡ b.routing.renewals
    kept_renewals true = refl
    kept_renewals false = refl

    go : (x : Bool) → is_subscribe command.request ≡ x → Matched P (lost_if x command.id b.routing).asked (subscribes_in (others command.id b.pending))
    go true is =
        subst (λ (cs : List Pending). Matched P (filter (λ a. not (routing.has_id command.id a)) b.routing.asked) cs)
        (filter_swapped (λ other. not (has_id command.id other)) (λ other. is_subscribe other.request) b.pending)
        (matched_filter P (λ a. not (routing.has_id command.id a)) (λ other. not (has_id command.id other)) b.routing.asked (subscribes_in b.pending)
        (λ a other p. ap (λ n. not (n == command.id)) (named a other p)) m)
    go false is =
        subst (λ (cs : List Pending). Matched P b.routing.asked cs)
        (sym (ap subscribes_in (others_found t q b.pending command apart e) ∙ subscribes_stay t q b.pending command apart e is)) m

-- ---- All effects

pub as_completes : (t q : ℕ) (outcome : Outcome) (command : Pending) → is_command t q command ≡ completes command.task command.seq (f.Done t q outcome)
as_completes t q outcome command = ap (λ x. x && command.seq == q) (turned command.task t) ∙ ap (λ x. t == command.task && x) (turned command.seq q)

abbrev completed_by : Effect → Pending → Bool
completed_by effect command = completes command.task command.seq effect

abbrev pub completed_in : List Effect → Pending → Bool
completed_in effects command = list_any (completes command.task command.seq) effects

nothing_goes : (commands : List Pending) → commands ≡ filter (λ command. true) commands
nothing_goes commands = sym (filter_all (λ command. true) commands (all_true commands))
  where
    all_true : (cs : List Pending) → AllByRecursion (λ (c : Pending). true ≡ true) cs
    all_true [] = tt
    all_true (c ∷ cs) = (refl, all_true cs)

ends_effect : (P : Asked → Pending → Type 0) (b : Books) (effect : Effect) → Named P → AreApart b.pending → QuietBy b.pending effect
    → Matched P b.routing.asked (subscribes_in b.pending) → EndsAs P (completed_by effect) b (ended b effect)
ends_effect P b (f.Send packet) named apart quiet m = record { pending = nothing_goes b.pending; granted = refl; renewals = refl; asked = m }
ends_effect P b (f.Done t q outcome) named apart quiet m =
    let one = ends_one P b t q outcome (find (is_command t q) b.pending) named apart quiet m refl in
    record {
      pending = one.pending ∙ filter_as (λ command. not (is_command t q command)) (λ command. not (completes command.task command.seq (f.Done t q outcome))) b.pending (same b.pending);
      granted = one.granted;
      renewals = one.renewals;
      asked = one.asked;
    }
  where
    same : (cs : List Pending) → AllByRecursion (λ (c : Pending). not (is_command t q c) ≡ not (completes c.task c.seq (f.Done t q outcome))) cs
    same [] = tt
    same (c ∷ cs) = (ap not (as_completes t q outcome c), same cs)
ends_effect P b (f.Pass task message) named apart quiet m = record { pending = nothing_goes b.pending; granted = refl; renewals = refl; asked = m }
ends_effect P b (f.Closed task) named apart quiet m = record { pending = nothing_goes b.pending; granted = refl; renewals = refl; asked = m }

neither : (a b : Bool) → (not a && not b) ≡ not (a || b)
neither true b = refl
neither false b = refl

pub ends_all : (P : Asked → Pending → Type 0) (b : Books) (effects : List Effect) → Named P → AreApart b.pending → AreQuiet b.pending effects
    → Matched P b.routing.asked (subscribes_in b.pending) → EndsAs P (completed_in effects) b (all_ended b effects)
ends_all P b [] named apart quiet m = record { pending = nothing_goes b.pending; granted = refl; renewals = refl; asked = m }
ends_all P b (effect ∷ effects) named apart quiet m =
    let one = ends_effect P b effect named apart quiet.0 m in
    let stays : Pending → Bool = λ command. not (completed_by effect command) in
    let rest_apart : AreApart (ended b effect).pending = subst AreApart (sym one.pending) (apart_filter stays b.pending apart) in
    let rest_quiet : AreQuiet (ended b effect).pending effects =
    subst (λ (cs : List Pending). AreQuiet cs effects) (sym one.pending) (all_map (QuietBy b.pending) (QuietBy (filter stays b.pending)) effects (λ e quiet_e. still_quiet stays b.pending e quiet_e) quiet.1) in
    let rest = ends_all P (ended b effect) effects named rest_apart rest_quiet one.asked in
    record {
      pending = rest.pending ∙ ap (filter (λ command. not (completed_in effects command))) one.pending
          ∙ filter_twice (λ command. not (completed_in effects command)) stays b.pending
          ∙ filter_as (λ command. stays command && not (completed_in effects command)) (λ command. not (completed_in (effect ∷ effects) command)) b.pending (same b.pending);
      granted = rest.granted ∙ one.granted;
      renewals = rest.renewals ∙ one.renewals;
      asked = rest.asked;
    }
  where
    same : (cs : List Pending) → AllByRecursion (λ (c : Pending). (not (completed_by effect c) && not (completed_in effects c)) ≡ not (completed_in (effect ∷ effects) c)) cs
    same [] = tt
    same (c ∷ cs) = (neither (completed_by effect c) (completed_in effects c), same cs)

-- Of legal pasts: open commands and grants were taken, no two have one number, and they stand in the order of their Takes.
use Rattle.std.proofs.Common.{◌≡◌, ℕ, ◌+◌, ◌<◌, Bool, true, false, cond, not, List, [], ◌∷◌, ◌++◌, map, Option, Some, None, is_some, refl, ap, sym, ◌∙◌, subst, arith}
use Rattle.std.specs.Prelude.{◌&&◌, ◌||◌, ◌==◌, filter, nat_lt, if◌then◌else◌}
use Rattle.std.specs.List.{AllByRecursion}
use Rattle.std.proofs.lemmas.Bool.{eqb-true, eq-eqb}
use Rattle.mqtt_packet.specs.declared.qos.Qos.{Qos}
use Rattle.agent_journal.specs.declared.request.Request.{Request}
use Rattle.agent_journal.specs.declared.effect.Effect.{Effect}
use Rattle.agent_journal.specs.declared.entry.Cause.{Cause}
use Rattle.agent_journal.specs.declared.entry.Cause.TheVariants as c
use Rattle.agent_journal.specs.declared.entry.Entry.{Entry}
use Rattle.agent_journal.specs.declared.setup.Setup.{Setup}
use Rattle.agent_journal.specs.Readings.{Pending, pending_of, opens, opened_by, sent_id, stays_open, takes_of, takes_behind, has_left, sent_filters}
use Rattle.agent_journal.specs.Requests.{is_valid}
use Rattle.std.proofs.lemmas.Bool.{and_parts}
use Rattle.agent_table.specs.Histories.{IsLegalPast, readings, row, effects_of}
use Rattle.agent_table.specs.Filters.{is_one_of}
use Rattle.agent_table.specs.Readings.{Readings}
use Rattle.agent_table.specs.Routes.{Grant, grants_of, grants, asked_in, asked_by, asks_in, last_asked, or_earlier, granted_to}
use Rattle.agent_table.specs.Rows.{Row, when}
use Rattle.agent_table.specs.Sizes.{Sizes}
use Rattle.agent_table.specs.Table.{row_of}
use Rattle.agent_table.specs.Takes.{take_row, may_take}
use Rattle.agent_table.proofs.Once.{has_row}
use Rattle.pending_acks.specs.Commands.{is_command}
use Rattle.agent_core.specs.Routed.{grant}
use Rattle.agent_core.proofs.RoutedEnds.{turned}
use Rattle.agent_core.proofs.RoutedLists.{all_filter, all_append, all_map, all_over}

some_when : (b : Bool) (row : Option Row) → is_some (when b row) ≡ true → (b ≡ true) × (is_some row ≡ true)
some_when true row some = (refl, some)
some_when false row some = absurd (cc some)

stays_off : (b : Bool) → not b ≡ true → b ≡ false
stays_off true e = absurd (cc e)
stays_off false e = refl

-- A Take's number is the count of its task's Takes, and the task hasn't left.
taken_next : (s : Setup) (l : Sizes) (r : Readings) (at task seq : ℕ) (request : Request) → is_some (row_of s l r at (c.Take task seq request)) ≡ true → (seq ≡ r.takes task) × (r.left task ≡ false)
unfolding row_of take_row may_take
taken_next s l r at task seq request some =
    let may = (some_when (nat_lt task s.tasks && not (r.left task) && (seq == r.takes task) && is_valid request) _ (some_when _ _ some).1).0 in
    let two = (and_parts (nat_lt task s.tasks && not (r.left task) && (seq == r.takes task)) (is_valid request) may).0 in
    let parts = and_parts (nat_lt task s.tasks && not (r.left task)) (seq == r.takes task) two in
    (eqb-true seq (r.takes task) parts.1, stays_off (r.left task) (and_parts (nat_lt task s.tasks) (not (r.left task)) parts.0).1)

-- what a cause says of its Take, if it is one
abbrev pub IsNext : List Entry → Cause → Type 0
IsNext past c.Opened = Unit {0}
IsNext past (c.Take task seq request) = (seq ≡ takes_of task past) × (has_left task past ≡ false)
IsNext past (c.Arrived packet) = Unit {0}
IsNext past (c.Broke why) = Unit {0}
IsNext past c.Tick = Unit {0}
IsNext past c.GaveUp = Unit {0}
IsNext past c.Finish = Unit {0}

pub is_next : (s : Setup) (l : Sizes) (past : List Entry) (at : ℕ) (cause : Cause) (effects : List Effect) → effects_of (row s l past at cause) ≡ Some effects → IsNext past cause
is_next s l past at c.Opened effects e = tt
is_next s l past at (c.Take task seq request) effects e = taken_next s l (readings s l past) at task seq request (has_row (row s l past at (c.Take task seq request)) effects e)
is_next s l past at (c.Arrived packet) effects e = tt
is_next s l past at (c.Broke why) effects e = tt
is_next s l past at c.Tick effects e = tt
is_next s l past at c.GaveUp effects e = tt
is_next s l past at c.Finish effects e = tt

-- ---- What was taken

abbrev pub WasTaken : List Entry → ℕ → ℕ → Type 0
WasTaken past task seq = seq < takes_of task past

still_taken : (e : Entry) (past : List Entry) (task seq : ℕ) → WasTaken past task seq → WasTaken (e ∷ past) task seq
still_taken e past task seq before = go e.cause
  where
    more : (b : Bool) (n : ℕ) → seq < n → seq < (if b then n + 1 else n)
    more true n h = omega (arith, h)
    more false n h = h

    go : (cause : Cause) → seq < takes_behind task cause (takes_of task past)
    go c.Opened = before
    go (c.Take t q request) = more (task == t) (takes_of task past) before
    go (c.Arrived packet) = before
    go (c.Broke why) = before
    go c.Tick = before
    go c.GaveUp = before
    go c.Finish = before

abbrev pub AreTaken : List Entry → List Pending → Type 0
AreTaken past commands = AllByRecursion (λ (command : Pending). WasTaken past command.task command.seq) commands

-- what is opened was taken now
open_taken : (e : Entry) (past : List Entry) → IsNext past e.cause → AreTaken (e ∷ past) (opens e.cause e.effects)
open_taken e past next = go e.cause next
  where
    one : (task seq : ℕ) (request : Request) (names : List (List ℕ)) (id : Option ℕ) (now : ℕ) → seq < now → AllByRecursion (λ (command : Pending). command.task ≡ task → command.seq < now) (opened_by task seq request names id)
    one task seq request names None now h = tt
    one task seq request names (Some id) now h = (λ e. h, tt)

    opened : (task seq : ℕ) (request : Request) (names : List (List ℕ)) (id : Option ℕ) → seq < takes_behind task (c.Take task seq request) (takes_of task past)
        → AllByRecursion (λ (command : Pending). command.seq < takes_behind command.task (c.Take task seq request) (takes_of command.task past)) (opened_by task seq request names id)
    opened task seq request names None h = tt
    opened task seq request names (Some id) h = (h, tt)

    now : (task seq : ℕ) (request : Request) → seq ≡ takes_of task past → seq < takes_behind task (c.Take task seq request) (takes_of task past)
    now task seq request is = rw (eq-eqb task task refl) (omega (arith, is))

    go : (cause : Cause) → IsNext past cause → AllByRecursion (λ (command : Pending). command.seq < takes_behind command.task cause (takes_of command.task past)) (opens cause e.effects)
    go c.Opened next = tt
    go (c.Take task seq request) next = opened task seq request (sent_filters e.effects) (sent_id e.effects) (now task seq request next.0)
    go (c.Arrived packet) next = tt
    go (c.Broke why) next = tt
    go c.Tick next = tt
    go c.GaveUp next = tt
    go c.Finish next = tt

pub are_taken : (s : Setup) (l : Sizes) (past : List Entry) → IsLegalPast s l past → AreTaken past (pending_of past)
are_taken s l [] legal = tt
are_taken s l (e ∷ past) legal =
    all_filter (λ (command : Pending). WasTaken (e ∷ past) command.task command.seq) (stays_open e.effects) (pending_of past ++ opens e.cause e.effects)
    (all_append (λ (command : Pending). WasTaken (e ∷ past) command.task command.seq) (pending_of past) (opens e.cause e.effects)
    (all_map (λ (command : Pending). WasTaken past command.task command.seq) (λ (command : Pending). WasTaken (e ∷ past) command.task command.seq) (pending_of past) (λ command h. still_taken e past command.task command.seq h) (are_taken s l past legal.1))
    (open_taken e past (is_next s l past e.at e.cause e.effects legal.0)))

abbrev pub GrantsTaken : List Entry → List Grant → Type 0
GrantsTaken past all = AllByRecursion (λ (g : Grant). WasTaken past g.task g.seq) all

pub grants_taken : (s : Setup) (l : Sizes) (past : List Entry) → IsLegalPast s l past → GrantsTaken past (grants_of past)
grants_taken s l [] legal = tt
grants_taken s l (e ∷ past) legal =
    all_append (λ (g : Grant). WasTaken (e ∷ past) g.task g.seq) (grants_of past) (map (λ (command : Pending). record { task = command.task; seq = command.seq; topics = granted_to e.effects command }) (pending_of past))
    (all_map (λ (g : Grant). WasTaken past g.task g.seq) (λ (g : Grant). WasTaken (e ∷ past) g.task g.seq) (grants_of past) (λ g h. still_taken e past g.task g.seq h) (grants_taken s l past legal.1))
    (all_over (λ (command : Pending). WasTaken past command.task command.seq) (λ (g : Grant). WasTaken (e ∷ past) g.task g.seq) (λ (command : Pending). record { task = command.task; seq = command.seq; topics = granted_to e.effects command }) (pending_of past)
    (λ command h. still_taken e past command.task command.seq h) (are_taken s l past legal.1))

-- ---- The next number is new

pub new_number : (past : List Entry) (task seq t q : ℕ) → seq ≡ takes_of task past → WasTaken past t q → (t == task && q == seq) ≡ false
new_number past task seq t q is taken = go (t == task) (q == seq) refl refl
  where
    clash : t ≡ task → q ≡ seq → ⊥
    clash same number = let h : q < takes_of task past = subst (λ u. q < takes_of u past) same taken in omega (arith, h, is, number)

    go : (a b : Bool) → (t == task) ≡ a → (q == seq) ≡ b → (a && b) ≡ false
    go true true a b = absurd (clash (eqb-true t task a) (eqb-true q seq b))
    go true false a b = refl
    go false b a e = refl

-- nothing was granted to what is taken only now
pub not_granted : (past : List Entry) (task seq : ℕ) (topics : List ℕ) (all : List Grant) → seq ≡ takes_of task past → GrantsTaken past all → grants all task seq topics ≡ false
not_granted past task seq topics [] is taken = refl
not_granted past task seq topics (g ∷ all) is taken = rw (new_number past task seq g.task g.seq is taken.0) (not_granted past task seq topics all is taken.1)

-- ---- No two have one number

abbrev pub AreNumbered : List Pending → Type 0
AreNumbered [] = Unit {0}
AreNumbered (command ∷ commands) = AllByRecursion (λ (other : Pending). is_command command.task command.seq other ≡ false) commands × AreNumbered commands

numbered_filter : (p : Pending → Bool) (commands : List Pending) → AreNumbered commands → AreNumbered (filter p commands)
numbered_filter p [] apart = tt
numbered_filter p (command ∷ commands) apart = go (p command) (numbered_filter p commands apart.1)
  where
    go : (b : Bool) → AreNumbered (filter p commands) → AreNumbered (cond b (command ∷ filter p commands) (filter p commands))
    go true rest = (all_filter (λ (other : Pending). is_command command.task command.seq other ≡ false) p commands apart.0, rest)
    go false rest = rest

pub numbered_behind : (past : List Entry) (commands : List Pending) (cause : Cause) (effects : List Effect) → IsNext past cause → AreTaken past commands → AreNumbered commands → AreNumbered (commands ++ opens cause effects)
numbered_behind past [] cause effects next taken apart = alone cause
  where
    one : (task seq : ℕ) (request : Request) (names : List (List ℕ)) (id : Option ℕ) → AreNumbered (opened_by task seq request names id)
    one task seq request names None = tt
    one task seq request names (Some id) = (tt, tt)

    alone : (cause : Cause) → AreNumbered (opens cause effects)
    alone c.Opened = tt
    alone (c.Take task seq request) = one task seq request (sent_filters effects) (sent_id effects)
    alone (c.Arrived packet) = tt
    alone (c.Broke why) = tt
    alone c.Tick = tt
    alone c.GaveUp = tt
    alone c.Finish = tt
numbered_behind past (command ∷ commands) cause effects next taken apart =
    (all_append (λ (other : Pending). is_command command.task command.seq other ≡ false) commands (opens cause effects) apart.0 (fresh cause next), numbered_behind past commands cause effects next taken.1 apart.1)
  where
    one : (task seq : ℕ) (request : Request) (names : List (List ℕ)) (id : Option ℕ) → (command.task == task && command.seq == seq) ≡ false → AllByRecursion (λ (other : Pending). is_command command.task command.seq other ≡ false) (opened_by task seq request names id)
    one task seq request names None h = tt
    one task seq request names (Some id) h = (ap (λ b. b && seq == command.seq) (turned task command.task) ∙ ap (λ b. command.task == task && b) (turned seq command.seq) ∙ h, tt)

    fresh : (cause : Cause) → IsNext past cause → AllByRecursion (λ (other : Pending). is_command command.task command.seq other ≡ false) (opens cause effects)
    fresh c.Opened n = tt
    fresh (c.Take task seq request) n = one task seq request (sent_filters effects) (sent_id effects) (new_number past task seq command.task command.seq n.0 taken.0)
    fresh (c.Arrived packet) n = tt
    fresh (c.Broke why) n = tt
    fresh c.Tick n = tt
    fresh c.GaveUp n = tt
    fresh c.Finish n = tt

pub are_numbered : (s : Setup) (l : Sizes) (past : List Entry) → IsLegalPast s l past → AreNumbered (pending_of past)
are_numbered s l [] legal = tt
are_numbered s l (e ∷ past) legal =
    numbered_filter (stays_open e.effects) (pending_of past ++ opens e.cause e.effects)
    (numbered_behind past (pending_of past) e.cause e.effects (is_next s l past e.at e.cause e.effects legal.0) (are_taken s l past legal.1) (are_numbered s l past legal.1))

-- ---- The order of Takes

-- Where the later one was granted a filter, it doesn't matter whether the earlier one was.
abbrev pub IsBefore : List Entry → Pending → Pending → Type 0
IsBefore past earlier later =
    (topics : List ℕ) (all : List Grant) (qos : Qos) → grants all later.task later.seq topics ≡ true → last_asked (asks_in later.request) topics ≡ Some qos
    → asked_in (grant earlier topics ∷ all) topics past ≡ asked_in all topics past

abbrev pub AreOrdered : List Entry → List Pending → Type 0
AreOrdered past [] = Unit {0}
AreOrdered past (command ∷ commands) = AllByRecursion (IsBefore past command) commands × AreOrdered past commands

pub ordered_filter : (past : List Entry) (p : Pending → Bool) (commands : List Pending) → AreOrdered past commands → AreOrdered past (filter p commands)
ordered_filter past p [] order = tt
ordered_filter past p (command ∷ commands) order = go (p command) (ordered_filter past p commands order.1)
  where
    go : (b : Bool) → AreOrdered past (filter p commands) → AreOrdered past (cond b (command ∷ filter p commands) (filter p commands))
    go true rest = (all_filter (IsBefore past command) p commands order.0, rest)
    go false rest = rest

or_true : (b : Bool) → (b || true) ≡ true
or_true true = refl
or_true false = refl

still_before : (e : Entry) (past : List Entry) (earlier later : Pending) → IsNext past e.cause → WasTaken past earlier.task earlier.seq → IsBefore past earlier later → IsBefore (e ∷ past) earlier later
still_before e past earlier later next taken before topics all qos granted asks =
    ap (λ q. or_earlier q (asked_in (grant earlier topics ∷ all) topics past)) (go e.cause next) ∙ ap (or_earlier (asked_by all topics e.cause)) (before topics all qos granted asks)
  where
    go : (cause : Cause) → IsNext past cause → asked_by (grant earlier topics ∷ all) topics cause ≡ asked_by all topics cause
    go c.Opened n = refl
    go (c.Take task seq request) n = rw (new_number past task seq earlier.task earlier.seq n.0 taken) refl
    go (c.Arrived packet) n = refl
    go (c.Broke why) n = refl
    go c.Tick n = refl
    go c.GaveUp n = refl
    go c.Finish n = refl

-- all before what is opened now
before_new : (e : Entry) (past : List Entry) (earlier : Pending) → AllByRecursion (IsBefore (e ∷ past) earlier) (opens e.cause e.effects)
before_new e past earlier = go e.cause
  where
    decided : (task seq : ℕ) (request : Request) (topics : List ℕ) (all : List Grant) (qos : Qos) → grants all task seq topics ≡ true → last_asked (asks_in request) topics ≡ Some qos
        → (rest : Qos) → or_earlier (asked_by all topics (c.Take task seq request)) rest ≡ qos
    decided task seq request topics all qos granted asks rest = rw (granted, asks) refl

    one : (task seq : ℕ) (request : Request) (names : List (List ℕ)) (id : Option ℕ)
        → AllByRecursion (λ (later : Pending). (topics : List ℕ) (all : List Grant) (qos : Qos) → grants all later.task later.seq topics ≡ true → last_asked (asks_in later.request) topics ≡ Some qos
        → or_earlier (asked_by (grant earlier topics ∷ all) topics (c.Take task seq request)) (asked_in (grant earlier topics ∷ all) topics past) ≡ or_earlier (asked_by all topics (c.Take task seq request)) (asked_in all topics past)) (opened_by task seq request names id)
    one task seq request names None = tt
    one task seq request names (Some id) = (
      λ topics all qos granted asks.
          decided task seq request topics (grant earlier topics ∷ all) qos (ap (λ b. ((earlier.task == task && earlier.seq == seq) && is_one_of (topics ∷ []) topics) || b) granted ∙ or_true ((earlier.task == task && earlier.seq == seq) && is_one_of (topics ∷ []) topics)) asks (asked_in (grant earlier topics ∷ all) topics past)
          ∙ sym (decided task seq request topics all qos granted asks (asked_in all topics past)),
      tt,
    )

    go : (cause : Cause)
        → AllByRecursion (λ (later : Pending). (topics : List ℕ) (all : List Grant) (qos : Qos) → grants all later.task later.seq topics ≡ true → last_asked (asks_in later.request) topics ≡ Some qos
        → or_earlier (asked_by (grant earlier topics ∷ all) topics cause) (asked_in (grant earlier topics ∷ all) topics past) ≡ or_earlier (asked_by all topics cause) (asked_in all topics past)) (opens cause e.effects)
    go c.Opened = tt
    go (c.Take task seq request) = one task seq request (sent_filters e.effects) (sent_id e.effects)
    go (c.Arrived packet) = tt
    go (c.Broke why) = tt
    go c.Tick = tt
    go c.GaveUp = tt
    go c.Finish = tt

ordered_behind : (e : Entry) (past : List Entry) (commands : List Pending) → IsNext past e.cause → AreTaken past commands → AreOrdered past commands → AreOrdered (e ∷ past) (commands ++ opens e.cause e.effects)
ordered_behind e past [] next taken order = go e.cause
  where
    one : (task seq : ℕ) (request : Request) (names : List (List ℕ)) (id : Option ℕ) → AreOrdered (e ∷ past) (opened_by task seq request names id)
    one task seq request names None = tt
    one task seq request names (Some id) = (tt, tt)

    go : (cause : Cause) → AreOrdered (e ∷ past) (opens cause e.effects)
    go c.Opened = tt
    go (c.Take task seq request) = one task seq request (sent_filters e.effects) (sent_id e.effects)
    go (c.Arrived packet) = tt
    go (c.Broke why) = tt
    go c.Tick = tt
    go c.GaveUp = tt
    go c.Finish = tt
ordered_behind e past (command ∷ commands) next taken order = (
  all_append (IsBefore (e ∷ past) command) commands (opens e.cause e.effects)
      (all_map (IsBefore past command) (IsBefore (e ∷ past) command) commands (λ later h. still_before e past command later next taken.0 h) order.0) (before_new e past command),
  ordered_behind e past commands next taken.1 order.1,
)

pub are_ordered : (s : Setup) (l : Sizes) (past : List Entry) → IsLegalPast s l past → AreOrdered past (pending_of past)
are_ordered s l [] legal = tt
are_ordered s l (e ∷ past) legal =
    ordered_filter (e ∷ past) (stays_open e.effects) (pending_of past ++ opens e.cause e.effects)
    (ordered_behind e past (pending_of past) (is_next s l past e.at e.cause e.effects legal.0) (are_taken s l past legal.1) (are_ordered s l past legal.1))

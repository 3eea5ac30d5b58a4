-- What is kept stands for a journal: at first, and behind each entry.
use Rattle.std.proofs.Common.{◌≡◌, ◌≢◌, ◌<◌, ℕ, Bool, true, false, List, [], ◌∷◌, ◌++◌, length, replicate, Option, Some, None, is_some, ◌+◌, inl, inr, refl, ap, sym, ◌∙◌, subst, arith}
use Rattle.std.specs.Prelude.{slice_index_or, slice_get, get_or}
use Rattle.std.specs.List.{list_any}
use Rattle.std.proofs.lemmas.Bool.{eq-eqb, cases_lt}
use Rattle.std.proofs.lemmas.List.{append-nil, get_or-replicate, get_or_past, length-replicate}
use Rattle.std.proofs.lemmas.List.Folds.{list_any_at}
use Rattle.std.proofs.lemmas.List.Quantifiers.{all_pairs_push}
use Rattle.mqtt_packet.specs.declared.will.Ask.{Ask}
use Rattle.agent_journal.specs.declared.effect.Effect.{Effect}
use Rattle.agent_journal.specs.declared.entry.Cause.{Cause}
use Rattle.agent_journal.specs.declared.entry.Cause.TheVariants as c
use Rattle.agent_journal.specs.declared.entry.Entry.{Entry}
use Rattle.agent_journal.specs.declared.request.Request.{Request}
use Rattle.agent_journal.specs.declared.setup.Phase.{Phase}
use Rattle.agent_journal.specs.declared.setup.Phase.TheVariants.{Down, Opening, Up, Spilled, Off}
use Rattle.agent_journal.specs.declared.setup.Setup.{Setup}
use Rattle.agent_journal.specs.Readings.{Pending, opens, opened_by, sent_id, accepted_of, pending_of, takes_of, has_left, sent_filters}
use Rattle.agent_table.specs.Histories.{IsLegalPast, phase_of, phase_by, readings, row, effects_of, due_by, due_causes}
use Rattle.agent_table.specs.Readings.{Readings, unless_off}
use Rattle.agent_table.specs.Routes.{Route, while_opening, renewals_of, routes_of, renewable_of, unsure_of}
use Rattle.agent_table.specs.Rows.{Row}
use Rattle.agent_table.specs.Sizes.{Sizes}
use Rattle.agent_table.specs.Table.{row_of, cause_row}
use Rattle.pending_acks.specs.Commands.{Differ, has_id}
use Rattle.subscriptions.specs.Routing.{routes, renewable}
use Rattle.agent_core.specs.After.{after}
use Rattle.agent_core.specs.Kept.{Kept, readings_in, row_now, beginning, most_accepted}
use Rattle.agent_core.specs.Laws.{IsSound, StandsAtFirst, RowsAreSame, StandsBehind, OnlyPublishesWait}
use Rattle.agent_core.specs.Renewing.{as_list}
use Rattle.agent_core.specs.Stands.{StandsFor}
use Rattle.agent_core.specs.Tied.{CanOpen}
use Rattle.agent_core.proofs.Closing.{apart_from}
use Rattle.agent_core.proofs.Following.{next_in}
use Rattle.agent_core.proofs.Keeping.{keeps_next, same_readings}
use Rattle.agent_core.proofs.Noting.{none_most, lost_same}
use Rattle.agent_core.proofs.Ready.{IsKept, can_open, in_range, used_few}
use Rattle.agent_core.proofs.Routed.{routed_begins, stands_on, stands_routes, stands_renewals, stands_renewable, stands_unsure}
use Rattle.agent_core.proofs.RoutedRest.{at_rest, is_closed}
use Rattle.agent_core.proofs.SameRows.{row_same, due_same}
use Rattle.agent_core.proofs.Timely.{same_in_time}

-- ---- At first

each_is : {X : Type 0} (n i : ℕ) (x : X) → slice_index_or (replicate n x) i x ≡ x
each_is n i x = elim (cases_lt i n) [
  | inl below ↦ get_or-replicate n i x x below
  | inr above ↦ get_or_past (replicate n x) i x (let size = length-replicate n x in omega (arith, size, above))
]

pub stands_at_first : StandsAtFirst
stands_at_first s l = record {
  legal = tt;
  keeps = record {
    phase = refl;
    last_time = refl;
    just_sent = refl;
    takes = λ t. each_is s.tasks t 0;
    left = λ t. each_is s.tasks t false;
    breaks = none_most (s.reopen + 2);
    accepted = none_most (most_accepted s);
    pending = refl;
    released = refl;
    held = refl;
    last_drawn = refl;
    ping = refl;
    last_sent = refl;
    off = refl;
  };
  routes = λ goes. routed_begins s;
}

-- ---- The rows

unless_same : {X : Type 0} (phase : Phase) (xs ys : List X) → (phase ≢ Off → xs ≡ ys) → unless_off phase xs ≡ unless_off phase ys
unless_same Down xs ys same = same (λ e. absurd (cc e))
unless_same Opening xs ys same = same (λ e. absurd (cc e))
unless_same Up xs ys same = same (λ e. absurd (cc e))
unless_same Spilled xs ys same = same (λ e. absurd (cc e))
unless_same Off xs ys same = refl

opening_same : (phase : Phase) (xs ys : List Ask) → (phase ≡ Opening → xs ≡ ys) → while_opening phase xs ≡ while_opening phase ys
opening_same Down xs ys same = refl
opening_same Opening xs ys same = same refl
opening_same Up xs ys same = refl
opening_same Spilled xs ys same = refl
opening_same Off xs ys same = refl

not_off : (phase : Phase) → phase ≡ Opening → phase ≢ Off
not_off phase opening off = absurd (cc (sym opening ∙ off))

-- the routes as a set
unless_any : (phase : Phase) (xs ys : List Route) (test : Route → Bool) → (phase ≢ Off → list_any test xs ≡ list_any test ys) → list_any test (unless_off phase xs) ≡ list_any test (unless_off phase ys)
unless_any Down xs ys test same = same (λ e. absurd (cc e))
unless_any Opening xs ys test same = same (λ e. absurd (cc e))
unless_any Up xs ys test same = same (λ e. absurd (cc e))
unless_any Spilled xs ys test same = same (λ e. absurd (cc e))
unless_any Off xs ys test same = refl

routes_same : (k : Kept) (past : List Entry) → StandsFor k past → (test : Route → Bool) → list_any test (readings_in k).routes ≡ list_any test (unless_off k.phase (routes_of past))
routes_same k past stands test =
    unless_any k.phase (routes k.routing) (routes_of past) test (λ goes. stands_routes k.setup past k.routing (stands.routes (λ off. goes (stands.keeps.phase ∙ off))) test)

readings_same : (k : Kept) (past : List Entry) → StandsFor k past → record (readings_in k) { routes = unless_off k.phase (routes_of past) } ≡ readings k.setup k.sizes past
readings_same k past stands =
    let is : k.phase ≡ phase_of k.setup k.sizes past = stands.keeps.phase in
    same_readings k past stands.legal stands.keeps
    (unless_same k.phase k.routing.renewals (renewals_of past) (λ goes. stands_renewals k.setup past k.routing (stands.routes (λ off. goes (is ∙ off)))))
    (opening_same k.phase (renewable true k.routing) (renewable_of past) (λ opening. stands_renewable k.setup k.sizes past k.routing stands.legal (sym is ∙ opening) (stands.routes (not_off (phase_of k.setup k.sizes past) (sym is ∙ opening)))))
    (opening_same k.phase (renewable false k.routing) (unsure_of k.setup past) (λ opening. stands_unsure k.setup k.sizes past k.routing stands.legal (sym is ∙ opening) (stands.routes (not_off (phase_of k.setup k.sizes past) (sym is ∙ opening)))))

pub rows_are_same : RowsAreSame
rows_are_same k past at cause stands =
    row_same k.setup k.sizes (readings_in k) (unless_off k.phase (routes_of past)) (routes_same k past stands) at cause ∙ ap (λ (r : Readings). row_of k.setup k.sizes r at cause) (readings_same k past stands)

-- ---- Commands differ

abbrev opened_in : ℕ → ℕ → Request → List (List ℕ) → Option ℕ → Option Pending
opened_in task seq request names None = None
opened_in task seq request names (Some id) = Some (record { id = id; task = task; seq = seq; request = request; sent_filters = names })

abbrev opened : Cause → List Effect → Option Pending
opened c.Opened effects = None
opened (c.Take task seq request) effects = opened_in task seq request (sent_filters effects) (sent_id effects)
opened (c.Arrived packet) effects = None
opened (c.Broke why) effects = None
opened c.Tick effects = None
opened c.GaveUp effects = None
opened c.Finish effects = None

opened_lists : (task seq : ℕ) (request : Request) (names : List (List ℕ)) (id : Option ℕ) → as_list (opened_in task seq request names id) ≡ opened_by task seq request names id
opened_lists task seq request names None = refl
opened_lists task seq request names (Some id) = refl

opened_is : (cause : Cause) (effects : List Effect) → as_list (opened cause effects) ≡ opens cause effects
opened_is c.Opened effects = refl
opened_is (c.Take task seq request) effects = opened_lists task seq request (sent_filters effects) (sent_id effects)
opened_is (c.Arrived packet) effects = refl
opened_is (c.Broke why) effects = refl
opened_is c.Tick effects = refl
opened_is c.GaveUp effects = refl
opened_is c.Finish effects = refl

id_differs : (commands : List Pending) (n : ℕ) → list_any (has_id n) commands ≡ false → (i : ℕ) (d : Pending) → i < length commands → (get_or commands i d).id ≢ n
id_differs commands n none i d below same = absurd (cc (sym none ∙ list_any_at (has_id n) commands i d below (eq-eqb (get_or commands i d).id n same)))

differ_more : (commands : List Pending) (one : Option Pending) (room : ℕ) → CanOpen room commands one → Differ commands → Differ (commands ++ as_list one)
differ_more commands None room can differ = subst Differ (sym (append-nil commands)) differ
differ_more commands (Some command) room can differ = all_pairs_push (λ (one other : Pending). one.id ≢ other.id) commands command differ (λ i d below. id_differs commands command.id can.1 i d below)

is_kept : (k : Kept) → IsSound k → IsKept k
is_kept k sound = record {
  takes = sound.takes;
  left = sound.left;
  drawn = sound.drawn;
  acks = sound.acks;
  routes = sound.routes;
  pending = sound.pending;
  renewals = sound.renewals;
  renewable = sound.renewable;
}

-- ---- Behind an entry

pub stands_behind : StandsBehind
stands_behind k past at cause found sound stands now =
    let entry : Entry = record { at = at; cause = cause; effects = found.effects } in
    let is : row k.setup k.sizes past at cause ≡ Some found = sym (rows_are_same k past at cause stands) ∙ now in
    let has : cause_row k.setup k.sizes (readings_in k) at cause ≡ Some found = sym (same_in_time k.setup k.sizes (readings_in k) at cause (ap is_some now)) ∙ now in
    let legal : IsLegalPast k.setup k.sizes (entry ∷ past) = (ap effects_of is, stands.legal) in
    let range = in_range k at cause found sound.takes sound.left has in
    let can = can_open k at cause found (opened cause found.effects) has (opened_is cause found.effects) sound.drawn (used_few k (is_kept k sound)) in
    let differ : Differ (k.pending ++ opens cause found.effects) =
    subst (λ (cs : List Pending). Differ (k.pending ++ cs)) (opened_is cause found.effects) (differ_more k.pending (opened cause found.effects) k.sizes.acks can sound.differ) in
    let lost = lost_same k.setup (accepted_of past) k.accepted cause stands.keeps.accepted in
    record {
      legal = legal;
      keeps = keeps_next k past at cause found stands.legal (apart_from k.pending sound.differ) sound.released range (next_in k at cause found has) has is stands.keeps;
      routes = stands_on k.setup k.sizes past entry k legal refl stands.keeps.pending differ lost stands.routes;
    }

-- ---- What the calls answer

abbrev or_nil : Option (List Effect) → List Effect
or_nil None = []
or_nil (Some effects) = effects

pub stands_new : (s : Setup) (l : Sizes) (k : Kept) → k ≡ beginning s l → StandsFor k []
stands_new s l k e = subst (λ (other : Kept). StandsFor other []) (sym e) (stands_at_first s l)

pub phase_past : (k : Kept) (phase : Phase) → phase ≡ k.phase → (past : List Entry) → StandsFor k past → phase ≡ phase_of k.setup k.sizes past
phase_past k phase e past stands = e ∙ stands.keeps.phase

pub count_past : (k : Kept) (count : ℕ) → count ≡ length k.pending → (past : List Entry) → StandsFor k past → count ≡ length (pending_of past)
count_past k count e past stands = e ∙ ap length stands.keeps.pending

pub taken_past : (k : Kept) (task count : ℕ) → count ≡ slice_index_or k.takes task 0 → (past : List Entry) → StandsFor k past → count ≡ takes_of task past
taken_past k task count e past stands = e ∙ stands.keeps.takes task

pub left_past : (k : Kept) (task : ℕ) (left : Bool) → left ≡ slice_index_or k.left task false → (past : List Entry) → StandsFor k past → left ≡ has_left task past
left_past k task left e past stands = e ∙ stands.keeps.left task

pub command_past : (k : Kept) (place : ℕ) (command : Option Pending) → command ≡ slice_get k.pending place → (past : List Entry) → StandsFor k past → command ≡ slice_get (pending_of past) place
command_past k place command e past stands = e ∙ ap (λ all. slice_get all place) stands.keeps.pending

pub may_past : (k : Kept) (at : ℕ) (cause : Cause) (may : Bool) → may ≡ is_some (row_now k at cause) → (past : List Entry) → StandsFor k past → may ≡ is_some (row k.setup k.sizes past at cause)
may_past k at cause may e past stands = e ∙ ap is_some (rows_are_same k past at cause stands)

pub due_past : (k : Kept) (now : ℕ) (cause : Option Cause) → cause ≡ due_by k.setup k.sizes (readings_in k) now → (past : List Entry) → StandsFor k past → cause ≡ due_by k.setup k.sizes (readings k.setup k.sizes past) now
due_past k now cause e past stands =
    e ∙ due_same k.setup k.sizes (readings_in k) (unless_off k.phase (routes_of past)) (routes_same k past stands) now due_causes ∙ ap (λ (r : Readings). due_by k.setup k.sizes r now) (readings_same k past stands)

pub step_past : (k next : Kept) (at : ℕ) (cause : Cause) (effects : List Effect) → IsSound k → effects_of (row_now k at cause) ≡ Some effects → next ≡ after k at cause effects (phase_by (row_now k at cause) k.phase)
    → (past : List Entry) → StandsFor k past → StandsFor next (record { at = at; cause = cause; effects = effects } ∷ past)
step_past k next at cause effects sound e is past stands = go (row_now k at cause) refl
  where
    go : (found : Option Row) → row_now k at cause ≡ found → StandsFor next (record { at = at; cause = cause; effects = effects } ∷ past)
    go None same = absurd (cc (sym e ∙ ap effects_of same))
    go (Some found) same =
        let its : effects ≡ found.effects = ap (λ (es : Option (List Effect)). or_nil es) (sym e ∙ ap effects_of same) in
        let phase : phase_by (row_now k at cause) k.phase ≡ found.phase = ap (λ (r : Option Row). phase_by r k.phase) same in
        subst (λ (other : Kept). StandsFor other (record { at = at; cause = cause; effects = effects } ∷ past)) (sym (is ∙ ap (λ (p : Phase). after k at cause effects p) phase))
        (subst (λ (es : List Effect). StandsFor (after k at cause es found.phase) (record { at = at; cause = cause; effects = es } ∷ past)) (sym its) (stands_behind k past at cause found sound stands same))

-- ---- What waits in Down

pub only_publishes_wait : OnlyPublishesWait
only_publishes_wait s l past legal down = (at_rest s l past legal (ap is_closed down)).publishes

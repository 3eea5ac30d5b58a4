-- Completions one by one leave what the journal reads: the commands that none of them completes.
use Rattle.std.proofs.Common.{◌≡◌, ◌≢◌, ℕ, ◌≤◌, Bool, true, false, not, List, [], ◌∷◌, Option, Some, None, refl, ap, sym, ◌∙◌, subst, arith, count_by}
use Rattle.std.specs.Prelude.{◌&&◌, ◌||◌, ◌==◌, filter, find, if◌then◌else◌}
use Rattle.std.specs.List.{list_any, AllByRecursion}
use Rattle.std.proofs.lemmas.Bool.Decides.{nat_tests}
use Rattle.agent_journal.specs.declared.effect.Effect.{Effect}
use Rattle.agent_journal.specs.declared.effect.Effect.TheVariants as f
use Rattle.agent_journal.specs.declared.outcome.Outcome.{Outcome}
use Rattle.agent_journal.specs.Readings.{Pending, stays_open, completes}
use Rattle.agent_table.specs.Deliveries.{is_open_publish, is_exactly_once}
use Rattle.std.proofs.lemmas.Bool.{eqb-true}
use Rattle.subscriptions.specs.Routing.{Routing}
use Rattle.agent_table.proofs.Counts.{count_more}
use Rattle.agent_core.specs.Completions.{books, ended_with, all_ended, routing_ended}
use Rattle.agent_core.proofs.Acknowledged.{tail_differs, second_skipped, other_id}
use Rattle.agent_core.proofs.Openings.{not_open}
use Rattle.agent_core.proofs.Ties.{still_open}
use Rattle.pending_acks.specs.Commands.{Differ, has_id, is_command, others}
use Rattle.qos_state.specs.Deliveries.{without}

-- no two of them have one identifier
abbrev pub IsApart : List Pending → Type 0
IsApart [] = Unit {0}
IsApart (command ∷ commands) = (list_any (has_id command.id) commands ≡ false) × IsApart commands

rest_differs : (command : Pending) (commands : List Pending) → Differ (command ∷ commands) → list_any (has_id command.id) commands ≡ false
rest_differs command [] differ = refl
rest_differs command (other ∷ commands) differ =
    let apart : command.id ≢ other.id = differ 0 1 command (omega arith) (omega arith) in
    let own : has_id command.id command ≡ true = grind (arith, nat_tests) in
    rw (other_id command other command.id own apart) (rest_differs command commands (second_skipped command other commands differ))

pub apart_from : (commands : List Pending) → Differ commands → IsApart commands
apart_from [] differ = tt
apart_from (command ∷ commands) differ = (rest_differs command commands differ, apart_from commands (tail_differs command commands differ))

-- each is the only one of its task and number
abbrev pub IsSingle : List Pending → Type 0
IsSingle commands = (t q : ℕ) → count_by (λ (command : Pending). command.task == t && command.seq == q) commands ≤ 1

-- ---- Filters

module _ {X : Type 0} where
  all_kept : (xs : List X) → filter (λ x. true) xs ≡ xs
  all_kept [] = refl
  all_kept (x ∷ xs) = ap (λ ys. x ∷ ys) (all_kept xs)

  filter_twice : (p q r : X → Bool) → ((x : X) → r x ≡ (q x && p x)) → (xs : List X) → filter p (filter q xs) ≡ filter r xs
  filter_twice p q r is [] = refl
  filter_twice p q r is (x ∷ xs) = go (q x) (p x) refl refl (filter_twice p q r is xs)
    where
      go : (a b : Bool) → q x ≡ a → p x ≡ b → filter p (filter q xs) ≡ filter r xs → filter p (filter q (x ∷ xs)) ≡ filter r (x ∷ xs)
      go true true ea eb rest = rw (is x, ea, eb) (ap (λ ys. x ∷ ys) rest)
      go true false ea eb rest = rw (is x, ea, eb) rest
      go false b ea eb rest = rw (is x, ea) rest

-- ---- One completion

has_in_filter : (p : Pending → Bool) (n : ℕ) (commands : List Pending) → list_any (has_id n) commands ≡ false → list_any (has_id n) (filter p commands) ≡ false
has_in_filter p n [] none = refl
has_in_filter p n (command ∷ commands) none = go (p command) (has_id n command) refl refl none (has_in_filter p n commands)
  where
    go : (b same : Bool) → p command ≡ b → has_id n command ≡ same → list_any (has_id n) (command ∷ commands) ≡ false → (list_any (has_id n) commands ≡ false → list_any (has_id n) (filter p commands) ≡ false)
        → list_any (has_id n) (filter p (command ∷ commands)) ≡ false
    go b true e s none rest = absurd (cc (rw s at none))
    go true false e s none rest = rw (e, s) (rest (rw s at none))
    go false false e s none rest = rw e (rest (rw s at none))

apart_filter : (p : Pending → Bool) (commands : List Pending) → IsApart commands → IsApart (filter p commands)
apart_filter p [] apart = tt
apart_filter p (command ∷ commands) apart = go (p command) refl (apart_filter p commands apart.1)
  where
    go : (b : Bool) → p command ≡ b → IsApart (filter p commands) → IsApart (filter p (command ∷ commands))
    go true e rest = rw e (has_in_filter p command.id commands apart.0, rest)
    go false e rest = rw e rest

count_filter : (p test : Pending → Bool) (commands : List Pending) → count_by test (filter p commands) ≤ count_by test commands
count_filter p test [] = omega arith
count_filter p test (command ∷ commands) = go (p command) refl (count_filter p test commands)
  where
    go : (b : Bool) → p command ≡ b → count_by test (filter p commands) ≤ count_by test commands → count_by test (filter p (command ∷ commands)) ≤ count_by test (command ∷ commands)
    go true e rest = let more = count_more test command commands in let kept = count_more test command (filter p commands) in rw e (omega (arith, more, kept, rest))
    go false e rest = let more = count_more test command commands in rw e (omega (arith, more, rest))

single_filter : (p : Pending → Bool) (commands : List Pending) → IsSingle commands → IsSingle (filter p commands)
single_filter p commands single = λ t q. let most = count_filter p (λ (command : Pending). command.task == t && command.seq == q) commands in let one = single t q in omega (arith, most, one)

none_dropped : (n : ℕ) (commands : List Pending) → list_any (has_id n) commands ≡ false → others n commands ≡ commands
none_dropped n [] none = refl
none_dropped n (command ∷ commands) none = go (has_id n command) refl none (none_dropped n commands)
  where
    go : (same : Bool) → has_id n command ≡ same → list_any (has_id n) (command ∷ commands) ≡ false → (list_any (has_id n) commands ≡ false → others n commands ≡ commands) → others n (command ∷ commands) ≡ command ∷ commands
    go true s none rest = absurd (cc (rw s at none))
    go false s none rest = rw s (ap (λ cs. command ∷ cs) (rest (rw s at none)))

abbrev one_if : Bool → ℕ
one_if b = if b then 1 else 0

none_counted : (t q : ℕ) (commands : List Pending) → count_by (λ (command : Pending). command.task == t && command.seq == q) commands ≡ 0 → filter (λ d. not (is_command t q d)) commands ≡ commands
none_counted t q [] none = refl
none_counted t q (command ∷ commands) none = go (is_command t q command) refl none (none_counted t q commands)
  where
    go : (own : Bool) → is_command t q command ≡ own → count_by (λ (c : Pending). c.task == t && c.seq == q) (command ∷ commands) ≡ 0
        → (count_by (λ (c : Pending). c.task == t && c.seq == q) commands ≡ 0 → filter (λ d. not (is_command t q d)) commands ≡ commands) → filter (λ d. not (is_command t q d)) (command ∷ commands) ≡ command ∷ commands
    go true e none rest = let more = count_more (λ (c : Pending). c.task == t && c.seq == q) command commands in let one = ap one_if e in absurd (omega (arith, more, none, one))
    go false e none rest = let more = count_more (λ (c : Pending). c.task == t && c.seq == q) command commands in rw e (ap (λ cs. command ∷ cs) (rest (omega (arith, more, none))))

found_has : (t q : ℕ) (commands : List Pending) (command : Pending) → find (is_command t q) commands ≡ Some command → list_any (has_id command.id) commands ≡ true
found_has t q [] command is = absurd (cc is)
found_has t q (other ∷ commands) command is = go (is_command t q other) refl is (found_has t q commands command)
  where
    go : (own : Bool) → is_command t q other ≡ own → find (is_command t q) (other ∷ commands) ≡ Some command → (find (is_command t q) commands ≡ Some command → list_any (has_id command.id) commands ≡ true)
        → list_any (has_id command.id) (other ∷ commands) ≡ true
    go true e is rest =
        let same : other ≡ command = cc (rw e at is) in
        let own : has_id command.id other ≡ true = subst (λ (d : Pending). has_id d.id other ≡ true) same (grind (arith, nat_tests)) in rw own refl
    go false e is rest = or_true (has_id command.id other) (rest (rw e at is))
      where
        or_true : (b : Bool) {d : Bool} → d ≡ true → (b || d) ≡ true
        or_true true h = refl
        or_true false h = h

pub one_dropped : (t q : ℕ) (commands : List Pending) (command : Pending) → IsApart commands → IsSingle commands → find (is_command t q) commands ≡ Some command
    → others command.id commands ≡ filter (λ d. not (is_command t q d)) commands
one_dropped t q [] command apart single is = absurd (cc is)
one_dropped t q (other ∷ commands) command apart single is = go (is_command t q other) refl is (one_dropped t q commands command apart.1 rest_single)
  where
    rest_single : IsSingle commands
    rest_single = λ t' q'. let one = single t' q' in let more = count_more (λ (c : Pending). c.task == t' && c.seq == q') other commands in omega (arith, one, more)

    own_id : has_id other.id other ≡ true
    own_id = grind (arith, nat_tests)

    go : (own : Bool) → is_command t q other ≡ own → find (is_command t q) (other ∷ commands) ≡ Some command → (find (is_command t q) commands ≡ Some command → others command.id commands ≡ filter (λ d. not (is_command t q d)) commands)
        → others command.id (other ∷ commands) ≡ filter (λ d. not (is_command t q d)) (other ∷ commands)
    go true e is rest =
        let same : other ≡ command = cc (rw e at is) in
        let count : count_by (λ (c : Pending). c.task == t && c.seq == q) commands ≡ 0 =
        let one = single t q in let more = count_more (λ (c : Pending). c.task == t && c.seq == q) other commands in let own = ap one_if e in omega (arith, one, more, own) in
        subst (λ (d : Pending). others d.id (other ∷ commands) ≡ filter (λ d. not (is_command t q d)) (other ∷ commands)) same
        (rw (own_id, e) (none_dropped other.id commands apart.0 ∙ sym (none_counted t q commands count)))
    go false e is rest =
        let there = found_has t q commands command (rw e at is) in
        let away : has_id command.id other ≡ false = is_not (has_id command.id other) (λ same. absurd (cc (apart.0, flipped same there))) in
        rw (away, e) (ap (λ cs. other ∷ cs) (rest (rw e at is)))
      where
        is_not : (b : Bool) → (b ≡ true → ⊥) → b ≡ false
        is_not true h = absurd (h refl)
        is_not false h = refl

        flipped : has_id command.id other ≡ true → list_any (has_id command.id) commands ≡ true → list_any (has_id other.id) commands ≡ true
        flipped same there = let e : command.id ≡ other.id = grind (arith, nat_tests) in subst (λ (n : ℕ). list_any (has_id n) commands ≡ true) e there

none_found : (t q : ℕ) (commands : List Pending) → find (is_command t q) commands ≡ None → filter (λ d. not (is_command t q d)) commands ≡ commands
none_found t q [] none = refl
none_found t q (command ∷ commands) none = go (is_command t q command) refl none (none_found t q commands)
  where
    go : (own : Bool) → is_command t q command ≡ own → find (is_command t q) (command ∷ commands) ≡ None → (find (is_command t q) commands ≡ None → filter (λ d. not (is_command t q d)) commands ≡ commands)
        → filter (λ d. not (is_command t q d)) (command ∷ commands) ≡ command ∷ commands
    go true e none rest = absurd (cc (rw e at none))
    go false e none rest = rw e (ap (λ cs. command ∷ cs) (rest (rw e at none)))

-- ---- All completions

stays_too : (t q : ℕ) (outcome : Outcome) (effects : List Effect) (command : Pending) → stays_open (f.Done t q outcome ∷ effects) command ≡ (not (is_command t q command) && stays_open effects command)
stays_too t q outcome effects command =
    ap (λ b. not (b || list_any (completes command.task command.seq) effects)) flip ∙ split (is_command t q command) (list_any (completes command.task command.seq) effects)
  where
    flip : (t == command.task && q == command.seq) ≡ is_command t q command
    flip = grind (arith, nat_tests)

    split : (a b : Bool) → not (a || b) ≡ (not a && not b)
    split true b = refl
    split false b = refl

pub pending_closed : (effects : List Effect) (commands : List Pending) (released : List ℕ) (k : Routing) → IsApart commands → IsSingle commands → (all_ended (books commands released k) effects).pending ≡ filter (stays_open effects) commands
pending_closed [] commands released k apart single = sym (all_kept commands)
pending_closed (f.Send packet ∷ effects) commands released k apart single = pending_closed effects commands released k apart single
pending_closed (f.Done t q outcome ∷ effects) commands released k apart single = go (pending_closed effects) (find (is_command t q) commands) refl
  where
    twice : filter (stays_open effects) (filter (λ d. not (is_command t q d)) commands) ≡ filter (stays_open (f.Done t q outcome ∷ effects)) commands
    twice = filter_twice (stays_open effects) (λ d. not (is_command t q d)) (stays_open (f.Done t q outcome ∷ effects)) (stays_too t q outcome effects) commands

    go : ((cs : List Pending) (ns : List ℕ) (r : Routing) → IsApart cs → IsSingle cs → (all_ended (books cs ns r) effects).pending ≡ filter (stays_open effects) cs)
        → (found : Option Pending) → find (is_command t q) commands ≡ found → (all_ended (ended_with outcome (books commands released k) found) effects).pending ≡ filter (stays_open (f.Done t q outcome ∷ effects)) commands
    go rest None is = rest commands released k apart single ∙ ap (filter (stays_open effects)) (sym (none_found t q commands is)) ∙ twice
    go rest (Some command) is =
        let dropped = one_dropped t q commands command apart single is in
        rest (others command.id commands) (without command.id released) (routing_ended command command.request outcome k)
        (apart_filter (λ d. not (has_id command.id d)) commands apart) (single_filter (λ d. not (has_id command.id d)) commands single)
        ∙ ap (filter (stays_open effects)) dropped ∙ twice
pending_closed (f.Pass t message ∷ effects) commands released k apart single = pending_closed effects commands released k apart single
pending_closed (f.Closed t ∷ effects) commands released k apart single = pending_closed effects commands released k apart single

-- ---- Released identifiers

all_pass : (test : ℕ → Bool) (ns : List ℕ) → AllByRecursion (λ n. test n ≡ true) ns → filter test ns ≡ ns
all_pass test [] all = refl
all_pass test (n ∷ ns) all = rw all.0 (ap (λ ms. n ∷ ms) (all_pass test ns all.1))

without_tested : (test : ℕ → Bool) (n : ℕ) (ns : List ℕ) → test n ≡ false → filter test (without n ns) ≡ filter test ns
without_tested test n [] fails = refl
without_tested test n (m ∷ ns) fails = go (m == n) refl (without_tested test n ns fails)
  where
    go : (same : Bool) → (m == n) ≡ same → filter test (without n ns) ≡ filter test ns → filter test (without n (m ∷ ns)) ≡ filter test (m ∷ ns)
    go true same rest = let m_fails : test m ≡ false = subst (λ (k : ℕ). test k ≡ false) (sym (eqb-true m n same)) fails in rw (same, m_fails) rest
    go false same rest = rw same (inside (test m) refl rest)
      where
        inside : (b : Bool) → test m ≡ b → filter test (without n ns) ≡ filter test ns → filter test (m ∷ without n ns) ≡ filter test (m ∷ ns)
        inside true e rest = rw e (ap (λ ms. m ∷ ms) rest)
        inside false e rest = rw e rest

id_dropped : (n : ℕ) (commands : List Pending) → list_any (has_id n) (others n commands) ≡ false
id_dropped n [] = refl
id_dropped n (command ∷ commands) = go (has_id n command) refl (id_dropped n commands)
  where
    go : (same : Bool) → has_id n command ≡ same → list_any (has_id n) (others n commands) ≡ false → list_any (has_id n) (others n (command ∷ commands)) ≡ false
    go true s rest = rw s rest
    go false s rest = rw (s, s) rest

pub released_closed : (effects : List Effect) (commands : List Pending) (released : List ℕ) (k : Routing) → IsApart commands → IsSingle commands → AllByRecursion (λ n. is_open_publish is_exactly_once commands n ≡ true) released
    → (all_ended (books commands released k) effects).released ≡ filter (is_open_publish is_exactly_once (filter (stays_open effects) commands)) released
released_closed [] commands released k apart single all = sym (ap (λ cs. filter (is_open_publish is_exactly_once cs) released) (all_kept commands) ∙ all_pass (is_open_publish is_exactly_once commands) released all)
released_closed (f.Send packet ∷ effects) commands released k apart single all = released_closed effects commands released k apart single all
released_closed (f.Done t q outcome ∷ effects) commands released k apart single all = go (released_closed effects) (find (is_command t q) commands) refl
  where
    twice : filter (stays_open effects) (filter (λ d. not (is_command t q d)) commands) ≡ filter (stays_open (f.Done t q outcome ∷ effects)) commands
    twice = filter_twice (stays_open effects) (λ d. not (is_command t q d)) (stays_open (f.Done t q outcome ∷ effects)) (stays_too t q outcome effects) commands

    go : ((cs : List Pending) (ns : List ℕ) (r : Routing) → IsApart cs → IsSingle cs → AllByRecursion (λ n. is_open_publish is_exactly_once cs n ≡ true) ns
        → (all_ended (books cs ns r) effects).released ≡ filter (is_open_publish is_exactly_once (filter (stays_open effects) cs)) ns)
        → (found : Option Pending) → find (is_command t q) commands ≡ found
        → (all_ended (ended_with outcome (books commands released k) found) effects).released ≡ filter (is_open_publish is_exactly_once (filter (stays_open (f.Done t q outcome ∷ effects)) commands)) released
    go rest None is =
        rest commands released k apart single all
        ∙ ap (λ cs. filter (is_open_publish is_exactly_once cs) released) (ap (filter (stays_open effects)) (sym (none_found t q commands is)) ∙ twice)
    go rest (Some command) is =
        let dropped = one_dropped t q commands command apart single is in
        let final = filter (stays_open effects) (others command.id commands) in
        let out : is_open_publish is_exactly_once final command.id ≡ false = not_open is_exactly_once command.id final (has_in_filter (stays_open effects) command.id (others command.id commands) (id_dropped command.id commands)) in
        rest (others command.id commands) (without command.id released) (routing_ended command command.request outcome k)
        (apart_filter (λ d. not (has_id command.id d)) commands apart) (single_filter (λ d. not (has_id command.id d)) commands single) (still_open command.id commands released all)
        ∙ without_tested (is_open_publish is_exactly_once final) command.id released out
        ∙ ap (λ cs. filter (is_open_publish is_exactly_once cs) released) (ap (filter (stays_open effects)) dropped ∙ twice)
released_closed (f.Pass t message ∷ effects) commands released k apart single all = released_closed effects commands released k apart single all
released_closed (f.Closed t ∷ effects) commands released k apart single all = released_closed effects commands released k apart single all

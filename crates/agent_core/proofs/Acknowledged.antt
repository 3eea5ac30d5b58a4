-- The open command of an identifier, of which there is at most one.
use Rattle.std.proofs.Common.{◌≡◌, ◌≢◌, ℕ, zero, suc, Bool, true, false, not, List, [], ◌∷◌, ◌++◌, length, map, Option, Some, None, Result, Ok, Err, IfOk, refl, ap, sym, ◌∙◌, arith}
use Rattle.std.specs.Prelude.{◌&&◌, ◌||◌, ◌==◌, filter, find}
use Rattle.std.specs.List.{list_any}
use Rattle.std.proofs.lemmas.Bool.Decides.{nat_tests}
use Rattle.agent_journal.specs.Readings.{Pending}
use Rattle.std.specs.Option.{option_map}
use Rattle.agent_journal.specs.declared.outcome.Outcome.{Outcome}
use Rattle.agent_journal.specs.declared.setup.Phase.TheVariants.{Up}
use Rattle.agent_table.specs.Arrivals.{at, counts_of, renewal_counts, is_subscribe}
use Rattle.agent_table.specs.Effects.{done}
use Rattle.agent_table.specs.Routes.{Renewal, asks_in}
use Rattle.agent_table.specs.Rows.{Row, to}
use Rattle.agent_core.specs.declared.awaited.Awaited.{Awaited}
use Rattle.agent_core.specs.Awaited.{awaits}
use Rattle.pending_acks.specs.Commands.{Differ, has_id}

-- as a list
abbrev found : Option Pending → List Pending
found None = []
found (Some command) = command ∷ []

pub tail_differs : (command : Pending) (commands : List Pending) → Differ (command ∷ commands) → Differ commands
tail_differs command commands differ = λ i j d before within. differ (suc i) (suc j) d (omega arith) (omega arith)

pub second_skipped : (one two : Pending) (commands : List Pending) → Differ (one ∷ two ∷ commands) → Differ (one ∷ commands)
second_skipped one two commands differ = go
  where
    go : Differ (one ∷ commands)
    go zero zero d before within = absurd (omega arith)
    go zero (suc j) d before within = differ 0 (suc (suc j)) d (omega arith) (omega arith)
    go (suc i) zero d before within = absurd (omega arith)
    go (suc i) (suc j) d before within = differ (suc (suc i)) (suc (suc j)) d (omega arith) (omega arith)

pub other_id : (one other : Pending) (n : ℕ) → has_id n one ≡ true → one.id ≢ other.id → has_id n other ≡ false
other_id one other n same apart = grind (arith, nat_tests)

none_else : (n : ℕ) (command : Pending) (commands : List Pending) → Differ (command ∷ commands) → has_id n command ≡ true → filter (has_id n) commands ≡ []
none_else n command [] differ same = refl
none_else n command (other ∷ commands) differ same =
    let apart : command.id ≢ other.id = differ 0 1 command (omega arith) (omega arith) in
    let not_same : has_id n other ≡ false = other_id command other n same apart in
    rw not_same (none_else n command commands (second_skipped command other commands differ) same)

at_is : (n : ℕ) (commands : List Pending) → Differ commands → at n commands ≡ found (find (has_id n) commands)
at_is n [] differ = refl
at_is n (command ∷ commands) differ = go (has_id n command) refl (at_is n commands (tail_differs command commands differ))
  where
    go : (b : Bool) → has_id n command ≡ b → at n commands ≡ found (find (has_id n) commands) → at n (command ∷ commands) ≡ found (find (has_id n) (command ∷ commands))
    go true e rest = rw e (ap (λ cs. command ∷ cs) (none_else n command commands differ e))
    go false e rest = rw e rest

-- what the one of the identifier gives, and what none gives
pub at_one : {Y : Type 0} (f : List Pending → Y) (n : ℕ) (commands : List Pending) (command : Pending) → Differ commands → Some command ≡ find (has_id n) commands → f (command ∷ []) ≡ f (at n commands)
at_one f n commands command differ e = ap (λ o. f (found o)) e ∙ sym (ap f (at_is n commands differ))

pub at_none : {Y : Type 0} (f : List Pending → Y) (n : ℕ) (commands : List Pending) → Differ commands → None ≡ find (has_id n) commands → f [] ≡ f (at n commands)
at_none f n commands differ e = ap (λ o. f (found o)) e ∙ sym (ap f (at_is n commands differ))

-- one of an identifier that passes a test
any_at : (n : ℕ) (test : Pending → Bool) (commands : List Pending) → list_any (λ command. has_id n command && test command) commands ≡ list_any test (at n commands)
any_at n test [] = refl
any_at n test (command ∷ commands) = go (has_id n command) refl (any_at n test commands)
  where
    go : (b : Bool) → has_id n command ≡ b → list_any (λ command. has_id n command && test command) commands ≡ list_any test (at n commands)
        → list_any (λ command. has_id n command && test command) (command ∷ commands) ≡ list_any test (at n (command ∷ commands))
    go true e rest = rw e (ap (λ b. test command || b) rest)
    go false e rest = rw e rest

pub any_one : (n : ℕ) (test : Pending → Bool) (commands : List Pending) (command : Pending) → Differ commands → Some command ≡ find (has_id n) commands
    → test command ≡ list_any (λ other. has_id n other && test other) commands
any_one n test commands command differ e = sym (or_none (test command)) ∙ at_one (list_any test) n commands command differ e ∙ sym (any_at n test commands)
  where
    or_none : (b : Bool) → (b || false) ≡ b
    or_none true = refl
    or_none false = refl

pub any_none : (n : ℕ) (test : Pending → Bool) (commands : List Pending) → Differ commands → None ≡ find (has_id n) commands → false ≡ list_any (λ other. has_id n other && test other) commands
any_none n test commands differ e = at_none (list_any test) n commands differ e ∙ sym (any_at n test commands)

pub completed_one : (kind : Awaited) (outcome : Outcome) (n : ℕ) (commands : List Pending) (command : Pending) (row : Row) → Differ commands → Some command ≡ find (has_id n) commands
    → to Up (map (done outcome) (filter (λ other. awaits kind other.request) (command ∷ []))) ≡ Some row → to Up (map (done outcome) (filter (λ other. awaits kind other.request) (at n commands))) ≡ Some row
completed_one kind outcome n commands command row differ is e = sym (at_one (λ cs. to Up (map (done outcome) (filter (λ other. awaits kind other.request) cs))) n commands command differ is) ∙ e

pub completed_ok : {E : Type 0} (kind : Awaited) (outcome : Outcome) (n : ℕ) (commands : List Pending) (command : Pending) (result : Result Row E) → Differ commands → Some command ≡ find (has_id n) commands
    → IfOk result (λ row. to Up (map (done outcome) (filter (λ other. awaits kind other.request) (command ∷ []))) ≡ Some row)
    → IfOk result (λ row. to Up (map (done outcome) (filter (λ other. awaits kind other.request) (at n commands))) ≡ Some row)
completed_ok kind outcome n commands command (Ok row) differ is e = completed_one kind outcome n commands command row differ is e
completed_ok kind outcome n commands command (Err fault) differ is e = tt

pub completed_none : (kind : Awaited) (outcome : Outcome) (n : ℕ) (commands : List Pending) → Differ commands → None ≡ find (has_id n) commands
    → to Up (map (done outcome) (filter (λ other. awaits kind other.request) (at n commands))) ≡ Some (record { effects = []; phase = Up })
completed_none kind outcome n commands differ is = sym (at_none (λ cs. to Up (map (done outcome) (filter (λ other. awaits kind other.request) cs))) n commands differ is)

-- ---- Counts

counted : (count : ℕ) (command : Pending) → (is_subscribe command.request && not (length (asks_in command.request) == count))
    ≡ list_any (λ asked. not (asked == count)) (counts_of (filter (λ other. is_subscribe other.request) (command ∷ [])))
counted count command = go (is_subscribe command.request) refl
  where
    or_none : (b : Bool) → b ≡ (b || false)
    or_none true = refl
    or_none false = refl

    go : (b : Bool) → is_subscribe command.request ≡ b → (is_subscribe command.request && not (length (asks_in command.request) == count))
        ≡ list_any (λ asked. not (asked == count)) (counts_of (filter (λ other. is_subscribe other.request) (command ∷ [])))
    go true e = rw e (or_none (not (length (asks_in command.request) == count)))
    go false e = rw e refl

pub counted_some : (count n : ℕ) (commands : List Pending) (command : Pending) (differs : Bool) → Differ commands → Some command ≡ find (has_id n) commands
    → differs ≡ (is_subscribe command.request && not (length (asks_in command.request) == count)) → differs ≡ list_any (λ asked. not (asked == count)) (counts_of (filter (λ other. is_subscribe other.request) (at n commands)))
counted_some count n commands command differs differ is e =
    e ∙ counted count command ∙ at_one (λ cs. list_any (λ asked. not (asked == count)) (counts_of (filter (λ other. is_subscribe other.request) cs))) n commands command differ is

pub counted_none : (count n : ℕ) (commands : List Pending) → Differ commands → None ≡ find (has_id n) commands
    → false ≡ list_any (λ asked. not (asked == count)) (counts_of (filter (λ other. is_subscribe other.request) (at n commands)))
counted_none count n commands differ is = at_none (λ cs. list_any (λ asked. not (asked == count)) (counts_of (filter (λ other. is_subscribe other.request) cs))) n commands differ is

pub renewed_some : (count asked : ℕ) (renewal : Option Renewal) → Some asked ≡ option_map (λ r. length r.asks) renewal → (not (asked == count)) ≡ list_any (λ n. not (n == count)) (renewal_counts renewal)
renewed_some count asked None e = absurd (cc e)
renewed_some count asked (Some renewal) e = let same : asked ≡ length renewal.asks = cc e in ap (λ n. not (n == count)) same ∙ or_none (not (length renewal.asks == count))
  where
    or_none : (b : Bool) → b ≡ (b || false)
    or_none true = refl
    or_none false = refl

pub renewed_none : (count : ℕ) (renewal : Option Renewal) → None ≡ option_map (λ r. length r.asks) renewal → false ≡ list_any (λ n. not (n == count)) (renewal_counts renewal)
renewed_none count None e = refl
renewed_none count (Some renewal) e = absurd (cc e)

pub miscounted_is : (test : ℕ → Bool) (xs ys : List ℕ) (a b result : Bool) → a ≡ list_any test xs → b ≡ list_any test ys → result ≡ (a || b) → result ≡ list_any test (xs ++ ys)
miscounted_is test xs ys a b result ea eb e = e ∙ ap (λ c. c || b) ea ∙ ap (λ c. list_any test xs || c) eb ∙ sym (more xs)
  where
    assoc : (a b c : Bool) → (a || (b || c)) ≡ ((a || b) || c)
    assoc true b c = refl
    assoc false b c = refl

    more : (zs : List ℕ) → list_any test (zs ++ ys) ≡ (list_any test zs || list_any test ys)
    more [] = refl
    more (z ∷ zs) = ap (λ c. test z || c) (more zs) ∙ assoc (test z) (list_any test zs) (list_any test ys)

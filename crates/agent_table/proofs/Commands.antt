-- How often an entry completes a command, and how many commands were taken.
use Rattle.std.proofs.Common.{◌≡◌, ℕ, ◌+◌, ◌≤◌, Bool, true, false, List, [], ◌∷◌, refl, sym, ap, ◌∙◌, subst, arith}
use Rattle.std.specs.Prelude.{◌&&◌, ◌==◌, not, nat_lt, if◌then◌else◌}
use Rattle.std.proofs.lemmas.Bool.{cases_lt, lt-ltb, le-ltb, eq-eqb, ne_eqb, cases_eq, or_parts}
use mathlib.Core.Logic.{inl, inr}
use Rattle.agent_journal.specs.declared.request.Request.{Request}
use Rattle.agent_journal.specs.declared.entry.Cause.{Cause}
use Rattle.agent_journal.specs.declared.entry.Cause.TheVariants as c
use Rattle.agent_journal.specs.declared.entry.Entry.{Entry}
use Rattle.agent_journal.specs.Readings.{is_leave, takes_of, takes_behind, has_left, leaves_by}
use Rattle.agent_journal.specs.Projections.{commands_by, commands_of}

-- how often a cause's entry completes command q of task t
abbrev pub answered_in : ℕ → ℕ → ℕ → ℕ → Request → ℕ
answered_in t q task seq request = if not (is_leave request) && ((task == t) && (seq == q)) then 1 else 0

abbrev pub answered_by : ℕ → ℕ → Cause → ℕ
answered_by t q c.Opened = 0
answered_by t q (c.Take task seq request) = answered_in t q task seq request
answered_by t q (c.Arrived packet) = 0
answered_by t q (c.Broke why) = 0
answered_by t q c.Tick = 0
answered_by t q c.GaveUp = 0
answered_by t q c.Finish = 0

-- how many of n commands are number q: one where there are so many
abbrev pub below : ℕ → ℕ → ℕ
below q n = if nat_lt q n then 1 else 0

above : (q n : ℕ) → n ≤ q → (n ≡ q → ⊥) → n + 1 ≤ q
above q n more differ = elim (cases_lt n q) [ inl less ↦ omega (arith, less) | inr least ↦ absurd (differ (omega (arith, more, least))) ]

one_below : (q n : ℕ) → below q n + (if n == q then 1 else 0) ≡ below q (n + 1)
one_below q n = elim (cases_lt q n) [
  | inl less ↦ rw (lt-ltb q n less, ne_eqb n q (λ e. omega (arith, e, less)), lt-ltb q (n + 1) (omega (arith, less))) refl
  | inr more ↦ elim (cases_eq n q) [
    | inl e ↦ rw (le-ltb q n more, eq-eqb n q e, lt-ltb q (n + 1) (omega (arith, e))) refl
    | inr e ↦ rw (le-ltb q n more, ne_eqb n q e, le-ltb q (n + 1) (above q n more e)) refl
  ]
]

by_take : (mine leaves : Bool) (n m : ℕ) → (mine && leaves) ≡ false → n ≡ m → (if mine then n + 1 else n) ≡ m + (if mine && not leaves then 1 else 0)
by_take true true n m stays e = absurd (cc stays)
by_take true false n m stays e = ap (λ k. k + 1) e
by_take false leaves n m stays e = omega (arith, e)

by_cause : (t : ℕ) (cause : Cause) (n m : ℕ) → leaves_by t cause ≡ false → n ≡ m → takes_behind t cause n ≡ m + commands_by t cause
by_cause t c.Opened n m stays e = omega (arith, e)
by_cause t (c.Take task seq request) n m stays e = by_take (t == task) (is_leave request) n m stays e
by_cause t (c.Arrived packet) n m stays e = omega (arith, e)
by_cause t (c.Broke why) n m stays e = omega (arith, e)
by_cause t c.Tick n m stays e = omega (arith, e)
by_cause t c.GaveUp n m stays e = omega (arith, e)
by_cause t c.Finish n m stays e = omega (arith, e)

-- a task that hasn't left took only commands
pub all_commands : (t : ℕ) (past : List Entry) → has_left t past ≡ false → takes_of t past ≡ commands_of t past
all_commands t [] stays = refl
all_commands t (e ∷ past) stays =
    let parts = or_parts (leaves_by t e.cause) (has_left t past) stays in
    by_cause t e.cause (takes_of t past) (commands_of t past) parts.0 (all_commands t past parts.1)

pub none_more : (q n : ℕ) → below q n + 0 ≡ below q (n + 0)
none_more q n = let same : n ≡ n + 0 = omega arith in let sum : below q n + 0 ≡ below q n = omega arith in sum ∙ ap (below q) same

same_task : (t q n seq : ℕ) (leaves : Bool) → seq ≡ n → below q n + (if not leaves && ((t == t) && (seq == q)) then 1 else 0) ≡ below q (n + (if (t == t) && not leaves then 1 else 0))
same_task t q n seq true e = rw (eq-eqb t t refl) (none_more q n)
same_task t q n seq false e = rw (eq-eqb t t refl, e) (one_below q n)

other_task : (t task q n seq : ℕ) (leaves : Bool) → (task ≡ t → ⊥) → below q n + (if not leaves && ((task == t) && (seq == q)) then 1 else 0) ≡ below q (n + (if (t == task) && not leaves then 1 else 0))
other_task t task q n seq true differ = rw (ne_eqb t task (λ e. differ (sym e))) (none_more q n)
other_task t task q n seq false differ = rw (ne_eqb task t differ, ne_eqb t task (λ e. differ (sym e))) (none_more q n)

-- what a Take adds to both counts
pub more_taken : (t task q n seq : ℕ) (request : Request) → (task ≡ t → seq ≡ n) → below q n + answered_in t q task seq request ≡ below q (n + commands_by t (c.Take task seq request))
more_taken t task q n seq request next = elim (cases_eq task t) [
  | inl e ↦ subst (λ (u : ℕ). below q n + answered_in t q u seq request ≡ below q (n + commands_by t (c.Take u seq request))) (sym e) (same_task t q n seq (is_leave request) (next e))
  | inr e ↦ other_task t task q n seq (is_leave request) e
]

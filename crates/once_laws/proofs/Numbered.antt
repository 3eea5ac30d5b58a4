-- Each Take of a task has a number of its own, so a command is one request.
use Rattle.std.proofs.Common.{◌≡◌, ℕ, ◌+◌, ◌<◌, ◌≤◌, Bool, true, false, List, [], ◌∷◌, is_some, refl, ap, ◌∙◌, subst, arith}
use Rattle.std.specs.Prelude.{◌==◌, ◌&&◌, ◌||◌, if◌then◌else◌}
use Rattle.std.proofs.lemmas.Bool.{eqb-true, eq-eqb, and_parts}
use Rattle.agent_journal.specs.declared.entry.Cause.{Cause}
use Rattle.agent_journal.specs.declared.entry.Cause.TheVariants as c
use Rattle.agent_journal.specs.declared.entry.Entry.{Entry}
use Rattle.agent_journal.specs.declared.request.Request.{Request}
use Rattle.agent_journal.specs.declared.setup.Setup.{Setup}
use Rattle.agent_journal.specs.Readings.{takes_of, takes_by, takes_behind}
use Rattle.agent_table.specs.Histories.{IsLegalPast, readings, row}
use Rattle.agent_table.specs.Sizes.{Sizes}
use Rattle.agent_table.proofs.Once.{has_row, taken_next}
use Rattle.once_laws.specs.Once.{takes_it, was_taken}

-- a Take of command q of task t, with its request
pub record IsTake (is : Request → Bool) (t q : ℕ) (cause : Cause) : Type 0 where
  pub request : Request
  pub cause_is : cause ≡ c.Take t q request
  pub holds : is request ≡ true

pub take_is : (is : Request → Bool) (t q : ℕ) (cause : Cause) → takes_it is t q cause ≡ true → IsTake is t q cause
take_is is t q (c.Take task seq request) e =
    let outer = and_parts (task == t && seq == q) (is request) e in
    let inner = and_parts (task == t) (seq == q) outer.0 in
    record { request = request; cause_is = λ i. c.Take (eqb-true task t inner.0 i) (eqb-true seq q inner.1 i) request; holds = outer.1 }
take_is is t q c.Opened e = absurd (cc e)
take_is is t q (c.Arrived packet) e = absurd (cc e)
take_is is t q (c.Broke why) e = absurd (cc e)
take_is is t q c.Tick e = absurd (cc e)
take_is is t q c.GaveUp e = absurd (cc e)
take_is is t q c.Finish e = absurd (cc e)

pub is_take : (is : Request → Bool) (t q : ℕ) (request : Request) → is request ≡ true → takes_it is t q (c.Take t q request) ≡ true
is_take is t q request e = rw (eq-eqb t t refl, eq-eqb q q refl) e

more : (b : Bool) (n : ℕ) → n ≤ (if b then n + 1 else n)
more true n = omega arith
more false n = omega arith

-- a Take's number is the count of its task's Takes before it
pub next : (s : Setup) (l : Sizes) (past : List Entry) (e : Entry) → IsLegalPast s l (e ∷ past) → (t q : ℕ) (request : Request) → e.cause ≡ c.Take t q request → q ≡ takes_of t past
next s l past e legal t q request is =
    (taken_next s l (readings s l past) e.at t q request (subst (λ (cause : Cause). is_some (row s l past e.at cause) ≡ true) is (has_row (row s l past e.at e.cause) e.effects legal.0))).0

-- so it is below their count
pub below : (s : Setup) (l : Sizes) (is : Request → Bool) (t q : ℕ) (past : List Entry) → IsLegalPast s l past → was_taken is t q past ≡ true → q < takes_of t past
below s l is t q [] legal taken = absurd (cc taken)
below s l is t q (e ∷ past) legal taken = go (takes_it is t q e.cause) refl taken (below s l is t q past legal.1)
  where
    go : (b : Bool) → takes_it is t q e.cause ≡ b → (b || was_taken is t q past) ≡ true → (was_taken is t q past ≡ true → q < takes_of t past) → q < takes_of t (e ∷ past)
    go true here any before =
        let found = take_is is t q e.cause here in
        let one : takes_of t (e ∷ past) ≡ takes_of t past + 1 = ap (λ (cause : Cause). takes_behind t cause (takes_of t past)) found.cause_is ∙ rw (eq-eqb t t refl) refl in
        omega (arith, one, next s l past e legal t q found.request found.cause_is)
    go false here any before = omega (arith, before any, more (takes_by t e.cause) (takes_of t past))

-- No command is of two kinds that no request is of.
pub apart : (s : Setup) (l : Sizes) (one other : Request → Bool) (t q : ℕ) (past : List Entry) → ((r : Request) → one r ≡ true → other r ≡ true → ⊥) → IsLegalPast s l past
    → was_taken one t q past ≡ true → was_taken other t q past ≡ true → ⊥
apart s l one other t q [] differ legal a b = cc a
apart s l one other t q (e ∷ past) differ legal a b = go (takes_it one t q e.cause) (takes_it other t q e.cause) refl refl a b (apart s l one other t q past differ legal.1)
  where
    go : (x y : Bool) → takes_it one t q e.cause ≡ x → takes_it other t q e.cause ≡ y → (x || was_taken one t q past) ≡ true → (y || was_taken other t q past) ≡ true
        → (was_taken one t q past ≡ true → was_taken other t q past ≡ true → ⊥) → ⊥
    go true true ea eb a b before =
        let found = take_is one t q e.cause ea in
        let again : takes_it other t q (c.Take t q found.request) ≡ true = subst (λ (cause : Cause). takes_it other t q cause ≡ true) found.cause_is eb in
        differ found.request found.holds (and_parts (t == t && q == q) (other found.request) again).1
    go true false ea eb a b before =
        let found = take_is one t q e.cause ea in
        omega (arith, next s l past e legal t q found.request found.cause_is, below s l other t q past legal.1 b)
    go false true ea eb a b before =
        let found = take_is other t q e.cause eb in
        omega (arith, next s l past e legal t q found.request found.cause_is, below s l one t q past legal.1 a)
    go false false ea eb a b before = before a b

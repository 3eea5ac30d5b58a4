-- The fault of a reading, and the cause that stands for it.
use Rattle.std.proofs.Common.{◌≡◌, ℕ, List, ◌⊎◌, inl, inr, Bool, true, false, Option, Some, None, Result, Ok, Err, refl, sym, ap, ◌∙◌}
use Rattle.std.specs.Prelude.{◌↔◌}
use Rattle.thing_topics.specs.declared.faults.TopicFault.{TopicFault}
use Rattle.thing_topics.specs.declared.faults.TopicFault.TheVariants as faults
use Rattle.thing_topics.specs.Classes.{is_thing}
use Rattle.thing_topics.specs.Cuts.{behind, first_level}
use Rattle.thing_topics.specs.Faults.{IsFault, HasNoRoot, HasNoThing}
use Rattle.thing_topics.specs.Fronts.{root, front_of, behind_some}
use Rattle.thing_topics.specs.Readings.{◌>>=◌, or_fault, tested}
use Rattle.thing_topics.proofs.Cutting.{behind_front, behind_none, front_behind}
use Rattle.thing_topics.proofs.Binding.{some_passed}
use Rattle.thing_topics.proofs.Fronting.{from_root, from_level, ended}

-- the first step failed, or it passed and the others did
pub failed : {A B : Type 0} (step : Result A TopicFault) (next : A → Result B TopicFault) (e : TopicFault) → (step >>= next) ≡ Err e
    → (step ≡ Err e) ⊎ ((x : A) × (step ≡ Ok x) × (next x ≡ Err e))
failed (Ok x) next e h = inr (x, refl, h)
failed (Err f) next e h =
    let same : f ≡ e = cc h in
    inl (ap Err same)

pub none_failed : {A : Type 0} (fault e : TopicFault) (o : Option A) → or_fault fault o ≡ Err e → (o ≡ None) × (fault ≡ e)
none_failed fault e None h = (refl, cc)
none_failed fault e (Some x) h = absurd (cc h)

pub test_failed : {A : Type 0} (fault e : TopicFault) (test : Bool) (x : A) → tested fault test x ≡ Err e → (test ≡ false) × (fault ≡ e)
test_failed fault e true x h = absurd (cc h)
test_failed fault e false x h = (refl, cc)

-- what a fault says of the text, where Part says P
pub record Cause (P : Type 0) (text : List ℕ) (e : TopicFault) : Type 0 where
  pub no_root : e ≡ faults.Root → HasNoRoot text
  pub no_thing : e ≡ faults.Thing → HasNoThing text
  pub no_part : e ≡ faults.Part → P

pub of_part : {P : Type 0} (text : List ℕ) (e : TopicFault) → faults.Part ≡ e → P → Cause P text e
of_part text e same part = record { no_root = λ is. absurd (cc (same, is)); no_thing = λ is. absurd (cc (same, is)); no_part = λ is. part }

pub of_kind : {P : Type 0} (text : List ℕ) (e : TopicFault) → faults.Kind ≡ e → Cause P text e
of_kind text e same = record { no_root = λ is. absurd (cc (same, is)); no_thing = λ is. absurd (cc (same, is)); no_part = λ is. absurd (cc (same, is)) }

no_root_from : (text : List ℕ) → behind root text ≡ None → HasNoRoot text
no_root_from text none rest whole = cc (sym none ∙ ap (behind root) whole ∙ behind_front root rest)

of_root : (text : List ℕ) (e : TopicFault) → (behind root text ≡ None) × (faults.Root ≡ e) → Cause ⊥ text e
of_root text e f = record { no_root = λ is. no_root_from text f.0; no_thing = λ is. absurd (cc (f.1, is)); no_part = λ is. cc (f.1, is) }

of_thing : (text rest : List ℕ) (e : TopicFault) → behind root text ≡ Some rest → (is_thing (first_level rest).0 ≡ false) × (faults.Thing ≡ e) → Cause ⊥ text e
of_thing text rest e some f = record {
  no_root = λ is. absurd (cc (f.1, is));
  no_thing = λ is. record { rest = rest; rooted = front_behind root text rest some; no_thing = f.0 };
  no_part = λ is. cc (f.1, is);
}

level_fault : (service text : List ℕ) (level : List ℕ × Option (List ℕ)) (e : TopicFault) → from_level service level ≡ Err e → Cause ⊥ text e
level_fault service text level e h =
    elim (failed (or_fault faults.Kind (behind_some service level.1)) (ended level.0) e h) [
      | inl first ↦ of_kind text e (none_failed faults.Kind e (behind_some service level.1) first).1
      | inr others ↦ absurd (cc (others.2))
    ]

rest_fault : (service text rest : List ℕ) (e : TopicFault) → behind root text ≡ Some rest → from_root service rest ≡ Err e → Cause ⊥ text e
rest_fault service text rest e some h =
    elim (failed (tested faults.Thing (is_thing (first_level rest).0) (first_level rest)) (from_level service) e h) [
      | inl first ↦ of_thing text rest e some (test_failed faults.Thing e (is_thing (first_level rest).0) (first_level rest) first)
      | inr others ↦ level_fault service text others.0 e others.2
    ]

at_front : (service text : List ℕ) (e : TopicFault) → front_of service text ≡ Err e → Cause ⊥ text e
unfolding front_of
at_front service text e h =
    elim (failed (or_fault faults.Root (behind root text)) (from_root service) e h) [
      | inl first ↦ of_root text e (none_failed faults.Root e (behind root text) first)
      | inr others ↦ rest_fault service text others.0 e (some_passed faults.Root (behind root text) others.0 others.1) others.2
    ]

-- the faults that the front itself gives, of which Part is none
pub front_fault : {P : Type 0} (service text : List ℕ) (e : TopicFault) → front_of service text ≡ Err e → Cause P text e
front_fault service text e h =
    let cause = at_front service text e h in
    record { no_root = cause.no_root; no_thing = cause.no_thing; no_part = λ is. absurd (cause.no_part is) }

-- and the other way round
pub root_fault : (service text : List ℕ) → HasNoRoot text → front_of service text ≡ Err faults.Root
unfolding front_of
root_fault service text none = rw (behind_none root text none) refl

pub thing_fault : (service text : List ℕ) → HasNoThing text → front_of service text ≡ Err faults.Thing
unfolding front_of
thing_fault service text none =
    let some : behind root text ≡ Some none.rest = ap (behind root) none.rooted ∙ behind_front root none.rest in
    rw (some, none.no_thing) refl

kind_from : {P : Type 0} (T : P → Type 0) (text : List ℕ) (Part : Type 0) (r : Result P TopicFault) → ((r ≡ Err faults.Root) ↔ HasNoRoot text) → ((r ≡ Err faults.Thing) ↔ HasNoThing text)
    → ((r ≡ Err faults.Part) ↔ Part) → ((p : P) → (r ≡ Ok p) ↔ T p) → IsFault Part ((p : P) × T p) text faults.Kind → r ≡ Err faults.Kind
kind_from T text Part (Ok p) root_iff thing_iff part_iff ok none = absurd (none.3 (p, (ok p).0 refl))
kind_from T text Part (Err faults.Root) root_iff thing_iff part_iff ok none = absurd (none.0 (root_iff.0 refl))
kind_from T text Part (Err faults.Thing) root_iff thing_iff part_iff ok none = absurd (none.1 (thing_iff.0 refl))
kind_from T text Part (Err faults.Part) root_iff thing_iff part_iff ok none = absurd (none.2 (part_iff.0 refl))
kind_from T text Part (Err faults.Kind) root_iff thing_iff part_iff ok none = refl

-- each fault stands for its cause
pub own_fault : {P : Type 0} (T : P → Type 0) (text : List ℕ) (Part : Type 0) (r : Result P TopicFault) → ((r ≡ Err faults.Root) ↔ HasNoRoot text) → ((r ≡ Err faults.Thing) ↔ HasNoThing text)
    → ((r ≡ Err faults.Part) ↔ Part) → ((p : P) → (r ≡ Ok p) ↔ T p) → (fault : TopicFault) → (r ≡ Err fault) ↔ IsFault Part ((p : P) × T p) text fault
own_fault T text Part r root_iff thing_iff part_iff ok faults.Root = root_iff
own_fault T text Part r root_iff thing_iff part_iff ok faults.Thing = thing_iff
own_fault T text Part r root_iff thing_iff part_iff ok faults.Part = part_iff
own_fault T text Part r root_iff thing_iff part_iff ok faults.Kind = (
  λ h. (λ a. cc (h, root_iff.1 a), λ b. cc (h, thing_iff.1 b), λ c. cc (h, part_iff.1 c), λ d. cc (h, (ok d.0).1 d.1)),
  kind_from T text Part r root_iff thing_iff part_iff ok,
)

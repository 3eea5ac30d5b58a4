-- The stages of publishes keep step with the open commands.
use Rattle.std.proofs.Common.{◌≡◌, ℕ, Bool, true, false, not, List, [], ◌∷◌, refl, ap, sym, ◌∙◌, subst, arith}
use Rattle.std.specs.Prelude.{◌||◌, ◌==◌, filter}
use Rattle.std.specs.List.{AllByRecursion, IsDistinct}
use Rattle.std.proofs.lemmas.Bool.Decides.{nat_tests}
use Rattle.std.proofs.lemmas.Map.Keys.{IsDistinct-head, IsDistinct-tail, IsDistinct-cons, IsDistinct-from_apart}
use Rattle.mqtt_packet.specs.declared.qos.Qos.{Qos}
use Rattle.agent_journal.specs.Readings.{Pending}
use Rattle.agent_table.specs.Deliveries.{publishes, is_open_publish, is_among, is_at_least_once, is_exactly_once}
use Rattle.agent_core.specs.Tied.{IsTied, ids_at, is_same}
use Rattle.pending_acks.specs.Commands.{has_id, others}
use Rattle.qos_state.specs.Deliveries.{Deliveries, freed, without}

-- ---- Without one identifier

pub none_distinct : IsDistinct is_same []
none_distinct = IsDistinct-from_apart is_same [] (λ i j d before within. absurd (omega arith))

ids_without : (at : Qos → Bool) (n : ℕ) (commands : List Pending) → ids_at at (others n commands) ≡ without n (ids_at at commands)
ids_without at n [] = refl
ids_without at n (command ∷ commands) = go (has_id n command) (publishes at command.request) refl refl (ids_without at n commands)
  where
    go : (same wanted : Bool) → has_id n command ≡ same → publishes at command.request ≡ wanted → ids_at at (others n commands) ≡ without n (ids_at at commands)
        → ids_at at (others n (command ∷ commands)) ≡ without n (ids_at at (command ∷ commands))
    go true true same wanted rest = rw (same, wanted, same) rest
    go true false same wanted rest = rw (same, wanted) rest
    go false true same wanted rest = rw (same, wanted, same) (ap (λ ids. command.id ∷ ids) rest)
    go false false same wanted rest = rw (same, wanted) rest

-- another identifier stays where it was
among_without : (n m : ℕ) (ids : List ℕ) → (m == n) ≡ false → is_among (without n ids) m ≡ is_among ids m
among_without n m [] apart = refl
among_without n m (id ∷ ids) apart = go (id == n) refl (among_without n m ids apart)
  where
    other : (id == n) ≡ true → (id == m) ≡ false
    other same = grind (arith, nat_tests)

    go : (same : Bool) → (id == n) ≡ same → is_among (without n ids) m ≡ is_among ids m → is_among (without n (id ∷ ids)) m ≡ is_among (id ∷ ids) m
    go true same rest = rw (same, other same) rest
    go false same rest = rw same (ap (λ b. (id == m) || b) rest)

waiting_without : (n : ℕ) (released ids : List ℕ) → filter (λ m. not (is_among (without n released) m)) (without n ids) ≡ without n (filter (λ m. not (is_among released m)) ids)
waiting_without n released [] = refl
waiting_without n released (id ∷ ids) = go (id == n) (is_among released id) refl refl (waiting_without n released ids)
  where
    go : (same gone : Bool) → (id == n) ≡ same → is_among released id ≡ gone
        → filter (λ m. not (is_among (without n released) m)) (without n ids) ≡ without n (filter (λ m. not (is_among released m)) ids)
        → filter (λ m. not (is_among (without n released) m)) (without n (id ∷ ids)) ≡ without n (filter (λ m. not (is_among released m)) (id ∷ ids))
    go true true same gone rest = rw (same, gone) rest
    go true false same gone rest = rw (same, gone, same) rest
    go false true same gone rest = rw (same, gone, among_without n id released same ∙ gone) rest
    go false false same gone rest = rw (same, gone, among_without n id released same ∙ gone, same) (ap (λ ms. id ∷ ms) rest)

open_without : (n m : ℕ) (commands : List Pending) → (m == n) ≡ false → is_open_publish is_exactly_once commands m ≡ true → is_open_publish is_exactly_once (others n commands) m ≡ true
open_without n m [] apart here = absurd (cc here)
open_without n m (command ∷ commands) apart here = go (has_id n command) (has_id m command) refl refl here (open_without n m commands apart)
  where
    both : has_id n command ≡ true → has_id m command ≡ true → ⊥
    both a b = grind (arith, nat_tests)

    go : (same own : Bool) → has_id n command ≡ same → has_id m command ≡ own → is_open_publish is_exactly_once (command ∷ commands) m ≡ true
        → (is_open_publish is_exactly_once commands m ≡ true → is_open_publish is_exactly_once (others n commands) m ≡ true)
        → is_open_publish is_exactly_once (others n (command ∷ commands)) m ≡ true
    go true true same own here rest = absurd (both same own)
    go true false same own here rest = rw same (rest (rw own at here))
    go false true same own here rest = within (publishes is_exactly_once command.request) refl
      where
        within : (b : Bool) → publishes is_exactly_once command.request ≡ b → is_open_publish is_exactly_once (others n (command ∷ commands)) m ≡ true
        within true e = rw (same, own, e) refl
        within false e = rw (same, own, e) (rest (rw (own, e) at here))
    go false false same own here rest = rw (same, own) (rest (rw own at here))

pub still_open : (n : ℕ) (commands : List Pending) (released : List ℕ) → AllByRecursion (λ m. is_open_publish is_exactly_once commands m ≡ true) released
    → AllByRecursion (λ m. is_open_publish is_exactly_once (others n commands) m ≡ true) (without n released)
still_open n commands [] all = tt
still_open n commands (m ∷ released) all = go (m == n) refl (still_open n commands released all.1)
  where
    go : (same : Bool) → (m == n) ≡ same → AllByRecursion (λ m. is_open_publish is_exactly_once (others n commands) m ≡ true) (without n released)
        → AllByRecursion (λ m. is_open_publish is_exactly_once (others n commands) m ≡ true) (without n (m ∷ released))
    go true same rest = rw same rest
    go false same rest = rw same (open_without n m commands same all.0, rest)

all_apart : (n x : ℕ) (ids : List ℕ) → AllByRecursion (λ y. is_same x y ≡ false) ids → AllByRecursion (λ y. is_same x y ≡ false) (without n ids)
all_apart n x [] all = tt
all_apart n x (id ∷ ids) all = go (id == n) refl (all_apart n x ids all.1)
  where
    go : (same : Bool) → (id == n) ≡ same → AllByRecursion (λ y. is_same x y ≡ false) (without n ids) → AllByRecursion (λ y. is_same x y ≡ false) (without n (id ∷ ids))
    go true same rest = rw same rest
    go false same rest = rw same (all.0, rest)

distinct_without : (n : ℕ) (ids : List ℕ) → IsDistinct is_same ids → IsDistinct is_same (without n ids)
distinct_without n [] once = none_distinct
distinct_without n (id ∷ ids) once = go (id == n) refl (distinct_without n ids (IsDistinct-tail is_same id ids once))
  where
    go : (same : Bool) → (id == n) ≡ same → IsDistinct is_same (without n ids) → IsDistinct is_same (without n (id ∷ ids))
    go true same rest = rw same rest
    go false same rest = rw same (IsDistinct-cons is_same id (without n ids) (all_apart n id ids (IsDistinct-head is_same id ids once)) rest)

pub tied_without : (n : ℕ) (commands : List Pending) (d : Deliveries) → IsTied commands d → IsTied (others n commands) (freed n d)
tied_without n commands d tie = record {
  at_least_once = ap (without n) tie.at_least_once ∙ sym (ids_without is_at_least_once n commands);
  exactly_once = ap (without n) tie.exactly_once ∙ sym (waiting_without n d.released (ids_at is_exactly_once commands)) ∙ sym (ap (filter (λ m. not (is_among (without n d.released) m))) (ids_without is_exactly_once n commands));
  released = still_open n commands d.released tie.released;
  once = distinct_without n d.released tie.once;
}

pub tied_on : (n : ℕ) (commands now : List Pending) (d next : Deliveries) → IsTied commands d → now ≡ others n commands → next ≡ freed n d → IsTied now next
tied_on n commands now d next tie is_now is_next = subst (λ (cs : List Pending). IsTied cs next) (sym is_now) (subst (λ (e : Deliveries). IsTied (others n commands) e) (sym is_next) (tied_without n commands d tie))

-- What begins of the copies that wait, one by one.
use Rattle.std.proofs.Common.{◌≡◌, ℕ, suc, ◌+◌, ◌-◌, ◌<◌, ◌≤◌, true, false, List, [], ◌∷◌, ◌++◌, length, drop, get_or, refl, ap, sym, ◌∙◌, append_assoc, arith}
use Rattle.std.specs.Prelude.{nat_lt}
use Rattle.std.proofs.lemmas.List.{append-nil, length-append}
use Rattle.std.proofs.lemmas.Bool.{le-ltb}
use Rattle.agent_table.specs.Identifiers.{fresh, last_or}
use Rattle.broker_core.specs.declared.delivery.Delivery.{Delivery}
use Rattle.broker_core.specs.declared.delivery.Waiting.{Waiting}
use Rattle.broker_core.specs.Session.{begun, ids_of}
use Rattle.broker_core.proofs.Loops.{next_of, end_of}

pub begun_more : (now new whole : List Delivery) (last : ℕ) (used more : List ℕ) (waiting : List Waiting) (copy : Waiting) (n : ℕ) → n ≡ length now → n < length waiting → copy ≡ get_or waiting n copy → nat_lt (length used) 16 ≡ true
    → now ++ begun last used (drop (length now) waiting) ≡ whole → more ≡ used ++ fresh last used ∷ [] → new ≡ now ++ record { id = fresh last used; place = copy.place; qos = copy.qos } ∷ []
    → new ++ begun (fresh last used) more (drop (length new) waiting) ≡ whole
begun_more now new whole last used more waiting copy n count lt is room so_far drawn pushed =
    rw (drawn, pushed) (append_assoc now (first ∷ []) (begun (fresh last used) (used ++ fresh last used ∷ []) (drop (length (now ++ first ∷ [])) waiting))
    ∙ ap (λ cs. now ++ first ∷ begun (fresh last used) (used ++ fresh last used ∷ []) cs) (ap (λ k. drop k waiting) one_longer)
    ∙ ap (λ ds. now ++ ds) (sym (ap (begun last used) at_front ∙ rw room refl)) ∙ so_far)
  where
    first : Delivery
    first = record { id = fresh last used; place = copy.place; qos = copy.qos }

    one_longer : length (now ++ first ∷ []) ≡ length now + 1
    one_longer = length-append now (first ∷ [])

    at_front : drop (length now) waiting ≡ copy ∷ drop (length now + 1) waiting
    at_front = next_of waiting (length now) copy (rw (← count) lt) (rw (← count) is)

pub begun_full : (now whole : List Delivery) (last : ℕ) (used : List ℕ) (waiting : List Waiting) → 16 ≤ length used → now ++ begun last used (drop (length now) waiting) ≡ whole → now ≡ whole
begun_full now whole last used waiting full so_far = sym (append-nil now) ∙ ap (λ ds. now ++ ds) (none (drop (length now) waiting)) ∙ so_far
  where
    closed : nat_lt (length used) 16 ≡ false
    closed = le-ltb (length used) 16 full

    none : (copies : List Waiting) → [] ≡ begun last used copies
    none [] = refl
    none (copy ∷ copies) = rw closed refl

pub begun_all : (now whole : List Delivery) (last : ℕ) (used : List ℕ) (waiting : List Waiting) (n : ℕ) → n ≡ length now → length waiting ≤ n → now ++ begun last used (drop (length now) waiting) ≡ whole → now ≡ whole
begun_all now whole last used waiting n count past so_far = sym (append-nil now) ∙ ap (λ cs. now ++ begun last used cs) (sym (end_of waiting (length now) (omega (arith, count, past)))) ∙ so_far

-- ---- The identifier that was drawn last

pub last_of : (last : ℕ) (ds : List Delivery) (d : Delivery) → 0 < length ds → d ≡ get_or ds (length ds - 1) d → d.id ≡ last_or last (ids_of ds)
last_of last [] d some is = absurd (omega (arith, some))
last_of last (x ∷ []) d some is = ap (λ (y : Delivery). y.id) is
last_of last (x ∷ y ∷ ds) d some is =
    let e : length (x ∷ y ∷ ds) - 1 ≡ suc (length (y ∷ ds) - 1) = omega arith in
    last_of x.id (y ∷ ds) d (omega arith) (is ∙ ap (λ n. get_or (x ∷ y ∷ ds) n d) e)

pub last_of_none : (last : ℕ) (ds : List Delivery) → length ds ≡ 0 → last ≡ last_or last (ids_of ds)
last_of_none last [] none = refl
last_of_none last (d ∷ ds) none = absurd (omega (arith, none))

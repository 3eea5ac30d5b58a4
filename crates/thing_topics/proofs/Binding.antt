-- What it says that steps of a reading passed.
use Rattle.std.proofs.Common.{◌≡◌, ℕ, List, [], ◌∷◌, Bool, true, false, cond, Option, Some, None, Result, Ok, Err, refl, sym, ap, ◌∙◌}
use Rattle.std.specs.Prelude.{◌&&◌, not}
use Rattle.std.specs.List.{find, list_all}
use Rattle.std.specs.Str.{bytes_eq}
use Rattle.std.proofs.lemmas.Bool.{and_parts}
use Rattle.std.proofs.lemmas.Slice.Eq.{bytes_eq-Decides}
use Rattle.thing_topics.specs.declared.faults.TopicFault.{TopicFault}
use Rattle.thing_topics.specs.declared.faults.NameFault.{NameFault}
use Rattle.thing_topics.specs.Readings.{◌>>=◌, or_fault, tested}

-- the first step gave x, and the others went on from it
pub record Passed {A B : Type 0} (step : Result A TopicFault) (next : A → Result B TopicFault) (y : B) : Type 0 where
  pub x : A
  pub first : step ≡ Ok x
  pub others : next x ≡ Ok y

pub passed : {A B : Type 0} (step : Result A TopicFault) (next : A → Result B TopicFault) (y : B) → (step >>= next) ≡ Ok y → Passed step next y
passed (Ok x) next y h = record { x = x; first = refl; others = h }
passed (Err e) next y h = absurd (cc h)

pub some_passed : {A : Type 0} (fault : TopicFault) (o : Option A) (x : A) → or_fault fault o ≡ Ok x → o ≡ Some x
some_passed fault None x h = absurd (cc h)
some_passed fault (Some y) x h = cc

pub test_passed : {A : Type 0} (fault : TopicFault) (test : Bool) (x y : A) → tested fault test x ≡ Ok y → (test ≡ true) × (x ≡ y)
test_passed fault true x y h = (refl, cc)
test_passed fault false x y h = absurd (cc h)

found_by : {X : Type 0} (here : Bool) (p q : X → Bool) (x y : X) (xs : List X) → p x ≡ here → (q x && list_all q xs) ≡ true
    → (find p xs ≡ Some y → list_all q xs ≡ true → (p y ≡ true) × (q y ≡ true)) → cond here (Some x) (find p xs) ≡ Some y → (p y ≡ true) × (q y ≡ true)
found_by true p q x y xs e all others h =
    let same : x ≡ y = cc in
    (ap p (sym same) ∙ e, ap q (sym same) ∙ (and_parts (q x) (list_all q xs) all).0)
found_by false p q x y xs e all others h = others h (and_parts (q x) (list_all q xs) all).1

-- what is found passes, and has what all have
pub found : {X : Type 0} (p q : X → Bool) (y : X) (xs : List X) → list_all q xs ≡ true → find p xs ≡ Some y → (p y ≡ true) × (q y ≡ true)
found p q y [] all h = absurd (cc h)
found p q y (x ∷ xs) all h = found_by (p x) p q x y xs refl all (λ found_later all_later. found p q y xs all_later found_later) h

-- the kind that is found by its word has that word
pub written_so : {X : Type 0} (word : X → List ℕ) (q : X → Bool) (kinds : List X) (text : List ℕ) (kind : X) → list_all q kinds ≡ true
    → find (λ k. bytes_eq (word k) text) kinds ≡ Some kind → (word kind ≡ text) × (q kind ≡ true)
written_so word q kinds text kind all h =
    let both = found (λ k. bytes_eq (word k) text) q kind kinds all h in
    ((bytes_eq-Decides (word kind) text).0 both.0, both.1)

-- no part has a fault where each is of its class
pub no_fault_by : (thing name : Bool) (first second : NameFault) → cond (not thing) (Some first) (cond (not name) (Some second) None) ≡ None → (thing ≡ true) × (name ≡ true)
no_fault_by true true first second h = (refl, refl)
no_fault_by true false first second h = absurd (cc h)
no_fault_by false name first second h = absurd (cc h)

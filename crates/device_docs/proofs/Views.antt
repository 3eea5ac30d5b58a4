-- Lists of values and of members, as the code has them and as a definition has them.
use Rattle.std.proofs.Common.{◌≡◌, ◌≢◌, ◌↔◌, ℕ, suc, ◌==◌, List, [], ◌∷◌, map, length, Bool, true, false, ◌||◌, IsTrue, Option, Some, Err, String, Global, string_bytes, Less, refl, sym, ap, arith, ne_eqb}
use Rattle.std.specs.Cmp.Lexicographic.{slice_cmp}
use Rattle.std.specs.List.{list_any, AllByRecursion}
use Rattle.std.specs.List.Sorted.{IsStrictlySortedBy}
use Rattle.std.specs.Map.{keys_of}
use Rattle.std.specs.Ordering.{nat_cmp}
use Rattle.std.specs.String.{string_cmp}
use Rattle.serde_json.specs.declared.value.Value.{Value}
use Rattle.serde_json.specs.View.{view, items_view, members_view}
use Rattle.serde_json.specs.Events.{items_len, members_len}
use Rattle.serde_json.specs.Data.{Data}
use Rattle.serde_json.specs.Find.{as_object}
use Rattle.device_docs.specs.declared.faults.DocFault.TheVariants as f
use Rattle.device_docs.specs.Changes.{IsInOrder, sets_of}
use Rattle.device_docs.specs.Jobs.{is_mqtt, has_mqtt, is_idle}
use Rattle.device_docs.specs.JobSteps.{one_file}

pub any_mqtt : (vs : List Value) → has_mqtt (items_view vs) ≡ list_any (λ v. is_mqtt (view v)) vs
any_mqtt [] = refl
any_mqtt (v ∷ vs) = ap (λ b. is_mqtt (view v) || b) (any_mqtt vs)

pub items_len_view : (vs : List Value) → items_len (items_view vs) ≡ length vs
items_len_view [] = refl
items_len_view (v ∷ vs) = ap suc (items_len_view vs)

pub members_len_view : (es : List (String Global × Value)) → members_len (members_view es) ≡ length es
members_len_view [] = refl
members_len_view (e ∷ es) = ap suc (members_len_view es)

-- a list of more or fewer than one value
pub not_one : (vs : List Value) (n : ℕ) → n ≡ length vs → n ≢ 1 → one_file (items_view vs) ≡ Err (f.Files n)
unfolding one_file
not_one [] n e h = rw e refl
not_one (v ∷ []) n e h = absurd (h e)
not_one (v ∷ w ∷ vs) n e h = rw e (ap (λ (k : ℕ). Err (f.Files (suc (suc k)))) (items_len_view vs))

empty_is : (es : List (String Global × Value)) (b : Bool) → (IsTrue b ↔ (length es ≡ 0)) → b ≡ (members_len (members_view es) == 0)
empty_is [] true h = refl
empty_is [] false h = h.1 refl
empty_is (e ∷ es) true h = absurd (omega (arith, h.0 refl))
empty_is (e ∷ es) false h = sym (ne_eqb (suc (members_len (members_view es))) 0 (λ z. omega (arith, z)))

pub idle_is : (o : Option Data) (execution : Data) (es : List (String Global × Value)) (b : Bool) → Some execution ≡ o → Some (members_view es) ≡ as_object execution → (IsTrue b ↔ (length es ≡ 0)) → b ≡ is_idle o
idle_is o execution es b found members empty = rw (← found, ← members) (empty_is es b empty)

-- ---- The sets of a map are in the order of its keys

below : (key : String Global) (es : List (String Global × Value)) → AllByRecursion (λ k. string_cmp key k ≡ Less) (keys_of es)
    → AllByRecursion (λ k. slice_cmp nat_cmp (string_bytes key) k ≡ Less) (map (λ set. set.0) (sets_of (members_view es)))
below key [] h = tt
below key (e ∷ es) h = (h.0, below key es h.1)

pub sets_in_order : (es : List (String Global × Value)) → IsStrictlySortedBy string_cmp (keys_of es) → IsInOrder (sets_of (members_view es))
unfolding IsStrictlySortedBy
sets_in_order [] h = tt
sets_in_order (e ∷ es) h = (below e.0 es h.0, sets_in_order es h.1)

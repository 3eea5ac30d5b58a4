-- All tasks have left where each flag of the list is set.
use Rattle.std.proofs.Common.{◌≡◌, ℕ, zero, suc, ◌≤◌, Bool, true, false, List, length, take, get_or, refl, sym, ap, ◌∙◌, arith, add-one}
use Rattle.std.specs.Prelude.{◌&&◌, slice_index_or}
use Rattle.std.specs.List.{list_all}
use Rattle.std.proofs.lemmas.List.Folds.{list_all_more}
use Rattle.std.proofs.lemmas.List.{take_all}
use Rattle.agent_table.specs.Breaks.{all_left}

and_swapped : (a b : Bool) → (a && b) ≡ (b && a)
and_swapped true true = refl
and_swapped true false = refl
and_swapped false true = refl
and_swapped false false = refl

front_left : (flags : List Bool) (n : ℕ) → n ≤ length flags → list_all (λ flag. flag) (take n flags) ≡ all_left n (λ t. slice_index_or flags t false)
front_left flags zero within = refl
front_left flags (suc n) within =
    ap (λ k. list_all (λ flag. flag) (take k flags)) (sym (add-one n)) ∙ list_all_more (λ flag. flag) flags n false (omega arith)
    ∙ and_swapped (list_all (λ flag. flag) (take n flags)) (get_or flags n false)
    ∙ ap (λ b. get_or flags n false && b) (front_left flags n (omega arith))

pub all_left_list : (flags : List Bool) (n : ℕ) (result : Bool) → result ≡ list_all (λ flag. flag) flags → length flags ≡ n → result ≡ all_left n (λ t. slice_index_or flags t false)
all_left_list flags n result e size =
    e ∙ ap (list_all (λ flag. flag)) (sym (take_all n flags (omega arith))) ∙ front_left flags n (omega arith)

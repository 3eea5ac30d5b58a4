-- A read from bytes in memory gives their front.
use Rattle.std.proofs.Common.{◌≡◌, ℕ, ◌+◌, ◌<◌, ◌≤◌, min, List, [], ◌++◌, length, take, drop, sym, ap, ◌∙◌, arith}
use Rattle.std.proofs.lemmas.List.{drop-drop, drop_all, take-append-drop}

pub gave : (items rest buf told : List ℕ) (at n : ℕ) → told ≡ drop at items → rest ≡ drop at items → take n buf ≡ take n rest → told ≡ take n buf ++ drop (at + n) items
gave items rest buf told at n e r front =
    e ∙ sym (take-append-drop n (drop at items)) ∙ ap (λ l. l ++ drop n (drop at items)) (sym (front ∙ ap (take n) r)) ∙ ap (λ l. take n buf ++ l) (drop-drop n at items)

pub gave_all : (items rest room buf : List ℕ) (at n : ℕ) → rest ≡ drop at items → n ≡ min (length rest) (length room) → length buf ≡ length room → n ≡ 0 → 0 < length buf → drop (at + n) items ≡ []
gave_all items rest room buf at n r count same none some =
    let short : length (drop at items) ≤ n = omega (arith, ap length r) in
    sym (drop-drop n at items) ∙ drop_all n (drop at items) short

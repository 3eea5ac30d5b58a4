-- The rows of readers, and numbers in decimal.
use Rattle.std.proofs.Common.{◌≡◌, ◌<◌, ℕ, ◌+◌, List, [], ◌∷◌, ◌++◌, take, get_or, length, ap, sym, ◌∙◌, arith, length-take-le}
use Rattle.std.proofs.lemmas.List.{take_more}
use Rattle.mirror_run.specs.Answers.{numbered}

numbered_from : (n m : ℕ) (xs : List ℕ) (v : ℕ) → m ≡ n + length xs → numbered n (xs ++ v ∷ []) ≡ numbered n xs ++ (m, v) ∷ []
numbered_from n m [] v is = ap (λ k. (k, v) ∷ []) (omega (arith, is))
numbered_from n m (x ∷ xs) v is = ap (λ rows. (n, x) ∷ rows) (numbered_from (n + 1) m xs v (omega (arith, is)))

-- one more row
pub row_more : (versions : List ℕ) (rows new : List (ℕ × ℕ)) (i r v d : ℕ) → i < length versions → r ≡ i → v ≡ get_or versions i d → rows ≡ numbered 0 (take i versions)
    → new ≡ rows ++ (r, v) ∷ [] → new ≡ numbered 0 (take (i + 1) versions)
row_more versions rows new i r v d within same is so_far pushed =
    pushed ∙ ap (λ l. l ++ (r, v) ∷ []) so_far ∙ ap (λ n. numbered 0 (take i versions) ++ (n, v) ∷ []) same
    ∙ sym (numbered_from 0 i (take i versions) v (omega (arith, length-take-le i versions (omega (arith, within)))))
    ∙ ap (numbered 0) (ap (λ x. take i versions ++ x ∷ []) is ∙ sym (take_more versions i d within))

-- Submissions by their tasks, and in their turn.
use Rattle.std.proofs.Common.{false, ◌≡◌, ◌≢◌, ℕ, ◌⊎◌, List, [], ◌∷◌, ◌++◌, length, cond, ◌||◌, refl, sym, ap, subst, ◌∙◌, inl, inr, ⊎_elim, eq-eqb, ne_eqb, length-append, append-nil, arith}
use Rattle.std.proofs.lemmas.List.Elements.{filter-append}
use Rattle.std.proofs.lemmas.List.Folds.{list_any-append}
use Rattle.agent_journal.specs.Readings.{is_leave}
use Rattle.task_queues.specs.declared.submission.Submission.{Submission}
use Rattle.std.specs.List.{AllByRecursion}
use Rattle.task_queues.specs.Submissions.{task_of, request_of, of_task, has_leave, MayFollow, IsInTurn}

pub of_task-own : (k : ℕ) (s : Submission) (rest : List Submission) → task_of s ≡ k → of_task k (s ∷ rest) ≡ s ∷ of_task k rest
of_task-own k s rest own = ap (λ b. cond b (s ∷ of_task k rest) (of_task k rest)) (eq-eqb (task_of s) k own)

pub of_task-other : (k : ℕ) (s : Submission) (rest : List Submission) → task_of s ≢ k → of_task k (s ∷ rest) ≡ of_task k rest
of_task-other k s rest other = ap (λ b. cond b (s ∷ of_task k rest) (of_task k rest)) (ne_eqb (task_of s) k other)

pub of_task-append : (k : ℕ) (a b : List Submission) → of_task k (a ++ b) ≡ of_task k a ++ of_task k b
of_task-append k a b = filter-append _ a b

-- a submission more, of task k and of another
pub of_task-snoc_own : (k : ℕ) (all : List Submission) (s : Submission) → task_of s ≡ k → of_task k (all ++ s ∷ []) ≡ of_task k all ++ s ∷ []
of_task-snoc_own k all s own = of_task-append k all (s ∷ []) ∙ ap (λ l. of_task k all ++ l) (of_task-own k s [] own)

pub of_task-snoc_other : (k : ℕ) (all : List Submission) (s : Submission) → task_of s ≢ k → of_task k (all ++ s ∷ []) ≡ of_task k all
of_task-snoc_other k all s other = of_task-append k all (s ∷ []) ∙ ap (λ l. of_task k all ++ l) (of_task-other k s [] other) ∙ append-nil (of_task k all)

-- one more that is no Leave
pub no_leave_snoc : (all : List Submission) (s : Submission) → has_leave all ≡ false → is_leave (request_of s) ≡ false → has_leave (all ++ s ∷ []) ≡ false
no_leave_snoc all s none not = list_any-append (λ x. is_leave (request_of x)) all (s ∷ []) ∙ (λ i. none i || (not i || false))

pub no_member_of_none : {A : Type 0} (before after : List A) (s : A) (P : Type 0) → [] ≡ before ++ s ∷ after → P
no_member_of_none before after s P e = absurd (omega (arith, ap length e, length-append before (s ∷ after)))

abbrev head : {A : Type 0} → A → List A → A
head d [] = d
head d (x ∷ xs) = x

abbrev tail : {A : Type 0} → List A → List A
tail [] = []
tail (x ∷ xs) = xs

-- where a list with x at its end is cut in front of s, either s is that x, or the rest is cut there
cut : {A : Type 0} (rest before after : List A) (x s : A) → rest ++ x ∷ [] ≡ before ++ s ∷ after
    → ((before ≡ rest) × (s ≡ x)) ⊎ ((between : List A) × (rest ≡ before ++ s ∷ between))
cut [] [] after x s e = inl (refl, sym (ap (head x) e))
cut [] (b ∷ bs) after x s e = no_member_of_none bs after s _ (ap tail e)
cut (y ∷ ys) [] after x s e = inr (ys, ap (λ z. z ∷ ys) (ap (head y) e))
cut (y ∷ ys) (b ∷ bs) after x s e =
    let same : y ≡ b = ap (head y) e in
    ⊎_elim (λ t. inl ((λ i. sym same i ∷ t.0 i), t.1)) (λ t. inr (t.0, λ i. same i ∷ t.1 i)) (cut ys bs after x s (ap tail e))

pub in_turn_none : IsInTurn []
in_turn_none before s after e = no_member_of_none before after s (MayFollow before s) e

pub in_turn_snoc : (sent : List Submission) (x : Submission) → IsInTurn sent → MayFollow sent x → IsInTurn (sent ++ x ∷ [])
in_turn_snoc sent x turn may before s after e = ⊎_elim (λ t. subst (λ b. MayFollow b s) (sym t.0) (subst (MayFollow sent) (sym t.1) may)) (λ t. turn before s t.0 t.1)
    (cut sent before after x s e)

pub all_snoc : {X : Type 0} (P : X → Type 0) (xs : List X) (x : X) → AllByRecursion P xs → P x → AllByRecursion P (xs ++ x ∷ [])
all_snoc P [] x h is = (is, tt)
all_snoc P (y ∷ ys) x h is = (h.0, all_snoc P ys x h.1 is)

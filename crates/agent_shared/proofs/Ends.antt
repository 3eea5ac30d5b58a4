-- The tasks' ends, taken apart one by one.
use Rattle.std.proofs.Common.{◌≡◌, ℕ, ◌+◌, List, [], ◌∷◌, ◌++◌, refl, sym, subst, append_assoc, append-nil}
use Rattle.atomic_table.specs.Seated.{TableId}
use Rattle.task_queues.specs.declared.submission.Submission.{Submission}
use Rattle.task_queues.specs.MailboxPasses.{Putting}
use Rattle.task_end.specs.Sides.{TaskSide}
use Rattle.agent_shared.specs.Gathered.{Ended, IsEndOf, AreEndsOf, IsDrained, AreDrained, joined_with}

-- What is left of the ends so far, and the ends that are still to be taken apart, of task k and on: with what will be left of
-- these it is what is left of all.
pub record IsEnding (queue : TableId) (all_posts : List Putting) (all_ends : List TaskSide) (all_joined : List (ℕ × List Submission)) (posts : List Putting) (ends : List TaskSide) (tasks : List Ended) (joined : List (ℕ × List Submission)) : Type 0 where
  pub k : ℕ
  pub are : AreEndsOf queue k posts ends
  pub so_far : (more : List Ended) → AreDrained posts ends more → AreDrained all_posts all_ends (tasks ++ more)
  pub senders : joined_with ends joined ≡ all_joined

pub ending_first : (queue : TableId) (posts : List Putting) (ends : List TaskSide) (joined : List (ℕ × List Submission)) → AreEndsOf queue 0 posts ends → IsEnding queue posts ends (joined_with ends joined) posts ends [] joined
ending_first queue posts ends joined are = record { k = 0; are = are; so_far = λ more h. h; senders = refl }

module _ (queue : TableId) (all_posts : List Putting) (all_ends : List TaskSide) (all_joined : List (ℕ × List Submission)) (ends : List TaskSide) (tasks : List Ended) (joined : List (ℕ × List Submission)) where
  abbrev Is : List Putting → List TaskSide → List Ended → List (ℕ × List Submission) → Type 0
  Is posts rest done others = IsEnding queue all_posts all_ends all_joined posts rest done others

  pub never_none : (s : TaskSide) → Is [] (s ∷ ends) tasks joined → ⊥
  never_none s h = h.are

  pub own_end : (p : Putting) (posts : List Putting) (s : TaskSide) → (h : Is (p ∷ posts) (s ∷ ends) tasks joined) → IsEndOf queue h.k p s
  own_end p posts s h = h.are.0

  pub ending_next : (p : Putting) (posts : List Putting) (s : TaskSide) (e : Ended) → Is (p ∷ posts) (s ∷ ends) tasks joined → IsDrained p s e → Is posts ends (tasks ++ e ∷ []) ((s.sender.number, s.sender.sent) ∷ joined)
  ending_next p posts s e h drained = record {
    k = h.k + 1;
    are = h.are.1;
    so_far = λ more rest. subst (AreDrained all_posts all_ends) (sym (append_assoc tasks (e ∷ []) more)) (h.so_far (e ∷ more) (drained, rest));
    senders = h.senders;
  }

  pub ended_all : (posts : List Putting) → Is posts [] tasks joined → AreDrained all_posts all_ends tasks × (joined ≡ all_joined)
  ended_all [] h = (subst (AreDrained all_posts all_ends) (append-nil tasks) (h.so_far [] tt), h.senders)
  ended_all (p ∷ posts) h = absurd h.are

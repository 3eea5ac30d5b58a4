-- What a task's work leaves, behind its leave.
use Rattle.std.proofs.Common.{◌≡◌, ℕ, ◌≤◌, List, [], ◌∷◌, ◌++◌, length, Option, None, Some, refl, sym, ap, ◌∙◌, subst, arith}
use Rattle.std.proofs.lemmas.List.{map-append}
use Rattle.std.proofs.lemmas.List.Elements.{All-weaker}
use Rattle.agent_script.specs.declared.script.Step.{Step}
use Rattle.agent_script.specs.declared.script.Step.TheVariants as steps
use Rattle.task_queues.specs.declared.note.Note.{Note}
use Rattle.task_queues.specs.Submissions.{request_of}
use Rattle.task_end.specs.Sides.{TaskSide, leave_of, sending, trying}
use Rattle.share_work.specs.Steps.{IsReady}
use Rattle.share_work.specs.Tickets.{IsSameTask}
use Rattle.share_work.specs.Working.{Working, left_of, side_of, got_by, at_gate, count_to, IsAtWork, IsThrough}
use Rattle.share_work.specs.Worked.{HasWorked}
use Rattle.share_work.proofs.Over.{all_over}
use Rattle.share_work.proofs.Coming.{over_more, heard_more, ready_more}

one_at : (current : Option Step) → length (at_gate current) ≤ 1
one_at None = omega arith
one_at (Some (steps.Do request)) = omega arith
one_at (Some (steps.Shadow op name payload)) = omega arith
one_at (Some (steps.Jobs op job payload)) = omega arith
one_at (Some steps.Wait) = omega arith
one_at (Some (steps.Listen n)) = omega arith

module _ (w : Working) (through : IsThrough w) (more : List Note) (looks fulls : ℕ) (new : TaskSide)
    (is : new ≡ sending (trying more looks fulls (side_of w)) (leave_of (side_of w))) (out : new.out ≡ []) where
  behind : TaskSide
  behind = sending (trying more looks fulls (side_of w)) (leave_of (side_of w))

  pub left_task : IsSameTask (side_of w) new
  left_task = subst (IsSameTask (side_of w)) (sym is) (record { mailbox = refl; joined = refl; pool = refl })

  pub worked : (all : List Step) → IsAtWork all w → HasWorked all w.ending w.passage new
  worked all at = subst (HasWorked all w.ending w.passage) (sym is) (record {
    done = at.done;
    left = left_of w;
    cut = at.cut;
    is_whole = through.steps;
    spent = at.spent;
    sent = map-append request_of (side_of w).sender.sent (leave_of (side_of w) ∷ []) ∙ ap (λ l. l ++ request_of (leave_of (side_of w)) ∷ []) at.sent;
    heard = heard_more (got_by w) more 0 0 at.done at.heard;
    fronts = All-weaker (IsReady all (got_by w)) (IsReady all (got_by w ++ more)) (λ front ready. ready_more all (got_by w) more front ready) (side_of w).fronts at.fronts;
    numbered = at.numbered;
    over = λ seq below. over_more (got_by w) more seq (all_over all w at through.tickets seq below);
    collected = ap (λ (s : TaskSide). s.out) (sym is) ∙ out;
    more = length (at_gate w.current);
    few = one_at w.current;
    asked = at.asked;
    answered = at.answered ∙ ap count_to (omega (arith, at.each, ap length through.tickets));
  })

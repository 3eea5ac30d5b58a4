-- What the rules say of all views.
use Rattle.std.proofs.Common.{◌≡◌, ℕ, List, ◌++◌, sym, ap, subst, ◌∙◌}
use mathlib.Core.Option.{some-injective}
use Rattle.task_queues.specs.declared.submission.Submission.{Submission}
use Rattle.task_queues.specs.declared.role.Role.{Role}
use Rattle.task_queues.specs.declared.note.Note.{Note}
use Rattle.task_queues.specs.declared.end.End.{End}
use Rattle.task_queues.specs.Submissions.{of_task, IsInTurn}
use Rattle.atomic_table.specs.Seated.{TableId}
use Rattle.task_queues.specs.QueueRule.{IsInOrder}
use Rattle.task_queues.specs.MailboxRule.{IsHandedOver}
use Rattle.task_queues.specs.Laws.{Receives, Gets, IsLawfulQueue, IsLawfulMailbox, EachQueueIsLawful, EachMailboxIsLawful}
use Rattle.task_queues.proofs.MailboxMoves.{all_got}

module _ (board : TableId) (items : List Submission) (views : List Role) (rule : IsInOrder board items views) where
  -- the list of all that was sent, as the receiver's pass knows it
  all : (p : ℕ) (v : Role) → Receives views p v → rule.all ≡ v.taken ++ items
  all p v is = rule.in_all ∙ ap (λ l. l ++ items) (sym (rule.receivers p v is.0 is.1).knows_taken)

  lawful_queue : IsLawfulQueue board items views
  lawful_queue = record {
    one_receiver = λ p q v w is also. (rule.receivers p v is.0 is.1).one_pass ∙ sym (rule.receivers q w also.0 also.1).one_pass;
    one_sender = λ p q v w is also same. some-injective p q (sym (rule.senders p v is.0 is.1).one_pass ∙ ap rule.seat same ∙ (rule.senders q w also.0 also.1).one_pass);
    in_order = λ p q v w is also. ap (of_task w.from) (sym (all p v is)) ∙ sym (rule.senders q w also.0 also.1).knows_sent;
    all_of_joined = λ p v is i d low. ap (of_task _) (sym (all p v is)) ∙ ((rule.receivers p v is.0 is.1).knows_joined i d low).1;
    of_senders = λ p v is k high. ap (of_task k) (sym (all p v is)) ∙ ((rule.receivers p v is.0 is.1).no_others k high).1;
    in_turn = λ p v is k. subst (λ l. IsInTurn (of_task k l)) (all p v is) (rule.in_turn k);
    fronts = rule.fronts;
  }

pub each_queue_is_lawful : EachQueueIsLawful
each_queue_is_lawful = lawful_queue

module _ (board : TableId) (items : List Note) (views : List End) (rule : IsHandedOver board items views) where
  put : (p : ℕ) (v : End) → Gets views p v → v.got ++ items ≡ rule.put
  put p v is = ap (λ l. l ++ items) (rule.getters p v is.0 is.1).knows_got ∙ sym rule.in_all

  lawful_mailbox : IsLawfulMailbox board items views
  lawful_mailbox = record {
    one_putter = λ p q v w is also. some-injective p q (sym (rule.putters p v is.0 is.1).one_pass ∙ (rule.putters q w also.0 also.1).one_pass);
    one_getter = λ p q v w is also. (rule.getters p v is.0 is.1).one_pass ∙ sym (rule.getters q w also.0 also.1).one_pass;
    in_order = λ p q v w is also. put p v is ∙ sym (rule.putters q w also.0 also.1).knows_put;
    all_of_joined = λ p v is. all_got rule.writer rule.put (v.got ++ items) (put p v is) v.joined (rule.getters p v is.0 is.1).knows_joined;
    sound = rule.sound;
  }

pub each_mailbox_is_lawful : EachMailboxIsLawful
each_mailbox_is_lawful = lawful_mailbox

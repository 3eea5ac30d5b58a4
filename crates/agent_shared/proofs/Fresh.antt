-- The ends of tasks, made one by one.
use Rattle.std.proofs.Common.{◌≡◌, ℕ, zero, suc, ◌+◌, List, [], ◌∷◌, ◌++◌, map, length, replicate, refl, sym, ap, ◌∙◌, subst, arith, length-append}
use Rattle.std.specs.Prelude.{Some, slice_get}
use Rattle.std.specs.List.{range_with_len}
use Rattle.std.proofs.lemmas.List.{map-append, length-map}
use Rattle.atomic_table.specs.Seated.{TableId}
use Rattle.front_board.specs.Ends.{Looking, fresh_pass}
use Rattle.task_queues.specs.QueuePasses.{Sending, fresh_sender, fresh_senders}
use Rattle.task_queues.specs.MailboxPasses.{Putting, fresh_putter}
use Rattle.task_end.specs.Sides.{Tasking}
use Rattle.agent_journal.specs.declared.setup.Setup.{Setup}
use Rattle.agent_table.specs.Sizes.{Sizes}
use Rattle.agent_posts.proofs.Growing.{nothing_is_posted}
use Rattle.agent_end.specs.Serving.{IsServing}
use Rattle.agent_shared.specs.Opened.{fresh_agent, fresh_task, fresh_tasks, AreEnds}

tasks_more : (pool queue : TableId) (k : ℕ) (ms : List TableId) (m : TableId) → fresh_tasks pool queue k (ms ++ m ∷ []) ≡ fresh_tasks pool queue k ms ++ fresh_task pool queue (k + length ms) m ∷ []
tasks_more pool queue k [] m = ap (λ n. fresh_task pool queue n m ∷ []) (omega arith)
tasks_more pool queue k (x ∷ ms) m =
    ap (λ ts. fresh_task pool queue k x ∷ ts) (tasks_more pool queue (k + 1) ms m ∙ ap (λ n. fresh_tasks pool queue (k + 1) ms ++ fresh_task pool queue n m ∷ []) (omega arith))

-- The ends so far, and the passes for those that are still to be made.
pub record IsMaking (pool queue board : TableId) (total : ℕ) (senders : List Sending) (fronts : List Looking) (tasks : List Tasking) (putters : List Putting) : Type 0 where
  pub mailboxes : List TableId
  pub ends : AreEnds pool queue (length tasks) mailboxes tasks putters
  pub theirs : senders ≡ map (fresh_sender queue) (range_with_len (length tasks) (length fronts))
  pub fresh : fronts ≡ replicate (length fronts) (fresh_pass board 0)
  pub all : length tasks + length fronts ≡ total

module _ (pool queue board : TableId) where
  pub makes_first : (senders : List Sending) (fronts : List Looking) → senders ≡ fresh_senders queue (length fronts) → fronts ≡ replicate (length fronts) (fresh_pass board 0)
      → IsMaking pool queue board (length fronts) senders fronts [] []
  makes_first senders fronts theirs fresh = record {
    mailboxes = [];
    ends = record { counted = refl; each = refl; theirs = refl };
    theirs = theirs;
    fresh = fresh;
    all = omega arith;
  }

  module _ (total : ℕ) (s : Sending) (senders : List Sending) (tasks : List Tasking) (putters : List Putting) where
    pub never_none : IsMaking pool queue board total (s ∷ senders) [] tasks putters → ⊥
    never_none h = let e = h.theirs in absurd (cc e)

    module _ (f : Looking) (fronts : List Looking) (h : IsMaking pool queue board total (s ∷ senders) (f ∷ fronts) tasks putters) where
      pub own_sender : s ≡ fresh_sender queue (length tasks)
      own_sender = let e = h.theirs in cc e

      pub own_front : f ≡ fresh_pass board 0
      own_front = let e = h.fresh in cc e

      pub makes_next : (mailbox : TableId) → IsMaking pool queue board total senders fronts (tasks ++ fresh_task pool queue (length tasks) mailbox ∷ []) (putters ++ fresh_putter mailbox ∷ [])
      makes_next mailbox =
          let size : length (tasks ++ fresh_task pool queue (length tasks) mailbox ∷ []) ≡ length tasks + 1 = length-append tasks (fresh_task pool queue (length tasks) mailbox ∷ []) in
          let counted = h.ends.counted in
          let more : length (h.mailboxes ++ mailbox ∷ []) ≡ length h.mailboxes + 1 = length-append h.mailboxes (mailbox ∷ []) in
          let all = h.all in
          let rest : senders ≡ map (fresh_sender queue) (range_with_len (length tasks + 1) (length fronts)) = let e = h.theirs in cc e in
          record {
            mailboxes = h.mailboxes ++ mailbox ∷ [];
            ends = record {
              counted = omega (arith, size, counted, more);
              each = ap (λ ts. ts ++ fresh_task pool queue (length tasks) mailbox ∷ []) h.ends.each ∙ ap (λ n. fresh_tasks pool queue 0 h.mailboxes ++ fresh_task pool queue n mailbox ∷ []) (omega (arith, counted)) ∙ sym (tasks_more pool queue 0 h.mailboxes mailbox);
              theirs = ap (λ ps. ps ++ fresh_putter mailbox ∷ []) h.ends.theirs ∙ sym (map-append fresh_putter h.mailboxes (mailbox ∷ []));
            };
            theirs = rest ∙ ap (λ n. map (fresh_sender queue) (range_with_len n (length fronts))) (sym size);
            fresh = let e = h.fresh in cc e;
            all = omega (arith, size, all);
          }

  pub same_making : (total : ℕ) (s s' : List Sending) (f f' : List Looking) (t t' : List Tasking) (p p' : List Putting) → s' ≡ s → f' ≡ f → t' ≡ t → p' ≡ p
      → IsMaking pool queue board total s f t p → IsMaking pool queue board total s' f' t' p'
  same_making total s s' f f' t t' p p' es ef et ep h =
      subst (λ x. IsMaking pool queue board total x f' t' p') (sym es) (subst (λ x. IsMaking pool queue board total s x t' p') (sym ef)
      (subst (λ x. IsMaking pool queue board total s f x p') (sym et) (subst (λ x. IsMaking pool queue board total s f t x) (sym ep) h)))

  pub made_all : (total : ℕ) (fronts : List Looking) (tasks : List Tasking) (putters : List Putting) → IsMaking pool queue board total [] fronts tasks putters → (mailboxes : List TableId) × AreEnds pool queue total mailboxes tasks putters
  made_all total [] tasks putters h = (h.mailboxes, subst (λ n. AreEnds pool queue n h.mailboxes tasks putters) (let all = h.all in omega (arith, all)) h.ends)
  made_all total (f ∷ fronts) tasks putters h = let e = h.theirs in absurd (cc e)

-- ---- The agent's end

put_fresh : (mailboxes : List TableId) (t : ℕ) (p : Putting) → slice_get (map fresh_putter mailboxes) t ≡ Some p → p.put ≡ []
put_fresh [] t p e = absurd (cc e)
put_fresh (m ∷ mailboxes) zero p e = let is : fresh_putter m ≡ p = cc e in ap (λ (x : Putting). x.put) (sym is)
put_fresh (m ∷ mailboxes) (suc t) p e = put_fresh mailboxes t p e

pub fresh_serves : (setup : Setup) (sizes : Sizes) (queue : TableId) (mailboxes : List TableId) → length mailboxes ≡ setup.tasks → IsServing (fresh_agent setup sizes queue mailboxes)
fresh_serves setup sizes queue mailboxes counted = record {
  served = λ e. record { takes = tt; tasks = refl };
  posted = λ e. nothing_is_posted (map fresh_putter mailboxes) (put_fresh mailboxes);
  tasks = length-map mailboxes fresh_putter ∙ counted;
}

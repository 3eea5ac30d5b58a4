use Rattle.std.proofs.Common.{rules, ◌≡◌, [], ◌∷◌, ◌++◌, length, refl, sym, ap, ◌∙◌, arith}
use Rattle.std.proofs.lemmas.List.{nil_from_length}
use Rattle.std.specs.Arc.{arc_value}
use Rattle.std.specs.Vec.Iter.{into_iter_items}
use Rattle.task_queues.specs.MailboxPasses.{fresh_putter}
use Rattle.agent_shared.specs.Opened.{fresh_task}
use Rattle.agent_shared.proofs.Fresh.{makes_first, same_making, makes_next, made_all}
use Rattle.agent_shared.proofs.making.make_ends.Goals as goal

pub loop-sender-init : goal.loop-sender-init
loop-sender-init g c =
    let pool = arc_value c.args.common.now.pool in
    let queue = arc_value c.args.common.now.queue in
    let board = g.J.Named.board in
    let senders : into_iter_items c.into_iter-sender-iterator.result ≡ c.args.senders.items = search rules in
    let fronts : into_iter_items c.into_iter-fronts.result ≡ c.args.fronts.items = search rules in
    record {
      making =
          same_making pool queue board (length c.args.fronts.items) c.args.senders.items (into_iter_items c.into_iter-sender-iterator.result) c.args.fronts.items (into_iter_items c.into_iter-fronts.result)
          [] c.new-tasks.result.items [] c.new-posts.result.items senders fronts c.new-tasks.ensures.items c.new-posts.ensures.items
          (makes_first pool queue board c.args.senders.items c.args.fronts.items c.requires.senders c.requires.fronts);
      counted = search rules;
      pool = c.requires.pool;
    }

pub loop-sender-preserved : goal.loop-sender-preserved
loop-sender-preserved g c =
    let pool = arc_value c.args.common.now.pool in
    let queue = arc_value c.args.common.now.queue in
    let board = g.J.Named.board in
    let total = length c.args.fronts.items in
    let at = c.loop-sender in
    let sender = c.in-Some.sender in
    let front = c.in-Some-next.front in
    let senders = into_iter_items c.next.new.self in
    let fronts = into_iter_items c.next-in-loop-sender.new.self in
    let front_is : into_iter_items at.fronts ≡ front ∷ fronts = search rules in
    let now =
    same_making pool queue board total (into_iter_items at.sender-iterator) (sender ∷ senders) (into_iter_items at.fronts) (front ∷ fronts) at.tasks.items at.tasks.items at.posts.items at.posts.items
    (sym c.in-Some.ensures.steps.0) (sym front_is) refl refl at.invariant.making in
    let ends = c.in_ok-task.ensures.ends in
    let size : c.len.result ≡ length at.tasks.items = search rules in
    record {
      making =
          same_making pool queue board total senders senders fronts fronts (at.tasks.items ++ fresh_task pool queue (length at.tasks.items) ends.0 ∷ []) c.push.new.self.items
          (at.posts.items ++ fresh_putter ends.0 ∷ []) c.push-in-loop-sender.new.self.items refl refl
          (c.in_ok-push.ensures.items ∙ ap (λ x. at.tasks.items ++ x ∷ []) (ends.1 ∙ ap (λ n. fresh_task pool queue n ends.0) size)) (c.in_ok-push-2.ensures.items ∙ ap (λ x. at.posts.items ++ x ∷ []) ends.2)
          (makes_next pool queue board total sender senders at.tasks.items at.posts.items front fronts now ends.0);
      counted = let gone = c.in-Some.ensures.steps.1 in let shorter = ap length c.in-Some.ensures.steps.0 in let before = at.invariant.counted in omega (arith, gone, shorter, before);
      pool = c.make_one.ensures.pool ∙ at.invariant.pool;
    }

pub returns : goal.returns
returns g c =
    let pool = arc_value c.args.common.now.pool in
    let queue = arc_value c.args.common.now.queue in
    let board = g.J.Named.board in
    let total = length c.args.fronts.items in
    let at = c.loop-sender in
    let none : into_iter_items at.sender-iterator ≡ [] = nil_from_length (into_iter_items at.sender-iterator) (sym at.invariant.counted ∙ c.in-None.ensures.steps.0) in
    record {
      ends =
          made_all pool queue board total (into_iter_items at.fronts) at.tasks.items at.posts.items
          (same_making pool queue board total (into_iter_items at.sender-iterator) [] (into_iter_items at.fronts) (into_iter_items at.fronts) at.tasks.items at.tasks.items at.posts.items at.posts.items (sym none) refl refl refl at.invariant.making);
    }

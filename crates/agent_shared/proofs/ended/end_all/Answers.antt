use Rattle.std.proofs.Common.{rules, ◌≡◌, [], ◌∷◌, ◌++◌, length, sym, ap, ◌∙◌, subst, arith, length-append}
use Rattle.std.proofs.lemmas.List.{nil_from_length}
use Rattle.std.specs.Vec.{vec_capacity}
use Rattle.std.specs.Vec.Iter.{into_iter_items}
use Rattle.agent_shared.specs.Gathered.{joined_with}
use Rattle.agent_shared.proofs.Ends.{IsEnding, ending_next, ended_all}
use Rattle.agent_shared.proofs.ended.end_all.Goals as goal

pub loop-end-preserved : goal.loop-end-preserved
loop-end-preserved g c =
    let queue = c.args.queue.now in
    let all = joined_with c.args.ends.items c.args.receiver.now.joined in
    let at = c.loop-end in
    let post = c.in-Some-next.post in
    let end = c.in-Some.end in
    let posts = into_iter_items c.next-in-loop-end.new.self in
    let ends = into_iter_items c.next.new.self in
    let steps = c.in-Some.ensures.steps.0 in
    let post_is : into_iter_items at.posts ≡ post ∷ posts = search rules in
    let pushed : c.push_reserved.new.self.items ≡ at.tasks.items ++ c.end_one.result ∷ [] = c.push_reserved.ensures.items in
    let joined : c.end_one.new.receiver.joined ≡ (end.sender.number, end.sender.sent) ∷ at.receiver.joined = search rules in
    let now : IsEnding queue c.args.posts.items c.args.ends.items all (post ∷ posts) (end ∷ ends) at.tasks.items at.receiver.joined =
    subst (λ es. IsEnding queue c.args.posts.items c.args.ends.items all (post ∷ posts) es at.tasks.items at.receiver.joined) steps
    (subst (λ ps. IsEnding queue c.args.posts.items c.args.ends.items all ps (into_iter_items at.end-iterator) at.tasks.items at.receiver.joined) post_is at.invariant.ending) in
    let next = ending_next queue c.args.posts.items c.args.ends.items all ends at.tasks.items at.receiver.joined post posts end c.end_one.result now c.end_one.ensures.drained in
    let shorter = ap length steps in
    let longer = ap length pushed in
    let size = length-append at.tasks.items (c.end_one.result ∷ []) in
    let room = at.invariant.room in
    let same : vec_capacity c.push_reserved.new.self ≡ vec_capacity at.tasks = search rules in
    record {
      ending = subst (λ ts. IsEnding queue c.args.posts.items c.args.ends.items all posts ends ts c.end_one.new.receiver.joined) (sym pushed)
          (subst (λ js. IsEnding queue c.args.posts.items c.args.ends.items all posts ends (at.tasks.items ++ c.end_one.result ∷ []) js) (sym joined) next);
      counted = let gone = c.in-Some.ensures.steps.1 in let before = at.invariant.counted in omega (arith, gone, shorter, before);
      receiver = search rules;
      room = omega (arith, room, shorter, longer, size, same);
    }

pub returns-clause-drained : goal.returns-clause-drained
returns-clause-drained g c =
    let at = c.loop-end in
    let all = joined_with c.args.ends.items c.args.receiver.now.joined in
    let none : into_iter_items at.end-iterator ≡ [] = nil_from_length (into_iter_items at.end-iterator) (sym at.invariant.counted ∙ c.in-None.ensures.steps.0) in
    (ended_all c.args.queue.now c.args.posts.items c.args.ends.items all [] at.tasks.items at.receiver.joined (into_iter_items at.posts)
    (subst (λ es. IsEnding c.args.queue.now c.args.posts.items c.args.ends.items all (into_iter_items at.posts) es at.tasks.items at.receiver.joined) none at.invariant.ending)).0

use Rattle.std.proofs.Common.{◌≡◌, sym, ap, ◌∙◌, subst, slice_set}
use Rattle.agent_posts.specs.Mail.{Mail, FindsFull}
use Rattle.agent_posts.proofs.Handing.{puts_one, finds_full, put_then, held_then}
use Rattle.agent_posts.proofs.posts.Posts.hand_over.Goals as goal

pub returns-in-Ok-clause-put : goal.returns-in-Ok-clause-put
returns-in-Ok-clause-put g c t kind e =
    let same = ap (λ (m : Mail). m.putters) c.self.view_is in
    let told : c.kind-kind.result ≡ kind = cc e in
    let task : t ≡ c.args.task = cc e in (
      task,
      sym c.kind-kind.ensures ∙ told,
      puts_one c.args.self.now.putters c.self.inside.posts.items c.args.task c.index_mut.result.now c.put.new.self same c.requires.known c.index_mut.ensures.value c.args.made c.in-Ok.ensures.put,
      ap (λ (m : Mail). m.next) c.self.view_is ∙ c.requires.none,
    )

pub returns-in-Ok-clause-posted : goal.returns-in-Ok-clause-posted
returns-in-Ok-clause-posted g c entries h =
    let same = ap (λ (m : Mail). m.putters) c.self.view_is in
    let place = ap (λ (m : Mail). m.place) c.self.view_is in
    let none = ap (λ (m : Mail). m.next) c.self.view_is ∙ c.requires.none in
    put_then entries c.args.self.now.putters _ c.args.self.now.place c.self.inside.place c.args.task c.args.made _ place none
    (puts_one c.args.self.now.putters c.self.inside.posts.items c.args.task c.index_mut.result.now c.put.new.self same c.requires.known c.index_mut.ensures.value c.args.made c.in-Ok.ensures.put)
    h

pub returns-in-Err-clause-full : goal.returns-in-Err-clause-full
returns-in-Err-clause-full g c t e =
    let same = ap (λ (m : Mail). m.putters) c.self.view_is in
    let is : c.args.task ≡ t = cc e in (
      c.index_mut.result.now,
      c.in-Err.ensures.full,
      subst (λ task. FindsFull task c.index_mut.result.now c.args.self.now.putters (slice_set c.self.inside.posts.items c.args.task c.put.new.self)) is
          (finds_full c.args.self.now.putters c.self.inside.posts.items c.args.task c.index_mut.result.now c.put.new.self same c.requires.known c.index_mut.ensures.value c.in-Err.ensures.counted),
    )

pub returns-in-Err-clause-posted : goal.returns-in-Err-clause-posted
returns-in-Err-clause-posted g c entries h =
    let same = ap (λ (m : Mail). m.putters) c.self.view_is in
    let place = ap (λ (m : Mail). m.place) c.self.view_is in
    held_then entries c.args.self.now.putters _ c.args.self.now.place c.self.inside.place c.args.task c.args.made _ _ place
    (c.insert.ensures.value ∙ ap (λ note. (c.args.task, note)) c.in-Err.ensures.back)
    (finds_full c.args.self.now.putters c.self.inside.posts.items c.args.task c.index_mut.result.now c.put.new.self same c.requires.known c.index_mut.ensures.value c.in-Err.ensures.counted)
    h

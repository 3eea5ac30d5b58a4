use Rattle.std.proofs.Common.{◌≡◌, inl, None, true, cond, sym, ap, ◌∙◌, subst, refl}
use Rattle.agent_posts.specs.Mail.{PutsOne}
use Rattle.agent_posts.specs.Kinds.{kind_of}
use Rattle.agent_end.specs.Serving.{Serving}
use Rattle.agent_end.specs.Owed.{Owes, held_in, closed_with}
use Rattle.agent_end.proofs.Owing.{owes_put_held, owes_full, either_way, as_many, as_many_full}
use Rattle.agent_end.proofs.Without.{spent, held_short, owes_same}
use Rattle.agent_end.proofs.end.AgentEnd.turn_without_memory.Goals as goal

pub invariant_of-self : goal.invariant_of-self
invariant_of-self g c =
    let a : Serving = record { taking = c.self.inside.intake; mail = c.self.inside.posts; short = c.self.inside.short } in
    let now : Serving = record { taking = c.self.inside.intake; mail = c.put_held.new.self; short = c.self.inside.short } in
    let short : c.self.inside.short ≡ true = ap (λ (x : Serving). x.short) c.self.view_is ∙ ap (λ (x : Serving). x.short) c.hold_next.ensures.same ∙ c.requires.short in
    let put = c.in-Put.ensures.put c.in-Put.task c.in-Put.kind refl in
    let h = subst (Owes c.self.inside.owed.commands.items c.self.inside.owed.closed c.self.inside.owed.left c.self.inside.intake.receiver c.self.inside.posts.putters) (held_short a short ∙ put.1) c.self.invariant.2 in
    let all = owes_put_held c.self.inside.owed.commands.items c.self.inside.owed.closed c.self.inside.owed.left c.self.inside.intake.receiver c.self.inside.posts.putters c.put_held.new.self.putters c.in-Put.task put.0 put.3 h in (
      spent now short (as_many c.in-Put.task put.0 c.self.inside.posts.putters c.put_held.new.self.putters put.3 ∙ c.self.invariant.0.tasks),
      c.self.invariant.1,
      either_way c.close.new.self.commands.items c.close.new.self.closed c.close.new.self.left c.self.inside.intake.receiver c.put_held.new.self.putters now put.4
          (owes_same c.self.inside.owed.commands.items c.close.new.self.commands.items (closed_with c.self.inside.owed.closed c.in-Put.task (kind_of put.0)) c.self.inside.owed.left c.close.new.self.closed c.close.new.self.left
          c.self.inside.intake.receiver c.put_held.new.self.putters None c.close.ensures.same.0 (c.close.ensures.closed ∙ ap (closed_with c.self.inside.owed.closed c.in-Put.task) (sym put.2)) c.close.ensures.same.1 all),
    )

pub invariant_of-self-in-Full : goal.invariant_of-self-in-Full
invariant_of-self-in-Full g c =
    let now : Serving = record { taking = c.self.inside.intake; mail = c.put_held.new.self; short = c.self.inside.short } in
    let short : c.self.inside.short ≡ true = ap (λ (x : Serving). x.short) c.self.view_is ∙ ap (λ (x : Serving). x.short) c.hold_next.ensures.same ∙ c.requires.short in
    let full = c.in-Full.ensures.full c.in-Full.task refl in
    let kept = c.in-Full.ensures.held c.in-Full.task refl in (
      spent now short (as_many_full c.in-Full.task full.0 c.self.inside.posts.putters c.put_held.new.self.putters full.2 ∙ c.self.invariant.0.tasks),
      c.self.invariant.1,
      owes_full c.self.inside.owed.commands.items c.self.inside.owed.closed c.self.inside.owed.left c.self.inside.intake.receiver c.self.inside.posts.putters c.put_held.new.self.putters c.in-Full.task full.0 (held_in now) full.2
          (subst (λ next. Owes c.self.inside.owed.commands.items c.self.inside.owed.closed c.self.inside.owed.left c.self.inside.intake.receiver c.self.inside.posts.putters (cond c.self.inside.short next None)) (sym kept.2) c.self.invariant.2),
    )

pub returns-in-Put-clause-works : goal.returns-in-Put-clause-works
returns-in-Put-clause-works g c =
    let put = c.in-Put.ensures.put c.in-Put.task c.in-Put.kind refl in
    let same = c.self.view_is ∙ c.hold_next.ensures.same in
    inl (record {
      task = c.in-Put.task;
      note = put.0;
      next = c.hold_next.ensures.next c.in-Put.task put.0 (ap (λ (x : Serving). x.mail.next) (sym c.self.view_is) ∙ put.1);
      puts = subst (λ ps. PutsOne c.in-Put.task put.0 ps c.put_held.new.self.putters) (ap (λ (x : Serving). x.mail.putters) same) put.3;
      none_held = put.4;
      taking = ap (λ (x : Serving). x.taking) same;
    })

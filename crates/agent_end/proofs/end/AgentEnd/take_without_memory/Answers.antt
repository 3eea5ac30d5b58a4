use Rattle.std.proofs.Common.{◌≡◌, None, Some, true, length, sym, ap, ◌∙◌}
use Rattle.agent_line.specs.Recorded.{Recorded}
use Rattle.task_queues.specs.QueuePasses.{Receiving}
use Rattle.agent_posts.specs.Mail.{Mail}
use Rattle.agent_posts.specs.Kinds.{failed}
use Rattle.agent_requests.specs.Intake.{Taking}
use Rattle.agent_end.specs.Serving.{Serving}
use Rattle.agent_end.specs.Owed.{held_in}
use Rattle.agent_end.proofs.Owing.{owes_taken}
use Rattle.agent_end.proofs.Without.{spent, nothing_held, owes_now, owes_failing, owes_leave}
use Rattle.agent_end.proofs.end.AgentEnd.take_without_memory.Goals as goal

pub invariant_of-self : goal.invariant_of-self
invariant_of-self g c =
    let a : Serving = record { taking = c.self.inside.intake; mail = c.self.inside.posts; short = c.self.inside.short } in
    let short : c.self.inside.short ≡ true = ap (λ (x : Serving). x.short) c.self.view_is ∙ c.requires.short in
    let same = ap (λ (x : Taking). x.recorded) c.pop.ensures.same in
    let senders = ap (λ (r : Receiving). r.senders) c.in_default.ensures.none.counted in (
      spent (record { taking = c.pop.new.self; mail = c.self.inside.posts; short = c.self.inside.short }) short (c.self.invariant.0.tasks ∙ ap (λ (r : Recorded). r.setup.tasks) (sym same)),
      c.self.invariant.1 ∙ ap (λ (r : Recorded). length r.past) (sym same),
      owes_taken c.self.inside.owed.commands.items c.self.inside.owed.closed c.self.inside.owed.left c.self.inside.intake.receiver c.pop.new.self.receiver c.self.inside.posts.putters (held_in a) None
          c.in_default.ensures.popped senders c.self.invariant.2,
    )

pub invariant_of-self-then-popped : goal.invariant_of-self-then-popped
invariant_of-self-then-popped g c =
    let a : Serving = record { taking = c.self.inside.intake; mail = c.self.inside.posts; short = c.self.inside.short } in
    let short : c.self.inside.short ≡ true = ap (λ (x : Serving). x.short) c.self.view_is ∙ c.requires.short in
    let same = ap (λ (x : Taking). x.recorded) c.pop.ensures.same in (
      spent (record { taking = c.pop.new.self; mail = c.self.inside.posts; short = c.self.inside.short }) short (c.self.invariant.0.tasks ∙ ap (λ (r : Recorded). r.setup.tasks) (sym same)),
      c.self.invariant.1 ∙ ap (λ (r : Recorded). length r.past) (sym same),
      owes_leave c.self.inside.owed.commands.items c.leave.new.self.commands.items c.self.inside.owed.closed c.self.inside.owed.left c.leave.new.self.closed c.leave.new.self.left c.self.inside.intake.receiver c.pop.new.self.receiver
          c.self.inside.posts.putters (held_in a) c.in-Some.popped c.in-Some.ensures.popped c.if-popped.true c.leave.ensures.left c.leave.ensures.same.0 c.leave.ensures.same.1 c.self.invariant.2,
    )

pub invariant_of-self-2 : goal.invariant_of-self-2
invariant_of-self-2 g c =
    let a : Serving = record { taking = c.self.inside.intake; mail = c.self.inside.posts; short = c.self.inside.short } in
    let short : c.self.inside.short ≡ true = ap (λ (x : Serving). x.short) c.self.view_is ∙ c.requires.short in
    let none = ap (λ (x : Serving). x.mail.next) c.self.view_is ∙ c.requires.told.none_held in
    let h = nothing_held c.self.inside.owed.commands.items c.self.inside.owed.closed c.self.inside.owed.left a short none c.self.invariant.2 in
    let same = ap (λ (x : Taking). x.recorded) c.pop.ensures.same in
    let m : Mail = record c.self.inside.posts { next = Some (c.in-Some.popped.task, failed c.in-Some.popped.seq c.last_time-at.result) } in (
      spent (record { taking = c.pop.new.self; mail = c.hold_failure.new.self; short = c.self.inside.short }) short
          (ap (λ (x : Mail). length x.putters) c.hold_failure.ensures.held ∙ c.self.invariant.0.tasks ∙ ap (λ (r : Recorded). r.setup.tasks) (sym same)),
      c.self.invariant.1 ∙ ap (λ (r : Recorded). length r.past) (sym same),
      owes_now c.self.inside.owed.commands.items c.self.inside.owed.closed c.self.inside.owed.left c.pop.new.self.receiver m c.hold_failure.new.self c.self.inside.short short c.hold_failure.ensures.held
          (owes_failing c.self.inside.owed.commands.items c.self.inside.owed.closed c.self.inside.owed.left c.self.inside.intake.receiver c.self.inside.posts.putters h c.pop.new.self.receiver c.in-Some.popped c.last_time-at.result
          c.in-Some.ensures.popped c.if-popped.false),
    )

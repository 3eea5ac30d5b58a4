use Rattle.std.proofs.Common.{◌≡◌, true, false, None, rules, ap, ◌∙◌, subst}
use Rattle.std.specs.Prelude.{Ok, OnOk, IfOk}
use Rattle.agent_requests.specs.Intake.{IsServed, Pops, popped_by}
use Rattle.agent_requests.specs.declared.answers.Served.TheVariants as served
use Rattle.agent_end.specs.Serving.{Serving}
use Rattle.agent_end.specs.Owed.{commands_with, left_with}
use Rattle.agent_end.proofs.Turning.{serving_on}
use Rattle.agent_end.proofs.Owing.{owes_taken, with_memory, either_way, falls_pops}
use Rattle.agent_end.proofs.Without.{owes_same}
use Rattle.agent_end.proofs.end.AgentEnd.step.Goals as goal

pub invariant_of-self-in-Ok-Worked : goal.invariant_of-self-in-Ok-Worked
invariant_of-self-in-Ok-Worked g c =
    let a : Serving = record { taking = c.self.inside.intake; mail = c.self.inside.posts; short = c.self.inside.short } in
    let memory : c.self.inside.short ≡ false = ap (λ (x : Serving). x.short) c.self.view_is ∙ c.requires.memory in
    let none = ap (λ (x : Serving). x.mail.next) c.self.view_is ∙ c.requires.put.none_held in
    let is_served : IsServed c.serve-served.new.self = subst (λ r. OnOk r (IsServed c.serve-served.new.self)) c.in-Ok-Worked.is c.serve-served.ensures.served in
    let is : c.serve-served.result ≡ Ok (served.Worked c.in-Ok-Worked.popped) = search rules in
    let pops : Pops c.in-Ok-Worked.popped c.self.inside.intake.receiver c.serve-served.new.self.receiver =
    subst (λ r. IfOk r (λ answer. Pops (popped_by answer) c.self.inside.intake.receiver c.serve-served.new.self.receiver)) is c.serve-served.ensures.popped in
    let before = with_memory c.self.inside.owed.commands.items c.self.inside.owed.closed c.self.inside.owed.left c.self.inside.intake.receiver c.self.inside.posts.putters a memory c.self.invariant.2 in (
      serving_on c.read-now.result a c.serve-served.new.self c.self.inside.short memory c.self.invariant.0 c.serve-served.ensures.works (λ e. is_served),
      search rules,
      either_way c.take.new.self.commands.items c.take.new.self.closed c.take.new.self.left c.serve-served.new.self.receiver c.self.inside.posts.putters
          (record { taking = c.serve-served.new.self; mail = c.self.inside.posts; short = c.self.inside.short }) none
          (owes_same (commands_with c.self.inside.owed.commands.items c.in-Ok-Worked.popped) c.take.new.self.commands.items c.self.inside.owed.closed (left_with c.self.inside.owed.left c.in-Ok-Worked.popped) c.take.new.self.closed
          c.take.new.self.left c.serve-served.new.self.receiver c.self.inside.posts.putters None (c.take.ensures.commands ∙ ap (λ cs. commands_with cs c.in-Ok-Worked.popped) c.reserve.ensures.commands)
          (c.take.ensures.closed ∙ c.reserve.ensures.flags.0) (c.take.ensures.left ∙ ap (λ flags. left_with flags c.in-Ok-Worked.popped) c.reserve.ensures.flags.1)
          (owes_taken c.self.inside.owed.commands.items c.self.inside.owed.closed c.self.inside.owed.left c.self.inside.intake.receiver c.serve-served.new.self.receiver c.self.inside.posts.putters None c.in-Ok-Worked.popped
          pops c.serve-served.ensures.works.same_end.senders before)),
    )

pub invariant_of-self-in-Ok-Idle : goal.invariant_of-self-in-Ok-Idle
invariant_of-self-in-Ok-Idle g c =
    let a : Serving = record { taking = c.self.inside.intake; mail = c.self.inside.posts; short = c.self.inside.short } in
    let memory : c.self.inside.short ≡ false = ap (λ (x : Serving). x.short) c.self.view_is ∙ c.requires.memory in
    let none = ap (λ (x : Serving). x.mail.next) c.self.view_is ∙ c.requires.put.none_held in
    let is_served : IsServed c.serve-served.new.self = subst (λ r. OnOk r (IsServed c.serve-served.new.self)) c.in-Ok-Idle.is c.serve-served.ensures.served in
    let is : c.serve-served.result ≡ Ok served.Idle = search rules in
    let pops : Pops None c.self.inside.intake.receiver c.serve-served.new.self.receiver =
    subst (λ r. IfOk r (λ answer. Pops (popped_by answer) c.self.inside.intake.receiver c.serve-served.new.self.receiver)) is c.serve-served.ensures.popped in
    let before = with_memory c.self.inside.owed.commands.items c.self.inside.owed.closed c.self.inside.owed.left c.self.inside.intake.receiver c.self.inside.posts.putters a memory c.self.invariant.2 in (
      serving_on c.read-now.result a c.serve-served.new.self c.self.inside.short memory c.self.invariant.0 c.serve-served.ensures.works (λ e. is_served),
      search rules,
      either_way c.reserve.new.self.commands.items c.reserve.new.self.closed c.reserve.new.self.left c.serve-served.new.self.receiver c.self.inside.posts.putters
          (record { taking = c.serve-served.new.self; mail = c.self.inside.posts; short = c.self.inside.short }) none
          (owes_same c.self.inside.owed.commands.items c.reserve.new.self.commands.items c.self.inside.owed.closed c.self.inside.owed.left c.reserve.new.self.closed c.reserve.new.self.left c.serve-served.new.self.receiver
          c.self.inside.posts.putters None c.reserve.ensures.commands c.reserve.ensures.flags.0 c.reserve.ensures.flags.1
          (owes_taken c.self.inside.owed.commands.items c.self.inside.owed.closed c.self.inside.owed.left c.self.inside.intake.receiver c.serve-served.new.self.receiver c.self.inside.posts.putters None None pops
          c.serve-served.ensures.works.same_end.senders before)),
    )

pub invariant_of-self-in-Err : goal.invariant_of-self-in-Err
invariant_of-self-in-Err g c =
    let a : Serving = record { taking = c.self.inside.intake; mail = c.self.inside.posts; short = c.self.inside.short } in
    let memory : c.self.inside.short ≡ false = ap (λ (x : Serving). x.short) c.self.view_is ∙ c.requires.memory in
    let none = ap (λ (x : Serving). x.mail.next) c.self.view_is ∙ c.requires.put.none_held in
    let pops : Pops c.in-Err.field-0.popped c.self.inside.intake.receiver c.serve-served.new.self.receiver =
    falls_pops c.read-now.result c.self.inside.intake c.serve-served.new.self c.in-Err.field-0 c.in-Err.ensures.short in
    let before = with_memory c.self.inside.owed.commands.items c.self.inside.owed.closed c.self.inside.owed.left c.self.inside.intake.receiver c.self.inside.posts.putters a memory c.self.invariant.2 in (
      serving_on c.read-now.result a c.serve-served.new.self true memory c.self.invariant.0 c.serve-served.ensures.works (λ e. absurd (cc e)),
      search rules,
      either_way c.take-in-Err.new.self.commands.items c.take-in-Err.new.self.closed c.take-in-Err.new.self.left c.serve-served.new.self.receiver c.self.inside.posts.putters
          (record { taking = c.serve-served.new.self; mail = c.self.inside.posts; short = true }) none
          (owes_same (commands_with c.self.inside.owed.commands.items c.in-Err.field-0.popped) c.take-in-Err.new.self.commands.items c.self.inside.owed.closed (left_with c.self.inside.owed.left c.in-Err.field-0.popped) c.take-in-Err.new.self.closed
          c.take-in-Err.new.self.left c.serve-served.new.self.receiver c.self.inside.posts.putters None (c.take-in-Err.ensures.commands ∙ ap (λ cs. commands_with cs c.in-Err.field-0.popped) c.reserve.ensures.commands)
          (c.take-in-Err.ensures.closed ∙ c.reserve.ensures.flags.0) (c.take-in-Err.ensures.left ∙ ap (λ flags. left_with flags c.in-Err.field-0.popped) c.reserve.ensures.flags.1)
          (owes_taken c.self.inside.owed.commands.items c.self.inside.owed.closed c.self.inside.owed.left c.self.inside.intake.receiver c.serve-served.new.self.receiver c.self.inside.posts.putters None c.in-Err.field-0.popped
          pops c.serve-served.ensures.works.same_end.senders before)),
    )

pub returns-in-Ok-Worked-clause-serving : goal.returns-in-Ok-Worked-clause-serving
returns-in-Ok-Worked-clause-serving g c =
    let a : Serving = record { taking = c.self.inside.intake; mail = c.self.inside.posts; short = c.self.inside.short } in
    let memory : c.self.inside.short ≡ false = ap (λ (x : Serving). x.short) c.self.view_is ∙ c.requires.memory in
    let is_served : IsServed c.serve-served.new.self = subst (λ r. OnOk r (IsServed c.serve-served.new.self)) c.in-Ok-Worked.is c.serve-served.ensures.served in
    serving_on c.read-now.result a c.serve-served.new.self c.self.inside.short memory c.self.invariant.0 c.serve-served.ensures.works (λ e. is_served)

use Rattle.std.proofs.Common.{rules, ◌≡◌, ◌<◌, None, Some, true, length, sym, ap, ◌∙◌, subst, refl, arith, append-nil}
use Rattle.std.specs.Vec.{vec_len}
use Rattle.agent_journal.specs.declared.setup.Setup.{Setup}
use Rattle.agent_journal.specs.Readings.{last_time_of}
use Rattle.agent_line.specs.Recorded.{Recorded}
use Rattle.agent_posts.specs.Mail.{Mail}
use Rattle.agent_posts.specs.Kinds.{failed, closed}
use Rattle.agent_end.specs.Serving.{Serving}
use Rattle.agent_end.specs.Owed.{Owes}
use Rattle.agent_end.specs.Short.{IsNext}
use Rattle.agent_end.proofs.Without.{spent, nothing_held, owes_now, none_of, empty_of, last_known, owes_failed, last_fails, owes_closed, unclosed_is_next, all_told}
use Rattle.agent_end.proofs.end.AgentEnd.hold_next.Goals as goal

pub hold_failure-requires : goal.hold_failure-requires
hold_failure-requires g c =
    let a : Serving = record { taking = c.self.inside.intake; mail = c.self.inside.posts; short = c.self.inside.short } in
    let short : c.self.inside.short ≡ true = ap (λ (x : Serving). x.short) c.self.view_is ∙ c.requires.short in
    let none = none_of c.self.inside.posts.next (sym c.is_holding.ensures ∙ c.if-is_holding.false) in
    let h = nothing_held c.self.inside.owed.commands.items c.self.inside.owed.closed c.self.inside.owed.left a short none c.self.invariant.2 in
    (omega arith, (last_known c.self.inside.owed.commands.items c.pop.new.self.items c.self.inside.owed.closed c.self.inside.owed.left c.self.inside.intake.receiver c.self.inside.posts.putters c.in-Some.command c.in-Some.ensures.items h, none))

pub invariant_of-self : goal.invariant_of-self
invariant_of-self g c =
    let a : Serving = record { taking = c.self.inside.intake; mail = c.self.inside.posts; short = c.self.inside.short } in
    let short : c.self.inside.short ≡ true = ap (λ (x : Serving). x.short) c.self.view_is ∙ c.requires.short in
    let none = none_of c.self.inside.posts.next (sym c.is_holding.ensures ∙ c.if-is_holding.false) in
    let h = nothing_held c.self.inside.owed.commands.items c.self.inside.owed.closed c.self.inside.owed.left a short none c.self.invariant.2 in
    let m : Mail = record c.self.inside.posts { next = Some (c.in-Some.command.task, failed c.in-Some.command.seq c.last_time-at.result) } in (
      spent (record { taking = c.self.inside.intake; mail = c.hold_failure.new.self; short = c.self.inside.short }) short (ap (λ (x : Mail). length x.putters) c.hold_failure.ensures.held ∙ c.self.invariant.0.tasks),
      c.self.invariant.1,
      owes_now c.pop.new.self.items c.self.inside.owed.closed c.self.inside.owed.left c.self.inside.intake.receiver m c.hold_failure.new.self c.self.inside.short short c.hold_failure.ensures.held
          (owes_failed c.self.inside.owed.commands.items c.pop.new.self.items c.self.inside.owed.closed c.self.inside.owed.left c.self.inside.intake.receiver c.self.inside.posts.putters c.in-Some.command c.in-Some.ensures.items h c.last_time-at.result),
    )

pub returns-in-Some-clause-next : goal.returns-in-Some-clause-next
returns-in-Some-clause-next g c =
    λ t note e.
    let a : Serving = record { taking = c.self.inside.intake; mail = c.self.inside.posts; short = c.self.inside.short } in
    let short : c.self.inside.short ≡ true = ap (λ (x : Serving). x.short) c.self.view_is ∙ c.requires.short in
    let none = none_of c.self.inside.posts.next (sym c.is_holding.ensures ∙ c.if-is_holding.false) in
    let h = nothing_held c.self.inside.owed.commands.items c.self.inside.owed.closed c.self.inside.owed.left a short none c.self.invariant.2 in
    let time = c.last_time-at.ensures ∙ ap (λ (r : Recorded). last_time_of r.past) c.recorder.ensures in
    subst (λ (x : Serving). IsNext x t note) c.self.view_is
    (last_fails c.self.inside.owed.commands.items c.pop.new.self.items c.self.inside.owed.closed c.self.inside.owed.left c.self.inside.intake.receiver c.self.inside.posts.putters c.in-Some.command c.in-Some.ensures.items h
    a c.last_time-at.result t note refl refl none time (sym (ap (λ (x : Mail). x.next) c.hold_failure.ensures.held) ∙ e))

pub invariant_of-self-in-Some-unclosed : goal.invariant_of-self-in-Some-unclosed
invariant_of-self-in-Some-unclosed g c =
    let a : Serving = record { taking = c.self.inside.intake; mail = c.self.inside.posts; short = c.self.inside.short } in
    let short : c.self.inside.short ≡ true = ap (λ (x : Serving). x.short) c.self.view_is ∙ c.requires.short in
    let none = none_of c.self.inside.posts.next (sym c.is_holding.ensures ∙ c.if-is_holding.false) in
    let h = nothing_held c.self.inside.owed.commands.items c.self.inside.owed.closed c.self.inside.owed.left a short none c.self.invariant.2 in
    let same = c.in_default.ensures.items ∙ append-nil c.pop.new.self.items in
    let m : Mail = record c.self.inside.posts { next = Some (c.in-Some-unclosed.task, closed c.last_time-at.result) } in (
      spent (record { taking = c.self.inside.intake; mail = c.hold_closed.new.self; short = c.self.inside.short }) short (ap (λ (x : Mail). length x.putters) c.hold_closed.ensures.held ∙ c.self.invariant.0.tasks),
      c.self.invariant.1,
      owes_now c.pop.new.self.items c.self.inside.owed.closed c.self.inside.owed.left c.self.inside.intake.receiver m c.hold_closed.new.self c.self.inside.short short c.hold_closed.ensures.held
          (owes_closed c.pop.new.self.items c.self.inside.owed.closed c.self.inside.owed.left c.self.inside.intake.receiver c.self.inside.posts.putters
          (subst (λ commands. Owes commands c.self.inside.owed.closed c.self.inside.owed.left c.self.inside.intake.receiver c.self.inside.posts.putters None) same h) c.in-Some-unclosed.task c.last_time-at.result),
    )

pub returns-in-Some-unclosed-clause-next : goal.returns-in-Some-unclosed-clause-next
returns-in-Some-unclosed-clause-next g c =
    λ t note e.
    let a : Serving = record { taking = c.self.inside.intake; mail = c.self.inside.posts; short = c.self.inside.short } in
    let short : c.self.inside.short ≡ true = ap (λ (x : Serving). x.short) c.self.view_is ∙ c.requires.short in
    let none = none_of c.self.inside.posts.next (sym c.is_holding.ensures ∙ c.if-is_holding.false) in
    let h = nothing_held c.self.inside.owed.commands.items c.self.inside.owed.closed c.self.inside.owed.left a short none c.self.invariant.2 in
    let time = c.last_time-at.ensures ∙ ap (λ (r : Recorded). last_time_of r.past) c.recorder.ensures in
    let tasks = ap (λ (s : Setup). s.tasks) (c.setup.ensures ∙ ap (λ (r : Recorded). r.setup) c.recorder-2.ensures) ∙ sym c.self.invariant.0.tasks in
    let found = c.in-Some-unclosed.ensures.some in
    subst (λ (x : Serving). IsNext x t note) c.self.view_is
    (unclosed_is_next c.self.inside.owed.commands.items c.self.inside.owed.closed c.self.inside.owed.left a c.in-Some-unclosed.task c.last_time-at.result t note h none time
    (subst (λ n. c.in-Some-unclosed.task < n) tasks found.0) found.1 found.2 (sym (ap (λ (x : Mail). x.next) c.hold_closed.ensures.held) ∙ e))

pub returns-in_default-unclosed-clause-none : goal.returns-in_default-unclosed-clause-none
returns-in_default-unclosed-clause-none g c =
    λ none.
    let a : Serving = record { taking = c.self.inside.intake; mail = c.self.inside.posts; short = c.self.inside.short } in
    let short : c.self.inside.short ≡ true = ap (λ (x : Serving). x.short) c.self.view_is ∙ c.requires.short in
    let h = nothing_held c.self.inside.owed.commands.items c.self.inside.owed.closed c.self.inside.owed.left a short none c.self.invariant.2 in
    let tasks = ap (λ (s : Setup). s.tasks) (c.setup.ensures ∙ ap (λ (r : Recorded). r.setup) c.recorder-2.ensures) ∙ sym c.self.invariant.0.tasks in
    let size : vec_len c.self.inside.owed.commands ≡ length c.self.inside.owed.commands.items = search rules in
    let empty = empty_of c.self.inside.owed.commands.items (sym size ∙ c.in_default.ensures.cases.0) in (
      c.self.view_is,
      all_told c.self.inside.owed.commands.items c.self.inside.owed.closed c.self.inside.owed.left a h none empty (λ t known. c.in_default-unclosed.ensures.none t (subst (λ n. t < n) (sym tasks) known)),
    )

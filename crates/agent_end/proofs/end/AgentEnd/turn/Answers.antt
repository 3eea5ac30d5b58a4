use Rattle.std.proofs.Common.{◌≡◌, ◌+◌, ℕ, List, true, false, None, length, reverse, refl, sym, ap, ◌∙◌, subst, arith}
use Rattle.std.specs.Prelude.{Ok}
use Rattle.std.proofs.lemmas.Option.{slice_get_within}
use Rattle.agent_journal.specs.declared.entry.Entry.{Entry}
use Rattle.task_queues.specs.MailboxPasses.{Putting}
use Rattle.agent_line.specs.Recorded.{Recorded}
use Rattle.agent_table.specs.Histories.{IsLegalPast}
use Rattle.agent_posts.specs.Mail.{IsPosted}
use Rattle.agent_posts.specs.Kinds.{kind_of}
use Rattle.agent_end.specs.Serving.{Serving}
use Rattle.agent_end.specs.Owed.{Owes, closed_with, done_by, owed_in}
use Rattle.agent_end.specs.Turns.{AreSameEnds}
use Rattle.agent_requests.specs.Intake.{IsSameEnd}
use Rattle.agent_end.proofs.Turning.{few_in, as_long, same_journal, same_receiver, same_put, same_full, answers_behind, appends_without, ends_without}
use Rattle.agent_end.proofs.Once.{none_twice}
use Rattle.agent_end.proofs.Owing.{with_memory, was_owed, owes_put, owes_full, as_many, as_many_full, either_way}
use Rattle.agent_end.proofs.Without.{spent, owes_same, held_with}
use Rattle.agent_end.proofs.end.AgentEnd.turn.Goals as goal

pub returns-then-self-clause-appends : goal.returns-then-self-clause-appends
returns-then-self-clause-appends g c = appends_without _ _ c.args.self.now c.turn_without_memory.new.self c.turn_without_memory.result c.turn_without_memory.ensures.works

pub returns-then-self-clause-same : goal.returns-then-self-clause-same
returns-then-self-clause-same g c = ends_without _ _ c.args.self.now c.turn_without_memory.new.self c.turn_without_memory.result c.turn_without_memory.ensures.works

pub put-requires : goal.put-requires
put-requires g c =
    let journal = c.entries.ensures.entries in
    let same = as_long c.entries.result.now c.recorder.result.now.past journal ∙ ap (λ (r : Recorded). length r.past) c.recorder.ensures in
    let shown = c.self.invariant.1 in
    (omega arith, (few_in c.recorder.result.now.setup c.recorder.result.now.sizes c.entries.result.now c.recorder.result.now.past journal c.entries.ensures.legal, omega (arith, same, shown)))

pub note-requires-clause-known : goal.note-requires-clause-known
note-requires-clause-known g c =
    let one = c.in-Ok-Put.ensures.put c.in-Ok-Put.task c.in-Ok-Put.kind (ap Ok c.in-Ok-Put.field-0-is) in
    let within = slice_get_within c.self.inside.posts.putters c.in-Ok-Put.task one.2.before one.2.there in
    let few = c.self.invariant.2.few in
    omega (arith, within, few)

pub note-requires-clause-owed : goal.note-requires-clause-owed
note-requires-clause-owed g c =
    λ seq kind.
    let a : Serving = record { taking = c.self.inside.intake; mail = c.self.inside.posts; short = c.self.inside.short } in
    let memory : c.self.inside.short ≡ false = c.if-self.false in
    let one = c.in-Ok-Put.ensures.put c.in-Ok-Put.task c.in-Ok-Put.kind (ap Ok c.in-Ok-Put.field-0-is) in
    let h = with_memory c.self.inside.owed.commands.items c.self.inside.owed.closed c.self.inside.owed.left c.self.inside.intake.receiver c.self.inside.posts.putters a memory c.self.invariant.2 in
    let entries : c.entries.result.now ≡ reverse c.self.inside.intake.recorded.past = same_journal c.entries.result.now c.recorder.result.now.past c.entries.ensures.entries ∙ ap (λ (r : Recorded). reverse r.past) c.recorder.ensures in
    let posted = subst (λ (es : List Entry). IsPosted es c.self.inside.posts → IsPosted es c.put.new.self) entries c.put.ensures.posted (c.self.invariant.0.posted memory) in
    let legal = subst (λ (r : Recorded). IsLegalPast r.setup r.sizes r.past) c.recorder.ensures c.entries.ensures.legal in
    was_owed c.self.inside.owed.commands.items c.self.inside.owed.closed c.self.inside.owed.left c.self.inside.intake.receiver c.self.inside.posts.putters c.put.new.self.putters c.in-Ok-Put.task one.0 seq h one.2
    (none_twice c.self.inside.intake.recorded.setup c.self.inside.intake.recorded.sizes c.self.inside.intake.recorded.past c.self.inside.intake.receiver.taken c.put.new.self legal (c.self.invariant.0.served memory).takes posted) (one.1 ∙ kind)

pub invariant_of-self-in-Ok-Put : goal.invariant_of-self-in-Ok-Put
invariant_of-self-in-Ok-Put g c =
    let a : Serving = record { taking = c.self.inside.intake; mail = c.self.inside.posts; short = c.self.inside.short } in
    let now : Serving = record { taking = c.self.inside.intake; mail = c.put.new.self; short = c.self.inside.short } in
    let memory : c.self.inside.short ≡ false = c.if-self.false in
    let one = c.in-Ok-Put.ensures.put c.in-Ok-Put.task c.in-Ok-Put.kind (ap Ok c.in-Ok-Put.field-0-is) in
    let h = with_memory c.self.inside.owed.commands.items c.self.inside.owed.closed c.self.inside.owed.left c.self.inside.intake.receiver c.self.inside.posts.putters a memory c.self.invariant.2 in
    let entries : c.entries.result.now ≡ reverse c.self.inside.intake.recorded.past = same_journal c.entries.result.now c.recorder.result.now.past c.entries.ensures.entries ∙ ap (λ (r : Recorded). reverse r.past) c.recorder.ensures in
    let posted = subst (λ (es : List Entry). IsPosted es c.self.inside.posts → IsPosted es c.put.new.self) entries c.put.ensures.posted (c.self.invariant.0.posted memory) in
    let fewer : (t q : ℕ) → owed_in t q c.note.new.self.commands.items + done_by t q c.in-Ok-Put.task (kind_of one.0) ≡ owed_in t q c.self.inside.owed.commands.items =
    λ t q. ap (λ kind. owed_in t q c.note.new.self.commands.items + done_by t q c.in-Ok-Put.task kind) one.1 ∙ c.note.ensures.commands t q in
    let all = owes_put c.self.inside.owed.commands.items c.note.new.self.commands.items c.self.inside.owed.closed c.self.inside.owed.left c.self.inside.intake.receiver c.self.inside.posts.putters c.put.new.self.putters c.in-Ok-Put.task one.0 one.2 fewer h in (
      record { served = c.self.invariant.0.served; posted = λ _. posted; tasks = as_many c.in-Ok-Put.task one.0 c.self.inside.posts.putters c.put.new.self.putters one.2 ∙ c.self.invariant.0.tasks },
      c.put.ensures.shown ∙ c.self.invariant.1,
      held_with c.note.new.self.commands.items c.note.new.self.closed c.note.new.self.left now memory
          (owes_same c.note.new.self.commands.items c.note.new.self.commands.items (closed_with c.self.inside.owed.closed c.in-Ok-Put.task (kind_of one.0)) c.self.inside.owed.left c.note.new.self.closed c.note.new.self.left
          c.self.inside.intake.receiver c.put.new.self.putters None refl (c.note.ensures.closed ∙ ap (closed_with c.self.inside.owed.closed c.in-Ok-Put.task) (sym one.1)) c.note.ensures.left all),
    )

pub invariant_of-self-in-Ok-Full : goal.invariant_of-self-in-Ok-Full
invariant_of-self-in-Ok-Full g c =
    let a : Serving = record { taking = c.self.inside.intake; mail = c.self.inside.posts; short = c.self.inside.short } in
    let now : Serving = record { taking = c.self.inside.intake; mail = c.put.new.self; short = c.self.inside.short } in
    let memory : c.self.inside.short ≡ false = c.if-self.false in
    let one = c.in-Ok-Full.ensures.full c.in-Ok-Full.task (ap Ok c.in-Ok-Full.field-0-is) in
    let h = with_memory c.self.inside.owed.commands.items c.self.inside.owed.closed c.self.inside.owed.left c.self.inside.intake.receiver c.self.inside.posts.putters a memory c.self.invariant.2 in
    let entries : c.entries.result.now ≡ reverse c.self.inside.intake.recorded.past = same_journal c.entries.result.now c.recorder.result.now.past c.entries.ensures.entries ∙ ap (λ (r : Recorded). reverse r.past) c.recorder.ensures in
    let posted = subst (λ (es : List Entry). IsPosted es c.self.inside.posts → IsPosted es c.put.new.self) entries c.put.ensures.posted (c.self.invariant.0.posted memory) in (
      record { served = c.self.invariant.0.served; posted = λ _. posted; tasks = as_many_full c.in-Ok-Full.task one.0 c.self.inside.posts.putters c.put.new.self.putters one.2 ∙ c.self.invariant.0.tasks },
      c.put.ensures.shown ∙ c.self.invariant.1,
      held_with c.self.inside.owed.commands.items c.self.inside.owed.closed c.self.inside.owed.left now memory
          (owes_full c.self.inside.owed.commands.items c.self.inside.owed.closed c.self.inside.owed.left c.self.inside.intake.receiver c.self.inside.posts.putters c.put.new.self.putters c.in-Ok-Full.task one.0 None one.2 h),
    )

pub invariant_of-self-in-Err : goal.invariant_of-self-in-Err
invariant_of-self-in-Err g c =
    let a : Serving = record { taking = c.self.inside.intake; mail = c.self.inside.posts; short = c.self.inside.short } in
    let now : Serving = record { taking = c.self.inside.intake; mail = c.put.new.self; short = true } in
    let err = c.in-Err.ensures.err in
    let h = with_memory c.self.inside.owed.commands.items c.self.inside.owed.closed c.self.inside.owed.left c.self.inside.intake.receiver c.self.inside.posts.putters a c.if-self.false c.self.invariant.2 in (
      spent now refl (ap (λ (ps : List Putting). length ps) err.0 ∙ c.self.invariant.0.tasks),
      c.put.ensures.shown ∙ c.self.invariant.1,
      either_way c.self.inside.owed.commands.items c.self.inside.owed.closed c.self.inside.owed.left c.self.inside.intake.receiver c.put.new.self.putters now err.1
          (subst (λ ps. Owes c.self.inside.owed.commands.items c.self.inside.owed.closed c.self.inside.owed.left c.self.inside.intake.receiver ps None) (sym err.0) h),
    )

pub returns-in-Ok-Nothing-clause-answers : goal.returns-in-Ok-Nothing-clause-answers
returns-in-Ok-Nothing-clause-answers g c =
    λ e.
    answers_behind _ _ c.args.self.now (record { taking = c.self.inside.intake; mail = c.put.new.self; short = c.self.inside.short }) c.step.new.self _ _
    (ap (λ (a : Serving). a.taking) c.self.view_is) ((c.in-Ok-Nothing.ensures.nothing (ap Ok c.in-Ok-Nothing.field-0-is)).1 ∙ ap (λ (a : Serving). a.mail.putters) c.self.view_is) c.step.result c.step.ensures.answers

pub returns-in-Ok-Put-clause-same : goal.returns-in-Ok-Put-clause-same
returns-in-Ok-Put-clause-same g c =
    let one = c.in-Ok-Put.ensures.put c.in-Ok-Put.task c.in-Ok-Put.kind (ap Ok c.in-Ok-Put.field-0-is) in (
      subst (λ (a : Serving). IsSameEnd a.taking.receiver c.self.inside.intake.receiver) c.self.view_is (same_receiver c.self.inside.intake.receiver),
      subst (λ (a : Serving). AreSameEnds a.mail.putters c.put.new.self.putters) c.self.view_is (same_put c.in-Ok-Put.task one.0 c.self.inside.posts.putters c.put.new.self.putters one.2),
    )

pub returns-in-Ok-Full-clause-same : goal.returns-in-Ok-Full-clause-same
returns-in-Ok-Full-clause-same g c =
    let one = c.in-Ok-Full.ensures.full c.in-Ok-Full.task (ap Ok c.in-Ok-Full.field-0-is) in (
      subst (λ (a : Serving). IsSameEnd a.taking.receiver c.self.inside.intake.receiver) c.self.view_is (same_receiver c.self.inside.intake.receiver),
      subst (λ (a : Serving). AreSameEnds a.mail.putters c.put.new.self.putters) c.self.view_is (same_full c.in-Ok-Full.task one.0 c.self.inside.posts.putters c.put.new.self.putters one.2),
    )

use Rattle.std.proofs.Common.{◌≡◌, ℕ, ◌+◌, ◌∷◌, ◌++◌, [], false, ◌||◌, length, refl, ap, sym, ◌∙◌, append-nil, length-append, arith}
use Rattle.std.proofs.lemmas.Int.{clamps}
use Rattle.std.proofs.Math.Bool.{or-false, or-true}
use Rattle.task_queues.specs.declared.note.Note.TheVariants as notes
use Rattle.task_queues.specs.MailboxPasses.{Getting}
use Rattle.task_end.specs.Notes.{messages_in, has_closed, counted}
use Rattle.task_end.proofs.Notings.{kept_more, kept_same, once_same, logged_same, told_more, told_done, once_done, logged_done, tickets_done, length_more, messages_more, closed_more}
use Rattle.task_end.proofs.side.Side.take_in.Goals as goal

pub invariant_of-self : goal.invariant_of-self
invariant_of-self g c =
    let counted = c.in_default.ensures.counted in (
      c.self.invariant.0,
      c.self.invariant.1,
      ap (λ (p : Getting). p.mailbox) counted ∙ c.self.invariant.2,
      c.self.invariant.3,
      kept_same _ _ _ _ _ _ _ _ c.self.invariant.4 c.get.new.pass (ap (λ (p : Getting). p.got) counted),
    )

pub invariant_of-self-in-Done : goal.invariant_of-self-in-Done
invariant_of-self-in-Done g c =
    let kept = c.self.invariant.4 in
    let note = notes.Done c.in-Done.seq c.in-Done.outcome c.in-Done.at c.in-Done.front in
    let got = c.self.inside.getter.got in
    let e = ap (λ (p : Getting). p.got) c.in-Some.ensures.got ∙ ap (λ n. got ++ n ∷ []) c.in-Done.is in
    let ends = c.end.ensures.ends in (
      c.self.invariant.0,
      c.self.invariant.1,
      ap (λ (p : Getting). p.mailbox) c.in-Some.ensures.got ∙ c.self.invariant.2,
      c.self.invariant.3,
      kept_more _ _ _ _ _ _ _ _ kept note c.get.new.pass e _ _ _ _ _ _ _ _
          c.learn.ensures.learned
          (omega (arith, clamps, c.saturating_add-self-inside.ensures, kept.notes_counted, length_more got c.get.new.pass.got note e))
          (kept.messages_counted ∙ ap (λ l. counted l) (sym (messages_more got c.get.new.pass.got note e ∙ append-nil (messages_in got))))
          (kept.is_closed ∙ sym (closed_more got c.get.new.pass.got note e ∙ or-false (has_closed got)))
          c.end.ensures.next
          (tickets_done _ _ _ _ _ _ _ _ kept note c.get.new.pass e c.in-Done.seq c.in-Done.outcome refl _ _ ends)
          (told_done _ _ _ _ _ _ _ _ kept note c.get.new.pass e c.in-Done.seq c.in-Done.outcome refl _ _ ends)
          (once_done _ _ _ _ _ _ _ _ kept note c.get.new.pass e c.in-Done.seq c.in-Done.outcome refl _ _ ends)
          (logged_done _ _ _ _ _ _ _ _ kept note c.get.new.pass e c.in-Done.seq c.in-Done.outcome refl _ _ ends),
    )

pub invariant_of-self-in-Message : goal.invariant_of-self-in-Message
invariant_of-self-in-Message g c =
    let kept = c.self.invariant.4 in
    let note = notes.Message c.in-Message.message c.in-Message.at c.in-Message.front in
    let got = c.self.inside.getter.got in
    let e = ap (λ (p : Getting). p.got) c.in-Some.ensures.got ∙ ap (λ n. got ++ n ∷ []) c.in-Message.is in (
      c.self.invariant.0,
      c.self.invariant.1,
      ap (λ (p : Getting). p.mailbox) c.in-Some.ensures.got ∙ c.self.invariant.2,
      c.self.invariant.3,
      kept_more _ _ _ _ _ _ _ _ kept note c.get.new.pass e _ _ _ _ _ _ _ _
          c.learn-in-Message.ensures.learned
          (omega (arith, clamps, c.saturating_add-self-inside.ensures, kept.notes_counted, length_more got c.get.new.pass.got note e))
          (omega (
            arith,
            clamps,
            c.saturating_add-self-inside-in-Message.ensures,
            kept.messages_counted,
            ap length (messages_more got c.get.new.pass.got note e),
            length-append (messages_in got) ((c.in-Message.message, c.in-Message.at) ∷ []),
          ))
          (kept.is_closed ∙ sym (closed_more got c.get.new.pass.got note e ∙ or-false (has_closed got)))
          refl refl
          (told_more got c.get.new.pass.got note e _ kept.told)
          (once_same _ _ _ _ _ _ _ _ kept note c.get.new.pass e refl)
          (logged_same _ _ _ _ _ _ _ _ kept note c.get.new.pass e refl),
    )

pub invariant_of-self-in-Closed : goal.invariant_of-self-in-Closed
invariant_of-self-in-Closed g c =
    let kept = c.self.invariant.4 in
    let note = notes.Closed c.in-Closed.at c.in-Closed.front in
    let got = c.self.inside.getter.got in
    let e = ap (λ (p : Getting). p.got) c.in-Some.ensures.got ∙ ap (λ n. got ++ n ∷ []) c.in-Closed.is in (
      c.self.invariant.0,
      c.self.invariant.1,
      ap (λ (p : Getting). p.mailbox) c.in-Some.ensures.got ∙ c.self.invariant.2,
      c.self.invariant.3,
      kept_more _ _ _ _ _ _ _ _ kept note c.get.new.pass e _ _ _ _ _ _ _ _
          c.learn-in-Closed.ensures.learned
          (omega (arith, clamps, c.saturating_add-self-inside.ensures, kept.notes_counted, length_more got c.get.new.pass.got note e))
          (kept.messages_counted ∙ ap (λ l. counted l) (sym (messages_more got c.get.new.pass.got note e ∙ append-nil (messages_in got))))
          (sym (closed_more got c.get.new.pass.got note e ∙ or-true (has_closed got)))
          refl refl
          (told_more got c.get.new.pass.got note e _ kept.told)
          (once_same _ _ _ _ _ _ _ _ kept note c.get.new.pass e refl)
          (logged_same _ _ _ _ _ _ _ _ kept note c.get.new.pass e refl),
    )

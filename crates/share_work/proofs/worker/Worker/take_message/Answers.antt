use Rattle.std.proofs.Common.{⊎_elim, inl, inr, subst}
use Rattle.task_end.specs.Answers.{handed}
use Rattle.share_work.specs.Working.{Working, GoesOn}
use Rattle.share_work.proofs.Collecting.{messaged}
use Rattle.share_work.proofs.worker.Worker.take_message.Goals as goal

pub returns : goal.returns
returns g c =
    let inside = c.self.inside in
    let old : Working = record { held = inside.held; current = inside.current; others = inside.others.items; spare = inside.spare; closed = inside.closed; ending = inside.ending; passage = inside.passage } in
    let next = c.next_message-next in
    let got = next.ensures.got in
    let noted = c.notes_message in
    record {
      goes_on = subst (λ (w : Working). GoesOn w (record old { held = next.new.self; spare = noted.new.spare; closed = noted.new.closed })) c.self.view_is
          (messaged old next.new.self noted.new.spare noted.new.closed got.0 got.1 (handed next.result) got.2 got.3 next.ensures.sent next.ensures.pool next.ensures.tickets
          noted.ensures.few (⊎_elim (λ same. inl same) (λ is. inr (is.0, next.ensures.closed is.1)) noted.ensures.closed));
    }

use Rattle.std.proofs.Common.{subst}
use Rattle.share_work.specs.Working.{Working, GoesOn}
use Rattle.share_work.proofs.Collecting.{collected, put_back}
use Rattle.share_work.proofs.Onward.{on}
use Rattle.share_work.proofs.worker.Worker.try_ticket.Goals as goal

pub returns-in-Got : goal.returns-in-Got
returns-in-Got g c =
    let inside = c.self.inside in
    let old : Working = record { held = inside.held; current = inside.current; others = inside.others.items; spare = inside.spare; closed = inside.closed; ending = inside.ending; passage = inside.passage } in
    record {
      goes_on = subst (λ (w : Working). GoesOn w (record old { held = c.collect.new.self; passage = c.answered.new.self })) c.self.view_is
          (collected old c.collect.new.self c.collect.ensures.takes_in c.in-Got.number c.answered.new.self c.answered.ensures c.in-Got.ensures.tried);
    }

pub returns-in-NotYet : goal.returns-in-NotYet
returns-in-NotYet g c =
    let inside = c.self.inside in
    let old : Working = record { held = inside.held; current = inside.current; others = inside.others.items; spare = inside.spare; closed = inside.closed; ending = inside.ending; passage = inside.passage } in
    record {
      goes_on = subst (λ (w : Working). GoesOn w (record old { held = c.collect.new.self })) c.self.view_is (put_back old c.collect.new.self c.collect.ensures.takes_in c.in-NotYet.ensures.tried);
    }

pub returns-in-MessagesFirst : goal.returns-in-MessagesFirst
returns-in-MessagesFirst g c =
    let inside = c.self.inside in
    let old : Working = record { held = inside.held; current = inside.current; others = inside.others.items; spare = inside.spare; closed = inside.closed; ending = inside.ending; passage = inside.passage } in
    record {
      goes_on = subst (λ (w : Working). GoesOn w c.take_message.new.self) c.self.view_is
          (on old (record old { held = c.collect.new.self }) c.take_message.new.self
          (put_back old c.collect.new.self c.collect.ensures.takes_in c.in-MessagesFirst.ensures.tried) c.take_message.ensures.goes_on);
    }

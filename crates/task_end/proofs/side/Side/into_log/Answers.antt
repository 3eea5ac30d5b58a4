use Rattle.std.proofs.Common.{◌≡◌, length, sym, ap, ◌∙◌}
use Rattle.std.proofs.lemmas.List.{length-map}
use Rattle.task_end.specs.Outcomes.{completion_of}
use Rattle.task_end.specs.Sides.{front_part}
use Rattle.task_end.proofs.Sendings.{log_again}
use Rattle.task_end.proofs.side.Side.into_log.Goals as goal

pub returns-clause-log : goal.returns-clause-log
returns-clause-log g c =
    let kept = c.self.invariant.4 in
    log_again _ c.args.self _ c.self.view_is (record {
      task = sym c.self.invariant.3;
      sent = sym kept.numbered ∙ (sym (length-map c.self.inside.fronts.items front_part) ∙ ap length kept.marked);
      got = ap length c.as_slice.ensures.value ∙ sym (length-map c.self.inside.commands.log.items completion_of);
      messages = kept.messages_counted;
      outcomes = kept.logged;
      fronts = c.from_vec.ensures;
    })

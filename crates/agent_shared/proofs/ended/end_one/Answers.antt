use Rattle.std.proofs.Common.{rules, ◌≡◌, sym, ap, ◌∙◌, subst}
use Rattle.task_end.specs.Notes.{outcomes_in}
use Rattle.task_end.specs.Commands.{NoneIsStray}
use Rattle.agent_shared.proofs.ended.end_one.Goals as goal

pub returns-clause-drained : goal.returns-clause-drained
returns-clause-drained g c =
    let log = c.into_log-sender.ensures.log in
    record {
      all = search rules;
      more = c.drain.ensures.got.0;
      got = search rules;
      task = search rules;
      sent = search rules;
      completed = log.got;
      messages = search rules;
      outcomes =
          λ none.
          let sent : c.args.end.sender.sent ≡ c.drain.new.self.sender.sent = search rules in
          let got : c.into_log-sender.result.1.got ≡ c.drain.new.self.getter.got = search rules in
          log.outcomes (subst (λ g. NoneIsStray c.drain.new.self.sender.sent g) got (subst (λ s. NoneIsStray s c.into_log-sender.result.1.got) sent none)) ∙ ap outcomes_in (sym got);
      fronts = search rules;
      marked = search rules;
      behind = search rules;
    }

use Rattle.std.proofs.Common.{◌≤◌, [], false, refl, sym, ◌∙◌, subst, None, replicate}
use Rattle.agent_end.proofs.Owing.{owes_none, unput, untaken}
use Rattle.agent_end.proofs.Without.{owes_same}
use Rattle.agent_end.proofs.end.AgentEnd.new.Goals as goal

pub invariant_of-result : goal.invariant_of-result
invariant_of-result g c =
    let served = c.requires.serving.served refl in
    let tasks = c.requires.serving.tasks in (
      c.requires.serving,
      c.requires.shown,
      owes_same [] c.new-owed.result.commands.items (replicate 8 false) (replicate 8 false) c.new-owed.result.closed c.new-owed.result.left c.args.intake.receiver c.args.posts.putters None
          c.new-owed.ensures.commands c.new-owed.ensures.closed c.new-owed.ensures.left
          (owes_none c.args.intake.receiver c.args.posts.putters (served.tasks ∙ sym tasks) (subst (λ n. n ≤ 8) (sym tasks) c.requires.few)
          (untaken c.args.intake.recorded.past c.args.intake.receiver.taken c.requires.fresh served.takes) (unput c.args.intake.recorded.past c.args.posts c.requires.fresh (c.requires.serving.posted refl))),
    )

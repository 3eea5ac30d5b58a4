use Rattle.agent_link.proofs.Writing.{stopped}
use Rattle.journal_text.proofs.Piecewise.{escaped_stopped}
use Rattle.journal_text.proofs.parts.write_escaped.Goals as goal

pub returns-in_err-at-clause-text : goal.returns-in_err-at-clause-text
returns-in_err-at-clause-text g c =
    stopped _ _ _ c.from_residual.result _ c.from_residual.ensures.1
    (escaped_stopped _ _ _ c.args.text.now c.split_at.result.1.now c.loop-at.at c.loop-at.invariant.so_far c.in_err-at.ensures.err c.split_at.ensures.back)

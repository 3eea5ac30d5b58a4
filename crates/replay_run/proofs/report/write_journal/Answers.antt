use Rattle.agent_link.proofs.Writing.{stopped, stopped_within}
use Rattle.journal_text.specs.Texts.{entry_text}
use Rattle.replay_run.proofs.report.write_journal.Goals as goal

pub returns-in_err-write_entry-clause-text : goal.returns-in_err-write_entry-clause-text
returns-in_err-write_entry-clause-text g c =
    stopped _ _ _ c.from_residual.result _ c.from_residual.ensures.1
    (stopped_within entry_text _ _ _ c.args.journal.now c.loop-entry.entry-index c.entry-item.result c.entry-item.result c.loop-entry-test.true c.entry-item.is c.loop-entry.invariant.so_far c.in_err-write_entry.ensures.text)

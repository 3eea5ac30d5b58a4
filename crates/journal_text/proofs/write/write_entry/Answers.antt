use Rattle.journal_text.specs.Texts.{entry_text}
use Rattle.agent_link.proofs.Writing.{stopped, front_longer, writes_behind}
use Rattle.journal_text.proofs.write.write_entry.Goals as goal

pub returns-in_err-write_line-clause-text : goal.returns-in_err-write_line-clause-text
unfolding entry_text
returns-in_err-write_line-clause-text g c = stopped _ _ _ c.from_residual.result _ c.from_residual.ensures.1 (front_longer _ _ _ _ c.in_err-write_line.ensures.text)

pub returns-clause-text : goal.returns-clause-text
unfolding entry_text
returns-clause-text g c = writes_behind _ _ _ c.write_effects.result _ _ c.in_ok-write_line.ensures.text (rw c.as_slice.ensures at c.write_effects.ensures.text)

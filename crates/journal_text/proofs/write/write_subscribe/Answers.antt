use Rattle.std.proofs.KnownBytes.{Appends-trans}
use Rattle.agent_link.proofs.Writing.{stopped, front_behind, front_longer, writes_behind}
use Rattle.journal_text.proofs.write.write_subscribe.Goals as goal

pub returns-in_err-write_word-clause-text : goal.returns-in_err-write_word-clause-text
returns-in_err-write_word-clause-text g c =
    stopped _ _ _ c.from_residual.result _ c.from_residual.ensures.1 (front_longer _ _ _ _ (front_longer _ _ _ _ c.in_err-write_word.ensures.text))

pub returns-in_err-write_asks-clause-text : goal.returns-in_err-write_asks-clause-text
returns-in_err-write_asks-clause-text g c =
    stopped _ _ _ c.from_residual-in_err-write_asks.result _ c.from_residual-in_err-write_asks.ensures.1
    (front_longer _ _ _ _ (front_behind _ _ _ _ _ c.in_ok-write_word.ensures.text c.in_err-write_asks.ensures.text))

pub returns-clause-text : goal.returns-clause-text
returns-clause-text g c = writes_behind _ _ _ c.write_all.result _ _ (Appends-trans _ _ _ _ _ c.in_ok-write_word.ensures.text c.in_ok-write_asks.ensures.text) c.write_all.ensures.text

use Rattle.agent_link.proofs.Writing.{stopped, stopped_within}
use Rattle.journal_text.specs.Texts.{ask_text}
use Rattle.journal_text.proofs.write.write_asks.Goals as goal

pub returns-in_err-write_ask-clause-text : goal.returns-in_err-write_ask-clause-text
returns-in_err-write_ask-clause-text g c =
    stopped _ _ _ c.from_residual.result _ c.from_residual.ensures.1
    (stopped_within ask_text _ _ _ c.args.asks.now c.loop-ask.ask-index c.ask-item.result c.ask-item.result c.loop-ask-test.true c.ask-item.is c.loop-ask.invariant.so_far c.in_err-write_ask.ensures.text)

use Rattle.agent_link.proofs.Writing.{stopped, stopped_within}
use Rattle.journal_text.specs.Texts.{effect_text}
use Rattle.journal_text.proofs.write.write_effects.Goals as goal

pub returns-in_err-write_effect-clause-text : goal.returns-in_err-write_effect-clause-text
returns-in_err-write_effect-clause-text g c =
    stopped _ _ _ c.from_residual.result _ c.from_residual.ensures.1
    (stopped_within effect_text _ _ _ c.args.effects.now c.loop-effect.effect-index c.effect-item.result c.effect-item.result c.loop-effect-test.true c.effect-item.is c.loop-effect.invariant.so_far c.in_err-write_effect.ensures.text)

use Rattle.agent_core.proofs.Packets.{drawn_more}
use Rattle.agent_core.proofs.sends.last_drawn.Goals as goal

pub loop-effect-preserved : goal.loop-effect-preserved
loop-effect-preserved c =
    drawn_more c.args.last c.loop-effect.last c.drawn-last.result c.args.effects.now c.loop-effect.effect-index c.effect-item.result c.loop-effect-test.true c.effect-item.is c.loop-effect.invariant c.drawn-last.ensures

use Rattle.std.proofs.Common.{◌∙◌}
use Rattle.agent_core.specs.Completions.{books}
use Rattle.agent_core.proofs.Endeds.{ended_more}
use Rattle.agent_core.proofs.books.complete_all.Goals as goal

pub loop-effect-preserved : goal.loop-effect-preserved
loop-effect-preserved g c = record {
  tied = c.complete.ensures.tied;
  held = c.complete.ensures.held ∙ c.loop-effect.invariant.held;
  books = ended_more (books c.args.pending.now c.args.qos.now.released c.args.subscriptions.now) (books c.loop-effect.pending c.loop-effect.qos.released c.loop-effect.subscriptions)
      (books c.complete.new.pending c.complete.new.qos.released c.complete.new.subscriptions) c.args.effects.now c.loop-effect.effect-index c.effect-item.result c.loop-effect-test.true c.effect-item.is c.loop-effect.invariant.books c.complete.ensures.books;
}

use Rattle.std.proofs.Common.{sym, ap, ◌∙◌}
use Rattle.std.specs.Option.{option_copied}
use Rattle.agent_core.specs.Endings.{ending_of}
use Rattle.agent_core.proofs.Loops.{flat_more, flat_none}
use Rattle.agent_core.proofs.effects.push_endings.Goals.{in-Some+in_ok-push_ending, in_default}
use Rattle.agent_core.proofs.effects.push_endings.Goals as goal

pub loop-k-preserved : goal.loop-k-preserved
loop-k-preserved g c = elim c.match-get.branch [
  | in-Some+in_ok-push_ending w ↦ flat_more (ending_of c.args.ending) c.args.effects.now c.args.pending.now c.loop-k.effects c.match-get.effects c.loop-k.k w.in-Some.command.now
      (sym c.get.ensures ∙ ap option_copied w.in-Some.is) c.loop-k.invariant (w.effects-is ∙ w.in_ok-push_ending.ensures)
  | in_default w ↦ flat_none (ending_of c.args.ending) c.args.effects.now c.args.pending.now c.match-get.effects c.loop-k.k (sym c.get.ensures ∙ ap option_copied w.in_default.is) (w.effects-is ∙ c.loop-k.invariant)
]

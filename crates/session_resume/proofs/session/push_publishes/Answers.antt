use Rattle.std.proofs.Common.{rules, sym, ap, ◌∙◌}
use Rattle.std.specs.Option.{option_copied}
use Rattle.session_resume.proofs.Loops.{again_more, again_skips, again_none}
use Rattle.session_resume.proofs.session.push_publishes.Goals.{in-Some+then-not-is_released+in_ok-push_again, in-Some+else-not-is_released, in_default}
use Rattle.session_resume.proofs.session.push_publishes.Goals as goal

pub loop-k-preserved : goal.loop-k-preserved
loop-k-preserved g c = elim c.match-get.branch [
  | in-Some+then-not-is_released+in_ok-push_again w ↦ again_more c.args.effects.now c.loop-k.effects c.match-get.effects c.args.qos.now.released c.args.pending.now c.loop-k.k w.in-Some.command.now
      (sym c.get.ensures ∙ ap option_copied w.in-Some.is) (search rules) c.loop-k.invariant (w.effects-is ∙ w.in_ok-push_again.ensures)
  | in-Some+else-not-is_released w ↦ again_skips c.args.effects.now c.match-get.effects c.args.qos.now.released c.args.pending.now c.loop-k.k w.in-Some.command.now
      (sym c.get.ensures ∙ ap option_copied w.in-Some.is) (search rules) (w.effects-is ∙ c.loop-k.invariant)
  | in_default w ↦ again_none c.args.effects.now c.match-get.effects c.args.qos.now.released c.args.pending.now c.loop-k.k (sym c.get.ensures ∙ ap option_copied w.in_default.is) (w.effects-is ∙ c.loop-k.invariant)
]

use Rattle.std.proofs.Common.{sym, ◌∙◌}
use Rattle.session_resume.proofs.Loops.{releases_more, releases_none}
use Rattle.session_resume.proofs.session.push_releases.Goals.{in-Some+in_ok-push_release, in_default}
use Rattle.session_resume.proofs.session.push_releases.Goals as goal

pub loop-k-preserved : goal.loop-k-preserved
loop-k-preserved g c = elim c.match-released.branch [
  | in-Some+in_ok-push_release w ↦ releases_more c.args.effects.now c.loop-k.effects c.match-released.effects c.args.qos.now.released c.loop-k.k w.in-Some.id
      (sym c.released.ensures ∙ w.in-Some.is) c.loop-k.invariant (w.effects-is ∙ w.in_ok-push_release.ensures)
  | in_default w ↦ releases_none c.args.effects.now c.match-released.effects c.args.qos.now.released c.loop-k.k (sym c.released.ensures ∙ w.in_default.is) (w.effects-is ∙ c.loop-k.invariant)
]

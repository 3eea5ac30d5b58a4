use Rattle.std.proofs.Common.{rules, sym, ap, ◌∙◌}
use Rattle.std.specs.Option.{option_copied}
use Rattle.agent_table.specs.Takes.{own_filters}
use Rattle.agent_core.specs.Kept.{readings_in}
use Rattle.session_resume.proofs.Loops.{taken_none}
use Rattle.agent_core.proofs.Takes.{own_more, own_skips}
use Rattle.agent_core.proofs.agent.Core.own_filters.Goals.{in-Some+then-not-other_has+in_ok-copy+in_ok-push, in-Some+else-not-other_has, in_default}
use Rattle.agent_core.proofs.agent.Core.own_filters.Goals as goal

pub loop-k-preserved : goal.loop-k-preserved
loop-k-preserved g c = elim c.match-get.branch [
  | in-Some+then-not-other_has+in_ok-copy+in_ok-push w ↦ own_more (readings_in c.args.self.now) c.args.task c.args.filters.now c.loop-k.own c.match-get.own c.loop-k.k w.in-Some.filter.now
      (sym c.get.ensures.value ∙ ap option_copied w.in-Some.is) (search rules) c.loop-k.invariant (search rules)
  | in-Some+else-not-other_has w ↦ own_skips (readings_in c.args.self.now) c.args.task c.args.filters.now c.match-get.own c.loop-k.k w.in-Some.filter.now
      (sym c.get.ensures.value ∙ ap option_copied w.in-Some.is) (search rules) (w.own-is ∙ c.loop-k.invariant)
  | in_default w ↦ w.own-is ∙ c.loop-k.invariant ∙ ap (own_filters (readings_in c.args.self.now) c.args.task) (taken_none c.args.filters.now c.loop-k.k (sym c.get.ensures.value ∙ ap option_copied w.in_default.is))
]

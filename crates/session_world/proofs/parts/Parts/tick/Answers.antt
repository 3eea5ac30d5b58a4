use Rattle.std.proofs.Common.{sym, subst}
use Rattle.std.specs.Prelude.{IfOk}
use Rattle.session_world.specs.declared.event.Event.TheVariants as v
use Rattle.session_world.specs.Kept.{Plays}
use Rattle.session_world.specs.Viewed.{kept_in}
use Rattle.session_world.proofs.Events.{tick_skipped, tick_played}
use Rattle.session_world.proofs.parts.Parts.tick.Goals as goal
use Rattle.session_world.proofs.parts.Parts.tick.Goals.{in-Ok, in-Err}

pub returns-in_default-clause-plays : goal.returns-in_default-clause-plays
returns-in_default-clause-plays c = tick_skipped (kept_in c.args.self.now) c.time.result c.time.ensures c.in_default.ensures.past

pub returns-clause-plays : goal.returns-clause-plays
returns-clause-plays c = elim c.match-enter.branch [
  | in-Ok w ↦ subst (λ r. IfOk r (λ said. Plays (kept_in c.args.self.now) v.Tick said (kept_in c.enter.new.self))) (sym w.result-is)
      (tick_played (kept_in c.args.self.now) (kept_in c.enter.new.self) c.time.result c.in-Some.cause c.time.ensures c.in-Some.ensures.past w.in-Ok.ensures.entered)
  | in-Err w ↦ subst (λ r. IfOk r (λ said. Plays (kept_in c.args.self.now) v.Tick said (kept_in c.enter.new.self))) (sym w.result-is) tt
]

use Rattle.std.proofs.Common.{◌≡◌, ◌+◌, ◌-◌, ◌≤◌, ◌++◌, sym, subst, arith}
use Rattle.session_world.specs.Generating as generating
use Rattle.session_world.proofs.Drawing.{drawn_more}
use Rattle.session_world.proofs.draws.generate.Goals as goal

pub loop-preserved : goal.loop-preserved
loop-preserved c = record {
  whole =
      subst (λ items. items ++ generating.all_drawn (c.args.n - (c.loop.counter + 1)) c.event.new.self ≡ generating.generated c.args.seed c.args.n) (sym c.in_ok-push.ensures.items)
      (drawn_more c.args.n c.loop.counter c.loop.events.items c.in_ok-event.event c.loop.draws c.event.new.self (generating.generated c.args.seed c.args.n) (omega (arith, c.loop-test.true)) c.in_ok-event.ensures.drawn c.loop.invariant.whole);
  few = omega (arith, c.event.ensures.few, c.loop.invariant.few);
}

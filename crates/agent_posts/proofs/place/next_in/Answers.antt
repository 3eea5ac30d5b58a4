use Rattle.std.proofs.Common.{◌≡◌, Some, None, length, rules, sym}
use Rattle.std.specs.Prelude.{slice_get}
use Rattle.std.proofs.lemmas.Bool.{ltb-false}
use Rattle.agent_posts.specs.Waiting.{addressee}
use Rattle.agent_posts.proofs.Waiting.{got_here, alike_on, none_in}
use Rattle.agent_posts.proofs.place.next_in.Goals as goal

pub loop-effect-preserved : goal.loop-effect-preserved
loop-effect-preserved c =
    let there : slice_get c.args.effects.now c.loop-effect.at ≡ Some c.in-Some.effect.now = got_here c.args.effects.now c.loop-effect.at c.in-Some.effect.now c.in-Some.ensures.lookup.0 c.in-Some.ensures.lookup.1 in
    let none : addressee c.args.tasks c.in-Some.effect.now ≡ None = search rules in
    alike_on c.args.tasks c.args.effects.now c.args.from c.loop-effect.at c.in-Some.effect.now c.loop-effect.invariant there none

pub returns-clause-none : goal.returns-clause-none
returns-clause-none c =
    none_in c.args.tasks c.args.effects.now c.args.from c.loop-effect.at c.loop-effect.invariant (ltb-false c.loop-effect.at (length c.args.effects.now) (sym c.in_default.ensures.lookup.0))

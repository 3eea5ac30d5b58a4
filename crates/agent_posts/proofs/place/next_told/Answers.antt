use Rattle.std.proofs.Common.{◌≡◌, Some, rules, subst}
use Rattle.std.specs.Prelude.{slice_get}
use Rattle.agent_posts.specs.Waiting.{IsNextIn, NoneIn}
use Rattle.agent_posts.proofs.Waiting.{got_here, waits_on, waits_within}
use Rattle.agent_posts.proofs.place.next_told.Goals as goal

pub returns-in-Some-next_in-clause-none_between : goal.returns-in-Some-next_in-clause-none_between
returns-in-Some-next_in-clause-none_between c =
    let there : slice_get c.args.entries.now c.loop-entry.place.entry ≡ Some c.in-Some.entry.now = got_here c.args.entries.now c.loop-entry.place.entry c.in-Some.entry.now c.in-Some.ensures.lookup.0 c.in-Some.ensures.lookup.1 in
    let is : IsNextIn c.args.tasks c.in-Some.entry.now.effects c.loop-entry.place.effects (c.in-Some-next_in.effects, c.in-Some-next_in.task) = search rules in
    waits_within c.args.tasks c.args.entries.now c.args.from c.loop-entry.place c.in-Some.entry.now (c.in-Some-next_in.effects, c.in-Some-next_in.task) c.loop-entry.invariant there is

pub loop-entry-preserved : goal.loop-entry-preserved
loop-entry-preserved c =
    let there : slice_get c.args.entries.now c.loop-entry.place.entry ≡ Some c.in-Some.entry.now = got_here c.args.entries.now c.loop-entry.place.entry c.in-Some.entry.now c.in-Some.ensures.lookup.0 c.in-Some.ensures.lookup.1 in
    let none : NoneIn c.args.tasks c.in-Some.entry.now.effects c.loop-entry.place.effects = subst (λ effects. NoneIn c.args.tasks effects c.loop-entry.place.effects) c.as_slice.ensures c.in-None.ensures.none in
    waits_on c.args.tasks c.args.entries.now c.args.from c.loop-entry.place c.in-Some.entry.now c.loop-entry.invariant there none

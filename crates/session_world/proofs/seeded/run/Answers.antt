use Rattle.std.proofs.Common.{rules, ◌≡◌, ◌+◌, ◌≤◌, [], ◌∷◌, ◌++◌, length, reverse, ap, ◌∙◌, arith, length-append}
use Rattle.std.proofs.lemmas.List.{length-reverse}
use Rattle.session_world.specs.Generating.{generated}
use Rattle.session_world.proofs.Following.{follows_first, follows_next, follows_all, generated_length}
use Rattle.session_world.proofs.seeded.run.Goals as goal

pub events-init : goal.events-init
events-init c =
    let is : c.reverse.new.self.items ≡ reverse (generated c.args.seed c.args.n) = c.reverse.ensures.items ∙ ap reverse c.in_ok-left.ensures in
    record {
      leads = follows_first c.in_ok-world.world.kept c.reverse.new.self.items c.args.seed c.args.n c.in_ok-world.ensures.stands is;
      few = omega (arith, c.in_ok-world.ensures.stands.ties.events, ap length is ∙ length-reverse (generated c.args.seed c.args.n), generated_length c.args.seed c.args.n);
    }

pub events-preserved : goal.events-preserved
events-preserved c = record {
  leads = follows_next c.events.world.kept c.play_on.new.world.kept c.events.left.items c.pop.new.self.items c.in-Some.event (generated c.args.seed c.args.n) c.in-Some.ensures.items c.in_ok-play_on.ensures.stands c.events.invariant.leads;
  few = omega (arith, c.in_ok-play_on.ensures.counts, ap length c.in-Some.ensures.items ∙ length-append c.pop.new.self.items (c.in-Some.event ∷ []), c.events.invariant.few);
}

pub returns : goal.returns
returns c = follows_all c.events.world.kept c.events.left.items (generated c.args.seed c.args.n) c.totals.result (search rules) c.totals.ensures c.events.invariant.leads

use Rattle.std.proofs.Common.{subst}
use Rattle.subscriptions.specs.Routing.{Routing, is_reached}
use Rattle.subscriptions.specs.Nearest.{IsLeast, lesser}
use Rattle.subscriptions.proofs.Reached.{next_is, next_from, next_holds}
use Rattle.subscriptions.proofs.routing.Subscriptions.next_match.Goals as goal

pub returns : goal.returns
returns g c =
    let next = next_is c.self.inside.granted c.self.inside.asked.items c.args.name.now c.args.from c.least_granted.result c.least_asked.result c.least_granted.ensures (rw c.deref.ensures.value at c.least_asked.ensures) in
    let own : IsLeast (λ task. is_reached c.args.self.now c.args.name.now task) c.args.from c.lesser.result =
    rw c.lesser.ensures (subst (λ (k : Routing). IsLeast (λ task. is_reached k c.args.name.now task) c.args.from (lesser c.least_granted.result c.least_asked.result)) c.self.view_is next)
    in
    record {
      from = next_from (λ task. is_reached c.args.self.now c.args.name.now task) c.args.from c.lesser.result own;
      reached = next_holds (λ task. is_reached c.args.self.now c.args.name.now task) c.args.from c.lesser.result own;
      least = own.least;
    }

use Rattle.std.proofs.Common.{◌==◌, not}
use Rattle.std.specs.List.{filter}
use Rattle.subscriptions.specs.Routing.{Granted}
use Rattle.subscriptions.proofs.Keeping.{kept_fewer, kept_left}
use Rattle.subscriptions.proofs.routing.Subscriptions.drop_task.Goals as goal

pub invariant_of-self : goal.invariant_of-self
invariant_of-self g c =
    let gone = λ (route : Granted). not (route.task == c.args.task) in
    rw (c.drop_task.ensures, c.leave_all.ensures)
    (kept_left c.args.task g.row.ROUTES (filter gone c.self.inside.granted) c.self.inside.asked.items (kept_fewer gone g.row.ROUTES c.self.inside.granted c.self.inside.asked.items c.self.invariant))

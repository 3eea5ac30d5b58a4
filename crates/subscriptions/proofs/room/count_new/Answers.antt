use Rattle.std.proofs.Common.{arith}
use Rattle.subscriptions.specs.Rooms.{routes_with}
use Rattle.subscriptions.proofs.Counts.{new_step}
use Rattle.subscriptions.proofs.room.count_new.Goals as goal
use Rattle.subscriptions.proofs.room.count_new.Goals.{then-is_new, else-is_new}

pub loop-at-preserved : goal.loop-at-preserved
loop-at-preserved g c =
    let step = new_step (routes_with c.args.granted.now c.args.asked.now) c.args.task c.args.asks.now c.loop-at.at c.index-asks-at.result c.is_new.result c.loop-at-test.true c.index-asks-at.is c.is_new.ensures in
    let old = c.loop-at.invariant.count in
    let most = c.loop-at.invariant.most in
    elim c.if-is_new.branch [
      | then-is_new w ↦ let one = rw w.if-is_new.true at step in let count = w.count-is in record { count = omega (arith, one, old, count); most = omega (arith, most, count) }
      | else-is_new w ↦ let none = rw w.if-is_new.false at step in let count = w.count-is in record { count = omega (arith, none, old, count); most = omega (arith, most, count) }
    ]

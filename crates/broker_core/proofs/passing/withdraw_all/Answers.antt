use Rattle.std.proofs.Common.{arith}
use Rattle.broker_core.specs.Session as spec
use Rattle.broker_core.proofs.Offers.{taken_back, all_back}
use Rattle.broker_core.proofs.passing.withdraw_all.Goals as goal

pub loop-session-preserved : goal.loop-session-preserved
loop-session-preserved c before place e =
    taken_back (spec.offered c.args.qos c.args.name.now place) c.args.sessions.now c.loop-session.sessions before c.loop-session.session-index c.session-item.result c.withdraw.new.self (omega arith)
    (λ b is. c.withdraw.ensures b place is) e (c.loop-session.invariant before place e)

pub returns : goal.returns
returns c before place e = all_back (spec.offered c.args.qos c.args.name.now place) c.args.sessions.now c.loop-session.sessions before c.loop-session.session-index (omega arith) e (c.loop-session.invariant before place e)

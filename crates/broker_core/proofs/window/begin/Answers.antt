use Rattle.std.proofs.Common.{arith}
use Rattle.broker_core.proofs.Windows.{begun_full}
use Rattle.broker_core.proofs.window.begin.Goals as goal

pub returns : goal.returns
returns c = begun_full c.loop-begun.begun.items _ c.loop-begun.last c.loop-begun.used.items c.args.waiting.now.items (omega arith) c.loop-begun.invariant

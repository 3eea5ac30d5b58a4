use Rattle.std.proofs.Common.{◌≡◌, ◌++◌, List, length}
use Rattle.std.specs.List.{AllByRecursion}
use Rattle.agent_script.specs.declared.script.Line.{Line}
use Rattle.share_work.specs.Parting.{AreStepsOf, HasTaskBelow}
use Rattle.share_work.proofs.parting.parted.Given as goal

abbrev pub invariant-lines : goal.invariant-lines
invariant-lines l = (done : List Line) × (done ++ l.left.items ≡ l.fn.script.lines) × AreStepsOf l.fn.script.tasks done l.parts.items × AllByRecursion (HasTaskBelow l.fn.script.tasks) l.left.items

abbrev pub decreases-lines : goal.decreases-lines
decreases-lines l = length l.left.items

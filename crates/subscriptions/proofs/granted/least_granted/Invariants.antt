use Rattle.std.proofs.Common.{◌&&◌, ◌==◌, take}
use Rattle.std.specs.List.{list_any}
use Rattle.topic_filter.specs.Fitting.{fits}
use Rattle.subscriptions.specs.Nearest.{IsLeast}
use Rattle.subscriptions.proofs.granted.least_granted.Given as goal

abbrev pub invariant-loop-k : goal.invariant-loop-k
invariant-loop-k g l = IsLeast (λ task. list_any (λ g. g.task == task && fits g.topics l.name) (take l.k l.granted)) l.from l.least

use Rattle.std.proofs.Common.{◌&&◌, ◌==◌, not, take}
use Rattle.std.specs.List.{list_any}
use Rattle.topic_filter.specs.Fitting.{fits}
use Rattle.subscriptions.specs.Nearest.{IsLeast}
use Rattle.subscriptions.proofs.asked.least_asked.Given as goal

abbrev pub invariant-loop-open : goal.invariant-loop-open
invariant-loop-open l = IsLeast (λ task. list_any (λ a. a.task == task && (not a.left && list_any (λ ask. fits ask.filter l.name) a.asks)) (take l.open-index l.asked)) l.from l.least

use Rattle.std.proofs.Common.{◌≡◌, ◌||◌, not, map, drop}
use Rattle.std.specs.List.{filter}
use Rattle.agent_table.specs.Filters.{sorted}
use Rattle.subscriptions.proofs.renewable.filters_of.Given as goal

abbrev pub invariant-loop-at : goal.invariant-loop-at
invariant-loop-at g l = map (λ f. f.now) l.filters.keys ≡ sorted (map (λ g. g.topics) (filter (λ g. l.all || not g.sure) (drop l.at l.granted)))

use Rattle.std.proofs.Common.{ap, ◌∙◌}
use Rattle.std.specs.Prelude.{is_some}
use Rattle.ordered_cells.proofs.Found.{any_is_found, copied_is}
use Rattle.ordered_cells.proofs.ordered.OrderedCells.any.Goals as goal

pub returns : goal.returns
returns g c = λ p tests. c.is_some.ensures ∙ copied_is c.find.result ∙ ap is_some (c.find.ensures p tests) ∙ any_is_found p c.args.self.now

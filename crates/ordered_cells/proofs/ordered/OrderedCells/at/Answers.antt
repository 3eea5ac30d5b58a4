use Rattle.std.proofs.Common.{sym, ap, ◌∙◌}
use Rattle.std.specs.Option.{option_copied}
use Rattle.std.proofs.lemmas.Option.{get_or_from_slice_get}
use Rattle.ordered_cells.proofs.Searches.{never_past}
use Rattle.ordered_cells.proofs.ordered.OrderedCells.at.Goals as goal

pub returns : goal.returns
returns g c = sym (get_or_from_slice_get c.args.self.now c.args.k c.in-Some.item.now c.in-Some.item.now (sym c.get.ensures ∙ ap option_copied c.in-Some.is))

pub unreachable-requires : goal.unreachable-requires
unreachable-requires g c = never_past c.args.self.now c.args.k c.requires (sym c.get.ensures ∙ ap option_copied c.in-None.is)

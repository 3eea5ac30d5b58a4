use Rattle.std.proofs.Common.{◌≡◌, ◌+◌, None, Some, cond, ap, ◌∙◌, sym, ◌==◌, ◌&&◌}
use Rattle.std.specs.List.{position}
use Rattle.agent_end.specs.Owed.{is_owed, owed_in}
use Rattle.agent_end.proofs.Flags.{is_found, settled}
use Rattle.agent_end.proofs.owed.Owed.settle.Goals as goal

pub unreachable-requires : goal.unreachable-requires
unreachable-requires c =
    let none : position (is_owed c.args.task c.args.seq) c.args.self.now.commands.items ≡ None = ap (position (is_owed c.args.task c.args.seq)) (sym c.as_slice.ensures.value) ∙ sym c.place_of.ensures ∙ c.in_default.is in
    is_found (is_owed c.args.task c.args.seq) c.args.self.now.commands.items c.requires.owed none

pub returns-clause-commands : goal.returns-clause-commands
returns-clause-commands c =
    λ t q.
    let found : position (is_owed c.args.task c.args.seq) c.args.self.now.commands.items ≡ Some c.in-Some.place = ap (position (is_owed c.args.task c.args.seq)) (sym c.as_slice.ensures.value) ∙ sym c.place_of.ensures ∙ c.in-Some.is in
    ap (λ commands. owed_in t q commands + cond ((c.args.task == t) && (c.args.seq == q)) 1 0) c.swap_remove.ensures.items
    ∙ settled c.args.task c.args.seq c.in-Some.place c.args.self.now.commands.items c.swap_remove.result found c.swap_remove.ensures.value t q

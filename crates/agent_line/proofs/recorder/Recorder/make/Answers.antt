use Rattle.std.proofs.Common.{◌≡◌, [], ◌∷◌, ◌++◌, ap, true, is_some, reverse, sym, subst, ◌∙◌, arith}
use Rattle.agent_core.specs.Kept.{Kept}
use Rattle.agent_line.specs.Recorded.{Recorded, Makes, row_in}
use Rattle.agent_line.proofs.Making.{row_kept, makes}
use Rattle.agent_line.proofs.recorder.Recorder.make.Goals as goal

pub step-requires : goal.step-requires
step-requires g c = (
  omega arith,
  row_kept c.self.inside.core (reverse c.self.inside.entries.items) c.args.at c.args.cause c.self.invariant.0
      (subst (λ (r : Recorded). is_some (row_in r c.args.at c.args.cause) ≡ true) (sym c.self.view_is) c.requires.may),
)

pub returns-in-Ok-clause-made : goal.returns-in-Ok-clause-made
returns-in-Ok-clause-made g c =
    subst (λ (r : Recorded). Makes r c.args.at c.args.cause (record { setup = c.step.new.self.setup; sizes = c.step.new.self.sizes; past = reverse c.push_reserved.new.self.items })) c.self.view_is
    (makes c.self.inside.core c.step.new.self c.self.inside.entries.items c.push_reserved.new.self.items c.args.at c.args.cause c.in-Ok.entry c.self.invariant.0 c.in-Ok.ensures.effects c.in-Ok.ensures.entry.0 c.in-Ok.ensures.entry.1
    (c.push_reserved.ensures.items ∙ ap (λ xs. xs ++ c.in-Ok.entry ∷ []) c.in_ok-reserve.ensures.items) (ap (λ (k : Kept). k.setup) c.in-Ok.ensures.next) (ap (λ (k : Kept). k.sizes) c.in-Ok.ensures.next))

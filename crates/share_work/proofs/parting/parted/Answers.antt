use Rattle.std.proofs.Common.{[], ◌∷◌, ◌++◌, sym, ap, ◌∙◌, subst}
use Rattle.std.specs.List.{AllByRecursion}
use Rattle.std.proofs.lemmas.List.{append_assoc}
use Rattle.share_work.specs.Parting.{HasTaskBelow}
use Rattle.share_work.proofs.parting.parted.Goals as goal

pub lines-preserved : goal.lines-preserved
lines-preserved c =
    let done = c.lines.invariant.0 in
    let line = c.in-Some.line in
    let popped = c.in-Some.ensures.items in (
      done ++ line ∷ [],
      append_assoc done (line ∷ []) c.pop_front.new.self.items ∙ ap (λ l. done ++ l) (sym popped) ∙ c.lines.invariant.1,
      c.in_ok-add.ensures c.args.script.tasks done c.lines.invariant.2,
      (subst (AllByRecursion (HasTaskBelow c.args.script.tasks)) popped c.lines.invariant.3).1,
    )

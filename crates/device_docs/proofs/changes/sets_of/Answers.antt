use Rattle.std.proofs.Common.{◌++◌, sym, ap, ◌∙◌, subst, append-nil}
use Rattle.serde_json.specs.View.{members_view}
use Rattle.device_docs.specs.Changes.{IsInOrder, sets_of}
use Rattle.device_docs.proofs.Views.{sets_in_order}
use Rattle.device_docs.proofs.changes.sets_of.Goals as goal

pub returns-clause-order : goal.returns-clause-order
returns-clause-order c =
    let items = c.members.sets.items in
    let all = c.members.invariant.sets ∙ ap (λ es. items ++ sets_of (members_view es)) c.in-None.ensures.steps.0 ∙ append-nil items in
    subst IsInOrder (all ∙ sym c.from_vec.ensures) (sets_in_order c.args.members.now.entries c.iter-key-items.ensures.ordered)

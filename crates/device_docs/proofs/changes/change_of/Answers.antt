use Rattle.std.proofs.Common.{Option, Some, sym, ap, ◌∙◌, subst}
use Rattle.std.proofs.lemmas.Result.{err_from_is_err_and}
use Rattle.std.proofs.lemmas.Option.{same_Some}
use Rattle.serde_json.specs.View.{view, members_view}
use Rattle.device_docs.specs.declared.faults.ChangeFault.{ChangeFault}
use Rattle.device_docs.specs.Changes.{Fails}
use Rattle.device_docs.proofs.Changing.{miscounted_is, fault_is, change_is}
use Rattle.device_docs.proofs.Views.{members_len_view}
use Rattle.device_docs.proofs.changes.change_of.Goals as goal

pub returns-then-not-is_counted-clause-tells : goal.returns-then-not-is_counted-clause-tells
returns-then-not-is_counted-clause-tells c =
    let es = c.in_ok-desired.desired.now.entries in
    miscounted_is (view c.args.document.now) _ _ (members_view es) c.len-members.result c.in_ok-version.ensures c.in_ok-state.ensures c.in_ok-desired.ensures
    (c.len-members.ensures.len ∙ sym (members_len_view es)) (sym c.is_counted.ensures ∙ c.if-not-is_counted.true)

pub returns-in_err-sets-clause-tells : goal.returns-in_err-sets-clause-tells
returns-in_err-sets-clause-tells c =
    let es = c.in_ok-desired.desired.now.entries in
    let fault = fault_is (view c.args.document.now) _ _ (members_view es) c.len-members.result c.in_ok-version.ensures c.in_ok-state.ensures c.in_ok-desired.ensures
    (c.len-members.ensures.len ∙ sym (members_len_view es)) (sym c.is_counted.ensures ∙ c.if-not-is_counted.false) in
    let p = err_from_is_err_and c.from_residual-in_err-sets.result c.from_residual-in_err-sets.ensures.1 in
    rw (p.1, p.2) (subst (λ (o : Option ChangeFault). Fails o c.in_err-sets.field-0.0) (sym fault) c.in_err-sets.ensures.tells)

pub returns-clause-tells : goal.returns-clause-tells
returns-clause-tells c =
    let es = c.in_ok-desired.desired.now.entries in
    let fault = fault_is (view c.args.document.now) _ _ (members_view es) c.len-members.result c.in_ok-version.ensures c.in_ok-state.ensures c.in_ok-desired.ensures
    (c.len-members.ensures.len ∙ sym (members_len_view es)) (sym c.is_counted.ensures ∙ c.if-not-is_counted.false) in
    let change = change_is (view c.args.document.now) _ _ (members_view es) c.in_ok-version.ensures c.in_ok-state.ensures c.in_ok-desired.ensures in
    let sets = same_Some _ _ c.in_ok-sets.ensures.tells.1 in
    (fault ∙ c.in_ok-sets.ensures.tells.0, change ∙ ap (λ sets. Some (record { version = c.in_ok-version.version; sets = sets })) sets)

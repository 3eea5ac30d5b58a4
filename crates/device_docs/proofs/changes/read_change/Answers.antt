use Rattle.std.proofs.lemmas.Result.{err_from_is_err_and}
use Rattle.device_docs.proofs.Changing.{object_tells, unread_tells}
use Rattle.device_docs.proofs.changes.read_change.Goals as goal

pub returns-in_err-document-clause-tells : goal.returns-in_err-document-clause-tells
returns-in_err-document-clause-tells c =
    let p = err_from_is_err_and c.from_residual.result c.from_residual.ensures.1 in
    rw p.1 (unread_tells c.args.text.now c.in_err-document.field-0.0 p.0 c.in_err-document.ensures p.2)

pub returns-clause-tells : goal.returns-clause-tells
returns-clause-tells c = object_tells c.args.text.now _ c.change_of.result c.in_ok-document.ensures c.change_of.ensures.tells

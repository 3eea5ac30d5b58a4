use Rattle.std.proofs.lemmas.Result.{err_from_is_err_and}
use Rattle.device_docs.proofs.Sayings.{object_says, unread_says}
use Rattle.device_docs.proofs.jobs.read_execution.Goals as goal

pub returns-in_err-document-clause-said : goal.returns-in_err-document-clause-said
returns-in_err-document-clause-said c =
    let p = err_from_is_err_and c.from_residual.result c.from_residual.ensures.1 in
    rw p.1 (unread_says c.args.text.now c.in_err-document.field-0.0 p.0 c.in_err-document.ensures p.2)

pub returns-clause-said : goal.returns-clause-said
returns-clause-said c = object_says c.args.text.now _ c.read_in.result c.in_ok-document.ensures c.read_in.ensures.said

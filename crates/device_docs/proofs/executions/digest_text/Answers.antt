use Rattle.device_docs.proofs.DigestTexts.{digest_back}
use Rattle.device_docs.proofs.executions.digest_text.Goals as goal

pub returns-clause-back : goal.returns-clause-back
returns-clause-back c = digest_back c.args.digest.now c.told-digest c.fits-digest

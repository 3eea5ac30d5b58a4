use Rattle.device_docs.proofs.DigestTexts.{digests_are}
use Rattle.device_docs.proofs.laws.digests_are_base64.Goals as goal

pub returns : goal.returns
returns c = digests_are

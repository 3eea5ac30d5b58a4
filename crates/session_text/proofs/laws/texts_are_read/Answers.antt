use Rattle.session_text.proofs.Sessions.{texts_are_read}
use Rattle.session_text.proofs.laws.texts_are_read.Goals as goal

pub returns : goal.returns
returns c = texts_are_read

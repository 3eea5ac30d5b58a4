use Rattle.session_text.proofs.Sessions.{read_are_texts}
use Rattle.session_text.proofs.laws.read_are_texts.Goals as goal

pub returns : goal.returns
returns c = read_are_texts

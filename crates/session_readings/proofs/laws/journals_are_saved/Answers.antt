use Rattle.session_readings.proofs.Examples.{journals_are_saved}
use Rattle.session_readings.proofs.laws.journals_are_saved.Goals as goal

pub returns : goal.returns
returns c = journals_are_saved

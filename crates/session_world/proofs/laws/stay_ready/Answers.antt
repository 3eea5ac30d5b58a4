use Rattle.session_world.proofs.Steady.{stay_ready}
use Rattle.session_world.proofs.laws.stay_ready.Goals as goal

pub returns : goal.returns
returns c = stay_ready

use Rattle.thing_topics.proofs.ShadowFaults.{exact_faults}
use Rattle.thing_topics.proofs.laws.shadow_faults_are_their_own.Goals as goal

pub returns : goal.returns
returns c = exact_faults

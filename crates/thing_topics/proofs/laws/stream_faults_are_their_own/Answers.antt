use Rattle.thing_topics.proofs.StreamFaults.{exact_faults}
use Rattle.thing_topics.proofs.laws.stream_faults_are_their_own.Goals as goal

pub returns : goal.returns
returns c = exact_faults

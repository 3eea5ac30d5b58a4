use Rattle.thing_topics.proofs.JobFaults.{exact_faults}
use Rattle.thing_topics.proofs.laws.jobs_faults_are_their_own.Goals as goal

pub returns : goal.returns
returns c = exact_faults

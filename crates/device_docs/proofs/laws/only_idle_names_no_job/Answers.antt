use Rattle.device_docs.proofs.JobSteps.{only_idle}
use Rattle.device_docs.proofs.laws.only_idle_names_no_job.Goals as goal

pub returns : goal.returns
returns c = only_idle

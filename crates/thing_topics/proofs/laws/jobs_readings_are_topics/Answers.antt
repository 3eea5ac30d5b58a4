use Rattle.thing_topics.proofs.JobTopics.{exact}
use Rattle.thing_topics.proofs.laws.jobs_readings_are_topics.Goals as goal

pub returns : goal.returns
returns c = exact

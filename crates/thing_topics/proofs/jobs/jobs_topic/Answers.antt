use Rattle.std.proofs.Common.{sym}
use Rattle.thing_topics.proofs.JobTopics.{written_read}
use Rattle.thing_topics.proofs.jobs.jobs_topic.Goals as goal

pub returns-in-None-clause-back : goal.returns-in-None-clause-back
returns-in-None-clause-back c = written_read _ _ (record { classes = sym c.in-None.ensures.fault; written = c.topic_text.ensures })

use Rattle.std.proofs.Common.{sym}
use Rattle.thing_topics.proofs.StreamTopics.{written_read}
use Rattle.thing_topics.proofs.streams.stream_topic.Goals as goal

pub returns-in-None-clause-back : goal.returns-in-None-clause-back
returns-in-None-clause-back c = written_read _ _ (record { classes = sym c.in-None.ensures.fault; written = c.topic_text.ensures })

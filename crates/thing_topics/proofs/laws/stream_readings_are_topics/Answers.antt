use Rattle.thing_topics.proofs.StreamTopics.{exact}
use Rattle.thing_topics.proofs.laws.stream_readings_are_topics.Goals as goal

pub returns : goal.returns
returns c = exact

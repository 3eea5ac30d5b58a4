use Rattle.thing_topics.proofs.ShadowTopics.{exact}
use Rattle.thing_topics.proofs.laws.shadow_readings_are_topics.Goals as goal

pub returns : goal.returns
returns c = exact

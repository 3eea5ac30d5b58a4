use Rattle.thing_topics.proofs.ShadowTopics.{told, refused}
use Rattle.thing_topics.proofs.ShadowFaults.{faulted}
use Rattle.thing_topics.proofs.shadows.match_shadow.Goals as goal

pub returns-clause-topic : goal.returns-clause-topic
returns-clause-topic c = told _ c.args.text.now c.read.result c.read.ensures

pub returns-clause-none : goal.returns-clause-none
returns-clause-none c = refused _ c.args.text.now c.read.result c.read.ensures

pub returns-clause-fault : goal.returns-clause-fault
returns-clause-fault c = faulted _ c.args.text.now c.read.result c.read.ensures

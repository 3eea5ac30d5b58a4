use Rattle.agent_posts.proofs.Growing.{growth_is_posted}
use Rattle.agent_posts.proofs.laws.growth_is_posted.Goals as goal

pub returns : goal.returns
returns c = growth_is_posted

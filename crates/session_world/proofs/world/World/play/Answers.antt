use Rattle.session_world.specs.Playing as playing
use Rattle.session_world.specs.Setups.{dev, usual}
use Rattle.session_world.proofs.world.World.play.Goals as goal

pub invariant_of-self : goal.invariant_of-self
invariant_of-self c = (playing.played dev usual c.self.invariant.0 c.args.event, c.in-Ok.ensures.stands c.self.invariant.0 c.self.invariant.1)

use Rattle.session_world.specs.Queued.{items_in}
use Rattle.session_world.specs.Viewed.{kept_in}
use Rattle.session_world.proofs.Events.{stood_without_first}
use Rattle.session_world.proofs.parts.Parts.deliver_down.Goals as goal

pub enter-requires-clause-stood : goal.enter-requires-clause-stood
enter-requires-clause-stood c = stood_without_first (kept_in c.args.self.now) c.in-Some.packet (items_in c.pop.new.self) c.in-Some.ensures.items c.requires.stood

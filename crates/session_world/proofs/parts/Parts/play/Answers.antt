use Rattle.std.proofs.Common.{◌+◌, refl}
use Rattle.session_world.specs.Viewed.{kept_in}
use Rattle.session_world.proofs.Events.{stands_then}
use Rattle.session_world.proofs.parts.Parts.play.Goals as goal

pub returns-clause-stands : goal.returns-clause-stands
returns-clause-stands c = stands_then (kept_in c.args.self.now) (kept_in c.play_event.new.self) c.args.event c.in_ok-said.said (c.play_event.new.self.events + 1) c.in_ok-said.ensures.plays refl

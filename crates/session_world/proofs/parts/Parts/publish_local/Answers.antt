use Rattle.std.proofs.Common.{◌+◌, refl}
use Rattle.session_world.specs.Viewed.{kept_in}
use Rattle.session_world.proofs.Events.{local_played}
use Rattle.session_world.proofs.parts.Parts.publish_local.Goals as goal

pub returns-in-Ok-clause-plays : goal.returns-in-Ok-clause-plays
returns-in-Ok-clause-plays c =
    local_played (kept_in c.args.self.now) (kept_in c.publish_own.new.self) c.args.qos (c.publish_own.new.self.own + 1) c.in-Ok.ensures.told c.publish_own.ensures.own refl

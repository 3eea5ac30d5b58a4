-- What holds of each world that events lead to.
use Rattle.std.specs.Prelude.{List}
use Rattle.session_world.specs.declared.event.Event.{Event}
use Rattle.session_world.specs.Playing.{all_played}
use Rattle.session_world.specs.Ready.{IsReady}
use Rattle.session_world.specs.Setups.{dev, usual}
use Rattle.session_world.specs.World.{nothing}

-- Whatever the events are, the journal is legal, what is under way to the broker has spellings, and in Down the broker has no
-- connection.
abbrev pub StayReady : Type 0
StayReady = (events : List Event) → IsReady dev usual (all_played dev usual events nothing)

-- Laws of once, over every list of events of the world.
use Rattle.std.specs.Prelude.{List}
use Rattle.session_world.specs.declared.event.Event.{Event}
use Rattle.session_world.specs.Playing.{all_played}
use Rattle.session_world.specs.Setups.{dev, usual}
use Rattle.session_world.specs.World.{nothing}
use Rattle.once_laws.specs.Once.{IsLeastOnce, IsExactlyOnce}

-- Behind every list of events a publish at quality of service 1 that is done was passed on at least once.
abbrev pub DoneWerePassedOn : Type 0
DoneWerePassedOn = (events : List Event) → IsLeastOnce (all_played dev usual events nothing)

-- Behind every list of events a publish at quality of service 2 was passed on at most once, and one that is done
-- exactly once.
abbrev pub PassedOnOnce : Type 0
PassedOnOnce = (events : List Event) → IsExactlyOnce (all_played dev usual events nothing)

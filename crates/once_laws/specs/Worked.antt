-- Worked worlds, and changed ones beside them that aren't once.
use Rattle.std.specs.Prelude.{◌≡◌, true, List, [], ◌∷◌, codes}
use Rattle.mqtt_packet.specs.declared.qos.Qos.TheVariants.{AtLeastOnce}
use Rattle.agent_journal.specs.declared.request.Request.TheVariants as requests
use Rattle.agent_table.specs.Deliveries.{publishes, is_at_least_once, is_exactly_once}
use Rattle.session_world.specs.declared.event.Event.{Event}
use Rattle.session_world.specs.declared.event.Event.TheVariants as v
use Rattle.session_world.specs.Setups.{dev, usual}
use Rattle.session_world.specs.Worked.{world, broken, released, repeated}
use Rattle.session_world.specs.World.{World, Command, entries, kept}
use Rattle.once_laws.specs.Once.{was_taken, was_done, times, IsLeastOnce, IsExactlyOnce, Arrival, PassesFirst, arrivals, was_copied, keeps_copy}

-- ---- A QoS 2 publish whose PUBREC is lost: it was passed on before, and isn't again when it is sent again.

abbrev pub passed_again : World
passed_again = record (world released) { origins = Command 0 0 ∷ Command 0 0 ∷ [] }

abbrev pub never_passed : World
never_passed = record (world released) { origins = [] }

pub record PassedOn : Type 0 where
  pub taken : was_taken (publishes is_exactly_once) 0 0 (entries (world released)) ≡ true
  pub before : times 0 0 (world broken) ≡ 1
  pub behind : times 0 0 (world released) ≡ 1
  pub done : was_done 0 0 (entries (world released)) ≡ true
  pub not_again : IsExactlyOnce passed_again → ⊥
  pub not_never : IsExactlyOnce never_passed → ⊥

-- ---- A QoS 1 publish whose PUBACK is lost: it is sent again and passed on twice.

abbrev pub acknowledged : List Event
acknowledged =
    v.Reopen ∷ v.DeliverUp ∷ v.DeliverDown ∷ v.Take (requests.Publish AtLeastOnce (codes "out/a") (codes "hi")) ∷ v.DeliverUp ∷ v.Break ∷ v.Reopen ∷ v.DeliverUp ∷ v.DeliverDown ∷ v.DeliverUp ∷ v.DeliverDown ∷ []

abbrev pub acknowledged_unheard : World
acknowledged_unheard = record (world acknowledged) { origins = [] }

pub record PassedOnTwice : Type 0 where
  pub taken : was_taken (publishes is_at_least_once) 0 0 (entries (world acknowledged)) ≡ true
  pub done : was_done 0 0 (entries (world acknowledged)) ≡ true
  pub twice : times 0 0 (world acknowledged) ≡ 2
  pub not_never : IsLeastOnce acknowledged_unheard → ⊥

-- ---- A message of the broker's own whose PUBREC is lost: it arrives twice, and its first arrival alone tells it.

abbrev pub told : List Arrival
told = arrivals dev usual 0 (world repeated).past

-- all arrivals passed what the first one did
abbrev pub told_twice : List Arrival → List Arrival
told_twice [] = []
told_twice (first ∷ others) = first ∷ first ∷ []

pub record ToldFirst : Type 0 where
  pub two : (a b : Arrival) × (told ≡ a ∷ b ∷ []) × (b.passed ≡ [])
  pub first : PassesFirst told
  pub not_twice : PassesFirst (told_twice told) → ⊥
  pub copied : was_copied dev.client 0 (world repeated).told ≡ true
  pub is_kept : keeps_copy 0 (kept (world repeated)) ≡ true

-- What the completion of a command does to what is kept.
use Rattle.std.specs.Prelude.{ℕ, Bool, false, ◌==◌, List, [], ◌∷◌, length, Option, Some, None, if◌then◌else◌, find}
use Rattle.agent_journal.specs.declared.request.Request.{Request}
use Rattle.agent_journal.specs.declared.request.Request.TheVariants as requests
use Rattle.agent_journal.specs.declared.outcome.Outcome.{Outcome}
use Rattle.agent_journal.specs.declared.outcome.Outcome.TheVariants as o
use Rattle.agent_journal.specs.declared.effect.Effect.{Effect}
use Rattle.agent_journal.specs.declared.effect.Effect.TheVariants as f
use Rattle.agent_journal.specs.Readings.{Pending}
use Rattle.agent_table.specs.Routes.{is_done}
use Rattle.pending_acks.specs.Commands.{is_command, others}
use Rattle.qos_state.specs.Deliveries.{without}
use Rattle.subscriptions.specs.Routing.{Routing, asked_len, granted, lost, filters_dropped}

-- What the agent keeps of its commands.
pub record Books : Type 0 where
  pub pending : List Pending
  pub released : List ℕ
  pub routing : Routing

abbrev pub books : List Pending → List ℕ → Routing → Books
books pending released routing = record { pending = pending; released = released; routing = routing }

abbrev pub is_count : Option ℕ → ℕ → Bool
is_count None n = false
is_count (Some m) n = m == n

-- a subscribe is granted as many codes as it asked for filters, or it is lost
abbrev pub granted_or_lost : ℕ → List ℕ → Routing → Routing
granted_or_lost id codes k = if is_count (asked_len id k) (length codes) then granted id codes k else lost id k

abbrev pub subscribe_ended : ℕ → Outcome → Routing → Routing
subscribe_ended id (o.Granted codes) k = granted_or_lost id codes k
subscribe_ended id _ k = lost id k

-- the filters of an unsubscribe that is done are routes of its task no more
abbrev pub unsubscribe_ended : ℕ → List (List ℕ) → Outcome → Routing → Routing
unsubscribe_ended task filters outcome k = if is_done outcome then filters_dropped task filters k else k

abbrev pub routing_ended : Pending → Request → Outcome → Routing → Routing
routing_ended command (requests.Subscribe asks) outcome k = subscribe_ended command.id outcome k
routing_ended command (requests.Unsubscribe filters) outcome k = unsubscribe_ended command.task filters outcome k
routing_ended command _ outcome k = k

abbrev pub ended_with : Outcome → Books → Option Pending → Books
ended_with outcome b None = b
ended_with outcome b (Some command) = record {
  pending = others command.id b.pending;
  released = without command.id b.released;
  routing = routing_ended command command.request outcome b.routing;
}

-- behind one effect: where it is a Done of an open command, that isn't open any more
abbrev pub ended : Books → Effect → Books
ended b (f.Done task seq outcome) = ended_with outcome b (find (is_command task seq) b.pending)
ended b _ = b

abbrev pub all_ended : Books → List Effect → Books
all_ended b [] = b
all_ended b (effect ∷ effects) = all_ended (ended b effect) effects

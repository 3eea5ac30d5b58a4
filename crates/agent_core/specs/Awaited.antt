-- What open commands await.
use Rattle.std.specs.Prelude.{Bool}
use Rattle.agent_core.specs.declared.awaited.Awaited.{Awaited}
use Rattle.agent_core.specs.declared.awaited.Awaited.TheVariants.{PubAck, PubComp, SubAck, UnsubAck}
use Rattle.agent_journal.specs.declared.request.Request.{Request}
use Rattle.agent_table.specs.Arrivals.{is_subscribe, is_unsubscribe}
use Rattle.agent_table.specs.Deliveries.{publishes, is_at_least_once, is_exactly_once}

-- whether a command awaits this
abbrev pub awaits : Awaited → Request → Bool
awaits PubAck request = publishes is_at_least_once request
awaits PubComp request = publishes is_exactly_once request
awaits SubAck request = is_subscribe request
awaits UnsubAck request = is_unsubscribe request

-- The two parts of what is sent again (MQTT 3.1.1, section 4.4).
use Rattle.std.specs.Prelude.{ℕ, not, List, filter}
use Rattle.std.specs.List.{flat_map}
use Rattle.mqtt_packet.specs.declared.packet.Packet.TheVariants as p
use Rattle.agent_journal.specs.declared.effect.Effect.{Effect}
use Rattle.agent_journal.specs.declared.effect.Effect.TheVariants as f
use Rattle.agent_journal.specs.Readings.{Pending}
use Rattle.agent_table.specs.Deliveries.{is_among}
use Rattle.agent_table.specs.Effects.{again_by}

abbrev pub release : ℕ → Effect
release id = f.Send (p.PubRel id)

abbrev pub again : List ℕ → List Pending → List Effect
again released commands = flat_map (λ command. again_by command.id command.request) (filter (λ command. not (is_among released command.id)) commands)

-- How the agent comes to the phase Off: by the cause that leads there, and the phase before it.
use Rattle.std.specs.Prelude.{ℕ, ◌==◌, Bool, true, false, Option, Some, None, if◌then◌else◌}
use Rattle.mqtt_packet.specs.declared.packet.Packet.{Packet}
use Rattle.mqtt_packet.specs.declared.packet.Packet.TheVariants as p
use Rattle.agent_journal.specs.declared.entry.Cause.{Cause}
use Rattle.agent_journal.specs.declared.entry.Cause.TheVariants as c
use Rattle.agent_journal.specs.declared.off.OffBy.{OffBy}
use Rattle.agent_journal.specs.declared.off.OffBy.TheVariants as by
use Rattle.agent_journal.specs.declared.request.Request.{Request}
use Rattle.agent_journal.specs.declared.request.Request.TheVariants as requests
use Rattle.agent_journal.specs.declared.setup.Phase.{Phase}
use Rattle.agent_journal.specs.declared.setup.Phase.TheVariants.{Down, Opening, Up, Spilled, Off}

-- by a first CONNACK (MQTT 3.1.1, section 3.2.2.3): one of code 0 ends the agent where it holds an old session
abbrev pub by_code : ℕ → OffBy
by_code code = if code == 0 then by.Held else by.Refused code

abbrev pub by_first_packet : Packet → OffBy
by_first_packet (p.ConnAck present code) = by_code code
by_first_packet _ = by.Wrong

abbrev pub by_packet : Phase → Packet → OffBy
by_packet Down packet = by.Wrong
by_packet Opening packet = by_first_packet packet
by_packet Up packet = by.Wrong
by_packet Spilled packet = by.Wrong
by_packet Off packet = by.Wrong

-- only Disconnect and Terminate lead to Off
abbrev pub by_request : Request → OffBy
by_request requests.Terminate = by.Terminate
by_request _ = by.Disconnect

abbrev pub by_cause : Phase → Cause → OffBy
by_cause phase (c.Take task seq request) = by_request request
by_cause phase (c.Arrived packet) = by_packet phase packet
by_cause phase (c.Broke why) = by.Bytes
by_cause phase c.GaveUp = by.GaveUp
by_cause phase _ = by.Finish

-- whether it was a Terminate
abbrev pub is_terminated : Option OffBy → Bool
is_terminated None = false
is_terminated (Some by.Terminate) = true
is_terminated (Some _) = false

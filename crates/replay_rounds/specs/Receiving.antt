-- Receives of a replay: what comes is handed in packet by packet.
use Rattle.std.specs.Prelude.{ℕ, zero, suc, ◌+◌, List, length, take, Option, Some, None, if◌then◌else◌, nat_le}
use Rattle.mqtt_packet.specs.declared.splitter.Next.{Next}
use Rattle.mqtt_packet.specs.declared.splitter.Next.TheVariants as answers
use Rattle.mqtt_packet.specs.Splitting.{Kept}
use Rattle.mqtt_packet.specs.Steps.{next_of, fed_to}
use Rattle.agent_link.specs.declared.link.Heard.{Heard}
use Rattle.agent_link.specs.declared.link.Heard.TheVariants as heard
use Rattle.agent_link.specs.Counts.{with_end, with_nothing}
use Rattle.agent_link.specs.Wires.{onto_last}
use Rattle.broker_tape.specs.declared.tape.Item.{Item}
use Rattle.broker_tape.specs.Playing.{hears, present}
use Rattle.agent_journal.specs.declared.entry.Cause.TheVariants as c
use Rattle.agent_journal.specs.declared.entry.Why.TheVariants as why
use Rattle.agent_table.specs.Readings.{at_most}
use Rattle.agent_table.specs.Ties.{listens}
use Rattle.replay_rounds.specs.World.{World, phase_in}
use Rattle.replay_rounds.specs.Entering.{entered, noted, failed}

-- A whole packet is handed in, and then those behind it. What isn't one breaks the connection.
abbrev pub handed : World → ℕ → (World → World) → Next × Kept → World
handed w at others (answers.Packet packet, stream) = others (entered (record w { stream = stream }) at (c.Arrived packet))
handed w at others (answers.More, stream) = record w { stream = stream }
handed w at others (answers.Bad offset, stream) = noted (record w { stream = stream }) at (c.Broke (why.Bad offset))
handed w at others (answers.TooLong offset len, stream) = noted (record w { stream = stream }) at (c.Broke (why.TooLong len))

-- At most so many packets are handed in, in their order. Where the phase is neither Opening nor Up any more, the rest is
-- dropped.
abbrev pub hands : ℕ → World → ℕ → World
hands zero w at = w
hands (suc k) w at = if listens (phase_in w) then handed w at (λ v. hands k v at) (next_of w.stream) else w

-- All packets are handed in: each has a byte at least.
abbrev pub hands_all : World → ℕ → World
hands_all w at = hands (length w.stream.rest + 1) w at

-- Nothing was heard: ten thousand times in a row, and the connection counts as broken where the table says so.
abbrev pub idles : World → ℕ → World
idles w at = if nat_le 10000 w.idle then noted w at (c.Broke why.Idle) else w

abbrev pub received_by : World → ℕ → List ℕ → Option Heard × List Item → World
received_by w at bytes (Some (heard.Bytes n), rest) =
    hands_all (record w { items = rest; given = onto_last w.given (take n bytes); stream = fed_to w.stream (take n bytes); idle = 0 }) at
received_by w at bytes (Some heard.Nothing, rest) = idles (record w { items = rest; idle = at_most 10000 (w.idle + 1); counts = with_nothing w.counts }) at
received_by w at bytes (Some heard.End, rest) = noted (record w { items = rest; counts = with_end w.counts }) at (c.Broke why.End)
received_by w at bytes (None, rest) = noted (failed (record w { items = rest })) at (c.Broke why.Fault)

-- a receive into 4,096 bytes
unfoldable pub receives : World → ℕ → World
receives w at = received_by w at (present w.items) (hears 4096 w.items)

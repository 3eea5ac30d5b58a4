-- What one effect sends.
use Rattle.std.specs.Prelude.{ℕ, Bool, true, false, List, [], Option, None}
use Rattle.agent_journal.specs.Readings.{command_id, filters_in}
use Rattle.agent_journal.specs.declared.effect.Effect.{Effect}
use Rattle.agent_journal.specs.declared.effect.Effect.TheVariants as f
use Rattle.agent_table.specs.Sends.{is_ping, is_received, drawn_by}

abbrev pub is_send : Effect → Bool
is_send (f.Send packet) = true
is_send _ = false

abbrev pub pings : Effect → Bool
pings (f.Send packet) = is_ping packet
pings _ = false

abbrev pub receives : ℕ → Effect → Bool
receives n (f.Send packet) = is_received n packet
receives n _ = false

abbrev pub draws : Effect → List ℕ
draws (f.Send packet) = drawn_by packet
draws _ = []

abbrev pub identifies : Effect → Option ℕ
identifies (f.Send packet) = command_id packet
identifies _ = None

-- the filters that an UNSUBSCRIBE names
abbrev pub names : Effect → List (List ℕ)
names (f.Send packet) = filters_in packet
names _ = []

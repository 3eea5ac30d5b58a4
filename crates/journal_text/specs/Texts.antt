-- The printed journal: a line for each entry and one for each effect, as docs/FORMATS.md describes them.
use Rattle.std.specs.Prelude.{ℕ, List, [], ◌∷◌, ◌++◌, Some, None, Option, codes, decimal}
use Rattle.std.specs.List.{flat_map}
use Rattle.hex.specs.Hex.{encode_lower}
use Rattle.mqtt_packet.specs.declared.qos.Qos.{Qos}
use Rattle.mqtt_packet.specs.declared.qos.Qos.TheVariants.{AtMostOnce, AtLeastOnce, ExactlyOnce}
use Rattle.mqtt_packet.specs.declared.will.Ask.{Ask}
use Rattle.mqtt_packet.specs.Spelling.{spelling}
use Rattle.plain_text.specs.Escapes.{escaped}
use Rattle.plain_text.specs.Payloads.{payload_text}
use Rattle.agent_journal.specs.declared.ending.Ending.{Ending}
use Rattle.agent_journal.specs.Endings.{last_word, last_code}
use Rattle.agent_journal.specs.declared.request.Request.{Request}
use Rattle.agent_journal.specs.declared.request.Request.TheVariants as requests
use Rattle.agent_journal.specs.declared.outcome.Outcome.{Outcome}
use Rattle.agent_journal.specs.declared.outcome.Outcome.TheVariants as o
use Rattle.agent_journal.specs.declared.entry.Why.{Why}
use Rattle.agent_journal.specs.declared.entry.Why.TheVariants as why
use Rattle.agent_journal.specs.declared.entry.Cause.{Cause}
use Rattle.agent_journal.specs.declared.entry.Cause.TheVariants as c
use Rattle.agent_journal.specs.declared.entry.Entry.{Entry}
use Rattle.agent_journal.specs.declared.message.Message.{Message}
use Rattle.mqtt_packet.specs.declared.packet.Packet.{Packet}
use Rattle.agent_journal.specs.declared.effect.Effect.{Effect}
use Rattle.agent_journal.specs.declared.effect.Effect.TheVariants as f

abbrev pub line_end : List ℕ
line_end = 10 ∷ []

abbrev pub space : List ℕ
space = 32 ∷ []

-- pieces of a text, one after another
abbrev pub joined : List (List ℕ) → List ℕ
joined [] = []
joined (piece ∷ pieces) = piece ++ joined pieces

abbrev pub qos_text : Qos → List ℕ
qos_text AtMostOnce = codes "0"
qos_text AtLeastOnce = codes "1"
qos_text ExactlyOnce = codes "2"

-- a filter of a subscribe with its quality of service, and one of an unsubscribe
abbrev pub ask_text : Ask → List ℕ
ask_text ask = joined (space ∷ escaped ask.filter ∷ space ∷ qos_text ask.qos ∷ [])

abbrev pub filter_text : List ℕ → List ℕ
filter_text filter = joined (space ∷ escaped filter ∷ [])

-- why a connection broke: a word, and for bytes that are no packet a number
abbrev pub why_word : Why → List ℕ
why_word why.Fault = codes "fault"
why_word why.End = codes "end"
why_word why.Idle = codes "idle"
why_word (why.Bad at) = codes "bad "
why_word (why.TooLong len) = codes "long "
why_word why.KeepAlive = codes "keepalive"
why_word why.InFull = codes "infull"

abbrev pub why_count : Why → Option ℕ
why_count (why.Bad at) = Some at
why_count (why.TooLong len) = Some len
why_count _ = None

abbrev pub count_text : Option ℕ → List ℕ
count_text None = []
count_text (Some n) = decimal n

-- an outcome: a word, and for a subscribe the codes
abbrev pub outcome_word : Outcome → List ℕ
outcome_word o.Done = codes "done"
outcome_word (o.Granted bytes) = codes "granted "
outcome_word o.NoRoom = codes "noroom"
outcome_word o.NoRoute = codes "noroute"
outcome_word o.NotConnected = codes "notconnected"
outcome_word o.LinkLost = codes "linklost"
outcome_word o.SessionLost = codes "sessionlost"
outcome_word o.Cancelled = codes "cancelled"
outcome_word o.NoMemory = codes "nomemory"

abbrev pub outcome_codes : Outcome → List ℕ
outcome_codes (o.Granted bytes) = bytes
outcome_codes _ = []

-- the line of a Take, with a word for its request
abbrev pub word_line : ℕ → ℕ → ℕ → List ℕ → List ℕ
word_line at task seq word = joined (codes "@" ∷ decimal at ∷ codes " take " ∷ decimal task ∷ space ∷ decimal seq ∷ word ∷ [])

abbrev pub publish_line : ℕ → ℕ → ℕ → Qos → List ℕ → List ℕ → List ℕ
publish_line at task seq qos topic payload =
    joined (codes "@" ∷ decimal at ∷ codes " take " ∷ decimal task ∷ space ∷ decimal seq ∷ codes " publish " ∷ qos_text qos ∷ space ∷ escaped topic ∷ space ∷ payload_text payload ∷ line_end ∷ [])

abbrev pub subscribe_line : ℕ → ℕ → ℕ → List Ask → List ℕ
subscribe_line at task seq asks = word_line at task seq (codes " subscribe") ++ flat_map ask_text asks ++ line_end

abbrev pub unsubscribe_line : ℕ → ℕ → ℕ → List (List ℕ) → List ℕ
unsubscribe_line at task seq filters = word_line at task seq (codes " unsubscribe") ++ flat_map filter_text filters ++ line_end

-- a Take, with its request as a script spells it, or the mark that no more follow
abbrev pub take_line : ℕ → ℕ → ℕ → Request → List ℕ
take_line at task seq (requests.Publish qos topic payload) = publish_line at task seq qos topic payload
take_line at task seq (requests.Subscribe asks) = subscribe_line at task seq asks
take_line at task seq (requests.Unsubscribe filters) = unsubscribe_line at task seq filters
take_line at task seq requests.Ping = word_line at task seq (codes " ping\n")
take_line at task seq requests.Disconnect = word_line at task seq (codes " disconnect\n")
take_line at task seq requests.Terminate = word_line at task seq (codes " terminate\n")
take_line at task seq requests.Leave = word_line at task seq (codes " leave\n")

abbrev pub arrived_line : ℕ → Packet → List ℕ
arrived_line at packet = joined (codes "@" ∷ decimal at ∷ codes " arrived " ∷ encode_lower (spelling packet) ∷ line_end ∷ [])

abbrev pub broke_line : ℕ → Why → List ℕ
broke_line at reason = joined (codes "@" ∷ decimal at ∷ codes " broke " ∷ why_word reason ∷ count_text (why_count reason) ∷ line_end ∷ [])

-- the line of an entry's cause
abbrev pub cause_line : ℕ → Cause → List ℕ
cause_line at c.Opened = joined (codes "@" ∷ decimal at ∷ codes " opened\n" ∷ [])
cause_line at (c.Take task seq request) = take_line at task seq request
cause_line at (c.Arrived packet) = arrived_line at packet
cause_line at (c.Broke reason) = broke_line at reason
cause_line at c.Tick = joined (codes "@" ∷ decimal at ∷ codes " tick\n" ∷ [])
cause_line at c.GaveUp = joined (codes "@" ∷ decimal at ∷ codes " gaveup\n" ∷ [])
cause_line at c.Finish = joined (codes "@" ∷ decimal at ∷ codes " finish\n" ∷ [])

abbrev pub done_line : ℕ → ℕ → Outcome → List ℕ
done_line task seq outcome = joined (codes "  done " ∷ decimal task ∷ space ∷ decimal seq ∷ space ∷ outcome_word outcome ∷ encode_lower (outcome_codes outcome) ∷ line_end ∷ [])

abbrev pub pass_line : ℕ → Message → List ℕ
pass_line task message = joined (codes "  pass " ∷ decimal task ∷ space ∷ qos_text message.qos ∷ space ∷ escaped message.topic ∷ space ∷ payload_text message.payload ∷ line_end ∷ [])

abbrev pub effect_text : Effect → List ℕ
effect_text (f.Send packet) = joined (codes "  send " ∷ encode_lower (spelling packet) ∷ line_end ∷ [])
effect_text (f.Done task seq outcome) = done_line task seq outcome
effect_text (f.Pass task message) = pass_line task message
effect_text (f.Closed task) = joined (codes "  closed " ∷ decimal task ∷ line_end ∷ [])

unfoldable pub entry_text : Entry → List ℕ
entry_text e = cause_line e.at e.cause ++ flat_map effect_text e.effects

-- the last line of a run
abbrev pub last_line : Ending → List ℕ
last_line ending = joined (last_word ending ∷ count_text (last_code ending) ∷ line_end ∷ [])

-- a whole journal
abbrev pub journal_text : List Entry → List ℕ
journal_text journal = flat_map entry_text journal

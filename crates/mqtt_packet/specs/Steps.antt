-- What a splitter's calls answer and leave, as functions of what it keeps.
use Rattle.std.specs.Prelude.{ℕ, ◌+◌, ◌-◌, ◌^◌, List, ◌++◌, drop, min, Option, Some, None}
use Rattle.mqtt_packet.specs.declared.front.Front.{Front}
use Rattle.mqtt_packet.specs.declared.front.Front.TheVariants as fronts
use Rattle.mqtt_packet.specs.declared.front.Verdict.{Verdict}
use Rattle.mqtt_packet.specs.declared.splitter.Next.{Next}
use Rattle.mqtt_packet.specs.declared.splitter.Next.TheVariants as answers
use Rattle.mqtt_packet.specs.Fronts.{front_of}
use Rattle.mqtt_packet.specs.Splitting.{Kept, told}

abbrev pub next_by : Kept → Front → Next × Kept
next_by k (fronts.Packet packet size) = (answers.Packet packet, record { rest = drop size k.rest; at = min (k.at + size) (2 ^ 64 - 1); verdict = None })
next_by k fronts.More = (answers.More, k)
next_by k (fronts.Ended verdict) = (told k.at verdict, record { rest = k.rest; at = k.at; verdict = Some verdict })

abbrev pub next_in : Kept → Option Verdict → Next × Kept
next_in k None = next_by k (front_of k.rest)
next_in k (Some verdict) = (told k.at verdict, k)

-- the answer of `next`, and what is kept behind it
abbrev pub next_of : Kept → Next × Kept
next_of k = next_in k k.verdict

abbrev pub fed_in : Kept → Option Verdict → List ℕ → Kept
fed_in k None piece = record { rest = k.rest ++ piece; at = k.at; verdict = None }
fed_in k (Some verdict) piece = k

-- what is kept behind `feed`
abbrev pub fed_to : Kept → List ℕ → Kept
fed_to k piece = fed_in k k.verdict piece

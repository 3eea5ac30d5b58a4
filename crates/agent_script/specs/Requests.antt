-- Requests as a script's line spells them, behind their first word.
use Rattle.std.specs.Prelude.{ℕ, zero, suc, List, [], ◌∷◌, Option, Some, None, if◌then◌else◌, codes}
use Rattle.std.specs.Option.{option_map}
use Rattle.std.specs.Str.{bytes_eq}
use Rattle.mqtt_packet.specs.declared.qos.Qos.{Qos}
use Rattle.mqtt_packet.specs.declared.qos.Qos.TheVariants.{AtMostOnce, AtLeastOnce, ExactlyOnce}
use Rattle.mqtt_packet.specs.declared.will.Ask.{Ask}
use Rattle.plain_text.specs.Words.{word_at, last_at}
use Rattle.plain_text.specs.Escapes.{text_of}
use Rattle.plain_text.specs.Payloads.{payload_of}
use Rattle.plain_text.specs.Reading.{◌>>=◌}
use Rattle.agent_journal.specs.declared.request.Request.{Request}
use Rattle.agent_journal.specs.declared.request.Request.TheVariants as requests
use Rattle.agent_journal.specs.Requests.{is_valid}

-- a quality of service as one digit
abbrev pub qos_of : List ℕ → Option Qos
qos_of word =
    if bytes_eq word (codes "0") then Some AtMostOnce
    else if bytes_eq word (codes "1") then Some AtLeastOnce
    else if bytes_eq word (codes "2") then Some ExactlyOnce
    else None

abbrev pub valid : Request → Option Request
valid request = if is_valid request then Some request else None

-- `publish` Q TOPIC PAYLOAD
unfoldable pub publish_of : List ℕ → Option Request
publish_of line = do
  level ← word_at line
  qos ← qos_of level.0
  name ← word_at level.1
  topic ← text_of name.0
  word ← last_at name.1
  payload ← payload_of word
  valid (requests.Publish qos topic payload)

-- one pair, FILTER Q
abbrev pub ask : List ℕ → Qos → Ask
ask topics qos = record { filter = topics; qos = qos }

-- the last pair of a line, whose Q is its last word
abbrev pub last_ask : List ℕ → List ℕ → Option (List Ask)
last_ask topics word = qos_of word >>= λ qos. Some (ask topics qos ∷ [])

-- a pair, and those behind it
abbrev pub ask_onto : List ℕ → List ℕ → Option (List Ask) → Option (List Ask)
ask_onto topics word others = qos_of word >>= λ qos. option_map (λ asks. ask topics qos ∷ asks) others

-- behind a filter: its Q as the last word, or with further pairs behind it
abbrev pub asks_behind : List ℕ → Option (List ℕ) → Option (List ℕ × List ℕ) → (List ℕ → Option (List Ask)) → Option (List Ask)
asks_behind topics (Some word) next others = last_ask topics word
asks_behind topics None None others = None
asks_behind topics None (Some next) others = ask_onto topics next.0 (others next.1)

-- at most k pairs FILTER Q, to the end of the line
unfoldable pub asks_in : ℕ → List ℕ → Option (List Ask)
asks_in zero line = None
asks_in (suc k) line = do
  name ← word_at line
  topics ← text_of name.0
  asks_behind topics (last_at name.1) (word_at name.1) (asks_in k)

-- `subscribe` and one to eight pairs
unfoldable pub subscribe_of : List ℕ → Option Request
subscribe_of line = do
  asks ← asks_in 8 line
  valid (requests.Subscribe asks)

abbrev pub filter_onto : List ℕ → Option (List (List ℕ)) → Option (List (List ℕ))
filter_onto topics others = option_map (λ filters. topics ∷ filters) others

abbrev pub filters_at : Option (List ℕ) → Option (List ℕ × List ℕ) → (List ℕ → Option (List (List ℕ))) → Option (List (List ℕ))
filters_at (Some word) next others = text_of word >>= λ topics. Some (topics ∷ [])
filters_at None None others = None
filters_at None (Some next) others = text_of next.0 >>= λ topics. filter_onto topics (others next.1)

-- at most k filters, to the end of the line
unfoldable pub filters_in : ℕ → List ℕ → Option (List (List ℕ))
filters_in zero line = None
filters_in (suc k) line = filters_at (last_at line) (word_at line) (filters_in k)

-- `unsubscribe` and one to eight filters
unfoldable pub unsubscribe_of : List ℕ → Option Request
unsubscribe_of line = do
  filters ← filters_in 8 line
  valid (requests.Unsubscribe filters)

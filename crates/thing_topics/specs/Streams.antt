-- Topics of streams. Their messages are CBOR.
use Rattle.std.specs.Prelude.{◌≡◌, ℕ, not, List, [], ◌∷◌, ◌++◌, Option, Some, None, Result, Ok, if◌then◌else◌, codes}
use Rattle.std.specs.List.{find}
use Rattle.std.specs.Option.{option_and_then}
use Rattle.std.specs.Str.{bytes_eq}
use Rattle.thing_topics.specs.declared.faults.TopicFault.{TopicFault}
use Rattle.thing_topics.specs.declared.faults.TopicFault.TheVariants as faults
use Rattle.thing_topics.specs.declared.faults.NameFault.{NameFault}
use Rattle.thing_topics.specs.declared.faults.NameFault.TheVariants as names
use Rattle.thing_topics.specs.declared.streams.StreamKind.{StreamKind}
use Rattle.thing_topics.specs.declared.streams.StreamKind.TheVariants as kinds
use Rattle.thing_topics.specs.declared.streams.StreamMatch.{StreamMatch}
use Rattle.thing_topics.specs.Classes.{is_thing, is_stream}
use Rattle.thing_topics.specs.Cuts.{first_level}
use Rattle.thing_topics.specs.Fronts.{front_of, front_text}
use Rattle.thing_topics.specs.Readings.{◌>>=◌, or_fault, tested}

-- the last levels of a topic of this kind
abbrev pub word : StreamKind → List ℕ
word kinds.Get = codes "get/cbor"
word kinds.Data = codes "data/cbor"
word kinds.Rejected = codes "rejected/cbor"

abbrev pub all_kinds : List StreamKind
all_kinds = kinds.Get ∷ kinds.Data ∷ kinds.Rejected ∷ []

-- what a topic of a stream says
pub record Parts : Type 0 where
  pub thing : List ℕ
  pub stream : List ℕ
  pub kind : StreamKind

abbrev pub parts_of : List ℕ → List ℕ → StreamKind → Parts
parts_of thing stream kind = record { thing = thing; stream = stream; kind = kind }

-- what a reader found
abbrev pub found_parts : StreamMatch → Parts
found_parts found = parts_of found.thing.now found.stream.now found.kind

-- how the parts are written
unfoldable pub topic_text : Parts → List ℕ
topic_text parts = front_text parts.thing (codes "/streams/") ++ parts.stream ++ codes "/" ++ word parts.kind

-- the first part that isn't of its class
unfoldable pub fault_of : List ℕ → List ℕ → Option NameFault
fault_of thing stream = if not (is_thing thing) then Some names.Thing else if not (is_stream stream) then Some names.Stream else None

-- The text is the topic of these parts: each is of its class, and this is how they are written.
pub record IsTopic (text : List ℕ) (parts : Parts) : Type 0 where
  pub classes : fault_of parts.thing parts.stream ≡ None
  pub written : text ≡ topic_text parts

-- the kind that is written so
unfoldable pub kind_of : List ℕ → Option StreamKind
kind_of text = find (λ kind. bytes_eq (word kind) text) all_kinds

-- what a text reads as, with the first fault where it is no topic of a stream
unfoldable pub read : List ℕ → Result Parts TopicFault
read text = do
  front ← front_of (codes "streams/") text
  level ← tested faults.Part (is_stream (first_level front.1).0) (first_level front.1)
  kind ← or_fault faults.Kind (option_and_then kind_of level.1)
  Ok (record { thing = front.0; stream = level.0; kind = kind })

-- What a message asks of the service of a thing, by its topic.
use Rattle.std.specs.Prelude.{ℕ, Bool, true, false, ◌&&◌, List, Option, Some, None, Result, Ok, Err, if◌then◌else◌}
use Rattle.std.specs.Str.{bytes_eq}
use Rattle.thing_topics.specs.declared.faults.TopicFault.{TopicFault}
use Rattle.thing_topics.specs.declared.jobs.JobsKind.{JobsKind}
use Rattle.thing_topics.specs.declared.jobs.JobsKind.TheVariants as kinds
use Rattle.thing_topics.specs.declared.streams.StreamKind.{StreamKind}
use Rattle.thing_topics.specs.declared.streams.StreamKind.TheVariants as streams_kinds
use Rattle.thing_topics.specs.Jobs as jobs
use Rattle.thing_topics.specs.Streams as streams

abbrev pub is_start_next : JobsKind → Bool
is_start_next kinds.StartNext = true
is_start_next other = false

abbrev pub is_update : JobsKind → Bool
is_update kinds.Update = true
is_update other = false

abbrev pub is_get : StreamKind → Bool
is_get streams_kinds.Get = true
is_get other = false

abbrev pub asks_next_in : List ℕ → Result jobs.Parts TopicFault → Bool
asks_next_in thing (Ok parts) = bytes_eq parts.thing thing && is_start_next parts.kind
asks_next_in thing (Err fault) = false

-- whether the topic asks for the thing's next job
abbrev pub asks_next : List ℕ → List ℕ → Bool
asks_next thing topic = asks_next_in thing (jobs.read topic)

abbrev pub updated_in : List ℕ → Result jobs.Parts TopicFault → Option (List ℕ)
updated_in thing (Ok parts) = if bytes_eq parts.thing thing && is_update parts.kind then parts.job else None
updated_in thing (Err fault) = None

-- the job of the thing that the topic updates
abbrev pub updated : List ℕ → List ℕ → Option (List ℕ)
updated thing topic = updated_in thing (jobs.read topic)

abbrev pub stream_in : List ℕ → Result streams.Parts TopicFault → Option (List ℕ)
stream_in thing (Ok parts) = if bytes_eq parts.thing thing && is_get parts.kind then Some parts.stream else None
stream_in thing (Err fault) = None

-- the stream of the thing whose blocks the topic asks for
abbrev pub stream_asked : List ℕ → List ℕ → Option (List ℕ)
stream_asked thing topic = stream_in thing (streams.read topic)

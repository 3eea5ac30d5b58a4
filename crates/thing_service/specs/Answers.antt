-- What a service answers to a message: a list of messages, each a topic and a payload.
use Rattle.std.specs.Prelude.{◌≡◌, ◌≤◌, true, ℕ, length, Bool, ◌||◌, List, [], ◌∷◌, map, Option, Some, None, if◌then◌else◌, codes}
use Rattle.std.specs.List.{list_any}
use Rattle.std.specs.Option.{option_map}
use Rattle.std.specs.Str.{bytes_eq}
use Rattle.topic_filter.specs.Texts.{is_name}
use Rattle.thing_topics.specs.declared.jobs.JobsKind.TheVariants as kinds
use Rattle.thing_topics.specs.declared.streams.StreamKind.TheVariants as streams_kinds
use Rattle.thing_topics.specs.Jobs as jobs
use Rattle.thing_topics.specs.Streams as streams
use Rattle.device_docs.specs.declared.jobs.Job.{Job}
use Rattle.device_docs.specs.declared.updates.JobStatus.TheVariants as status
use Rattle.device_docs.specs.Executions.{document_text}
use Rattle.device_docs.specs.Updates.{update_text}
use Rattle.thing_service.specs.declared.offers.Offer.{Offer}
use Rattle.thing_service.specs.Asking.{asks_next, updated, stream_asked}
use Rattle.thing_service.specs.Blocks.{Ask, asked, blocks_asked, message}
use Rattle.thing_service.specs.Offers.{is_named, next_of, ended}
use Rattle.thing_service.specs.ServiceTexts.{Serving}

-- a topic and a payload
abbrev pub Answer : Type 0
Answer = List ℕ × List ℕ

-- the topic is a name, and the payload at most 131,072 bytes
abbrev pub IsMessage : Answer → Type 0
IsMessage answer = is_name answer.0 ≡ true × length answer.1 ≤ 131072

-- ---- Jobs

abbrev pub job_of : Option Offer → Option Job
job_of offer = option_map (λ found. found.job) offer

-- the first job that isn't over, or `{}`
abbrev pub next_answers : List ℕ → List Offer → List Answer
next_answers thing offers = (jobs.topic_text (jobs.parts_of thing None kinds.StartNextAccepted), document_text (job_of (next_of offers))) ∷ []

abbrev pub is_known : List Offer → List ℕ → Bool
is_known offers name = list_any (is_named name) offers

-- `{}` to an update of a job that is offered
abbrev pub update_answers : List ℕ → List Offer → List ℕ → List Answer
update_answers thing offers name =
    if is_known offers name then (jobs.topic_text (jobs.parts_of thing (Some name) kinds.UpdateAccepted), codes "{}") ∷ [] else []

-- the text of an update behind which a job is over
abbrev pub ends_job : List ℕ → Bool
ends_job payload =
    bytes_eq payload (update_text status.Succeeded) || bytes_eq payload (update_text status.Failed) || bytes_eq payload (update_text status.Rejected)

-- ---- Blocks

abbrev pub data_topic : List ℕ → List ℕ → List ℕ
data_topic thing stream = streams.topic_text (streams.parts_of thing stream streams_kinds.Data)

abbrev pub rejected_topic : List ℕ → List ℕ → List ℕ
rejected_topic thing stream = streams.topic_text (streams.parts_of thing stream streams_kinds.Rejected)

-- an empty map (RFC 8949, section 3.1)
abbrev pub rejection : List ℕ
rejection = 160 ∷ []

abbrev pub rejected : List ℕ → List ℕ → List Answer
rejected thing stream = (rejected_topic thing stream, rejection) ∷ []

-- A data message for each block that is asked for, or a rejection of what asks for none that is offered.
abbrev pub block_answers : List ℕ → List ℕ → Option Ask → List Answer
block_answers thing stream None = rejected thing stream
block_answers thing stream (Some ask) = map (λ i. (data_topic thing stream, message ask.offer ask.size i)) (blocks_asked ask)

-- ---- All

abbrev pub stream_answers : List ℕ → List Offer → Option (List ℕ) → List ℕ → List Answer
stream_answers thing offers None payload = []
stream_answers thing offers (Some stream) payload = block_answers thing stream (asked offers stream payload)

abbrev pub other_answers : List ℕ → List Offer → Option (List ℕ) → List ℕ → List ℕ → List Answer
other_answers thing offers (Some name) topic payload = update_answers thing offers name
other_answers thing offers None topic payload = stream_answers thing offers (stream_asked thing topic) payload

abbrev pub thing_answers : Option (List ℕ) → List Offer → List ℕ → List ℕ → List Answer
thing_answers None offers topic payload = []
thing_answers (Some thing) offers topic payload =
    if asks_next thing topic then next_answers thing offers else other_answers thing offers (updated thing topic) topic payload

-- what the service answers, in order
abbrev pub answers : Serving → List ℕ → List ℕ → List Answer
answers s topic payload = thing_answers s.thing s.offers topic payload

abbrev pub offers_by : List Offer → Option (List ℕ) → List ℕ → List Offer
offers_by offers None payload = offers
offers_by offers (Some name) payload = if ends_job payload then map (ended name) offers else offers

abbrev pub offers_after : Option (List ℕ) → List Offer → List ℕ → List ℕ → List Offer
offers_after None offers topic payload = offers
offers_after (Some thing) offers topic payload = offers_by offers (updated thing topic) payload

-- The service behind the message: a job that was updated to its end is over.
abbrev pub after : Serving → List ℕ → List ℕ → Serving
after s topic payload = record s { offers = offers_after s.thing s.offers topic payload }

-- Topics of jobs, of one job and of none.
use Rattle.std.specs.Prelude.{◌≡◌, ℕ, Bool, true, false, ◌&&◌, ◌||◌, not, List, [], ◌∷◌, ◌++◌, Option, Some, None, Result, Ok, Err, if◌then◌else◌, codes}
use Rattle.std.specs.List.{find}
use Rattle.std.specs.Option.{option_copied, option_map}
use Rattle.std.specs.Str.{bytes_eq}
use Rattle.thing_topics.specs.declared.faults.TopicFault.{TopicFault}
use Rattle.thing_topics.specs.declared.faults.TopicFault.TheVariants as faults
use Rattle.thing_topics.specs.declared.faults.NameFault.{NameFault}
use Rattle.thing_topics.specs.declared.faults.NameFault.TheVariants as names
use Rattle.thing_topics.specs.declared.jobs.JobsKind.{JobsKind}
use Rattle.thing_topics.specs.declared.jobs.JobsKind.TheVariants as kinds
use Rattle.thing_topics.specs.declared.jobs.JobsMatch.{JobsMatch}
use Rattle.thing_topics.specs.Classes.{is_thing, is_job}
use Rattle.thing_topics.specs.Cuts.{first_level}
use Rattle.thing_topics.specs.Fronts.{front_of, front_text}
use Rattle.thing_topics.specs.Readings.{◌>>=◌, tested}

-- the last levels of a topic of this kind
abbrev pub word : JobsKind → List ℕ
word kinds.Notify = codes "notify"
word kinds.NotifyNext = codes "notify-next"
word kinds.Pending = codes "get"
word kinds.PendingAccepted = codes "get/accepted"
word kinds.PendingRejected = codes "get/rejected"
word kinds.StartNext = codes "start-next"
word kinds.StartNextAccepted = codes "start-next/accepted"
word kinds.StartNextRejected = codes "start-next/rejected"
word kinds.Describe = codes "get"
word kinds.DescribeAccepted = codes "get/accepted"
word kinds.DescribeRejected = codes "get/rejected"
word kinds.Update = codes "update"
word kinds.UpdateAccepted = codes "update/accepted"
word kinds.UpdateRejected = codes "update/rejected"

-- the kinds whose topics have the level of a job
abbrev pub job_kinds : List JobsKind
job_kinds =
    kinds.Describe ∷ kinds.DescribeAccepted ∷ kinds.DescribeRejected
    ∷ kinds.Update ∷ kinds.UpdateAccepted ∷ kinds.UpdateRejected ∷ []

-- and those whose topics have none
abbrev pub plain_kinds : List JobsKind
plain_kinds =
    kinds.Notify ∷ kinds.NotifyNext ∷ kinds.Pending ∷ kinds.PendingAccepted ∷ kinds.PendingRejected
    ∷ kinds.StartNext ∷ kinds.StartNextAccepted ∷ kinds.StartNextRejected ∷ []

abbrev pub takes_job : JobsKind → Bool
takes_job kinds.Describe = true
takes_job kinds.DescribeAccepted = true
takes_job kinds.DescribeRejected = true
takes_job kinds.Update = true
takes_job kinds.UpdateAccepted = true
takes_job kinds.UpdateRejected = true
takes_job other = false

-- `$next` may stand for the job: the next one is described, and not updated
abbrev pub takes_next : JobsKind → Bool
takes_next kinds.Describe = true
takes_next kinds.DescribeAccepted = true
takes_next kinds.DescribeRejected = true
takes_next other = false

-- what a topic of jobs says
pub record Parts : Type 0 where
  pub thing : List ℕ
  pub job : Option (List ℕ)
  pub kind : JobsKind

abbrev pub parts_of : List ℕ → Option (List ℕ) → JobsKind → Parts
parts_of thing job kind = record { thing = thing; job = job; kind = kind }

-- what a reader found
abbrev pub found_parts : JobsMatch → Parts
found_parts found = parts_of found.thing.now (option_copied found.job) found.kind

abbrev pub with_job : List ℕ → Option (List ℕ) → List ℕ
with_job front None = front
with_job front (Some job) = front ++ job ++ codes "/"

-- how the parts are written
unfoldable pub topic_text : Parts → List ℕ
topic_text parts = with_job (front_text parts.thing (codes "/jobs/")) parts.job ++ word parts.kind

-- a topic of this kind may have this job, or none
abbrev pub has_class : JobsKind → Option (List ℕ) → Bool
has_class kind None = not (takes_job kind)
has_class kind (Some job) = takes_job kind && (is_job job || (takes_next kind && bytes_eq job (codes "$next")))

-- the first part that isn't of its class, or stands where the kind has none, or is missing
unfoldable pub fault_of : List ℕ → Option (List ℕ) → JobsKind → Option NameFault
fault_of thing job kind = if not (is_thing thing) then Some names.Thing else if not (has_class kind job) then Some names.Job else None

-- The text is the topic of these parts: each is of its class, and this is how they are written.
pub record IsTopic (text : List ℕ) (parts : Parts) : Type 0 where
  pub classes : fault_of parts.thing parts.job parts.kind ≡ None
  pub written : text ≡ topic_text parts

-- the kind that is written so, behind a job and behind none
unfoldable pub job_kind_of : List ℕ → Option JobsKind
job_kind_of text = find (λ kind. bytes_eq (word kind) text) job_kinds

unfoldable pub plain_kind_of : List ℕ → Option JobsKind
plain_kind_of text = find (λ kind. bytes_eq (word kind) text) plain_kinds

abbrev pub with_kind : List ℕ × Option (List ℕ) → Option (List ℕ × JobsKind)
with_kind (level, None) = None
with_kind (level, Some below) = option_map (λ kind. (level, kind)) (job_kind_of below)

-- By its form the rest has a job in its place: its first level, where the word of such a kind follows.
unfoldable pub job_in : List ℕ → Option (List ℕ × JobsKind)
job_in rest = with_kind (first_level rest)

abbrev pub plain : Option JobsKind → Result (Option (List ℕ) × JobsKind) TopicFault
plain None = Err faults.Kind
plain (Some kind) = Ok (None, kind)

abbrev pub found_or : List ℕ → Option (List ℕ × JobsKind) → Result (Option (List ℕ) × JobsKind) TopicFault
found_or rest None = plain (plain_kind_of rest)
found_or rest (Some (job, kind)) = tested faults.Part (has_class kind (Some job)) (Some job, kind)

unfoldable pub found_in : List ℕ → Result (Option (List ℕ) × JobsKind) TopicFault
found_in rest = found_or rest (job_in rest)

-- what a text reads as, with the first fault where it is no topic of jobs
unfoldable pub read : List ℕ → Result Parts TopicFault
read text = do
  front ← front_of (codes "jobs/") text
  found ← found_in front.1
  Ok (record { thing = front.0; job = found.0; kind = found.1 })

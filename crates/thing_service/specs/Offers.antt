-- Jobs that a service offers, each with the image that its job fetches.
use Rattle.std.specs.Prelude.{◌≡◌, ℕ, Bool, true, not, ◌&&◌, ◌||◌, ◌==◌, List, Option, find, if◌then◌else◌}
use Rattle.std.specs.List.{list_any}
use Rattle.std.specs.Str.{bytes_eq}
use Rattle.device_docs.specs.Jobs.{is_nameable}
use Rattle.device_docs.specs.declared.jobs.Job.{Job}
use Rattle.thing_service.specs.declared.offers.Offer.{Offer}

-- whether the offer's job has this name
abbrev pub is_named : List ℕ → Offer → Bool
is_named name offer = bytes_eq offer.job.job name

-- whether it is a file of this stream
abbrev pub is_file_of : List ℕ → ℕ → Offer → Bool
is_file_of stream file offer = bytes_eq offer.job.stream stream && offer.job.file == file

-- Whether an offer before has the job's name, or its stream and its file.
abbrev pub is_repeat : List Offer → Job → Bool
is_repeat offers job = list_any (λ offer. is_named job.job offer || is_file_of job.stream job.file offer) offers

abbrev pub is_open : Offer → Bool
is_open offer = not offer.is_over

-- the first that isn't over
abbrev pub next_of : List Offer → Option Offer
next_of offers = find is_open offers

-- the offer with this job's name, from now on over
abbrev pub ended : List ℕ → Offer → Offer
ended name offer = if is_named name offer then record offer { is_over = true } else offer

-- a document can name the job
abbrev pub IsOffered : Offer → Type 0
IsOffered offer = is_nameable offer.job ≡ true

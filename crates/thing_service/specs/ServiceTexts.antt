-- The text of a service: its thing, and a line for each job that it offers.
use Rattle.std.specs.Prelude.{◌≡◌, IfSome, true, ℕ, ◌+◌, ◌&&◌, false, List, [], ◌∷◌, ◌++◌, Option, Some, None, Result, Ok, Err, if◌then◌else◌, codes}
use Rattle.std.specs.List.{AllByRecursion}
use Rattle.std.specs.Str.{bytes_eq, is_utf8}
use Rattle.plain_text.specs.Numbers.{number_in}
use Rattle.plain_text.specs.Escapes.{text_of}
use Rattle.plain_text.specs.Lines.{is_passed, lines_of}
use Rattle.plain_text.specs.Reading.{◌>>=◌}
use Rattle.plain_text.specs.Words.{word_at, last_at}
use Rattle.sha2.specs.Sha256.{sha256}
use Rattle.thing_topics.specs.Classes.{is_thing}
use Rattle.device_docs.specs.declared.jobs.Job.{Job}
use Rattle.device_docs.specs.Jobs.{is_nameable}
use Rattle.thing_service.specs.declared.offers.Offer.{Offer}
use Rattle.thing_service.specs.declared.texts.Words.{Words as Found}
use Rattle.thing_service.specs.Generator.{image}
use Rattle.thing_service.specs.Offers.{is_repeat, IsOffered}

-- a word that is a text as it stands
abbrev pub plain : List ℕ → Option (List ℕ)
plain word = if is_utf8 word then Some word else None

-- a thing's name
abbrev pub thing_in : List ℕ → Option (List ℕ)
thing_in word = if is_utf8 word && is_thing word then Some word else None

-- `thing` T, which is a thing's name
unfoldable pub thing_of : List ℕ → Option (List ℕ)
thing_of line = do
  verb ← word_at line
  word ← if bytes_eq verb.0 (codes "thing") then last_at verb.1 else None
  thing_in word

-- the words of a line: `job` J STREAM PATH FILE SEED SIZE
pub record Words : Type 0 where
  pub job : List ℕ
  pub stream : List ℕ
  pub path : List ℕ
  pub file : List ℕ
  pub seed : List ℕ
  pub size : List ℕ

-- what a reader found
abbrev pub found_words : Found → Words
found_words w = record { job = w.job.now; stream = w.stream.now; path = w.path.now; file = w.file.now; seed = w.seed.now; size = w.size.now }

unfoldable pub words_of : List ℕ → Option Words
words_of line = do
  verb ← word_at line
  job ← if bytes_eq verb.0 (codes "job") then word_at verb.1 else None
  stream ← word_at job.1
  path ← word_at stream.1
  file ← word_at path.1
  seed ← word_at file.1
  size ← last_at seed.1
  Some (record { job = job.0; stream = stream.0; path = path.0; file = file.0; seed = seed.0; size = size })

-- a job of version 1, and its image's digest
abbrev pub job_with : List ℕ → List ℕ → List ℕ → ℕ → ℕ → ℕ → Job
job_with job stream path file seed size =
    record { job = job; version = 1; stream = stream; path = path; size = size; file = file; digest = sha256 (image seed size) }

abbrev pub offer_with : Job → ℕ → Option Offer
offer_with job seed = if is_nameable job then Some (record { job = job; seed = seed; is_over = false }) else None

-- What a job line offers: a job that a document can name. PATH is read from its escapes.
unfoldable pub offer_in : Words → Option Offer
offer_in words = do
  job ← plain words.job
  stream ← plain words.stream
  path ← text_of words.path
  file ← number_in 0 4294967295 words.file
  seed ← number_in 0 18446744073709551615 words.seed
  size ← number_in 1 16777216 words.size
  offer_with (job_with job stream path file seed size) seed

unfoldable pub offer_of : List ℕ → Option Offer
offer_of line = words_of line >>= λ words. offer_in words

-- an offer that repeats none
abbrev pub unless_repeat : List Offer → Offer → Option Offer
unless_repeat offers offer = if is_repeat offers offer.job then None else Some offer

-- what the line offers behind those before it
abbrev pub new_offer : List Offer → List ℕ → Option Offer
new_offer offers line = offer_of line >>= λ offer. unless_repeat offers offer

-- A service: its thing, where it has one, and what it offers, in order.
pub record Serving : Type 0 where
  pub thing : Option (List ℕ)
  pub offers : List Offer

-- The thing is one, and a document can name each job.
abbrev pub IsReady : Serving → Type 0
IsReady s = IfSome s.thing (λ thing. is_thing thing ≡ true) × AllByRecursion IsOffered s.offers

-- what a line that has a reading leads to, and its number where it has none
abbrev pub or_line : {A B : Type 0} → ℕ → Option A → (A → Result B ℕ) → Result B ℕ
or_line number None next = Err number
or_line number (Some x) next = next x

-- these offers and those of the lines, of which the first has this number
unfoldable pub offers_from : List Offer → ℕ → List (List ℕ) → Result (List Offer) ℕ
offers_from offers number [] = Ok offers
offers_from offers number (line ∷ lines) =
    if is_passed line then offers_from offers (number + 1) lines
    else or_line number (new_offer offers line) (λ offer. offers_from (offers ++ offer ∷ []) (number + 1) lines)

abbrev pub serving : Option (List ℕ) → List Offer → Serving
serving thing offers = record { thing = thing; offers = offers }

abbrev pub with_thing : List ℕ → Result (List Offer) ℕ → Result Serving ℕ
with_thing thing (Ok offers) = Ok (serving (Some thing) offers)
with_thing thing (Err number) = Err number

-- The first line that isn't passed over names the thing. A text without such a line is a service that answers nothing.
unfoldable pub service_from : ℕ → List (List ℕ) → Result Serving ℕ
service_from number [] = Ok (serving None [])
service_from number (line ∷ lines) =
    if is_passed line then service_from (number + 1) lines
    else or_line number (thing_of line) (λ thing. with_thing thing (offers_from [] (number + 1) lines))

-- the service that a text spells, or the number of its first bad line
abbrev pub service_of : List ℕ → Result Serving ℕ
service_of text = service_from 1 (lines_of text)

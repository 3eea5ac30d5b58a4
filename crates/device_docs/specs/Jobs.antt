-- What a job document says: no job, the job that it names, or the first fault that applies.
use Rattle.std.specs.Prelude.{ℕ, ◌==◌, nat_le, Bool, true, false, ◌&&◌, ◌||◌, List, [], ◌∷◌, length, Option, Some, None, Result, Ok, Err, is_some, unwrap_or, option_map, option_and_then, if◌then◌else◌, codes}
use Rattle.std.specs.Result.{result_ok}
use Rattle.std.specs.Str.{bytes_eq}
use Rattle.base64.specs.Engines.{standard}
use Rattle.base64.specs.GeneralPurpose.{decode_of}
use Rattle.serde_json.specs.Data.{Data, Items, no_items, item}
use Rattle.serde_json.specs.Events.{items_len, members_len}
use Rattle.serde_json.specs.Find.{get, as_str, as_array, as_object}
use Rattle.thing_topics.specs.Classes.{is_job, is_stream}
use Rattle.device_docs.specs.declared.faults.DocFault.{DocFault}
use Rattle.device_docs.specs.declared.faults.DocFault.TheVariants as f
use Rattle.device_docs.specs.declared.jobs.Job.{Job}
use Rattle.device_docs.specs.declared.keys.Key.TheVariants as k
use Rattle.device_docs.specs.Checks.{absent, outside, first, join, ◌>>=◌}
use Rattle.device_docs.specs.Keys.{key_text}
use Rattle.device_docs.specs.Members.{object_of, natural_of, whole_of, at, within, document_of}

-- ---- The parts of a document, each absent where it isn't there or is of another kind

abbrev pub execution : Data → Option Data
execution d = at object_of k.Execution d

abbrev pub job_id : Data → Option (List ℕ)
job_id d = within (execution d) as_str k.JobId

abbrev pub version_number : Data → Option ℕ
version_number d = within (execution d) natural_of k.VersionNumber

abbrev pub job_document : Data → Option Data
job_document d = within (execution d) object_of k.JobDocument

abbrev pub afr_ota : Data → Option Data
afr_ota d = within (job_document d) object_of k.AfrOta

abbrev pub protocols : Data → Option Items
protocols d = within (afr_ota d) as_array k.Protocols

abbrev pub stream_name : Data → Option (List ℕ)
stream_name d = within (afr_ota d) as_str k.StreamName

abbrev pub files : Data → Option Items
files d = within (afr_ota d) as_array k.Files

-- the one member of a list that has one
abbrev pub only : Items → Option Data
only no_items = None
only (item d no_items) = Some d
only (item d (item e ds)) = None

abbrev pub file : Data → Option Data
file d = option_and_then only (files d)

abbrev pub file_path : Data → Option (List ℕ)
file_path d = within (file d) as_str k.FilePath

abbrev pub file_size : Data → Option (Option ℕ)
file_size d = within (file d) whole_of k.FileSize

abbrev pub file_id : Data → Option (Option ℕ)
file_id d = within (file d) whole_of k.FileId

abbrev pub sha256 : Data → Option (List ℕ)
sha256 d = within (file d) as_str k.Sha256

-- ---- What each part must be

-- one of the protocols is the text `MQTT`
abbrev pub is_mqtt : Data → Bool
is_mqtt d = unwrap_or (option_map (λ text. bytes_eq text (codes "MQTT")) (as_str d)) false

abbrev pub has_mqtt : Items → Bool
has_mqtt no_items = false
has_mqtt (item d ds) = is_mqtt d || has_mqtt ds

abbrev pub is_path : List ℕ → Bool
is_path path = nat_le 1 (length path) && nat_le (length path) 1024

-- from least to most, and not negative
abbrev pub is_from : ℕ → ℕ → Option ℕ → Bool
is_from least most None = false
is_from least most (Some n) = nat_le least n && nat_le n most

abbrev pub is_size : Option ℕ → Bool
is_size = is_from 1 16777216

abbrev pub is_file : Option ℕ → Bool
is_file = is_from 0 4294967295

-- 32 bytes
abbrev pub of_32 : Option (List ℕ) → Option (List ℕ)
of_32 None = None
of_32 (Some bytes) = if length bytes == 32 then Some bytes else None

-- the 32 bytes of which the text is the Base64 (RFC 4648, section 4), with its padding
unfoldable pub digest_of : List ℕ → Option (List ℕ)
digest_of text = of_32 (result_ok (decode_of standard text))

-- ---- The faults, in their order

abbrev pub not_one : Option Items → Option DocFault
not_one None = None
not_one (Some ds) = if items_len ds == 1 then None else Some (f.Files (items_len ds))

abbrev pub no_digest : Option (List ℕ) → Option DocFault
no_digest None = None
no_digest (Some text) = if is_some (digest_of text) then None else Some f.Digest

-- each fault, where it applies
abbrev pub faults : Data → List (Option DocFault)
faults d =
    absent (f.Missing k.Execution) (execution d)
    ∷ absent (f.Missing k.JobId) (job_id d)
    ∷ absent (f.Missing k.VersionNumber) (version_number d)
    ∷ absent (f.Missing k.JobDocument) (job_document d)
    ∷ absent (f.Missing k.AfrOta) (afr_ota d)
    ∷ absent (f.Missing k.Protocols) (protocols d)
    ∷ absent (f.Missing k.StreamName) (stream_name d)
    ∷ absent (f.Missing k.Files) (files d)
    ∷ not_one (files d)
    ∷ absent (f.Missing k.FilePath) (file_path d)
    ∷ absent (f.Missing k.FileSize) (file_size d)
    ∷ absent (f.Missing k.FileId) (file_id d)
    ∷ absent (f.Missing k.Sha256) (sha256 d)
    ∷ outside (f.Range k.JobId) is_job (job_id d)
    ∷ outside (f.Range k.Protocols) has_mqtt (protocols d)
    ∷ outside (f.Range k.StreamName) is_stream (stream_name d)
    ∷ outside (f.Range k.FilePath) is_path (file_path d)
    ∷ outside (f.Range k.FileSize) is_size (file_size d)
    ∷ outside (f.Range k.FileId) is_file (file_id d)
    ∷ no_digest (sha256 d)
    ∷ []

-- ---- The job

-- the job, where all its parts are there
abbrev pub job_in : Data → Option Job
job_in d = do
  job ← job_id d
  version ← version_number d
  stream ← stream_name d
  path ← file_path d
  size ← join (file_size d)
  file ← join (file_id d)
  digest ← option_and_then digest_of (sha256 d)
  Some (record { job = job; version = version; stream = stream; path = path; size = size; file = file; digest = digest })

-- a document can name the job: no part of it is outside its range
abbrev pub is_nameable : Job → Bool
is_nameable j = is_job j.job && is_stream j.stream && is_path j.path && is_size (Some j.size) && is_file (Some j.file)

-- there is no execution, or one without members
abbrev pub is_idle : Option Data → Bool
is_idle None = true
is_idle (Some d) = unwrap_or (option_map (λ ms. members_len ms == 0) (as_object d)) false

abbrev pub judged : Option DocFault → Option Job → Result (Option Job) DocFault
judged (Some fault) job = Err fault
judged None job = Ok job

-- what an object says
abbrev pub said_in : Data → Result (Option Job) DocFault
said_in d = if is_idle (get (key_text k.Execution) d) then Ok None else judged (first (faults d)) (job_in d)

abbrev pub said_by : Option Data → Result (Option Job) DocFault
said_by None = Err f.NotJson
said_by (Some d) = said_in d

-- what a text says
unfoldable pub said : List ℕ → Result (Option Job) DocFault
said text = said_by (document_of text)

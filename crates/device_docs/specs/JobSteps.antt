-- A job document, read step by step: the first step that fails gives the fault. `said` of Jobs.antt is the definition;
-- that these steps give it is a lemma (proofs/JobSteps.antt).
use Rattle.std.specs.Prelude.{ℕ, Bool, List, Option, Some, None, Result, Ok, Err, if◌then◌else◌}
use Rattle.serde_json.specs.Data.{Data, Items}
use Rattle.serde_json.specs.Events.{items_len}
use Rattle.serde_json.specs.Find.{get, as_str, as_array}
use Rattle.serde_json.specs.View.{view, items_view}
use Rattle.thing_topics.specs.Classes.{is_job, is_stream}
use Rattle.device_docs.specs.declared.faults.DocFault.{DocFault}
use Rattle.device_docs.specs.declared.faults.DocFault.TheVariants as f
use Rattle.device_docs.specs.declared.jobs.FilePart.{FilePart}
use Rattle.device_docs.specs.declared.jobs.Parts.{Parts}
use Rattle.device_docs.specs.declared.jobs.Job.{Job}
use Rattle.device_docs.specs.declared.keys.Key.{Key}
use Rattle.device_docs.specs.declared.keys.Key.TheVariants as k
use Rattle.device_docs.specs.Keys.{key_text}
use Rattle.device_docs.specs.Members.{object_of, natural_of, whole_of, at}
use Rattle.device_docs.specs.Jobs.{only, has_mqtt, is_path, is_from, digest_of, is_idle}

infixl 10 ◌>>=◌
abbrev pub ◌>>=◌ : {A B : Type 0} → Result A DocFault → (A → Result B DocFault) → Result B DocFault
(Ok x) >>= next = next x
(Err fault) >>= next = Err fault

abbrev pub needed : {A : Type 0} → Key → Option A → Result A DocFault
needed key None = Err (f.Missing key)
needed key (Some x) = Ok x

abbrev pub or_fault : {A : Type 0} → DocFault → Option A → Result A DocFault
or_fault fault None = Err fault
or_fault fault (Some x) = Ok x

abbrev pub tested : Key → Bool → Result (Unit {0}) DocFault
tested key test = if test then Ok tt else Err (f.Range key)

-- the number where it is from least to most
abbrev pub number_in : Key → ℕ → ℕ → Option ℕ → Result ℕ DocFault
number_in key least most None = Err (f.Range key)
number_in key least most (Some n) = if is_from least most (Some n) then Ok n else Err (f.Range key)

-- what an execution must have, with the one file
pub record Heads : Type 0 where
  pub job : List ℕ
  pub version : ℕ
  pub protocols : Items
  pub stream : List ℕ
  pub file : Data

-- what the file must have
pub record Tails : Type 0 where
  pub path : List ℕ
  pub size : Option ℕ
  pub id : Option ℕ
  pub sha256 : List ℕ

abbrev pub heads_of : List ℕ → ℕ → Items → List ℕ → Data → Heads
heads_of job version protocols stream file = record { job = job; version = version; protocols = protocols; stream = stream; file = file }

-- what the code has found
abbrev pub found_heads : Parts → Heads
found_heads p = heads_of p.job.now p.version (items_view p.protocols.now.items) p.stream.now (view p.file.now)

abbrev pub tails_of : List ℕ → Option ℕ → Option ℕ → List ℕ → Tails
tails_of path size id sha256 = record { path = path; size = size; id = id; sha256 = sha256 }

abbrev pub found_tails : FilePart → Tails
found_tails p = tails_of p.path.now p.size p.id p.sha256.now

unfoldable pub one_file : Items → Result Data DocFault
one_file files = or_fault (f.Files (items_len files)) (only files)

unfoldable pub heads_in : Data → Result Heads DocFault
heads_in d = do
  execution ← needed k.Execution (at object_of k.Execution d)
  job ← needed k.JobId (at as_str k.JobId execution)
  version ← needed k.VersionNumber (at natural_of k.VersionNumber execution)
  document ← needed k.JobDocument (at object_of k.JobDocument execution)
  ota ← needed k.AfrOta (at object_of k.AfrOta document)
  protocols ← needed k.Protocols (at as_array k.Protocols ota)
  stream ← needed k.StreamName (at as_str k.StreamName ota)
  files ← needed k.Files (at as_array k.Files ota)
  file ← one_file files
  Ok (heads_of job version protocols stream file)

unfoldable pub tails_in : Data → Result Tails DocFault
tails_in file = do
  path ← needed k.FilePath (at as_str k.FilePath file)
  size ← needed k.FileSize (at whole_of k.FileSize file)
  id ← needed k.FileId (at whole_of k.FileId file)
  sha256 ← needed k.Sha256 (at as_str k.Sha256 file)
  Ok (tails_of path size id sha256)

unfoldable pub job_by : Heads → Tails → Result Job DocFault
job_by h t = do
  _ ← tested k.JobId (is_job h.job)
  _ ← tested k.Protocols (has_mqtt h.protocols)
  _ ← tested k.StreamName (is_stream h.stream)
  _ ← tested k.FilePath (is_path t.path)
  size ← number_in k.FileSize 1 16777216 t.size
  file ← number_in k.FileId 0 4294967295 t.id
  digest ← or_fault f.Digest (digest_of t.sha256)
  Ok (record { job = h.job; version = h.version; stream = h.stream; path = t.path; size = size; file = file; digest = digest })

unfoldable pub job_of : Data → Result Job DocFault
job_of d = do
  heads ← heads_in d
  tails ← tails_in heads.file
  job_by heads tails

abbrev pub some_job : Result Job DocFault → Result (Option Job) DocFault
some_job (Ok job) = Ok (Some job)
some_job (Err fault) = Err fault

unfoldable pub read_in : Data → Result (Option Job) DocFault
read_in d = if is_idle (get (key_text k.Execution) d) then Ok None else some_job (job_of d)

-- The steps of reading a job document give the first fault that applies, and else the job.
use Rattle.std.proofs.Common.{◌≡◌, ℕ, suc, Bool, true, false, ◌⊎◌, inl, inr, List, [], ◌∷◌, Option, Some, None, Result, Ok, Err, refl, ap, ◌∙◌, arith, ne_eqb}
use Rattle.std.specs.Prelude.{is_some, if◌then◌else◌}
use Rattle.std.specs.Option.{option_and_then}
use Rattle.serde_json.specs.Data.{Data, Items, no_items, item}
use Rattle.serde_json.specs.Events.{items_len}
use Rattle.serde_json.specs.Find.{get, as_str, as_array}
use Rattle.thing_topics.specs.Classes.{is_job, is_stream}
use Rattle.device_docs.specs.declared.faults.DocFault.{DocFault}
use Rattle.device_docs.specs.declared.faults.DocFault.TheVariants as f
use Rattle.device_docs.specs.declared.jobs.Job.{Job}
use Rattle.device_docs.specs.declared.keys.Key.{Key}
use Rattle.device_docs.specs.declared.keys.Key.TheVariants as k
use Rattle.device_docs.specs.Keys.{key_text}
use Rattle.device_docs.specs.Members.{object_of, natural_of, whole_of, at, within}
use Rattle.device_docs.specs.Checks as checks
use Rattle.device_docs.specs.Checks.{absent, outside, first, join}
use Rattle.device_docs.specs.Jobs as jobs
use Rattle.device_docs.specs.Jobs.{only, has_mqtt, is_path, is_from, is_size, is_file, digest_of, not_one, no_digest, judged, faults, job_in, said_in}
use Rattle.device_docs.specs.JobSteps.{◌>>=◌, needed, or_fault, tested, number_in, Heads, heads_of, Tails, tails_of, one_file, heads_in, tails_in, job_by, job_of, some_job, read_in}

-- ---- What each part must be, where all are there

abbrev test : Key → Bool → Option DocFault
test key passes = if passes then None else Some (f.Range key)

abbrev steps : Bool → Bool → Bool → Bool → Result ℕ DocFault → Result ℕ DocFault → Option (List ℕ) → (ℕ → ℕ → List ℕ → Job) → Result Job DocFault
steps job protocols stream path size file digest make = do
  _ ← tested k.JobId job
  _ ← tested k.Protocols protocols
  _ ← tested k.StreamName stream
  _ ← tested k.FilePath path
  n ← size
  i ← file
  bytes ← or_fault f.Digest digest
  Ok (make n i bytes)

abbrev tests : Bool → Bool → Bool → Bool → Bool → Bool → Option (List ℕ) → List (Option DocFault)
tests job protocols stream path size file digest =
    test k.JobId job ∷ test k.Protocols protocols ∷ test k.StreamName stream ∷ test k.FilePath path
    ∷ test k.FileSize size ∷ test k.FileId file ∷ (if is_some digest then None else Some f.Digest) ∷ []

abbrev made : Option ℕ → Option ℕ → Option (List ℕ) → (ℕ → ℕ → List ℕ → Job) → Option Job
made size file digest make = checks.◌>>=◌ size (λ n. checks.◌>>=◌ file (λ i. checks.◌>>=◌ digest (λ bytes. Some (make n i bytes))))

-- a number is in its range, or isn't
abbrev InRange : Key → ℕ → ℕ → Option ℕ → Type 0
InRange key least most number =
    ((n : ℕ) × (number ≡ Some n) × (is_from least most number ≡ true) × (number_in key least most number ≡ Ok n))
    ⊎ ((is_from least most number ≡ false) × (number_in key least most number ≡ Err (f.Range key)))

by_test : (key : Key) (least most n : ℕ) (passes : Bool) → is_from least most (Some n) ≡ passes → InRange key least most (Some n)
by_test key least most n true e = inl (n, refl, e, rw e refl)
by_test key least most n false e = inr (e, rw e refl)

in_range : (key : Key) (least most : ℕ) (number : Option ℕ) → InRange key least most number
in_range key least most None = inr (refl, refl)
in_range key least most (Some n) = by_test key least most n _ refl

by_digest : (n i : ℕ) (digest : Option (List ℕ)) (make : ℕ → ℕ → List ℕ → Job)
    → some_job (steps true true true true (Ok n) (Ok i) digest make) ≡ judged (first (tests true true true true true true digest)) (made (Some n) (Some i) digest make)
by_digest n i None make = refl
by_digest n i (Some bytes) make = refl

by_file : (n : ℕ) (file : Option ℕ) (digest : Option (List ℕ)) (make : ℕ → ℕ → List ℕ → Job) → InRange k.FileId 0 4294967295 file
    → some_job (steps true true true true (Ok n) (number_in k.FileId 0 4294967295 file) digest make) ≡ judged (first (tests true true true true true (is_file file) digest)) (made (Some n) file digest make)
by_file n file digest make (inl (i, e, passes, read)) = rw (read, passes, e) (by_digest n i digest make)
by_file n file digest make (inr (fails, read)) = rw (read, fails) refl

by_size : (size file : Option ℕ) (digest : Option (List ℕ)) (make : ℕ → ℕ → List ℕ → Job) → InRange k.FileSize 1 16777216 size
    → some_job (steps true true true true (number_in k.FileSize 1 16777216 size) (number_in k.FileId 0 4294967295 file) digest make) ≡ judged (first (tests true true true true (is_size size) (is_file file) digest)) (made size file digest make)
by_size size file digest make (inl (n, e, passes, read)) = rw (read, passes, e) (by_file n file digest make (in_range k.FileId 0 4294967295 file))
by_size size file digest make (inr (fails, read)) = rw (read, fails) refl

by_tests : (job protocols stream path : Bool) (size file : Option ℕ) (digest : Option (List ℕ)) (make : ℕ → ℕ → List ℕ → Job)
    → some_job (steps job protocols stream path (number_in k.FileSize 1 16777216 size) (number_in k.FileId 0 4294967295 file) digest make)
    ≡ judged (first (tests job protocols stream path (is_size size) (is_file file) digest)) (made size file digest make)
by_tests false protocols stream path size file digest make = refl
by_tests true false stream path size file digest make = refl
by_tests true true false path size file digest make = refl
by_tests true true true false size file digest make = refl
by_tests true true true true size file digest make = by_size size file digest make (in_range k.FileSize 1 16777216 size)

-- ---- Which parts are there

abbrev in_order : Option Data → Option (List ℕ) → Option ℕ → Option Data → Option Data → Option Items → Option (List ℕ) → Option Items → Result Heads DocFault
in_order execution job version document ota protocols stream files = do
  _ ← needed k.Execution execution
  job' ← needed k.JobId job
  version' ← needed k.VersionNumber version
  _ ← needed k.JobDocument document
  _ ← needed k.AfrOta ota
  protocols' ← needed k.Protocols protocols
  stream' ← needed k.StreamName stream
  files' ← needed k.Files files
  file ← one_file files'
  Ok (heads_of job' version' protocols' stream' file)

abbrev tails_by : Option (List ℕ) → Option (Option ℕ) → Option (Option ℕ) → Option (List ℕ) → Result Tails DocFault
tails_by path size id sha256 = do
  path' ← needed k.FilePath path
  size' ← needed k.FileSize size
  id' ← needed k.FileId id
  sha256' ← needed k.Sha256 sha256
  Ok (tails_of path' size' id' sha256')

abbrev rest_of_table : Option (List ℕ) → Option Items → Option (List ℕ) → Option (List ℕ) → Option (Option ℕ) → Option (Option ℕ) → Option (List ℕ) → List (Option DocFault)
rest_of_table job protocols stream path size id sha256 =
    absent (f.Missing k.FilePath) path
    ∷ absent (f.Missing k.FileSize) size
    ∷ absent (f.Missing k.FileId) id
    ∷ absent (f.Missing k.Sha256) sha256
    ∷ outside (f.Range k.JobId) is_job job
    ∷ outside (f.Range k.Protocols) has_mqtt protocols
    ∷ outside (f.Range k.StreamName) is_stream stream
    ∷ outside (f.Range k.FilePath) is_path path
    ∷ outside (f.Range k.FileSize) is_size size
    ∷ outside (f.Range k.FileId) is_file id
    ∷ no_digest sha256
    ∷ []

abbrev table : Option Data → Option (List ℕ) → Option ℕ → Option Data → Option Data → Option Items → Option (List ℕ) → Option Items → List (Option DocFault) → List (Option DocFault)
table execution job version document ota protocols stream files rest =
    absent (f.Missing k.Execution) execution
    ∷ absent (f.Missing k.JobId) job
    ∷ absent (f.Missing k.VersionNumber) version
    ∷ absent (f.Missing k.JobDocument) document
    ∷ absent (f.Missing k.AfrOta) ota
    ∷ absent (f.Missing k.Protocols) protocols
    ∷ absent (f.Missing k.StreamName) stream
    ∷ absent (f.Missing k.Files) files
    ∷ not_one files
    ∷ rest

abbrev job_by_parts : Option (List ℕ) → Option ℕ → Option (List ℕ) → Option (List ℕ) → Option (Option ℕ) → Option (Option ℕ) → Option (List ℕ) → Option Job
job_by_parts job version stream path size id sha256 =
    checks.◌>>=◌ job (λ job'. checks.◌>>=◌ version (λ version'. checks.◌>>=◌ stream (λ stream'. checks.◌>>=◌ path (λ path'.
    made (join size) (join id) (option_and_then digest_of sha256)
    (λ n i bytes. record { job = job'; version = version'; stream = stream'; path = path'; size = n; file = i; digest = bytes })))))

by_tails : (job : List ℕ) (version : ℕ) (protocols : Items) (stream : List ℕ) (file : Data) (path : Option (List ℕ)) (size id : Option (Option ℕ)) (sha256 : Option (List ℕ))
    → some_job (tails_by path size id sha256 >>= job_by (heads_of job version protocols stream file))
    ≡ judged (first (rest_of_table (Some job) (Some protocols) (Some stream) path size id sha256)) (job_by_parts (Some job) (Some version) (Some stream) path size id sha256)
unfolding job_by
by_tails job version protocols stream file None size id sha256 = refl
by_tails job version protocols stream file (Some path) None id sha256 = refl
by_tails job version protocols stream file (Some path) (Some size) None sha256 = refl
by_tails job version protocols stream file (Some path) (Some size) (Some id) None = refl
by_tails job version protocols stream file (Some path) (Some size) (Some id) (Some sha256) =
    by_tests (is_job job) (has_mqtt protocols) (is_stream stream) (is_path path) size id (digest_of sha256)
    (λ n i bytes. record { job = job; version = version; stream = stream; path = path; size = n; file = i; digest = bytes })

abbrev tail : {A : Type 0} → Option Items → (Data → Option A) → Key → Option A
tail files kind key = within (option_and_then only files) kind key

by_heads : (execution : Option Data) (job : Option (List ℕ)) (version : Option ℕ) (document ota : Option Data) (protocols : Option Items) (stream : Option (List ℕ)) (files : Option Items)
    → some_job (in_order execution job version document ota protocols stream files >>= λ heads. tails_in heads.file >>= job_by heads)
    ≡ judged
    (first (table execution job version document ota protocols stream files
    (rest_of_table job protocols stream (tail files as_str k.FilePath) (tail files whole_of k.FileSize) (tail files whole_of k.FileId) (tail files as_str k.Sha256))))
    (job_by_parts job version stream (tail files as_str k.FilePath) (tail files whole_of k.FileSize) (tail files whole_of k.FileId) (tail files as_str k.Sha256))
unfolding one_file tails_in
by_heads None job version document ota protocols stream files = refl
by_heads (Some e) None version document ota protocols stream files = refl
by_heads (Some e) (Some job) None document ota protocols stream files = refl
by_heads (Some e) (Some job) (Some version) None ota protocols stream files = refl
by_heads (Some e) (Some job) (Some version) (Some d) None protocols stream files = refl
by_heads (Some e) (Some job) (Some version) (Some d) (Some o) None stream files = refl
by_heads (Some e) (Some job) (Some version) (Some d) (Some o) (Some protocols) None files = refl
by_heads (Some e) (Some job) (Some version) (Some d) (Some o) (Some protocols) (Some stream) None = refl
by_heads (Some e) (Some job) (Some version) (Some d) (Some o) (Some protocols) (Some stream) (Some no_items) = refl
by_heads (Some e) (Some job) (Some version) (Some d) (Some o) (Some protocols) (Some stream) (Some (item file no_items)) =
    by_tails job version protocols stream file (at as_str k.FilePath file) (at whole_of k.FileSize file) (at whole_of k.FileId file) (at as_str k.Sha256 file)
by_heads (Some e) (Some job) (Some version) (Some d) (Some o) (Some protocols) (Some stream) (Some (item file (item other ds))) =
    rw (ne_eqb (suc (suc (items_len ds))) 1 (λ z. omega (arith, z))) refl

-- ---- Where each part stands

abbrev in_ota : List ℕ → ℕ → Data → Result Heads DocFault
in_ota job version ota = do
  protocols ← needed k.Protocols (at as_array k.Protocols ota)
  stream ← needed k.StreamName (at as_str k.StreamName ota)
  files ← needed k.Files (at as_array k.Files ota)
  file ← one_file files
  Ok (heads_of job version protocols stream file)

abbrev by_ota : Option (List ℕ) → Option ℕ → Option Data → Result Heads DocFault
by_ota job version ota = do
  job' ← needed k.JobId job
  version' ← needed k.VersionNumber version
  ota' ← needed k.AfrOta ota
  in_ota job' version' ota'

from_ota : (e d : Data) (job : Option (List ℕ)) (version : Option ℕ) (ota : Option Data)
    → by_ota job version ota ≡ in_order (Some e) job version (Some d) ota (within ota as_array k.Protocols) (within ota as_str k.StreamName) (within ota as_array k.Files)
from_ota e d job version None = refl
from_ota e d job version (Some o) = refl

abbrev by_document : Option (List ℕ) → Option ℕ → Option Data → Result Heads DocFault
by_document job version document = do
  job' ← needed k.JobId job
  version' ← needed k.VersionNumber version
  document' ← needed k.JobDocument document
  ota ← needed k.AfrOta (at object_of k.AfrOta document')
  in_ota job' version' ota

from_document : (e : Data) (job : Option (List ℕ)) (version : Option ℕ) (document : Option Data)
    → let ota = within document object_of k.AfrOta in
    by_document job version document ≡ in_order (Some e) job version document ota (within ota as_array k.Protocols) (within ota as_str k.StreamName) (within ota as_array k.Files)
from_document e job version None = refl
from_document e job version (Some d) = from_ota e d job version (at object_of k.AfrOta d)

from_execution : (execution : Option Data)
    → let document = within execution object_of k.JobDocument in
    let ota = within document object_of k.AfrOta in
    (needed k.Execution execution >>= λ e. by_document (at as_str k.JobId e) (at natural_of k.VersionNumber e) (at object_of k.JobDocument e))
    ≡ in_order execution (within execution as_str k.JobId) (within execution natural_of k.VersionNumber) document ota
    (within ota as_array k.Protocols) (within ota as_str k.StreamName) (within ota as_array k.Files)
from_execution None = refl
from_execution (Some e) = from_document e (at as_str k.JobId e) (at natural_of k.VersionNumber e) (at object_of k.JobDocument e)

job_is : (d : Data) → some_job (job_of d) ≡ judged (first (faults d)) (job_in d)
unfolding job_of heads_in
job_is d =
    ap (λ (heads : Result Heads DocFault). some_job (heads >>= λ h. tails_in h.file >>= job_by h)) (from_execution (jobs.execution d))
    ∙ by_heads (jobs.execution d) (jobs.job_id d) (jobs.version_number d) (jobs.job_document d) (jobs.afr_ota d) (jobs.protocols d) (jobs.stream_name d) (jobs.files d)

pub read_is : (d : Data) → read_in d ≡ said_in d
unfolding read_in
read_is d = ap (λ (r : Result (Option Job) DocFault). if jobs.is_idle (get (key_text k.Execution) d) then Ok None else r) (job_is d)

-- no job comes of reading one
some_not_none : (r : Result Job DocFault) → some_job r ≡ Ok None → ⊥
some_not_none (Ok job) e = cc
some_not_none (Err fault) e = cc

by_idle : (idle : Bool) (r : Result Job DocFault) → (if idle then Ok None else some_job r) ≡ Ok None → idle ≡ true
by_idle true r e = refl
by_idle false r e = absurd (some_not_none r e)

pub only_idle : (d : Data) → said_in d ≡ Ok None → jobs.is_idle (get (key_text k.Execution) d) ≡ true
unfolding read_in
only_idle d e = by_idle (jobs.is_idle (get (key_text k.Execution) d)) (job_of d) (read_is d ∙ e)

-- The updates of a job's status.
use Rattle.std.specs.Prelude.{ℕ, List, codes}
use Rattle.device_docs.specs.declared.updates.JobStatus.{JobStatus}
use Rattle.device_docs.specs.declared.updates.JobStatus.TheVariants as s

abbrev pub update_text : JobStatus → List ℕ
update_text s.InProgress = codes "{\"status\":\"IN_PROGRESS\"}"
update_text s.Succeeded = codes "{\"status\":\"SUCCEEDED\"}"
update_text s.Failed = codes "{\"status\":\"FAILED\"}"
update_text s.Rejected = codes "{\"status\":\"REJECTED\"}"

-- the word that stands in it
abbrev pub status_word : JobStatus → List ℕ
status_word s.InProgress = codes "IN_PROGRESS"
status_word s.Succeeded = codes "SUCCEEDED"
status_word s.Failed = codes "FAILED"
status_word s.Rejected = codes "REJECTED"

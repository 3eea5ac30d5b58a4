-- The keys as they stand in a document.
use Rattle.std.specs.Prelude.{ℕ, List, codes}
use Rattle.device_docs.specs.declared.keys.Key.{Key}
use Rattle.device_docs.specs.declared.keys.Key.TheVariants as k

abbrev pub key_text : Key → List ℕ
key_text k.Execution = codes "execution"
key_text k.JobId = codes "jobId"
key_text k.VersionNumber = codes "versionNumber"
key_text k.JobDocument = codes "jobDocument"
key_text k.AfrOta = codes "afr_ota"
key_text k.Protocols = codes "protocols"
key_text k.StreamName = codes "streamname"
key_text k.Files = codes "files"
key_text k.FilePath = codes "filepath"
key_text k.FileSize = codes "filesize"
key_text k.FileId = codes "fileid"
key_text k.Sha256 = codes "sha256"
key_text k.Version = codes "version"
key_text k.State = codes "state"
key_text k.Desired = codes "desired"

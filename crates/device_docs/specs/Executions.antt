-- What is written for a job, or for none: JSON without blanks, the members of an object in the order of their keys.
use Rattle.std.specs.Prelude.{ℕ, List, Option, Some, None, codes}
use Rattle.base64.specs.Engines.{standard}
use Rattle.base64.specs.GeneralPurpose.{encode_of}
use Rattle.serde_json.specs.Data.{Data, number, unsigned, string, array, object, item, no_items, member, no_members}
use Rattle.serde_json.specs.Written.{compact_text}
use Rattle.device_docs.specs.declared.jobs.Job.{Job}

abbrev pub nat : ℕ → Data
nat n = number (unsigned n)

abbrev pub file_value : Job → Data
file_value job = object
    (member (codes "certfile") (string (codes "cert"))
    (member (codes "fileid") (nat job.file)
    (member (codes "filepath") (string job.path)
    (member (codes "filesize") (nat job.size)
    (member (codes "sha256") (string (encode_of standard job.digest))
    (member (codes "sig-sha256-ecdsa") (string (codes ""))
    no_members))))))

abbrev pub ota_value : Job → Data
ota_value job = object
    (member (codes "files") (array (item (file_value job) no_items))
    (member (codes "protocols") (array (item (string (codes "MQTT")) no_items))
    (member (codes "streamname") (string job.stream)
    no_members)))

abbrev pub execution_value : Job → Data
execution_value job = object
    (member (codes "jobDocument") (object (member (codes "afr_ota") (ota_value job) no_members))
    (member (codes "jobId") (string job.job)
    (member (codes "versionNumber") (nat job.version)
    no_members)))

abbrev pub document_value : Option Job → Data
document_value None = object no_members
document_value (Some job) = object (member (codes "execution") (execution_value job) no_members)

abbrev pub document_text : Option Job → List ℕ
document_text job = compact_text (document_value job)

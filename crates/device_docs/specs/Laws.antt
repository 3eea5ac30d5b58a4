-- Laws of the definitions, each the contract of a function that does nothing.
use Rattle.std.specs.Prelude.{◌≡◌, ◌↔◌, ℕ, true, List, length, Some, None, Ok, codes}
use Rattle.base64.specs.Engines.{standard}
use Rattle.base64.specs.GeneralPurpose.{IsBytes, encode_of}
use Rattle.serde_json.specs.Data.{Data, string, object, member, no_members}
use Rattle.serde_json.specs.Find.{get}
use Rattle.device_docs.specs.declared.changes.Change.{Change}
use Rattle.device_docs.specs.declared.keys.Key.TheVariants as k
use Rattle.device_docs.specs.declared.updates.JobStatus.{JobStatus}
use Rattle.device_docs.specs.Keys.{key_text}
use Rattle.device_docs.specs.Members.{value_of}
use Rattle.device_docs.specs.Changes.{change_in, fault_in}
use Rattle.device_docs.specs.Jobs.{digest_of, is_idle, said_in}
use Rattle.device_docs.specs.Updates.{status_word, update_text}

-- A text has these bytes as its digest exactly where it is their Base64 (RFC 4648, section 4) and they are 32.
abbrev pub DigestsAreBase64 : Type 0
DigestsAreBase64 = (text bytes : List ℕ) → IsBytes text → IsBytes bytes → (digest_of text ≡ Some bytes) ↔ ((text ≡ encode_of standard bytes) × (length bytes ≡ 32))

-- Where no fault applies there is a job, unless there is no execution or one without members.
abbrev pub OnlyIdleNamesNoJob : Type 0
OnlyIdleNamesNoJob = (d : Data) → said_in d ≡ Ok None → is_idle (get (key_text k.Execution) d) ≡ true

-- Where no fault applies there is a change.
abbrev pub FaultlessIsAChange : Type 0
FaultlessIsAChange = (text : List ℕ) → fault_in text ≡ None → (change : Change) × (change_in text ≡ Some change)

-- An update is an object with one member, the word of the status.
abbrev pub UpdatesAreJson : Type 0
UpdatesAreJson = (status : JobStatus) → value_of (update_text status) ≡ Some (object (member (codes "status") (string (status_word status)) no_members))

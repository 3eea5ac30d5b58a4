use Rattle.std.proofs.Common.{refl}
use Rattle.std.specs.Str.{is_utf8, chars}
use Rattle.serde_json.proofs.OnLiterals.{serde_json_on_literals}
use Rattle.device_docs.specs.declared.updates.JobStatus.TheVariants as s
use Rattle.device_docs.specs.Members.{value_of}
use Rattle.device_docs.specs.Laws.{UpdatesAreJson}
use Rattle.device_docs.proofs.laws.updates_are_json.Goals as goal

read : UpdatesAreJson
unfolding value_of is_utf8 chars serde_json_on_literals
read s.InProgress = refl
read s.Succeeded = refl
read s.Failed = refl
read s.Rejected = refl

pub returns : goal.returns
returns c = read

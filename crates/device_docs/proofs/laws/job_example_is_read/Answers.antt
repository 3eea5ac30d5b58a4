use Rattle.std.proofs.Common.{refl}
use Rattle.std.specs.Str.{is_utf8, chars}
use Rattle.base64.proofs.OnLiterals.{base64_on_literals}
use Rattle.serde_json.proofs.OnLiterals.{serde_json_on_literals}
use Rattle.thing_topics.specs.Classes.{is_job, is_stream}
use Rattle.device_docs.specs.Jobs.{said, digest_of}
use Rattle.device_docs.specs.Members.{value_of}
use Rattle.device_docs.proofs.laws.job_example_is_read.Goals as goal

pub returns : goal.returns
unfolding said value_of digest_of is_job is_stream is_utf8 chars serde_json_on_literals base64_on_literals
returns c = refl

use Rattle.std.proofs.Common.{refl}
use Rattle.std.specs.Str.{is_utf8, chars}
use Rattle.serde_json.proofs.OnLiterals.{serde_json_on_literals}
use Rattle.device_docs.specs.Changes.{fault_in, change_in}
use Rattle.device_docs.specs.Members.{value_of}
use Rattle.device_docs.proofs.laws.change_example_is_read.Goals as goal

pub returns : goal.returns
unfolding fault_in change_in value_of is_utf8 chars serde_json_on_literals
returns c = (refl, refl)

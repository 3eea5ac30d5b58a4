use Rattle.std.proofs.Common.{sym, ap, ◌∙◌}
use Rattle.std.specs.Option.{option_map}
use Rattle.serde_json.specs.Find.{get}
use Rattle.serde_json.specs.View.{view, members_view}
use Rattle.device_docs.specs.declared.keys.Key.TheVariants as k
use Rattle.device_docs.specs.Keys.{key_text}
use Rattle.device_docs.proofs.Views.{idle_is}
use Rattle.device_docs.proofs.jobs.is_idle.Goals as goal

pub returns-in-Some-as_object : goal.returns-in-Some-as_object
returns-in-Some-as_object c =
    let found = sym (ap (option_map (λ v. view v.now)) c.in-Some.is) ∙ c.get.ensures ∙ ap (λ name. get name (view c.args.document.now)) c.name.ensures in
    let members = sym (ap (option_map (λ m. members_view m.now.entries)) c.in-Some-as_object.is) ∙ c.as_object.ensures in
    idle_is (get (key_text k.Execution) (view c.args.document.now)) (view c.in-Some.execution.now) c.in-Some-as_object.members.now.entries c.is_empty.result found members c.is_empty.ensures

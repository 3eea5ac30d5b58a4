-- What a text says, by the object that it is.
use Rattle.std.proofs.Common.{◌≡◌, ℕ, List, Option, Some, Result, Err, sym, ap, ◌∙◌, subst}
use Rattle.serde_json.specs.Data.{Data}
use Rattle.serde_json.specs.View.{view}
use Rattle.device_docs.specs.declared.faults.DocFault.{DocFault}
use Rattle.device_docs.specs.declared.faults.Unread.{Unread}
use Rattle.device_docs.specs.declared.faults.Unread.TheVariants as u
use Rattle.device_docs.specs.declared.jobs.Job.{Job}
use Rattle.device_docs.specs.Answers.{Fails, Gives, Reads, unread_document}
use Rattle.device_docs.specs.Members.{document_of}
use Rattle.device_docs.specs.Jobs.{said, said_by}
use Rattle.device_docs.specs.JobSteps.{read_in}
use Rattle.device_docs.proofs.JobSteps.{read_is}

pub object_says : (text : List ℕ) (d : Data) (result : Result (Option Job) DocFault) → document_of text ≡ Some d → Gives (λ job. job) result (read_in d) → Gives (λ job. job) result (said text)
unfolding said
object_says text d result e gives = subst (λ (r : Result (Option Job) DocFault). Gives (λ job. job) result r) (sym (ap said_by e ∙ sym (read_is d))) gives

pub unread_says : (text : List ℕ) (unread : Unread) (fault : DocFault) → Reads view (Err unread) (document_of text) → fault ≡ unread_document unread → Fails fault (said text)
unfolding said
unread_says text u.NotJson fault none e = rw e (ap said_by none)
unread_says text u.NoMemory fault none e = rw e tt

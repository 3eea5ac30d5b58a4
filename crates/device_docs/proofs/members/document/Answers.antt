use Rattle.std.proofs.Common.{◌∙◌, sym}
use Rattle.device_docs.proofs.Documents.{document_is, not_an_object, no_document}
use Rattle.device_docs.proofs.members.document.Goals as goal

pub returns-then-is_object : goal.returns-then-is_object
returns-then-is_object c = document_is c.args.text.now _ c.in-Ok.ensures.ok (sym c.is_object.ensures ∙ c.if-is_object.true)

pub returns-else-is_object : goal.returns-else-is_object
returns-else-is_object c = not_an_object c.args.text.now _ c.in-Ok.ensures.ok (sym c.is_object.ensures ∙ c.if-is_object.false)

pub returns-else-is_memory : goal.returns-else-is_memory
returns-else-is_memory c = no_document c.args.text.now (c.in-Err.ensures.err (λ m. let t = c.is_memory.ensures.1 m in cc))

use Rattle.std.proofs.Common.{ℕ, ◌≤◌, List, Some, length, string_bytes, sym, ap, ◌∙◌, subst}
use Rattle.std.proofs.lemmas.Str.{IsUtf8-string_bytes}
use Rattle.std.specs.Option.{option_copied}
use Rattle.serde_json.specs.Data.{Data, depth}
use Rattle.serde_json.specs.Read.{max_depth}
use Rattle.serde_json.specs.View.{view}
use Rattle.serde_json.specs.Written.{has_float, compact_text}
use Rattle.device_docs.specs.Jobs.{said}
use Rattle.device_docs.proofs.Writing.{IsNameable, IsBack, has_no_float, is_flat, job_says, document_short, of_borrowed}
use Rattle.device_docs.proofs.executions.write_execution.Goals as goal

text_is : goal.returns-clause-text
text_is c =
    let job = option_copied c.args.job in
    c.from_string.ensures ∙ c.in_ok-text.ensures.text (ap has_float c.in_ok-document.ensures.value ∙ has_no_float job) ∙ ap compact_text c.in_ok-document.ensures.value

pub returns-clause-text : goal.returns-clause-text
returns-clause-text c = text_is c

pub returns-clause-read_back : goal.returns-clause-read_back
returns-clause-read_back c =
    let job = option_copied c.args.job in
    let flat : depth (view c.in_ok-document.field-0) ≤ max_depth = subst (λ (d : Data). depth d ≤ max_depth) (sym c.in_ok-document.ensures.value) (is_flat job) in
    let text = string_bytes c.in_ok-text.text in
    ap said c.from_string.ensures
    ∙ job_says job text (of_borrowed IsNameable c.args.job c.requires.nameable) (of_borrowed IsBack c.args.job c.in_ok-document.ensures.digest) (IsUtf8-string_bytes c.in_ok-text.text)
    (c.in_ok-text.ensures.reads_back flat ∙ ap (λ (d : Data). Some d) c.in_ok-document.ensures.value)

pub returns-clause-short : goal.returns-clause-short
returns-clause-short c =
    subst (λ (text : List ℕ). length text ≤ 131072) (sym (text_is c)) (document_short (option_copied c.args.job) (of_borrowed IsNameable c.args.job c.requires.nameable) (of_borrowed IsBack c.args.job c.in_ok-document.ensures.digest))

use Rattle.std.proofs.Common.{ap, ◌∙◌, arith}
use Rattle.shadow_mirror.specs.Documents.{doc}
use Rattle.shadow_mirror.specs.Writers.{Writing}
use Rattle.mirror_run.proofs.Called.{is_text}
use Rattle.mirror_run.proofs.call.text_behind.Goals as goal

pub returns : goal.returns
returns g c =
    let versions = c.in_ok-versions.versions in
    let count = c.in_ok-versions.ensures.count in
    is_text _ c.args.reads (doc c.args.writer.now.published.changes) c.published.result.now versions.items c.as_slice.result.now c.in_ok-page.page c.as_slice.ensures.value
    (c.published.ensures ∙ ap (λ (w : Writing). doc w.published.changes) c.last_versions.ensures.kept) (omega (arith, count, versions.ok.0, c.args.readers.ok.0)) c.in_ok-versions.ensures.late c.in_ok-page.ensures

use Rattle.std.proofs.Common.{◌≡◌, ◌≤◌, [], ◌∷◌, ◌++◌, length, ap, subst, ◌∙◌, arith, length-append}
use Rattle.std.specs.Result.{IfOk}
use Rattle.std.specs.Vec.Iter.{into_iter_items}
use Rattle.std.proofs.lemmas.List.Elements.{All-push, All-rest, All-same}
use Rattle.shadow_mirror.specs.Documents.{doc}
use Rattle.shadow_mirror.specs.Writers.{Writing}
use Rattle.mirror_run.proofs.running.last_versions.Goals as goal

pub loop-reader-preserved : goal.loop-reader-preserved
loop-reader-preserved g c =
    let at = c.loop-reader in
    let version = c.in_ok-last_version.field-0 in
    let steps = c.in-Some.ensures.steps.0 in
    let gone = c.in-Some.ensures.steps.1 in
    let shorter = ap length steps in
    let items = c.in_ok-push.ensures.items in
    let longer : length c.push.new.self.items ≡ length (at.versions.items ++ version ∷ []) = ap length items in
    let left = at.invariant.left in
    let count = at.invariant.count in
    record {
      kept = c.last_version.ensures.kept ∙ at.invariant.kept;
      books = All-rest (λ reader. IfOk reader (λ r. r.book ≡ c.args.writer.now.published.book)) c.in-Some.reader (into_iter_items c.next.new.self) (into_iter_items at.reader-iterator) steps at.invariant.books;
      left = omega (arith, left, gone, shorter);
      count = omega (arith, count, shorter, longer, length-append at.versions.items (version ∷ []));
      late = All-same (λ v. (doc c.args.writer.now.published.changes).version ≤ v) c.push.new.self.items (at.versions.items ++ version ∷ []) items
          (All-push (λ v. (doc c.args.writer.now.published.changes).version ≤ v) at.versions.items version at.invariant.late
          (subst (λ (w : Writing). (doc w.published.changes).version ≤ version) at.invariant.kept c.in_ok-last_version.ensures.late));
    }

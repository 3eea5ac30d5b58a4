use Rattle.std.proofs.Common.{ap, subst}
use mathlib.Core.List.{IsPrefix}
use Rattle.device_docs.specs.declared.changes.Change.{Change}
use Rattle.std.proofs.Common.{List}
use Rattle.mirror_run.proofs.Growing.{late}
use Rattle.mirror_run.proofs.running.last_version.Goals as goal

pub returns-clause-late : goal.returns-clause-late
returns-clause-late g c =
    late c.args.writer.now.published.changes c.learn.new.self.told c.read.new.self.seen c.in_ok-version.version
    (subst (λ (l : List Change). IsPrefix l c.learn.new.self.told) (ap (λ p. p.changes) c.tell.ensures.told) c.learn.ensures.told) c.read.ensures.told c.in_ok-version.ensures.version

use Rattle.std.proofs.Common.{rules}
use Rattle.shadow_mirror.proofs.Published.{all_logged, shown_is}
use Rattle.shadow_mirror.proofs.writer.MirrorWriter.publish.Goals as goal

pub returns-clause-ok : goal.returns-clause-ok
returns-clause-ok g c =
    let old = c.self.inside in
    let us = all_logged old.writer (λ x. x.desk.shown.value) _ _ old.history c.log_all.new.history old.pending.items c.as_slice-2.result.now old.logged c.log_all.new.logged c.as_slice-2.ensures.value c.self.invariant.2 c.log_all.ensures.more c.in_ok-log_all.ensures.all in
    let shown = shown_is c.put_back.new.home c.show-writer.result.0 (λ x. x.desk.shown.value) c.log_all.new.history c.new-page.result _ c.put_back.ensures (search rules) (search rules) us in
    (rw (← c.self.view_is) shown, search rules)

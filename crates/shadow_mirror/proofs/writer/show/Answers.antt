use Rattle.std.proofs.Common.{◌≡◌, drop, fold, refl, sym, ◌∙◌, ap}
use Rattle.shadow_mirror.specs.Pasts.{Past}
use Rattle.shadow_mirror.proofs.Sights.{sights, appended, shows, knows}
use Rattle.left_right.specs.Sides.{view}
use Rattle.shadow_mirror.proofs.writer.show.Goals as goal

pub publish_as-requires : goal.publish_as-requires
publish_as-requires g c next is =
    let last : next ≡ c.args.next = appended c.append.result c.append.new.self.desk.shown.value c.args.next next (drop c.args.writer.behind c.args.writer.log.items) (drop c.append.new.self.behind c.append.new.self.log.items) _ (sym c.if-is_err.ensures.value) c.append.ensures.pending is in
    sights _ _ c.append.new.self.desk.shown.value next (ap (λ d. d.shown.value.book) c.append.ensures.desk ∙ c.requires.known.1 ∙ sym (ap (λ (p : Past). p.book) last))

pub returns-clause-ok : goal.returns-clause-ok
returns-clause-ok g c =
    let x = c.append.new.self.desk.shown.value in
    let now = drop c.append.new.self.behind c.append.new.self.log.items in
    let last = appended c.append.result x c.args.next (fold (λ (_ n : Past). n) x now) (drop c.args.writer.behind c.args.writer.log.items) now _ (sym c.if-is_err.ensures.value) c.append.ensures.pending refl in
    shows c.publish_as.result.1 x c.publish_as.result.0.desk.shown.value c.args.next now _ _ last c.publish_as.ensures.values

pub returns-clause-known : goal.returns-clause-known
returns-clause-known g c =
    let x = c.append.new.self.desk.shown.value in
    let now = drop c.append.new.self.behind c.append.new.self.log.items in
    let last = appended c.append.result x c.args.next (fold (λ (_ n : Past). n) x now) (drop c.args.writer.behind c.args.writer.log.items) now _ (sym c.if-is_err.ensures.value) c.append.ensures.pending refl in
    let shown = shows c.publish_as.result.1 x c.publish_as.result.0.desk.shown.value c.args.next now _ _ last c.publish_as.ensures.values in
    let known = ap (λ d. view d.place) c.append.ensures.desk ∙ c.requires.known.0 in
    knows c.publish_as.result.1 _ _ x c.publish_as.result.0.desk.shown.value c.args.next known c.publish_as.ensures.rule shown

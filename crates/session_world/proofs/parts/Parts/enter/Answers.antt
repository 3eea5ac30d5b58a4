use Rattle.std.proofs.Common.{sym, ap, ◌∙◌, refl, subst}
use Rattle.agent_journal.specs.Wires.{sends}
use Rattle.session_world.specs.declared.parts.Parts.{Parts}
use Rattle.session_world.specs.Kept.{Kept, StandsFor, Ties}
use Rattle.session_world.specs.Queued.{items_in}
use Rattle.session_world.specs.Setups.{dev, usual}
use Rattle.session_world.specs.Viewed.{kept_in}
use Rattle.session_world.specs.World.{followed, noted, sent}
use Rattle.session_world.proofs.Tying.{no_row_now, none_there, pushed_ties, some_row_now}
use Rattle.session_world.proofs.parts.Parts.enter.Goals as goal

pub returns-then-not-may-clause-entered : goal.returns-then-not-may-clause-entered
returns-then-not-may-clause-entered c = λ w place h. no_row_now (kept_in c.args.self.now) w place c.time-at.result c.args.cause c.time-at.ensures (sym c.may.ensures.now ∙ c.if-not-may.true) h.ties

pub follow-requires : goal.follow-requires
follow-requires c = λ is.
    ap (λ (p : Parts). p.broker.link) c.in_ok-cause.ensures.rest
    ∙ none_there (kept_in c.args.self.now) c.time-at.result c.args.cause c.requires.stood (sym c.may.ensures.now ∙ c.if-not-may.false) (sym c.in_ok-cause.ensures.cause.1 ∙ is)

pub returns-clause-entered : goal.returns-clause-entered
returns-clause-entered c = λ w place h.
    some_row_now (kept_in c.args.self.now) (kept_in c.follow.new.self) w place c.time-at.result c.args.cause c.time-at.ensures (sym c.may.ensures.now ∙ c.if-not-may.false) h.ties (λ found is.
    let reserved = subst (λ items. StandsFor (record (kept_in c.args.self.now) { up = sends items }) w) (sym c.in_default.ensures.items) h in
    let made = c.in_ok-cause.ensures.noted w place found reserved is in
    let pushed =
    pushed_ties (kept_in c.note.new.self) (items_in c.note.new.self.up) (items_in c.push.new.self) c.into_vec.result.items c.args.cause w place c.time-at.result found refl c.push.ensures (c.into_vec.ensures ∙ made.0) made.1
    in
    subst (λ cause. Ties (kept_in c.follow.new.self) (followed dev usual cause (sent dev usual c.args.cause found.effects (noted dev usual place c.time-at.result c.args.cause found.effects w)))) c.in_ok-cause.ensures.cause.1
    (c.follow.ensures.followed (sent dev usual c.args.cause found.effects (noted dev usual place c.time-at.result c.args.cause found.effects w)) pushed))

use Rattle.std.proofs.Common.{◌+◌, refl, sym, ap, ◌∙◌}
use Rattle.session_world.specs.Playing.{is_connected}
use Rattle.session_world.specs.Viewed.{kept_in}
use Rattle.session_world.proofs.Events.{break_played}
use Rattle.session_world.proofs.parts.Parts.break_off.Goals as goal

pub returns-clause-plays : goal.returns-clause-plays
returns-clause-plays c =
    break_played (kept_in c.args.self.now) (kept_in c.fault.new.self) (kept_in c.empty.new.self) (c.empty.new.self.breaks + 1) (sym (ap is_connected c.phase.ensures.now) ∙ sym c.is_connected.ensures ∙ c.if-not-is_connected.false)
    c.in_default.ensures.faulted c.empty.ensures.emptied (c.empty.ensures.breaks ∙ c.in_default.ensures.breaks) refl

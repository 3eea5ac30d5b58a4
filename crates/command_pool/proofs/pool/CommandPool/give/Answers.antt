use Rattle.std.proofs.Common.{rules, ap, subst, ◌∙◌, ◌≡◌, ◌≢◌}
use Rattle.command_pool.specs.Hands.{times}
use Rattle.command_pool.specs.Passes.{Pass, Numbered}
use Rattle.command_pool.proofs.Held.{gone, times-without_other}
use Rattle.command_pool.proofs.Moves.{sets_by}
use Rattle.command_pool.proofs.pool.CommandPool.give.Goals as goal

pub fetch_or-requires : goal.fetch_or-requires
fetch_or-requires g c = (search rules, search rules, sets_by _ _ _ _ _ c.permit.invariant _ c.bit_of.ensures (search rules))

pub returns-clause-gone : goal.returns-clause-gone
returns-clause-gone g c =
    let told = c.fetch_or.ensures.2 c.permit.inside.id c.permit.invariant c.bit_of.ensures in
    subst (λ (p : Numbered). times p.id c.fetch_or.new.seat.me.0.held ≡ 0) c.permit.view_is (ap (λ m. times c.permit.inside.id m.0.held) told.0 ∙ gone _ _ told.1)

pub returns-clause-others : goal.returns-clause-others
returns-clause-others g c x apart =
    let told = c.fetch_or.ensures.2 c.permit.inside.id c.permit.invariant c.bit_of.ensures in
    let other : x ≢ c.permit.inside.id = λ e. apart (e ∙ ap (λ (p : Numbered). p.id) c.permit.view_is) in
    ap (λ m. times x m.0.held) told.0 ∙ times-without_other _ x _ other ∙ ap (λ (p : Pass). times x p.held) c.pass.view_is

use Rattle.std.proofs.Common.{rules, ap, suc, subst, ◌∙◌, ◌++◌}
use Rattle.command_pool.specs.Passes.{Pass}
use Rattle.command_pool.proofs.Tries.{HasFrom, lowest, is_seen, of_pool, behind_hit, behind_miss, onward, smaller, all_tried}
use Rattle.command_pool.proofs.pool.CommandPool.take_one_of.Goals as goal

pub returns-then-reach-clause-id : goal.returns-then-reach-clause-id
returns-then-reach-clause-id g c =
    let inv = c.loop-left.invariant.2 in
    let low = lowest c.loop-left.left c.loop-left.auto.left-fits.fits c.loop-left-test.true in
    (low.0, of_pool _ _ _ _ inv.1 low _ c.requires.fits, is_seen _ _ _ _ inv.1 low)

pub returns-then-reach-clause-some : goal.returns-then-reach-clause-some
returns-then-reach-clause-some g c =
    let inv = c.loop-left.invariant.2 in
    let low = lowest c.loop-left.left c.loop-left.auto.left-fits.fits c.loop-left-test.true in
    (search rules, search rules, behind_hit _ _ _ _ inv.1 low _ _ _ inv.2 (ap (λ (p : Pass). p.steps) c.if-reach.ensures.hit))

pub loop-left-smaller : goal.loop-left-smaller
loop-left-smaller g c =
    rw c.all_but-left.ensures (smaller _ _ _ _ c.loop-left.invariant.2.1 (lowest c.loop-left.left c.loop-left.auto.left-fits.fits c.loop-left-test.true))

pub loop-left-preserved : goal.loop-left-preserved
loop-left-preserved g c =
    let inv = c.loop-left.invariant.2 in
    let low = lowest c.loop-left.left c.loop-left.auto.left-fits.fits c.loop-left-test.true in (
      search rules,
      search rules,
      (
        suc _,
        rw c.all_but-left.ensures (onward _ _ _ _ inv.1 low c.loop-left.auto.left-fits.fits),
        behind_miss _ _ _ _ inv.1 low _ _ _ inv.2 (ap (λ (p : Pass). p.steps) c.if-reach.ensures.miss),
      ),
    )

pub returns-clause-none : goal.returns-clause-none
returns-clause-none g c =
    let inv = c.loop-left.invariant.2 in
    (search rules, inv.2 ∙ ap (λ l. l ++ c.args.pass.now.steps) (all_tried _ _ _ (subst (HasFrom inv.0 c.args.seen) c.loop-left-test.false inv.1) c.requires.fits))

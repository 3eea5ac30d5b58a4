use Rattle.command_words.proofs.Building.{one_row_more}
use Rattle.command_words.proofs.apps.command.Goals as goal

pub loop-row-preserved : goal.loop-row-preserved
loop-row-preserved c =
    one_row_more c.args.name.now c.args.rows.now c.loop-row.row-index _ _ _ c.loop-row-test.true c.loop-row.invariant (c.in_ok-command.ensures.shape c.arg.ensures.local) c.arg.ensures.rule

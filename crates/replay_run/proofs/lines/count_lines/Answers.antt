use Rattle.std.proofs.Common.{◌≤◌, length, arith}
use Rattle.replay_run.proofs.Counts.{lines_counted}
use Rattle.replay_run.proofs.lines.count_lines.Goals as goal

pub returns-clause-count : goal.returns-clause-count
returns-clause-count c =
    let end : length c.args.text.now ≤ c.lines.at = omega (arith, c.lines-test.false) in
    lines_counted c.args.text.now c.lines.count c.lines.at _ c.lines.invariant.so_far end

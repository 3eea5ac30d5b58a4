use Rattle.std.proofs.Common.{ap, ◌∙◌}
use Rattle.command_words.proofs.Building.{none_pushed, one_option_more, one_pushed}
use Rattle.command_words.proofs.matches.options_found.Goals as goal
use Rattle.command_words.proofs.matches.options_found.Goals.{in-Some+in_ok-push, in_default}

pub loop-row-preserved : goal.loop-row-preserved
loop-row-preserved c = record {
  so_far = λ options sound hold.
      one_option_more options c.args.rows.now c.loop-row.row-index _ c.args.matches.now c.loop-row.given.items c.option_of.result _ c.loop-row-test.true sound hold (c.option_of.ensures options) (c.loop-row.invariant.so_far options sound hold)
      (elim c.match-option_of.branch [
        | in-Some+in_ok-push w ↦ one_pushed c.loop-row.given.items w.in-Some.option c.option_of.result w.in-Some.is (ap (λ g. g.items) w.given-is ∙ w.in_ok-push.ensures.items)
        | in_default w ↦ none_pushed c.loop-row.given.items c.option_of.result w.in_default.is (ap (λ g. g.items) w.given-is)
      ]);
}

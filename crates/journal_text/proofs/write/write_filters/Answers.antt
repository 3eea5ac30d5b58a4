use Rattle.agent_link.proofs.Writing.{stopped, stopped_within}
use Rattle.journal_text.specs.Texts.{filter_text}
use Rattle.journal_text.proofs.write.write_filters.Goals as goal

pub returns-in_err-write_filter-clause-text : goal.returns-in_err-write_filter-clause-text
returns-in_err-write_filter-clause-text g c =
    stopped _ _ _ c.from_residual.result _ c.from_residual.ensures.1
    (stopped_within filter_text _ _ _ c.args.filters.now c.loop-filter.filter-index c.filter-item.result c.filter-item.result c.loop-filter-test.true c.filter-item.is c.loop-filter.invariant.so_far c.in_err-write_filter.ensures.text)

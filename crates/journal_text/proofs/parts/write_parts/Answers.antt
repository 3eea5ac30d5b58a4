use Rattle.agent_link.proofs.Writing.{stopped, stopped_within}
use Rattle.journal_text.specs.Parts.{part_text}
use Rattle.journal_text.proofs.parts.write_parts.Goals as goal

pub returns-in_err-write_part-clause-text : goal.returns-in_err-write_part-clause-text
returns-in_err-write_part-clause-text g c =
    stopped _ _ _ c.from_residual.result _ c.from_residual.ensures.1
    (stopped_within part_text _ _ _ c.args.parts.now c.loop-part.part-index c.part-item.result c.part-item.result c.loop-part-test.true c.part-item.is c.loop-part.invariant.so_far c.in_err-write_part.ensures.text)

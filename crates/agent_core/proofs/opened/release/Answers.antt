use Rattle.agent_core.proofs.Openings.{pubrec_tied, pubrec_released, pubrec_held}
use Rattle.agent_core.proofs.opened.release.Goals as goal

pub returns-clause-tied : goal.returns-clause-tied
returns-clause-tied g c = pubrec_tied c.args.pending.now c.args.qos.now c.requires.tied c.len.ensures.differ c.args.id c.on_ack.new.self c.on_ack.ensures.stages

pub returns-clause-released : goal.returns-clause-released
returns-clause-released g c = pubrec_released c.args.pending.now c.args.qos.now c.requires.tied c.len.ensures.differ c.args.id c.on_ack.new.self c.on_ack.ensures.stages

pub returns-clause-held : goal.returns-clause-held
returns-clause-held g c = pubrec_held c.args.pending.now c.args.qos.now c.requires.tied c.len.ensures.differ c.args.id c.on_ack.new.self c.on_ack.ensures.stages

use Rattle.std.proofs.Common.{subst}
use Rattle.agent_table.specs.Histories.{IsLegalPast}
use Rattle.agent_line.specs.Recorded.{Recorded}
use Rattle.agent_line.proofs.Making.{stays_few}
use Rattle.agent_line.proofs.recorder.Recorder.stays.Goals as goal

pub returns : goal.returns
returns g c = record { few = stays_few c.args.self.now (subst (λ (r : Recorded). IsLegalPast r.setup r.sizes r.past) c.self.view_is c.self.invariant.0.legal) c.args.now }

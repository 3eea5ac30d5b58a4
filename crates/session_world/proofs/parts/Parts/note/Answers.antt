use Rattle.std.proofs.Common.{ap}
use Rattle.agent_core.specs.Kept as agent
use Rattle.session_world.specs.Viewed.{kept_in}
use Rattle.session_world.proofs.Tying.{noted_ties}
use Rattle.session_world.proofs.parts.Parts.note.Goals as goal

pub returns-in-Ok-clause-noted : goal.returns-in-Ok-clause-noted
returns-in-Ok-clause-noted c = λ w place found h is.
    noted_ties (kept_in c.args.self.now) c.step.new.self c.add.new.self c.in-Ok.entry c.args.at c.args.cause w place found h.ties is c.in-Ok.ensures.entry.0 c.in-Ok.ensures.entry.1 c.in-Ok.ensures.effects c.in-Ok.ensures.stands
    (ap (λ (k : agent.Kept). k.setup) c.in-Ok.ensures.next) (ap (λ (k : agent.Kept). k.sizes) c.in-Ok.ensures.next)
    (record { entries = c.add.ensures.entries; takes = c.add.ensures.takes; published = c.add.ensures.published; done = c.add.ensures.done; told = c.add.ensures.told; few = c.add.ensures.few })

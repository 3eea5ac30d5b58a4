use Rattle.std.proofs.Common.{None, sym, ◌∙◌}
use Rattle.session_world.specs.Viewed.{kept_in}
use Rattle.session_world.proofs.Tying.{fault_none, fault_made}
use Rattle.session_world.proofs.parts.Parts.fault.Goals as goal

pub returns-then-not-may-clause-faulted : goal.returns-then-not-may-clause-faulted
returns-then-not-may-clause-faulted c = λ w h now. fault_none (kept_in c.args.self.now) w c.time-at.result c.time-at.ensures (sym c.may.ensures.now ∙ c.if-not-may.true) h.ties

pub returns-in-Ok-clause-faulted : goal.returns-in-Ok-clause-faulted
returns-in-Ok-clause-faulted c = λ w h now.
    fault_made (kept_in c.args.self.now) (kept_in c.note.new.self) w c.time-at.result c.time-at.ensures (sym c.may.ensures.now ∙ c.if-not-may.false) now h.ties (λ found is. (c.in-Ok.ensures.noted w None found h is).1)

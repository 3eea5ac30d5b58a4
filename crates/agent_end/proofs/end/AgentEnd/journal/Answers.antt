use Rattle.std.proofs.Common.{subst}
use Rattle.agent_end.specs.Serving.{Serving}
use Rattle.agent_end.specs.Owed.{NoneIsToldTwice, held_in}
use Rattle.agent_end.proofs.Owing.{none_twice_by}
use Rattle.agent_end.proofs.end.AgentEnd.journal.Goals as goal

pub returns-clause-once : goal.returns-clause-once
returns-clause-once g c =
    let a : Serving = record { taking = c.self.inside.intake; mail = c.self.inside.posts; short = c.self.inside.short } in
    subst (λ (x : Serving). NoneIsToldTwice x) c.self.view_is (none_twice_by c.self.inside.owed.commands.items c.self.inside.owed.closed c.self.inside.owed.left a (held_in a) c.self.invariant.2)

use Rattle.std.proofs.Common.{drop, sym, ap, ◌∙◌}
use Rattle.agent_link.specs.Plans.{Held}
use Rattle.agent_link.proofs.Gave.{gave, gave_all}
use Rattle.agent_link.proofs.memory.source.MemSourceSource.read.Goals as goal

pub returns-clause-bytes : goal.returns-clause-bytes
returns-clause-bytes c =
    let rest_is = c.split_at.ensures.back ∙ ap (drop c.self.inside.at) c.as_slice.ensures.value in
    let told_is = ap (λ (k : Held). k.bytes) (sym c.self.view_is) in (
      gave c.self.inside.bytes.items c.split_at.result.1.now c.give-count.new.buf c.args.self.now.bytes c.self.inside.at c.give-count.result told_is rest_is c.give-count.ensures.front,
      gave_all c.self.inside.bytes.items c.split_at.result.1.now c.args.buf.now c.give-count.new.buf c.self.inside.at c.give-count.result rest_is c.give-count.ensures.count c.give-count.ensures.len,
    )

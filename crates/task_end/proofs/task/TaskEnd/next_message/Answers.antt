use Rattle.std.proofs.Common.{◌≡◌, ℕ, ◌<◌, [], ◌∷◌, ◌++◌, drop, length, sym, ap, ◌∙◌, arith}
use Rattle.circular_buffer.specs.Buffer.{Buffer}
use Rattle.agent_journal.specs.declared.message.Message.{Message}
use Rattle.task_end.specs.Sides.{Tasking}
use Rattle.task_end.proofs.Loops.{keeping_on, none_there}
use Rattle.task_end.proofs.task.TaskEnd.next_message.Goals as goal

pub take_in-requires : goal.take_in-requires
take_in-requires g c =
    let none = none_there c.self.inside.kept.items (sym c.pop_front.ensures.value ∙ c.in_default.is) in
    let gone = ap (λ (b : Buffer (Message × ℕ)). b.items) c.pop_front.ensures.items ∙ ap (drop 1) none in
    (omega arith, omega (arith, ap length gone, c.self.invariant.1))

pub loop-preserved : goal.loop-preserved
loop-preserved g c =
    let none = none_there c.self.inside.kept.items (sym c.pop_front.ensures.value ∙ c.in_default.is) in
    let gone = ap (λ (b : Buffer (Message × ℕ)). b.items) c.pop_front.ensures.items ∙ ap (drop 1) none in
    let took = c.if-not-take_in.ensures.took in (
      c.loop.invariant.0 ++ took.0 ∷ [],
      keeping_on c.loop.invariant.0 took.0 c.args.self.now (record { side = c.self.inside.side; kept = c.pop_front.new.self.items }) c.take_in.new.self
          ((λ i. record { side = c.self.inside.side; kept = (gone ∙ sym none) i }) ∙ (c.self.view_is ∙ c.loop.invariant.1)) took.1,
    )

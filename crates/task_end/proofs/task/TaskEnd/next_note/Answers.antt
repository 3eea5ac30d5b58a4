use Rattle.std.proofs.Common.{◌≡◌, List, [], drop, sym, ap, subst, ◌∙◌}
use Rattle.circular_buffer.specs.Buffer.{Buffer}
use Rattle.std.proofs.Common.{ℕ}
use Rattle.agent_journal.specs.declared.message.Message.{Message}
use Rattle.task_queues.specs.declared.note.Note.{Note}
use Rattle.task_end.specs.Sides.{Tasking, IsBehind}
use Rattle.task_end.specs.Answers.{IsNext, looks_for}
use Rattle.task_end.proofs.Loops.{none_there, next_of}
use Rattle.task_end.proofs.task.TaskEnd.next_note.Goals as goal

pub returns-in-None-clause-got : goal.returns-in-None-clause-got
returns-in-None-clause-got g c =
    let none = none_there c.self.inside.kept.items (sym c.pop_front.ensures.value ∙ c.in-None.is) in
    subst (λ (t : Tasking). (more : List Note) × IsBehind more (looks_for c.take_in.result) t.side c.take_in.new.self × IsNext t.kept c.take_in.result more c.pop_front.new.self.items)
    c.self.view_is
    (next_of c.take_in.result c.self.inside.kept.items c.pop_front.new.self.items c.self.inside.side c.take_in.new.self none
    (ap (λ (b : Buffer (Message × ℕ)). b.items) c.pop_front.ensures.items ∙ ap (drop 1) none) c.take_in.ensures.some c.take_in.ensures.none)

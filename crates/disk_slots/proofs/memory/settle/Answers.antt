use Rattle.std.proofs.Common.{◌-◌, ℕ, List, take, drop, ◌∙◌, ap}
use Rattle.disk_slots.specs.Disks.{overwritten}
use Rattle.disk_slots.proofs.Marks.{settled_is}
use Rattle.disk_slots.proofs.memory.settle.Goals as goal

pub returns : goal.returns
returns c =
    let from = c.args.from in
    let to = c.args.to in
    let was = c.args.settled.now.items in
    c.put.ensures
    ∙ ap (λ (l : List ℕ). overwritten from (take (to - from) (drop from l)) was) c.deref.ensures.value
    ∙ settled_is from to was c.args.present.now.items c.requires.range.0 c.requires.range.1 c.requires.range.2 c.requires.outside.0 c.requires.outside.1

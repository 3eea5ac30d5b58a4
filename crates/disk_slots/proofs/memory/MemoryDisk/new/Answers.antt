use Rattle.std.proofs.Common.{rules, ◌≡◌, false, replicate}
use Rattle.disk_slots.proofs.Marks.{only_settled}
use Rattle.disk_slots.proofs.memory.MemoryDisk.new.Goals as goal

pub returns-clause-only : goal.returns-clause-only
returns-clause-only c =
    let marks : c.in_ok-vec-3.field-0.items ≡ replicate c.args.size false = search rules in
    let settled : c.in_ok-vec.field-0.items ≡ replicate c.args.size 0 = search rules in
    only_settled c.args.size _ _ _ marks settled

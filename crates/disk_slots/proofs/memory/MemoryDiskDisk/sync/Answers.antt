use Rattle.std.proofs.Common.{length, sym}
use Rattle.disk_slots.proofs.Marks.{front_alike, back_alike, only_settled}
use Rattle.disk_slots.proofs.memory.MemoryDiskDisk.sync.Goals as goal

pub settle-requires-clause-outside : goal.settle-requires-clause-outside
settle-requires-clause-outside c =
    let s = c.args.self.now in
    let long = sym s.alike.0 in (
      front_alike s.from s.marks.items s.settled.items s.present.items s.outside.0 s.agrees long,
      back_alike s.to s.marks.items s.settled.items s.present.items s.outside.1 s.agrees long,
    )

pub returns-clause-durable : goal.returns-clause-durable
returns-clause-durable c = only_settled (length c.args.self.now.marks.items) _ _ _ c.unmark.ensures c.settle.ensures

use Rattle.std.proofs.Common.{◌≡◌, length, ◌-◌, ◌≤◌}
use Rattle.disk_slots.specs.Memory.{crashed}
use Rattle.disk_slots.proofs.Crashes.{done}
use Rattle.disk_slots.proofs.crash.pick_all.Given as goal

abbrev pub invariant-loop-i : goal.invariant-loop-i
invariant-loop-i l = (l.i ≤ length l.bytes.items) × (length l.bytes.items ≡ length l.fn.bytes.items) × (done l.pick l.i l.marks.items l.bytes.items ≡ crashed l.pick 0 l.marks.items l.fn.bytes.items)

abbrev pub decreases-loop-i : goal.decreases-loop-i
decreases-loop-i l = length l.bytes.items - l.i

use Rattle.std.proofs.Common.{◌∙◌}
use Rattle.disk_slots.proofs.Marks.{cleared}
use Rattle.disk_slots.proofs.memory.unmark.Goals as goal

pub returns : goal.returns
returns c = c.set_marks.ensures ∙ cleared c.args.from c.args.to c.args.marks.now.items c.requires.range.0 c.requires.range.1 c.requires.outside.0 c.requires.outside.1

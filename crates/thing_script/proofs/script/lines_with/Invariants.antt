use Rattle.std.proofs.Common.{◌≡◌, length}
use Rattle.std.specs.Option.{option_copied}
use Rattle.thing_script.specs.Topics.{lines_with}
use Rattle.thing_script.proofs.Loops.{whole}
use Rattle.thing_script.proofs.script.lines_with.Given as goal

abbrev pub invariant-lines : goal.invariant-lines
invariant-lines l = whole (option_copied l.fn.thing) l.made l.left.items ≡ lines_with (option_copied l.fn.thing) l.fn.lines

abbrev pub decreases-lines : goal.decreases-lines
decreases-lines l = length l.left.items

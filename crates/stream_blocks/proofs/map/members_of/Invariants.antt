-- What is found in the members that are left, behind what was found, is what is found in all of them.
use Rattle.std.proofs.Common.{◌≡◌, ◌+◌, length}
use Rattle.stream_blocks.specs.Reading.{members_in, nothing}
use Rattle.stream_blocks.proofs.map.members_of.Given as goal

abbrev pub invariant-members : goal.invariant-members
invariant-members l = members_in l.form (length l.rest + 1) l.left l.fields l.rest ≡ members_in l.form (length l.bytes + 1) l.fn.left nothing l.bytes

abbrev pub decreases-members : goal.decreases-members
decreases-members l = length l.rest

-- So many bytes were taken.
use Rattle.std.proofs.Common.{◌≡◌, ◌≤◌, ◌-◌, length, take}
use Rattle.agent_line.specs.Told.{more_on}
use Rattle.agent_line.proofs.wire.send_all.Given as goal

abbrev pub invariant-pieces : goal.invariant-pieces
invariant-pieces g l = record {
  within : l.sent ≤ length l.bytes;
  taken : g.L.Link.taken l.link ≡ more_on (g.L.Link.taken l.fn.link) (take l.sent l.bytes);
  given : g.L.Link.given l.link ≡ g.L.Link.given l.fn.link;
  faults : g.L.Link.faults l.link ≡ g.L.Link.faults l.fn.link;
  ends : g.L.Link.ends l.link ≡ g.L.Link.ends l.fn.link;
  nothings : g.L.Link.nothings l.link ≡ g.L.Link.nothings l.fn.link;
}

abbrev pub decreases-pieces : goal.decreases-pieces
decreases-pieces g l = length l.bytes - l.sent

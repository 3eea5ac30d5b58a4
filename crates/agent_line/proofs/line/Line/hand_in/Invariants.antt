-- What came with the packets that were handed in, and that there are turns for those that are left.
use Rattle.std.proofs.Common.{◌≡◌, ◌+◌, ◌<◌, ◌≤◌, length}
use Rattle.agent_ties.specs.Ties.{Handing}
use Rattle.agent_line.specs.Recorded.{Grows}
use Rattle.agent_line.specs.Told.{Told, Since}
use Rattle.agent_line.proofs.line.Line.hand_in.Given as goal

abbrev pub invariant-loop-turn : goal.invariant-loop-turn
invariant-loop-turn g l = record {
  handing : (first : Told) → Since (Handing l.now l.fn.self.splitter) first l.fn.recorder l.fn.self.splitter l.fn.self.idle (record { taken = g.L.Link.taken l.fn.link; given = g.L.Link.given l.fn.link; counts = record { faults = g.L.Link.faults l.fn.link; ends = g.L.Link.ends l.fn.link; nothings = g.L.Link.nothings l.fn.link } })
      → Since (Handing l.now l.self.splitter) first l.recorder l.self.splitter l.self.idle (record { taken = g.L.Link.taken l.link; given = g.L.Link.given l.link; counts = record { faults = g.L.Link.faults l.link; ends = g.L.Link.ends l.link; nothings = g.L.Link.nothings l.link } })
      × (length l.self.splitter.rest + l.turn < l.most);
  idle : l.self.idle ≤ l.fn.self.idle;
  grown : Grows l.now l.fn.recorder l.recorder;
  given : g.L.Link.given l.link ≡ g.L.Link.given l.fn.link;
}

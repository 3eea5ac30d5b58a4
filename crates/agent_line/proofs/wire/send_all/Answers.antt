use Rattle.std.proofs.Common.{refl, arith}
use Rattle.agent_line.proofs.Sending.{took_none}
use Rattle.agent_line.proofs.wire.send_all.Goals as goal

pub pieces-init : goal.pieces-init
pieces-init g c = record {
  within = omega arith;
  taken = took_none (g.L.Link.taken c.args.link.now);
  given = refl;
  faults = refl;
  ends = refl;
  nothings = refl;
}

use Rattle.std.proofs.Common.{arith}
use Rattle.ota_agent.proofs.Flags.{window_len}
use Rattle.ota_agent.proofs.ask.window_len.Goals as goal

pub returns-clause-len : goal.returns-clause-len
returns-clause-len g c = omega (arith, c.min.ensures, c.blocks-2.ensures, window_len c.args.offset c.args.m.now)

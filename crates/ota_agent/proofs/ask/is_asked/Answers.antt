use Rattle.std.proofs.Common.{◌∙◌, arith}
use Rattle.ota_agent.proofs.Flags.{window_at}
use Rattle.ota_agent.proofs.ask.is_asked.Goals as goal

pub returns-then-j-window_len : goal.returns-then-j-window_len
returns-then-j-window_len g c = c.is_missing.ensures ∙ window_at c.args.offset c.args.m.now c.args.j (omega (arith, c.if-j-window_len.true, c.window_len.ensures.len))

use Rattle.std.proofs.Common.{sym}
use Rattle.stream_blocks.proofs.Bits.{flags_len}
use Rattle.stream_blocks.proofs.missing.Missing.blocks.Goals as goal

pub returns : goal.returns
returns g c = rw (← c.self.view_is) (sym (flags_len c.self.inside.blocks c.self.inside.words.items c.self.invariant.1))

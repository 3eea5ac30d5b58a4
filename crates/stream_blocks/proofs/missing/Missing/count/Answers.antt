use Rattle.stream_blocks.proofs.Bits.{count_is, count_fits}
use Rattle.stream_blocks.proofs.missing.Missing.count.Goals as goal

pub count_set-requires : goal.count_set-requires
count_set-requires g c = rw c.as_slice.ensures.value (count_fits c.self.inside.blocks c.self.inside.words.items c.self.invariant.1)

pub returns : goal.returns
returns g c = rw (← c.self.view_is, c.count_set.ensures, c.as_slice.ensures.value) (count_is c.self.inside.blocks c.self.inside.words.items c.self.invariant.1)

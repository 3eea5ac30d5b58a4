use Rattle.std.specs.Prelude.{IfSome, IfNone}
use Rattle.stream_blocks.specs.Sets.{all_bits, IsFirst, HasNone}
use Rattle.stream_blocks.proofs.Bits.{small_places, first_by}
use Rattle.stream_blocks.proofs.missing.Missing.first_missing.Goals as goal

pub first_set-requires : goal.first_set-requires
first_set-requires g c = rw c.as_slice.ensures.value (small_places c.self.inside.blocks c.self.inside.words.items c.self.invariant.1)

pub returns : goal.returns
returns g c =
    let place = c.first_set.result in
    let words = c.self.inside.words.items in
    let some : IfSome place (λ i. IsFirst i (all_bits words)) = rw (← c.as_slice.ensures.value) c.first_set.ensures.some in
    let none : IfNone place (HasNone (all_bits words)) = rw (← c.as_slice.ensures.value) c.first_set.ensures.none in
    rw (← c.self.view_is) (first_by c.self.inside.blocks words place c.self.invariant.1 some none)

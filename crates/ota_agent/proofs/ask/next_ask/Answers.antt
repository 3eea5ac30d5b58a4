use Rattle.std.proofs.Common.{ℕ, ◌+◌, [], ◌∷◌, ◌∙◌, ap, sym, count_ones, length-append, arith}
use Rattle.ota_agent.specs.Requests.{window, map_flags}
use Rattle.ota_agent.proofs.Flags.{first_low, next_byte, next_count, few, whole, count_same}
use Rattle.ota_agent.proofs.ask.next_ask.Goals as goal

pub window_len-requires : goal.window_len-requires
window_len-requires g c = (omega arith, omega (arith, first_low c.args.m.now c.in_ok-offset.offset (sym c.first_missing.ensures ∙ c.in_ok-offset.was)))

pub overflow_add-number : goal.overflow_add-number
overflow_add-number g c =
    omega (arith, c.loop-place.invariant.counted, c.loop-place.invariant.len, c.loop-place-test.true, c.div_ceil-place-end.ensures, c.window_len.ensures.most, few c.loop-place.map.items c.map_byte-byte.result c.map_byte-byte.type_inv)

pub loop-place-preserved : goal.loop-place-preserved
loop-place-preserved g c =
    let flags = window c.in_ok-offset.offset c.args.m.now in
    let map = c.loop-place.map.items in
    let byte = c.map_byte-byte.result in
    rw c.push.ensures.items (record {
      len = length-append map (byte ∷ []) ∙ omega (arith, c.loop-place.invariant.len);
      flags = next_byte flags map c.loop-place.place byte c.loop-place.invariant.len c.loop-place.invariant.flags c.map_byte-byte.ensures;
      counted = ap (λ (n : ℕ). n + count_ones byte) c.loop-place.invariant.counted ∙ next_count map byte c.map_byte-byte.type_inv;
    })

pub returns-clause-map : goal.returns-clause-map
returns-clause-map g c =
    whole (window c.in_ok-offset.offset c.args.m.now) c.loop-place.map.items c.loop-place.place c.loop-place.invariant.len (omega (arith, c.loop-place-test.false, c.div_ceil-place-end.ensures, c.window_len.ensures.len)) c.loop-place.invariant.flags

pub returns-clause-number : goal.returns-clause-number
returns-clause-number g c =
    let flags = window c.in_ok-offset.offset c.args.m.now in
    let same = count_same (map_flags c.loop-place.map.items) flags (whole flags c.loop-place.map.items c.loop-place.place c.loop-place.invariant.len (omega (arith, c.loop-place-test.false, c.div_ceil-place-end.ensures, c.window_len.ensures.len)) c.loop-place.invariant.flags) in
    omega (arith, c.min.ensures, c.loop-place.invariant.counted, same)

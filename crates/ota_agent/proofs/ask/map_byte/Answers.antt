use Rattle.std.proofs.Common.{ℕ, ◌+◌, ◌*◌, ◌∙◌, ap, false, get_or, arith}
use Rattle.ota_agent.specs.Requests.{window}
use Rattle.ota_agent.proofs.Flags.{next_flag, next_small, whole_byte}
use Rattle.ota_agent.proofs.ask.map_byte.Goals as goal

pub loop-taken-preserved : goal.loop-taken-preserved
loop-taken-preserved g c =
    let flags = window c.args.offset c.args.m.now in
    let k = c.loop-taken.taken in
    let end = 8 * c.args.place + 8 in record {
      small = next_small k c.loop-taken.byte c.is_asked-flag.result c.loop-taken.invariant.small;
      flags = next_flag flags end k c.loop-taken.byte c.is_asked-flag.result (omega (arith, c.loop-taken-test.true))
          (c.is_asked-flag.ensures ∙ ap (λ (n : ℕ). get_or flags n false) (omega (arith, c.loop-taken-test.true))) c.loop-taken.invariant.flags;
    }

pub returns : goal.returns
returns g c =
    whole_byte (window c.args.offset c.args.m.now) (8 * c.args.place) c.loop-taken.taken c.loop-taken.byte (omega (arith, c.loop-taken-test.false, c.loop-taken.auto.taken-end)) c.loop-taken.invariant.flags

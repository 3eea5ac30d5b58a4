use Rattle.std.proofs.Common.{length, ap, arith}
use Rattle.std.specs.Prelude.{nat_le}
use Rattle.std.proofs.lemmas.Bool.{and_parts, leb-true}
use Rattle.mqtt_packet.specs.Spelling.{spelling, has_fields}
use Rattle.mqtt_packet.proofs.Fronts.{spell_one}
use Rattle.mqtt_packet.proofs.spell.spelled_len.Goals as goal

pub returns-clause-spelled : goal.returns-clause-spelled
returns-clause-spelled c = λ bytes h.
    let packet = c.args.packet.now in
    let same = ap length ((spell_one packet bytes h).0) in
    let short = leb-true (length (spelling packet)) 262144 (and_parts (has_fields packet) (nat_le (length (spelling packet)) 262144) c.requires).1 in
    omega (arith, same, short, c.len_within.ensures)

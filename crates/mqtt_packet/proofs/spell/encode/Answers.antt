use Rattle.std.proofs.Common.{ℕ, List, drop, rules, sym, subst, ◌∙◌}
use Rattle.std.proofs.lemmas.List.{take-append-le}
use Rattle.mqtt_packet.specs.Grammar.{Spells}
use Rattle.mqtt_packet.proofs.Fronts.{spell_is}
use Rattle.mqtt_packet.proofs.spell.encode.Goals as goal

pub returns-clause-spelled : goal.returns-clause-spelled
returns-clause-spelled c =
    let front = take-append-le c.put_packet.result c.put_packet.new.out (drop c.spelled_len-needed.result c.args.out.now) (search rules) ∙ c.put_packet.ensures.front in
    subst (λ (t : List ℕ). Spells c.args.packet.now t) (sym front) (spell_is c.args.packet.now c.requires c.numbers_fit.ensures)

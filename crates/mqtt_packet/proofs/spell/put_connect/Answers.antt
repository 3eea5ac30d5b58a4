use Rattle.std.proofs.Common.{ℕ, List, [], ◌∷◌, ◌++◌, take, ap, ◌∙◌, append_assoc}
use Rattle.mqtt_packet.specs.Spelling.{protocol, connect_flags, number, string, extras}
use Rattle.mqtt_packet.proofs.spell.put_connect.Goals as goal

pub returns-clause-front : goal.returns-clause-front
returns-clause-front c =
    let before = take c.args.at c.args.out.now in
    let head = protocol ++ (connect_flags c.args.clean c.args.will.now c.args.user.now c.args.password.now) ∷ [] ++ number c.args.keep_alive in
    let client = string c.args.client.now in
    let behind = extras c.args.will.now c.args.user.now c.args.password.now in
    let flags = ap (λ (n : ℕ). before ++ (protocol ++ n ∷ [] ++ number c.args.keep_alive)) c.connect_flags-flags.ensures in
    c.put_extras.ensures.front
    ∙ ap (λ (t : List ℕ). t ++ behind) (c.put_string-at.ensures.front ∙ ap (λ (t : List ℕ). t ++ client) (c.put_connect_head-at.ensures.front ∙ flags) ∙ append_assoc before head client)
    ∙ append_assoc before (head ++ client) behind

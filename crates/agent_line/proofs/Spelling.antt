-- Packets are spelled one after another.
use Rattle.std.proofs.Common.{◌≡◌, ℕ, ◌+◌, ◌<◌, ◌≤◌, List, [], ◌∷◌, ◌++◌, length, take, get_or, sym, ap, ◌∙◌}
use Rattle.std.specs.List.{flat_map}
use Rattle.std.proofs.lemmas.List.{append-nil, take_more, take_all}
use Rattle.std.proofs.lemmas.Grind.{flat_map-append}
use Rattle.mqtt_packet.specs.declared.packet.Packet.{Packet}
use Rattle.mqtt_packet.specs.Spelling.{spelling}
use Rattle.agent_journal.specs.declared.effect.Effect.{Effect}
use Rattle.agent_journal.specs.Wires.{sends, sent_in, packet_in}

sent_both : (xs ys : List Effect) → sent_in (xs ++ ys) ≡ sent_in xs ++ sent_in ys
sent_both xs ys = ap (flat_map spelling) (flat_map-append packet_in xs ys) ∙ flat_map-append spelling (sends xs) (sends ys)

-- one effect more
pub spelled_on : (now next : List ℕ) (effects : List Effect) (i : ℕ) (effect : Effect) → i < length effects → effect ≡ get_or effects i effect → now ≡ sent_in (take i effects)
    → next ≡ now ++ sent_in (effect ∷ []) → next ≡ sent_in (take (i + 1) effects)
spelled_on now next effects i effect within is before more =
    more ∙ ap (λ b. b ++ sent_in (effect ∷ [])) before ∙ sym (sent_both (take i effects) (effect ∷ [])) ∙ ap sent_in (ap (λ e. take i effects ++ e ∷ []) is ∙ sym (take_more effects i effect within))

pub spelled_all : (now : List ℕ) (effects : List Effect) (i : ℕ) → length effects ≤ i → now ≡ sent_in (take i effects) → now ≡ sent_in effects
spelled_all now effects i end h = h ∙ ap sent_in (take_all i effects end)

pub one_spelled : (old new : List ℕ) (packet : Packet) → new ≡ old ++ spelling packet → new ≡ old ++ (spelling packet ++ [])
one_spelled old new packet h = h ∙ ap (λ b. old ++ b) (sym (append-nil (spelling packet)))

pub none_spelled : (old : List ℕ) → old ≡ old ++ []
none_spelled old = sym (append-nil old)

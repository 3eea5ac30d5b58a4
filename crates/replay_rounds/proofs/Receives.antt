-- A receive leaves fewer rounds.
use Rattle.std.proofs.Common.{◌≡◌, ◌⊎◌, ℕ, ◌+◌, ◌≤◌, List, length, take, Option, Some, None, refl, ap, arith, inl, inr}
use Rattle.mqtt_packet.specs.Steps.{fed_to}
use Rattle.agent_link.specs.declared.link.Heard.{Heard}
use Rattle.agent_link.specs.declared.link.Heard.TheVariants as heard
use Rattle.agent_link.specs.Counts.{with_end, with_nothing}
use Rattle.agent_link.specs.Wires.{onto_last}
use Rattle.broker_tape.specs.declared.tape.Item.{Item}
use Rattle.broker_tape.specs.Playing.{hears, present}
use Rattle.agent_journal.specs.declared.entry.Cause.TheVariants as c
use Rattle.agent_journal.specs.declared.entry.Why.TheVariants as why
use Rattle.agent_journal.specs.declared.setup.Phase.TheVariants.{Down, Opening, Up}
use Rattle.agent_table.specs.Effects.{lose_link}
use Rattle.agent_table.specs.Histories.{readings}
use Rattle.agent_table.specs.Readings.{at_most}
use Rattle.agent_table.specs.Rows.{Row}
use Rattle.replay_rounds.specs.World.{World, phase_in, row_in}
use Rattle.replay_rounds.specs.Entering.{noted, failed}
use Rattle.replay_rounds.specs.Receiving.{hands, idles, received_by, receives}
use Rattle.replay_rounds.specs.Bound.{weights}
use Rattle.replay_rounds.proofs.Kept.{Any, hands_on, idles_on, noted_on}
use Rattle.replay_rounds.proofs.Moments.{IsTimely, noted_phase}
use Rattle.agent_ties.proofs.Rows.{end_opening, end_up}
use Rattle.replay_rounds.proofs.Tamed.{Tamed, tamed, itself, Fewer, by_item, by_phase, rounds_in, down_weighs, opening_weighs, up_weighs}
use Rattle.replay_rounds.proofs.Weights.{Lowers, hears_less}

-- packets are handed in
abbrev pub IsListening : World → Type 0
IsListening w = (phase_in w ≡ Opening) ⊎ (phase_in w ≡ Up)

pub at_least : (w : World) → IsListening w → 4 + w.setup.reopen ≤ rounds_in w
at_least w (inl opening) = let same = opening_weighs w opening in omega (arith, same)
at_least w (inr up) = let same = up_weighs w up in omega (arith, same)

abbrev lost : (w : World) → Row
lost w = record { effects = lose_link (readings w.setup w.sizes w.past); phase = Down }

end_there : (now : ℕ) (w : World) → IsTimely now w → IsListening w → row_in w now (c.Broke why.End) ≡ Some (lost w)
end_there now w h (inl opening) = end_opening w.setup w.sizes (readings w.setup w.sizes w.past) now h.time opening
end_there now w h (inr up) = end_up w.setup w.sizes (readings w.setup w.sizes w.past) now h.time up

-- a tape whose connection is at its end
ended_fewer : (now : ℕ) (w : World) (rest : List Item) → IsTimely now w → IsListening w → weights rest ≤ weights w.items → Fewer w (noted (record w { items = rest; counts = with_end w.counts }) now (c.Broke why.End))
ended_fewer now w rest h listening less =
    let u = record w { items = rest; counts = with_end w.counts } in
    let v = noted u now (c.Broke why.End) in
    let follows = noted_on now Any (Tamed u) (tamed now u) u (c.Broke why.End) tt (itself u) in
    let light = down_weighs v (noted_phase now u (c.Broke why.End) (lost w) (end_there now w h listening)) in
    let heavy = at_least w listening in
    let reopen : v.setup.reopen ≡ w.setup.reopen = ap (λ setup. setup.reopen) follows.setup in
    by_phase w u v refl refl refl refl less follows (omega (arith, light, heavy, reopen))

received_fewer : (now : ℕ) (w : World) (bytes : List ℕ) (answer : Option Heard) (rest : List Item) → IsTimely now w → IsListening w → Lowers (weights w.items) (answer, rest)
    → Fewer w (received_by w now bytes (answer, rest))
received_fewer now w bytes (Some (heard.Bytes n)) rest h listening (inl less) =
    let u = record w { items = rest; given = onto_last w.given (take n bytes); stream = fed_to w.stream (take n bytes); idle = 0 } in
    let fuel = length u.stream.rest + 1 in
    by_item w u (hands fuel u now) refl refl refl refl less (hands_on now Any (Tamed u) (tamed now u) fuel u (itself u))
received_fewer now w bytes (Some (heard.Bytes n)) rest h listening (inr ended) = absurd (cc ended.0)
received_fewer now w bytes (Some heard.Nothing) rest h listening (inl less) =
    let u = record w { items = rest; idle = at_most 10000 (w.idle + 1); counts = with_nothing w.counts } in
    by_item w u (idles u now) refl refl refl refl less (idles_on now Any (Tamed u) (tamed now u) u tt (itself u))
received_fewer now w bytes (Some heard.Nothing) rest h listening (inr ended) = absurd (cc ended.0)
received_fewer now w bytes (Some heard.End) rest h listening (inl less) = ended_fewer now w rest h listening (omega (arith, less))
received_fewer now w bytes (Some heard.End) rest h listening (inr ended) = ended_fewer now w rest h listening ended.1
received_fewer now w bytes None rest h listening (inl less) =
    let u = failed (record w { items = rest }) in by_item w u (noted u now (c.Broke why.Fault)) refl refl refl refl less (noted_on now Any (Tamed u) (tamed now u) u (c.Broke why.Fault) tt (itself u))
received_fewer now w bytes None rest h listening (inr ended) = absurd (cc ended.0)

pub receives_fewer : (now : ℕ) (w : World) → IsTimely now w → IsListening w → Fewer w (receives w now)
unfolding receives
receives_fewer now w h listening = received_fewer now w (present w.items) (hears 4096 w.items).0 (hears 4096 w.items).1 h listening (hears_less w.items)

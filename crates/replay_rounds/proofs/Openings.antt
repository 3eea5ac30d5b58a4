-- An opening leaves fewer rounds, also one that fails.
use Rattle.std.proofs.Common.{◌≡◌, ℕ, ◌+◌, ◌-◌, ◌<◌, ◌≤◌, Bool, true, false, List, [], ◌∷◌, ◌++◌, Some, refl, ap, subst, arith}
use Rattle.broker_tape.specs.declared.tape.Item.{Item}
use Rattle.broker_tape.specs.Playing.{opens, room_at}
use Rattle.agent_journal.specs.declared.entry.Cause.TheVariants as c
use Rattle.agent_journal.specs.declared.entry.Why.TheVariants as why
use Rattle.agent_journal.specs.declared.setup.Phase.TheVariants.{Down}
use Rattle.agent_journal.specs.Readings.{breaks_of}
use Rattle.agent_table.specs.Histories.{readings}
use Rattle.agent_table.specs.Rows.{Row}
use Rattle.agent_table.specs.Sessions.{ping_of}
use Rattle.agent_ties.proofs.Present.{opens_few}
use Rattle.replay_rounds.specs.World.{World, phase_in, row_in}
use Rattle.replay_rounds.specs.Entering.{noted, failed, entered}
use Rattle.agent_ties.specs.Seen.{fresh}
use Rattle.replay_rounds.specs.Rounds.{opened_by, opening}
use Rattle.replay_rounds.specs.Bound.{weights, phase_weight}
use Rattle.replay_rounds.proofs.Dues.{NoneDue}
use Rattle.replay_rounds.proofs.Kept.{Any, entered_on, noted_on}
use Rattle.replay_rounds.proofs.Moments.{IsTimely, noted_past, noted_phase}
use Rattle.agent_ties.proofs.Rows.{Within, fault_there}
use Rattle.replay_rounds.proofs.Seen.{seen}
use Rattle.replay_rounds.proofs.Tamed.{Tamed, tamed, itself, Fewer, by_item, by_phase, rounds_in}
use Rattle.replay_rounds.proofs.Weights.{begun_less, opens_less}

-- Where nothing is due in Down, another opening may fail.
pub may_fail : (now : ℕ) (w : World) → IsTimely now w → NoneDue now w → phase_in w ≡ Down → breaks_of w.past ≤ w.setup.reopen
may_fail now w h due down = opens_few now (seen w) h.time due.gave_up down (subst (Within w.setup (breaks_of w.past)) down h.fits)

down_is : (w : World) → phase_in w ≡ Down → rounds_in w ≡ 2 + (w.setup.reopen + 1 - breaks_of w.past)
down_is w e = ap (phase_weight w.setup.reopen (breaks_of w.past) (ping_of w.past)) e

failed_fewer : (now : ℕ) (w : World) (rest : List Item) → IsTimely now w → NoneDue now w → phase_in w ≡ Down → weights rest ≤ weights w.items → Fewer w (noted (failed (record w { items = rest })) now (c.Broke why.Fault))
failed_fewer now w rest h due down less =
    let u = failed (record w { items = rest }) in
    let v = noted u now (c.Broke why.Fault) in
    let few = may_fail now w h due down in
    let found : Row = record { effects = []; phase = Down } in
    let there : row_in u now (c.Broke why.Fault) ≡ Some found = fault_there w.setup w.sizes (readings w.setup w.sizes w.past) now h.time (breaks_of w.past) down refl few in
    let follows = noted_on now Any (Tamed u) (tamed now u) u (c.Broke why.Fault) tt (itself u) in
    let more : breaks_of v.past ≡ breaks_of w.past + 1 = ap breaks_of (noted_past now u (c.Broke why.Fault) found there) in
    let light = down_is v (noted_phase now u (c.Broke why.Fault) found there) in
    let heavy = down_is w down in
    let reopen : v.setup.reopen ≡ w.setup.reopen = ap (λ setup. setup.reopen) follows.setup in
    by_phase w u v refl refl refl refl less follows (omega (arith, few, more, light, heavy, reopen))

opened_fewer : (now : ℕ) (w : World) (begins : Bool) (rest : List Item) → IsTimely now w → NoneDue now w → phase_in w ≡ Down → (begins ≡ true → weights rest < weights w.items) → weights rest ≤ weights w.items
    → Fewer w (opened_by w now (begins, rest))
opened_fewer now w true rest h due down used less =
    let u = record w { items = rest; room = room_at rest; taken = w.taken ++ [] ∷ []; given = w.given ++ [] ∷ []; stream = fresh; idle = 0 } in
    by_item w u (entered u now c.Opened) refl refl refl refl (used refl) (entered_on now Any (Tamed u) (tamed now u) u c.Opened tt (itself u))
opened_fewer now w false rest h due down used less = failed_fewer now w rest h due down less

pub opening_fewer : (now : ℕ) (w : World) → IsTimely now w → NoneDue now w → phase_in w ≡ Down → Fewer w (opening w now)
unfolding opening
opening_fewer now w h due down = opened_fewer now w (opens w.items).0 (opens w.items).1 h due down (begun_less w.items) (opens_less w.items)

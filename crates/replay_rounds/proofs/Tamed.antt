-- What entries and receives leave of a replay: its lines stay, and neither the tape nor the Leave to come grows.
use Rattle.std.proofs.Common.{◌≡◌, ℕ, ◌+◌, ◌*◌, ◌<◌, ◌≤◌, Bool, true, false, length, Option, Some, None, refl, sym, ap, ◌∙◌, subst, arith}
use Rattle.std.specs.Prelude.{◌||◌}
use Rattle.agent_journal.specs.declared.setup.Phase.{Phase}
use Rattle.agent_journal.specs.declared.setup.Phase.TheVariants.{Down, Opening, Up, Spilled, Off}
use Rattle.agent_journal.specs.Readings.{has_left, leaves_by, breaks_of}
use Rattle.agent_table.specs.Sessions.{ping_of}
use Rattle.replay_rounds.specs.World.{World, phase_in}
use Rattle.replay_rounds.specs.Bound.{weights, phase_weight, ping_weight, leave_weight, bound}
use Rattle.replay_rounds.proofs.Kept.{IsCarried, Any}
use Rattle.replay_rounds.proofs.Weights.{closed_less, consumed, lowered}

pub record Tamed (w v : World) : Type 0 where
  pub setup : v.setup ≡ w.setup
  pub clock : v.clock ≡ w.clock
  pub lines : v.lines ≡ w.lines
  pub weight : weights v.items ≤ weights w.items
  pub leave : leave_weight (has_left 0 v.past) ≤ leave_weight (has_left 0 w.past)

leave_less : (a b : Bool) → leave_weight (a || b) ≤ leave_weight b
leave_less true true = omega arith
leave_less true false = omega arith
leave_less false b = omega arith

pub tamed : (now : ℕ) (w : World) → IsCarried now Any (Tamed w)
tamed now w =
    record {
      arrived = λ packet. tt;
      rejected = λ reason bad. tt;
      entry_on = λ v cause found of e h. let less = leave_less (leaves_by 0 cause) (has_left 0 v.past) in record { setup = h.setup; clock = h.clock; lines = h.lines; weight = h.weight; leave = omega (arith, less, h.leave) };
      failed_on = λ v h. record { setup = h.setup; clock = h.clock; lines = h.lines; weight = h.weight; leave = h.leave };
      fault_on = λ v found e h. record { setup = h.setup; clock = h.clock; lines = h.lines; weight = h.weight; leave = h.leave };
      shut_on = λ v h. let less = closed_less v.items in record { setup = h.setup; clock = h.clock; lines = h.lines; weight = omega (arith, less, h.weight); leave = h.leave };
      wire_on = λ v bytes h. record { setup = h.setup; clock = h.clock; lines = h.lines; weight = h.weight; leave = h.leave };
      stream_on = λ v stream h. record { setup = h.setup; clock = h.clock; lines = h.lines; weight = h.weight; leave = h.leave };
      busy_on = λ v h. record { setup = h.setup; clock = h.clock; lines = h.lines; weight = h.weight; leave = h.leave };
    }

pub itself : (w : World) → Tamed w w
itself w = record { setup = refl; clock = refl; lines = refl; weight = omega arith; leave = omega arith }

-- ---- Fewer rounds are left

pub record Fewer (w v : World) : Type 0 where
  pub setup : v.setup ≡ w.setup
  pub clock : v.clock ≡ w.clock
  pub less : bound v < bound w

abbrev pub rounds_in : World → ℕ
rounds_in w = phase_weight w.setup.reopen (breaks_of w.past) (ping_of w.past) (phase_in w)

most_ping : (ping : Option ℕ) → ping_weight ping ≤ 1
most_ping None = omega arith
most_ping (Some time) = omega arith

most_weight : (reopen breaks : ℕ) (ping : Option ℕ) (phase : Phase) → phase_weight reopen breaks ping phase ≤ 5 + reopen
most_weight reopen breaks ping Down = omega arith
most_weight reopen breaks ping Opening = omega arith
most_weight reopen breaks ping Up = let most = most_ping ping in omega (arith, most)
most_weight reopen breaks ping Spilled = omega arith
most_weight reopen breaks ping Off = omega arith

pub most : (w : World) → rounds_in w ≤ 5 + w.setup.reopen
most w = most_weight w.setup.reopen (breaks_of w.past) (ping_of w.past) (phase_in w)

-- an item was used
pub by_item : (w u v : World) → u.setup ≡ w.setup → u.clock ≡ w.clock → u.lines ≡ w.lines → u.past ≡ w.past → weights u.items < weights w.items → Tamed u v → Fewer w v
by_item w u v s c l p less h =
    record {
      setup = h.setup ∙ s;
      clock = h.clock ∙ c;
      less =
          let reopen : v.setup.reopen ≡ w.setup.reopen = ap (λ setup. setup.reopen) (h.setup ∙ s) in
          let few = most v in
          let same : length v.lines ≡ length w.lines = ap length (h.lines ∙ l) in
          let left : leave_weight (has_left 0 u.past) ≡ leave_weight (has_left 0 w.past) = ap (λ past. leave_weight (has_left 0 past)) p in
          let sum =
          consumed w.setup.reopen (weights w.items) (weights v.items) (rounds_in w) (rounds_in v) (length w.lines) (length v.lines) (leave_weight (has_left 0 w.past)) (leave_weight (has_left 0 v.past))
          (omega (arith, less, h.weight)) (omega (arith, few, reopen)) (omega (arith, same)) (omega (arith, left, h.leave))
          in
          by_reopen w v reopen sum;
    }
  where
    by_reopen : (w v : World) → v.setup.reopen ≡ w.setup.reopen
        → (6 + w.setup.reopen) * weights v.items + rounds_in v + length v.lines + leave_weight (has_left 0 v.past) < bound w → bound v < bound w
    by_reopen w v e h = subst (λ n. (6 + n) * weights v.items + rounds_in v + length v.lines + leave_weight (has_left 0 v.past) < bound w) (sym e) h

-- the rest became less
pub by_rest : (w v : World) → v.setup ≡ w.setup → v.clock ≡ w.clock → weights v.items ≤ weights w.items
    → rounds_in v + length v.lines + leave_weight (has_left 0 v.past) < rounds_in w + length w.lines + leave_weight (has_left 0 w.past) → Fewer w v
by_rest w v s c less h =
    record {
      setup = s;
      clock = c;
      less =
          subst (λ n. (6 + n) * weights v.items + rounds_in v + length v.lines + leave_weight (has_left 0 v.past) < bound w) (sym (ap (λ setup. setup.reopen) s))
          (lowered w.setup.reopen (weights w.items) (weights v.items) (rounds_in w) (rounds_in v) (length w.lines) (length v.lines) (leave_weight (has_left 0 w.past)) (leave_weight (has_left 0 v.past)) less h);
    }

-- the same lines, and less in the phase
pub by_phase : (w u v : World) → u.setup ≡ w.setup → u.clock ≡ w.clock → u.lines ≡ w.lines → u.past ≡ w.past → weights u.items ≤ weights w.items → Tamed u v → rounds_in v < rounds_in w → Fewer w v
by_phase w u v s c l p less h lower =
    let same : length v.lines ≡ length w.lines = ap length (h.lines ∙ l) in
    let left : leave_weight (has_left 0 u.past) ≡ leave_weight (has_left 0 w.past) = ap (λ past. leave_weight (has_left 0 past)) p in
    by_rest w v (h.setup ∙ s) (h.clock ∙ c) (omega (arith, less, h.weight)) (omega (arith, lower, same, left, h.leave))

-- ---- How much a phase weighs

pub down_weighs : (w : World) → phase_in w ≡ Down → rounds_in w ≤ 3 + w.setup.reopen
down_weighs w e = subst (λ phase. phase_weight w.setup.reopen (breaks_of w.past) (ping_of w.past) phase ≤ 3 + w.setup.reopen) (sym e) (omega arith)

pub off_weighs : (w : World) → phase_in w ≡ Off → rounds_in w ≡ 0
off_weighs w e = ap (phase_weight w.setup.reopen (breaks_of w.past) (ping_of w.past)) e

pub opening_weighs : (w : World) → phase_in w ≡ Opening → rounds_in w ≡ 5 + w.setup.reopen
opening_weighs w e = ap (phase_weight w.setup.reopen (breaks_of w.past) (ping_of w.past)) e

pub spilled_weighs : (w : World) → phase_in w ≡ Spilled → rounds_in w ≡ 4 + w.setup.reopen
spilled_weighs w e = ap (phase_weight w.setup.reopen (breaks_of w.past) (ping_of w.past)) e

pub up_weighs : (w : World) → phase_in w ≡ Up → rounds_in w ≡ 4 + w.setup.reopen + ping_weight (ping_of w.past)
up_weighs w e = ap (phase_weight w.setup.reopen (breaks_of w.past) (ping_of w.past)) e

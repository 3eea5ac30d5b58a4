-- Packets that are handed in, one by one.
use Rattle.std.proofs.Common.{◌≡◌, ℕ, zero, suc, ◌+◌, ◌-◌, ◌<◌, ◌≤◌, true, false, cond, refl, sym, ap, ◌∙◌, arith}
use Rattle.mqtt_packet.specs.declared.splitter.Next.{Next}
use Rattle.mqtt_packet.specs.Splitting.{Kept}
use Rattle.mqtt_packet.specs.Steps.{next_of}
use Rattle.replay_rounds.specs.World.{World, phase_in}
use Rattle.agent_table.specs.Ties.{listens}
use Rattle.replay_rounds.specs.Receiving.{handed, hands}

one_of : (most turn : ℕ) → turn < most → most - turn ≡ suc (most - (turn + 1))
one_of most turn within = omega arith

step_is : (n : ℕ) (w : World) (at : ℕ) (answer : Next × Kept) → listens (phase_in w) ≡ true → answer ≡ next_of w.stream → hands (suc n) w at ≡ handed w at (λ v. hands n v at) answer
step_is n w at answer on e = ap (λ b. cond b (handed w at (λ v. hands n v at) (next_of w.stream)) w) on ∙ ap (handed w at (λ v. hands n v at)) (sym e)

-- so many turns are left
pub at_turn : (most turn : ℕ) (w all : World) (at : ℕ) (answer : Next × Kept) → turn < most → listens (phase_in w) ≡ true → answer ≡ next_of w.stream → hands (most - turn) w at ≡ all
    → handed w at (λ v. hands (most - (turn + 1)) v at) answer ≡ all
at_turn most turn w all at answer within on e h = sym (step_is (most - (turn + 1)) w at answer on e) ∙ sym (ap (λ n. hands n w at) (one_of most turn within)) ∙ h

stops : (n : ℕ) (w : World) (at : ℕ) → listens (phase_in w) ≡ false → hands n w at ≡ w
stops zero w at off = refl
stops (suc n) w at off = ap (λ b. cond b (handed w at (λ v. hands n v at) (next_of w.stream)) w) off

pub hands_over : (most turn : ℕ) (w all : World) (at : ℕ) → listens (phase_in w) ≡ false → hands (most - turn) w at ≡ all → w ≡ all
hands_over most turn w all at off h = sym (stops (most - turn) w at off) ∙ h

pub hands_done : (most turn : ℕ) (w all : World) (at : ℕ) → most ≤ turn → hands (most - turn) w at ≡ all → w ≡ all
hands_done most turn w all at end h = let none : most - turn ≡ 0 = omega arith in sym (ap (λ n. hands n w at) none) ∙ h

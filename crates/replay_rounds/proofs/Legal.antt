-- A replay's journal is legal.
use Rattle.std.proofs.Common.{◌≡◌, ℕ, zero, suc, Bool, true, false, cond, ap, subst}
use Rattle.agent_link.specs.Clocks.{step_reading, after_reading}
use Rattle.agent_table.specs.Histories.{IsLegalPast, effects_of}
use Rattle.replay_rounds.specs.World.{World}
use Rattle.replay_rounds.specs.Rounds.{round, has_ended, after}
use Rattle.replay_rounds.proofs.Kept.{IsKept, acts_on}

abbrev Legal : World → Type 0
Legal w = IsLegalPast w.setup w.sizes w.past

moved : (w v : World) → w.setup ≡ v.setup → w.sizes ≡ v.sizes → w.past ≡ v.past → Legal w → Legal v
moved w v s l p h = subst (λ past. IsLegalPast v.setup v.sizes past) p (subst (λ sizes. IsLegalPast v.setup sizes w.past) l (subst (λ setup. IsLegalPast setup w.sizes w.past) s h))

kept : (now : ℕ) → IsKept now Legal
kept now = record { entry_on = λ w cause found e h. (ap effects_of e, h); others = moved }

legal_round : (w : World) → Legal w → Legal (round w)
legal_round w h = acts_on (step_reading w.clock.step w.clock.calls) Legal (kept (step_reading w.clock.step w.clock.calls)) (record w { clock = after_reading w.clock }) h

legal_next : (ended : Bool) (w x : World) → Legal w → Legal x → Legal (cond ended w x)
legal_next true w x h k = h
legal_next false w x h k = k

pub legal_after : (rounds : ℕ) (w : World) → Legal w → Legal (after rounds w)
legal_after zero w h = h
legal_after (suc n) w h = legal_next (has_ended w) w (after n (round w)) h (legal_after n (round w) (legal_round w h))

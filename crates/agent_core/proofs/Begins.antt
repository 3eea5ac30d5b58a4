-- The agent before its first entry.
use Rattle.std.proofs.Common.{◌≡◌, ◌≤◌, ℕ, List, [], length, replicate, refl, ap, sym, ◌∙◌, subst, arith}
use Rattle.std.proofs.lemmas.List.{length-replicate}
use Rattle.agent_journal.specs.Readings.{Pending}
use Rattle.agent_core.specs.Tied.{IsTied, IsBounded}
use Rattle.agent_core.proofs.Ties.{none_distinct}
use Rattle.qos_state.specs.Deliveries as stages
use Rattle.subscriptions.specs.Routing as routes

pub sized : {X : Type 0} (xs : List X) (n : ℕ) (x : X) → xs ≡ replicate n x → length xs ≡ n
sized xs n x e = ap length e ∙ length-replicate n x

none_tied : IsTied [] stages.nothing
none_tied = record { at_least_once = refl; exactly_once = refl; released = tt; once = none_distinct }

pub tied_begins : (commands : List Pending) (d : stages.Deliveries) → commands ≡ [] → d ≡ stages.nothing → IsTied commands d
tied_begins commands d none nothing = subst (λ (cs : List Pending). IsTied cs d) (sym none) (subst (λ (e : stages.Deliveries). IsTied [] e) (sym nothing) none_tied)

pub bounded_begins : (acks most : ℕ) (k : routes.Routing) → acks ≤ 1024 → most ≤ 1024 → k ≡ routes.nothing → IsBounded acks most k
bounded_begins acks most k few less e = subst (λ (r : routes.Routing). IsBounded acks most r) (sym e) (record { acks_few = few; routes_few = less; renewals_few = omega arith })

-- With no ticket left, each command is over.
use Rattle.std.proofs.Common.{◌≡◌, ℕ, ◌<◌, List, [], length, subst, ⊎_elim, arith}
use Rattle.std.specs.List.{Contains}
use Rattle.agent_script.specs.declared.script.Step.{Step}
use Rattle.share_work.specs.Steps.{asked_of, IsOver}
use Rattle.share_work.specs.Tickets.{seqs_of}
use Rattle.share_work.specs.Working.{Working, got_by, IsAtWork}

none_there : (seq : ℕ) → Contains {X = ℕ} [] seq → ⊥
none_there seq (k, within, is) = absurd (omega (arith, within))

pub all_over : (all : List Step) (w : Working) (at : IsAtWork all w) → w.held.tickets ≡ [] → (seq : ℕ) → seq < length (asked_of at.done) → IsOver (got_by w) seq
all_over all w at none seq below = ⊎_elim (λ is. is) (λ has. absurd (none_there seq (subst (λ l. Contains (seqs_of l) seq) none has))) (at.over seq below)

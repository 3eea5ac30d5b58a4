-- The agent of a replay stays the same.
use Rattle.std.proofs.Common.{◌≡◌, ℕ, zero, suc, Bool, true, false, cond, sym, ◌∙◌}
use Rattle.agent_link.specs.Clocks.{after_reading}
use Rattle.agent_journal.specs.declared.setup.Setup.{Setup}
use Rattle.agent_table.specs.Sizes.{Sizes}
use Rattle.replay_rounds.specs.World.{World}
use Rattle.replay_rounds.specs.Rounds.{round, has_ended, after}
use Rattle.replay_rounds.proofs.Ends.{next_time}
use Rattle.replay_rounds.proofs.Kept.{IsKept, acts_on}

abbrev IsOf : Setup → Sizes → World → Type 0
IsOf s l w = (w.setup ≡ s) × (w.sizes ≡ l)

kept : (now : ℕ) (s : Setup) (l : Sizes) → IsKept now (IsOf s l)
kept now s l = record { entry_on = λ w cause found e h. h; others = λ w v setup sizes past h. (sym setup ∙ h.0, sym sizes ∙ h.1) }

round_of : (s : Setup) (l : Sizes) (w : World) → IsOf s l w → IsOf s l (round w)
round_of s l w h = acts_on (next_time w) (IsOf s l) (kept (next_time w) s l) (record w { clock = after_reading w.clock }) h

by_end : (b : Bool) (s : Setup) (l : Sizes) (w v : World) → IsOf s l w → IsOf s l v → IsOf s l (cond b w v)
by_end true s l w v h g = h
by_end false s l w v h g = g

pub after_of : (n : ℕ) (s : Setup) (l : Sizes) (w : World) → IsOf s l w → IsOf s l (after n w)
after_of zero s l w h = h
after_of (suc n) s l w h = by_end (has_ended w) s l w (after n (round w)) h (after_of n s l (round w) (round_of s l w h))

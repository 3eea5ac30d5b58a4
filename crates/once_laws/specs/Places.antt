-- Which messages a session has copies of, by their places among those that were passed on.
use Rattle.std.specs.Prelude.{◌≡◌, ℕ, ◌+◌, ◌≤◌, ◌==◌, List, length, count_by}
use Rattle.std.specs.List.{AllByRecursion}
use Rattle.broker_core.specs.declared.delivery.Delivery.{Delivery}
use Rattle.broker_core.specs.declared.delivery.Waiting.{Waiting}
use Rattle.broker_core.specs.Laws.{sessions}
use Rattle.broker_core.specs.Past.{Event, kept_of}
use Rattle.broker_core.specs.Session.{Session}

-- how many copies of the message at a place were sent and aren't acknowledged, or wait
abbrev pub copies : ℕ → Session → ℕ
copies m s = count_by (λ (d : Delivery). d.place == m) s.sent + count_by (λ (copy : Waiting). copy.place == m) s.waiting

-- Of so many messages: each has at most one copy, and there are no others.
pub record IsPlaced (n : ℕ) (s : Session) : Type 0 where
  pub one : (m : ℕ) → copies m s ≤ 1
  pub below : (m : ℕ) → n ≤ m → copies m s ≡ 0

-- Behind every list of the broker's events.
abbrev pub CopiesArePlaced : Type 0
CopiesArePlaced = (past : List Event) → AllByRecursion (IsPlaced (length (kept_of past).passed)) (sessions (kept_of past))

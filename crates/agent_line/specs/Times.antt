-- Each entry's time is a reading of the clock.
use Rattle.std.specs.Prelude.{◌≡◌, ℕ, List, [], ◌∷◌, ◌++◌, Option, Some, None}
use Rattle.agent_journal.specs.declared.entry.Entry.{Entry}
use Rattle.agent_journal.specs.Wires.{AreReadings}

-- Since then the clock was read so, where it still tells its readings.
abbrev pub FollowsReadings : Option (List ℕ) → List ℕ → Option (List ℕ) → Type 0
FollowsReadings None own now = Unit {0}
FollowsReadings (Some before) own None = Unit {0}
FollowsReadings (Some before) own (Some all) = all ≡ before ++ own

-- The times of a journal's entries are readings since the clock told `first`.
pub record Timed (first : Option (List ℕ)) (past : List Entry) (now : Option (List ℕ)) : Type 0 where
  pub readings : List ℕ
  pub read : FollowsReadings first readings now
  pub times : AreReadings readings past

-- Entries of this time may be added: where the times of those so far are readings, those of all are.
abbrev pub KeepsTimes : List Entry → Option (List ℕ) → ℕ → Option (List ℕ) → Type 0
KeepsTimes past before at now = (first : Option (List ℕ)) → Timed first past before → (more : List Entry) → AreReadings (at ∷ []) more → Timed first (more ++ past) now

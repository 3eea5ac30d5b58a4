-- The times of entries are readings of the clock.
use Rattle.std.proofs.Common.{◌≡◌, ℕ, zero, suc, List, [], ◌∷◌, ◌++◌, Option, Some, None, sym, ap, ◌∙◌, subst, arith, append_assoc, inl, inr}
use Rattle.std.specs.Prelude.{Contains, max}
use Rattle.std.proofs.lemmas.Bool.{cases_lt}
use Rattle.std.proofs.lemmas.List.Elements.{Contains-append_left, Contains-append_right}
use Rattle.agent_link.specs.Clocks.{AddsReading}
use Rattle.agent_journal.specs.declared.entry.Entry.{Entry}
use Rattle.agent_journal.specs.Readings.{last_time_of}
use Rattle.agent_journal.specs.Wires.{AreReadings}
use Rattle.agent_line.specs.Times.{FollowsReadings, KeepsTimes}
use Rattle.agent_line.proofs.Growing.{both_read}

-- one reading more
follows_one : (first : Option (List ℕ)) (own : List ℕ) (before now : Option (List ℕ)) (reading : ℕ) → FollowsReadings first own before → AddsReading before now reading
    → FollowsReadings first (own ++ reading ∷ []) now
follows_one None own before now reading h adds = tt
follows_one (Some told) own before None reading h adds = tt
follows_one (Some told) own None (Some all) reading h adds = absurd adds
follows_one (Some told) own (Some some) (Some all) reading h adds = adds ∙ ap (λ r. r ++ reading ∷ []) h ∙ append_assoc told own (reading ∷ [])

-- Entries whose times are all of these readings have times of any that have these among them.
among : (few many : List ℕ) → ((x : ℕ) → Contains few x → Contains many x) → (past : List Entry) → AreReadings few past → AreReadings many past
among few many all [] h = tt
among few many all (e ∷ past) h = (all e.at h.0, among few many all past h.1)

only : (at x : ℕ) → Contains (at ∷ []) x → x ≡ at
only at x (zero, within, there) = sym there
only at x (suc i, within, there) = absurd (omega (arith, within))

-- the later of the newest entry's time and a reading
later_there : (own : List ℕ) (past : List Entry) (reading : ℕ) → AreReadings own past → Contains (own ++ reading ∷ []) (max reading (last_time_of past))
later_there own [] reading h = Contains-append_right own (reading ∷ []) (max reading 0) (0, omega arith, omega arith)
later_there own (e ∷ past) reading h = elim (cases_lt e.at reading) [
  | inl below ↦ Contains-append_right own (reading ∷ []) (max reading e.at) (0, omega arith, omega (arith, below))
  | inr above ↦ subst (λ at. Contains (own ++ reading ∷ []) at) (omega (arith, above)) (Contains-append_left own (reading ∷ []) e.at h.0)
]

pub keeps_times : (past : List Entry) (before now : Option (List ℕ)) (reading at : ℕ) → at ≡ max reading (last_time_of past) → AddsReading before now reading → KeepsTimes past before at now
keeps_times past before now reading at e adds first timed more h =
    let all : List ℕ = timed.readings ++ reading ∷ [] in
    let there : Contains all at = subst (λ x. Contains all x) (sym e) (later_there timed.readings past reading timed.times) in
    record {
      readings = all;
      read = follows_one first timed.readings before now reading timed.read adds;
      times = both_read all more past
          (among (at ∷ []) all (λ x one. subst (λ y. Contains all y) (sym (only at x one)) there) more h)
          (among timed.readings all (λ x one. Contains-append_left timed.readings (reading ∷ []) x one) past timed.times);
    }

-- An entry that was made, and its packets.
use Rattle.std.proofs.Common.{◌≡◌, ℕ, ◌<◌, true, List, [], ◌∷◌, length, take, is_some, refl, ap, ◌∙◌, sym, subst, arith, inl, inr}
use Rattle.agent_link.specs.Counts.{Rose}
use Rattle.agent_journal.specs.declared.entry.Cause.{Cause}
use Rattle.agent_journal.specs.declared.entry.Cause.TheVariants as c
use Rattle.agent_journal.specs.declared.entry.Why.TheVariants as why
use Rattle.agent_journal.specs.Wires.{sent_in}
use Rattle.agent_ties.specs.Counting.{IsLater}
use Rattle.agent_ties.specs.Seen.{fresh}
use Rattle.agent_ties.proofs.Seen.{faults_behind}
use Rattle.agent_line.specs.Recorded.{Recorded, row_in, with_row, Makes, newest_effects}
use Rattle.agent_line.specs.Told.{Told, more_on, seen_in}
use Rattle.agent_line.specs.Entered.{IsEntered}

module _ (old new : Recorded) (at : ℕ) (cause : Cause) (made : Makes old at cause new) (bytes : List ℕ) (spelled : bytes ≡ sent_in (newest_effects new.past)) where
  bytes_are : bytes ≡ sent_in made.found.effects
  bytes_are = spelled ∙ ap (λ (r : Recorded). sent_in (newest_effects r.past)) made.newest

  there_by : (xs : List ℕ) → sent_in made.found.effects ≡ xs → 0 < length xs → is_some (row_in (with_row old at cause made.found) at (c.Broke why.Fault)) ≡ true
  there_by [] e some = absurd (omega (arith, some))
  there_by (b ∷ xs) e some = faults_behind at (seen_in old fresh [] []) cause made.found made.is b xs e

  -- behind an entry that sends, a fault has a row
  pub fault_there : 0 < length bytes → is_some (row_in new at (c.Broke why.Fault)) ≡ true
  fault_there some =
      let more = ap length bytes_are in
      subst (λ (r : Recorded). is_some (row_in r at (c.Broke why.Fault)) ≡ true) (sym made.newest) (there_by (sent_in made.found.effects) refl (omega (arith, some, more)))

  pub entered_whole : (before now : Told) → now.taken ≡ more_on before.taken bytes → now.given ≡ before.given → IsLater before.counts now.counts → IsEntered old at cause before new now
  entered_whole before now took gave later =
      record { found = made.found; is = made.is; sent = inl (record { newest = made.newest; taken = took ∙ ap (more_on before.taken) bytes_are }); given = gave; later = later }

  pub entered_part : (behind : Recorded) (before now : Told) (k : ℕ) → Makes new at (c.Broke why.Fault) behind → k < length bytes → now.taken ≡ more_on before.taken (take k bytes) → Rose before.counts.faults now.counts.faults
      → now.given ≡ before.given → IsLater before.counts now.counts → IsEntered old at cause before behind now
  entered_part behind before now k broke short took rose gave later =
      let less = ap length bytes_are in
      record {
        found = made.found;
        is = made.is;
        sent =
            inr
            (record {
              k = k;
              short = omega (arith, less, short);
              second = broke.found;
              is = ap (λ r. row_in r at (c.Broke why.Fault)) (sym made.newest) ∙ broke.is;
              newest = broke.newest ∙ ap (λ r. with_row r at (c.Broke why.Fault) broke.found) made.newest;
              taken = took ∙ ap (λ bs. more_on before.taken (take k bs)) bytes_are;
              rose = rose;
            });
        given = gave;
        later = later;
      }

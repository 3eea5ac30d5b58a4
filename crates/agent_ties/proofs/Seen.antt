-- What has a row behind an entry.
use Rattle.std.proofs.Common.{◌≡◌, ◌⊎◌, ℕ, ◌+◌, true, cond, List, [], ◌∷◌, Option, Some, None, is_some, refl, sym, ap, ◌∙◌, arith, inl, inr}
use Rattle.std.specs.Prelude.{nat_le}
use Rattle.std.specs.List.{flat_map}
use Rattle.std.proofs.lemmas.Bool.{le-leb}
use Rattle.mqtt_packet.specs.Spelling.{spelling}
use Rattle.agent_journal.specs.declared.effect.Effect.{Effect}
use Rattle.agent_journal.specs.declared.entry.Cause.{Cause}
use Rattle.agent_journal.specs.declared.entry.Cause.TheVariants as c
use Rattle.agent_journal.specs.declared.entry.Why.TheVariants as why
use Rattle.agent_journal.specs.declared.setup.Phase.{Phase}
use Rattle.agent_journal.specs.declared.setup.Phase.TheVariants.{Down, Opening, Up, Spilled, Off}
use Rattle.agent_journal.specs.Readings.{accepts, breaks_behind, breaks_of, is_break}
use Rattle.agent_journal.specs.Wires.{sends, sent_in}
use Rattle.agent_table.specs.Breaks.{fault_row}
use Rattle.agent_table.specs.Histories.{phase_by, readings}
use Rattle.agent_table.specs.Readings.{Readings, at_most}
use Rattle.agent_table.specs.Rows.{Row}
use Rattle.agent_table.specs.Sends.{has_send, is_some_packet}
use Rattle.agent_ties.specs.Seen.{Seen, phase_seen, row_seen, with_entry}
use Rattle.agent_ties.proofs.Rows.{timely, in_time}
use Rattle.agent_ties.proofs.Sends.{Silent, nothing, down_mild}

-- a row that is there
pub found_by : {A : Type 0} (r : Option A) → is_some r ≡ true → (found : A) × (r ≡ Some found)
found_by None e = absurd (cc e)
found_by (Some found) e = (found, refl)

send_there : (effects : List Effect) (b : ℕ) (bytes : List ℕ) → sent_in effects ≡ b ∷ bytes → has_send effects ≡ true
send_there effects b bytes e = by (sends effects) e
  where
    by : (packets : _) → flat_map spelling packets ≡ b ∷ bytes → is_some_packet packets ≡ true
    by [] e = absurd (cc e)
    by (packet ∷ packets) e = refl

no_breaks : (cause : Cause) (breaks : ℕ) → accepts cause ≡ true → breaks_behind cause breaks ≡ 0
no_breaks cause breaks e = ap (λ b. cond b 0 (cond (is_break cause) (breaks + 1) breaks)) e

few_breaks : (reopen : ℕ) → nat_le (at_most (reopen + 2) 0) reopen ≡ true
few_breaks reopen = ap (λ b. nat_le (cond b 0 (reopen + 2)) reopen) (le-leb 0 (reopen + 2) (omega arith)) ∙ le-leb 0 reopen (omega arith)

module _ (now : ℕ) (v : Seen) (cause : Cause) (found : Row) (e : row_seen v now cause ≡ Some found) where
  -- The phase behind an entry is its row's.
  pub phase_is : phase_seen (with_entry v now cause found) ≡ found.phase
  phase_is = ap (λ q. phase_by q (phase_seen v)) e

  abbrev behind : Seen
  behind = with_entry v now cause found

  abbrev r : Readings
  r = readings behind.setup behind.sizes behind.past

  may_open : found.phase ≡ Down → (b : ℕ) (bytes : List ℕ) → sent_in found.effects ≡ b ∷ bytes → nat_le r.breaks behind.setup.reopen ≡ true
  may_open is b bytes some = by (down_mild v.setup v.sizes (readings v.setup v.sizes v.past) now cause found (in_time v.setup v.sizes (readings v.setup v.sizes v.past) now cause found e) is)
    where
      by : Silent found.effects ⊎ (accepts cause ≡ true) → nat_le r.breaks behind.setup.reopen ≡ true
      by (inl silent) = absurd (cc (sym (nothing found.effects silent) ∙ some))
      by (inr accepted) = ap (λ n. nat_le (at_most (behind.setup.reopen + 2) n) behind.setup.reopen) (no_breaks cause (breaks_of v.past) accepted) ∙ few_breaks behind.setup.reopen

  faults_in : (phase : Phase) → found.phase ≡ phase → (b : ℕ) (bytes : List ℕ) → sent_in found.effects ≡ b ∷ bytes → is_some (fault_row behind.setup r phase) ≡ true
  unfolding fault_row
  faults_in Down is b bytes some = rw (may_open is b bytes some) refl
  faults_in Opening is b bytes some = refl
  faults_in Up is b bytes some = refl
  faults_in Spilled is b bytes some = refl
  faults_in Off is b bytes some = rw (send_there found.effects b bytes some) refl

  -- Behind an entry that sends, a fault has a row.
  pub faults_behind : (b : ℕ) (bytes : List ℕ) → sent_in found.effects ≡ b ∷ bytes → is_some (row_seen behind now (c.Broke why.Fault)) ≡ true
  faults_behind b bytes some =
      ap is_some (timely behind.setup behind.sizes r now (c.Broke why.Fault) (omega arith)) ∙ ap (λ phase. is_some (fault_row behind.setup r phase)) phase_is ∙ faults_in found.phase refl b bytes some

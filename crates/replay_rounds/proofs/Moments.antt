-- What holds at every moment of a replay: time doesn't fall, and breaks fit the phase.
use Rattle.std.proofs.Common.{◌≡◌, ◌⊎◌, ℕ, ◌≤◌, Bool, true, false, cond, List, [], ◌∷◌, length, take, Option, Some, None, refl, sym, ap, ◌∙◌, subst, arith, inl, inr}
use Rattle.std.specs.Prelude.{nat_lt}
use Rattle.broker_tape.specs.Playing.{fitting}
use Rattle.agent_journal.specs.declared.entry.Cause.{Cause}
use Rattle.agent_journal.specs.declared.entry.Cause.TheVariants as c
use Rattle.agent_journal.specs.declared.entry.Entry.{Entry}
use Rattle.agent_journal.specs.declared.entry.Why.TheVariants as why
use Rattle.agent_journal.specs.declared.setup.Phase.{Phase}
use Rattle.agent_journal.specs.declared.setup.Phase.TheVariants.{Down, Opening, Up, Spilled, Off}
use Rattle.agent_journal.specs.Readings.{last_time_of, breaks_of, breaks_behind}
use Rattle.agent_journal.specs.Wires.{sent_in}
use Rattle.agent_table.specs.Histories.{phase_by, phase_of, readings}
use Rattle.agent_table.specs.Rows.{Row}
use Rattle.replay_rounds.specs.World.{World, phase_in, row_in, shut_in, settled}
use Rattle.agent_ties.specs.Seen.{entry}
use Rattle.replay_rounds.specs.Entering.{noted, noted_by, failed, onto_wire, sends, entered, entered_by}
use Rattle.replay_rounds.proofs.Kept.{IsKept}
use Rattle.agent_ties.proofs.Rows.{Within, row_fits, in_time, fault_leads, fault_phase}

pub record IsTimely (now : ℕ) (w : World) : Type 0 where
  pub time : last_time_of w.past ≤ now
  pub one : w.setup.tasks ≡ 1
  pub fits : Within w.setup (breaks_of w.past) (phase_in w)

abbrev pub with_row : World → ℕ → Cause → Row → World
with_row w now cause found = record w { past = entry now cause found ∷ w.past }

-- The phase behind an entry is its row's.
pub phase_row : (now : ℕ) (w : World) (cause : Cause) (found : Row) → row_in w now cause ≡ Some found → phase_in (with_row w now cause found) ≡ found.phase
phase_row now w cause found e = ap (λ r. phase_by r (phase_in w)) e

entry_timely : (now : ℕ) (w : World) (cause : Cause) (found : Row) → row_in w now cause ≡ Some found → IsTimely now w → IsTimely now (with_row w now cause found)
entry_timely now w cause found e h =
    record {
      time = omega arith;
      one = h.one;
      fits = subst (λ phase. Within w.setup (breaks_behind cause (breaks_of w.past)) phase) (sym (phase_row now w cause found e))
          (row_fits w.setup w.sizes (readings w.setup w.sizes w.past) now found (breaks_of w.past) cause refl h.fits (in_time w.setup w.sizes (readings w.setup w.sizes w.past) now cause found e));
    }

timely_moves : (now : ℕ) (w v : World) → w.setup ≡ v.setup → w.sizes ≡ v.sizes → w.past ≡ v.past → IsTimely now w → IsTimely now v
timely_moves now w v s l p h =
    record {
      time = subst (λ past. last_time_of past ≤ now) p h.time;
      one = ap (λ setup. setup.tasks) (sym s) ∙ h.one;
      fits =
          subst (λ past. Within v.setup (breaks_of past) (phase_of v.setup v.sizes past)) p
          (subst (λ sizes. Within v.setup (breaks_of w.past) (phase_of v.setup sizes w.past)) l (subst (λ setup. Within setup (breaks_of w.past) (phase_of setup w.sizes w.past)) s h.fits));
    }

pub timely_kept : (now : ℕ) → IsKept now (IsTimely now)
timely_kept now = record { entry_on = entry_timely now; others = timely_moves now }

-- ---- Where an entry leads

settled_past : (w : World) (phase : Phase) → (shut_in w phase).past ≡ w.past
settled_past w Down = refl
settled_past w Opening = refl
settled_past w Up = refl
settled_past w Spilled = refl
settled_past w Off = refl

settled_phase : (w : World) (phase : Phase) → phase_in (shut_in w phase) ≡ phase_in w
settled_phase w Down = refl
settled_phase w Opening = refl
settled_phase w Up = refl
settled_phase w Spilled = refl
settled_phase w Off = refl

pub noted_past : (now : ℕ) (w : World) (cause : Cause) (found : Row) → row_in w now cause ≡ Some found → (noted w now cause).past ≡ entry now cause found ∷ w.past
noted_past now w cause found e = ap (λ r. (noted_by w now cause r).past) e ∙ settled_past (with_row w now cause found) (phase_in (with_row w now cause found))

pub noted_phase : (now : ℕ) (w : World) (cause : Cause) (found : Row) → row_in w now cause ≡ Some found → phase_in (noted w now cause) ≡ found.phase
noted_phase now w cause found e =
    ap (λ r. phase_in (noted_by w now cause r)) e ∙ settled_phase (with_row w now cause found) (phase_in (with_row w now cause found)) ∙ phase_row now w cause found e

-- Behind an entry the phase is its row's, with nothing noted since, or the one that a fault led to.
abbrev pub Lands : List Entry → Phase → World → Type 0
Lands past phase v = ((v.past ≡ past) × (phase_in v ≡ phase)) ⊎ (phase_in v ≡ fault_phase phase)

fault_lands : (now : ℕ) (w : World) (r : Option Row) → row_in w now (c.Broke why.Fault) ≡ r → Lands w.past (phase_in w) (noted_by w now (c.Broke why.Fault) r)
fault_lands now w None e = inl (refl, refl)
fault_lands now w (Some found) e =
    let r = readings w.setup w.sizes w.past in
    let behind = with_row w now (c.Broke why.Fault) found in
    inr
    (settled_phase behind (phase_in behind) ∙ phase_row now w (c.Broke why.Fault) found e ∙ fault_leads w.setup r found (phase_in w) (in_time w.setup w.sizes r now (c.Broke why.Fault) found e))

lands_by : (less : Bool) (past : List Entry) (phase : Phase) (w v : World) → Lands past phase w → Lands past phase v → Lands past phase (cond less w v)
lands_by true past phase w v h g = h
lands_by false past phase w v h g = g

sends_lands : (now : ℕ) (w : World) (bytes : List ℕ) → Lands w.past (phase_in w) (sends w now bytes)
sends_lands now w [] = inl (settled_past w (phase_in w), settled_phase w (phase_in w))
sends_lands now w (b ∷ bytes) =
    let fits = fitting w.room (length (b ∷ bytes)) in
    let part = failed (onto_wire (record w { idle = 0 }) (take fits (b ∷ bytes))) in
    let whole = onto_wire (record w { idle = 0 }) (b ∷ bytes) in
    lands_by (nat_lt fits (length (b ∷ bytes))) w.past (phase_in w) (noted part now (c.Broke why.Fault)) (settled whole) (fault_lands now part (row_in part now (c.Broke why.Fault)) refl)
    (inl (settled_past whole (phase_in whole), settled_phase whole (phase_in whole)))

lands_at : (past : List Entry) (p q : Phase) (v : World) → p ≡ q → Lands past p v → Lands past q v
lands_at past p q v e h = subst (λ phase. Lands past phase v) e h

pub entered_lands : (now : ℕ) (w : World) (cause : Cause) (found : Row) → row_in w now cause ≡ Some found → Lands (entry now cause found ∷ w.past) found.phase (entered w now cause)
entered_lands now w cause found e =
    let behind = record w { past = entry now cause found ∷ w.past } in
    let there = lands_at behind.past (phase_in behind) found.phase (sends behind now (sent_in found.effects)) (phase_row now w cause found e) (sends_lands now behind (sent_in found.effects)) in
    subst (λ r. Lands (entry now cause found ∷ w.past) found.phase (entered_by w now cause r)) (sym e) there

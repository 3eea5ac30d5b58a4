-- The table's rows for a connection that breaks: each publish stays open.
use Rattle.std.proofs.Common.{◌≡◌, ◌⊎◌, ℕ, ◌≤◌, Bool, true, false, List, [], filter, count_by, Option, refl, ap, ◌∙◌, append-nil}
use Rattle.std.specs.Prelude.{◌==◌, ◌&&◌, not}
use mathlib.Core.Logic.{inl, inr}
use Rattle.agent_journal.specs.declared.entry.Why.{Why}
use Rattle.agent_journal.specs.declared.entry.Why.TheVariants as w
use Rattle.agent_journal.specs.declared.request.Request.{Request}
use Rattle.agent_journal.specs.declared.request.Request.TheVariants as requests
use Rattle.agent_journal.specs.declared.outcome.Outcome.TheVariants as o
use Rattle.agent_journal.specs.declared.effect.Effect.{Effect}
use Rattle.agent_journal.specs.declared.setup.Setup.{Setup}
use Rattle.agent_journal.specs.declared.setup.Phase.{Phase}
use Rattle.agent_journal.specs.declared.setup.Phase.TheVariants.{Down, Opening, Up, Spilled, Off}
use Rattle.agent_journal.specs.Readings.{Pending, stays_open}
use Rattle.agent_table.specs.Breaks.{down, fault_row, end_row, idle_row, bytes_row, keep_alive_row, in_full_row, broke_row}
use Rattle.agent_table.specs.Deliveries.{publishes, is_exactly_once}
use Rattle.agent_table.specs.Effects.{is_publish, lose_link}
use Rattle.agent_table.specs.Readings.{Readings}
use Rattle.agent_table.specs.Rows.{Row, to, when}
use Rattle.agent_table.proofs.Counts.{opened}
use Rattle.once_laws.specs.Counted.{is_second, is_ours}
use Rattle.once_laws.proofs.Effects.{left, all_left, nothing}
use Rattle.once_laws.proofs.Parts.{kept_all, ended_are_out}
use Rattle.once_laws.proofs.Stepping.{OfRow}

-- What a row leaves of the publishes at quality of service 2, or it leads to Off.
pub record IsBroken (commands : List Pending) (effects : List Effect) : Type 0 where
  pub second : (n : ℕ) → count_by (is_second n) (left commands effects) ≡ count_by (is_second n) commands
  pub ours : (t q n : ℕ) → count_by (is_ours t q n) (left commands effects) ≡ count_by (is_ours t q n) commands

abbrev pub Breaks : List Pending → Row → Type 0
Breaks commands row = (row.phase ≡ Off) ⊎ IsBroken commands row.effects

no_second : (n : ℕ) (command : Pending) → not (is_publish command.request) ≡ true → is_second n command ≡ false
no_second n command e = go (command.id == n) command.request e
  where
    go : (b : Bool) (r : Request) → not (is_publish r) ≡ true → (b && publishes is_exactly_once r) ≡ false
    go false r e = refl
    go true (requests.Publish qos topic payload) e = absurd (cc e)
    go true (requests.Subscribe asks) e = refl
    go true (requests.Unsubscribe filters) e = refl
    go true requests.Ping e = refl
    go true requests.Disconnect e = refl
    go true requests.Terminate e = refl
    go true requests.Leave e = refl

module _ (s : Setup) (r : Readings) (once : (t q : ℕ) → opened t q r.pending ≤ 1) where
  lost : IsBroken r.pending (lose_link r)
  lost = record {
    second = λ n. ap (count_by (is_second n)) is ∙ kept_all (is_second n) (λ command. not (is_publish command.request)) r.pending (no_second n);
    ours = λ t q n.
        ap (count_by (is_ours t q n)) is
        ∙ kept_all (is_ours t q n) (λ command. not (is_publish command.request)) r.pending (λ command e. ap (λ b. b && (command.task == t && command.seq == q)) (no_second n command e));
  }
    where
      is : left r.pending (lose_link r) ≡ filter (λ command. not (not (is_publish command.request))) r.pending
      is = ap (filter (stays_open (lose_link r))) (append-nil r.pending) ∙ ended_are_out o.LinkLost (λ command. not (is_publish command.request)) r.pending once

  still : IsBroken r.pending []
  still = record { second = λ n. ap (count_by (is_second n)) (all_left [] r.pending nothing); ours = λ t q n. ap (count_by (is_ours t q n)) (all_left [] r.pending nothing) }

  abbrev Holds : Option Row → Type 0
  Holds row = OfRow (Breaks r.pending) row

  goes : (b : Bool) (row : Option Row) → Holds row → Holds (when b row)
  goes true row h = h
  goes false row h = tt

  fault : (phase : Phase) → Holds (fault_row s r phase)
  unfolding fault_row
  fault Down = goes _ (to Down []) (inr still)
  fault Opening = inr lost
  fault Up = inr lost
  fault Spilled = inr lost
  fault Off = goes _ (to Off []) (inl refl)

  end : (phase : Phase) → Holds (end_row r phase)
  unfolding end_row
  end Down = tt
  end Opening = inr lost
  end Up = inr lost
  end Spilled = tt
  end Off = tt

  idle : (phase : Phase) → Holds (idle_row r phase)
  unfolding idle_row
  idle Down = tt
  idle Opening = inr lost
  idle Up = goes _ (down r) (inr lost)
  idle Spilled = tt
  idle Off = tt

  bytes : (phase : Phase) → Holds (bytes_row s r phase)
  unfolding bytes_row
  bytes Down = tt
  bytes Opening = inl refl
  bytes Up = inl refl
  bytes Spilled = tt
  bytes Off = tt

  keep_alive : (at : ℕ) (phase : Phase) → Holds (keep_alive_row r at phase)
  unfolding keep_alive_row
  keep_alive at Down = tt
  keep_alive at Opening = tt
  keep_alive at Up = goes _ (down r) (inr lost)
  keep_alive at Spilled = tt
  keep_alive at Off = tt

  in_full : (phase : Phase) → Holds (in_full_row r phase)
  unfolding in_full_row
  in_full Down = tt
  in_full Opening = tt
  in_full Up = tt
  in_full Spilled = inr lost
  in_full Off = tt

  pub broken : (at : ℕ) (reason : Why) → Holds (broke_row s r at reason)
  broken at w.Fault = fault r.phase
  broken at w.End = end r.phase
  broken at w.Idle = idle r.phase
  broken at (w.Bad offset) = bytes r.phase
  broken at (w.TooLong size) = bytes r.phase
  broken at w.KeepAlive = keep_alive at r.phase
  broken at w.InFull = in_full r.phase

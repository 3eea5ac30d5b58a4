-- What each call leaves of the ties, put together.
use Rattle.std.proofs.Common.{◌≡◌, ℕ, ◌≤◌, [], ◌∷◌, ◌++◌, sym, ◌∙◌, subst, arith}
use Rattle.std.specs.Prelude.{Result, Ok, Err, OnOk}
use Rattle.std.specs.Option.{option_map}
use Rattle.std.proofs.lemmas.Int.{clamps}
use Rattle.mqtt_packet.specs.Splitting.{Kept as Stream}
use Rattle.agent_link.specs.Counts.{LinkCounts, raised, Rose, RoseBy}
use Rattle.agent_journal.specs.declared.entry.Cause.{Cause}
use Rattle.agent_journal.specs.declared.entry.Cause.TheVariants as c
use Rattle.agent_journal.specs.declared.entry.Why.TheVariants as why
use Rattle.agent_ties.specs.Counting.{IsLater, IsUncounted}
use Rattle.agent_ties.specs.Heard.{IsPlain}
use Rattle.agent_ties.specs.Seen.{fresh}
use Rattle.agent_ties.specs.Ties.{Ties}
use Rattle.agent_ties.proofs.Counting.{later_two, raised_later, rose_then}
use Rattle.agent_line.specs.Entered.{IsEntered, one_more, idled}
use Rattle.agent_line.specs.Recorded.{Recorded, noted}
use Rattle.agent_line.specs.Told.{Told, Since}
use Rattle.agent_line.proofs.Breaking.{fault_on, end_on, nothing_on}
use Rattle.agent_line.proofs.Since.{IsStill, still_on, plain_on, opened_on}

-- for a call that may have no memory
pub on_both : {T E A B C : Type 0} (result : Result T E) → (A → B → C) → OnOk result A → OnOk result B → OnOk result C
on_both (Ok _) both a b = both a b
on_both (Err _) both a b = tt

eq_later : (before now : ℕ) → now ≡ before → RoseBy 0 before now
eq_later before now e = omega (arith, clamps, e)

up_later : (before now : ℕ) → now ≡ raised before → RoseBy 0 before now
up_later before now e = subst (RoseBy 0 before) (sym e) (raised_later before)

up_rose : (before now : ℕ) → now ≡ raised before → Rose before now
up_rose before now e = omega (arith, clamps, e)

pub same_counts : (before now : LinkCounts) → now.faults ≡ before.faults → now.ends ≡ before.ends → now.nothings ≡ before.nothings → IsLater before now
same_counts before now f e n = record { faults = eq_later before.faults now.faults f; ends = eq_later before.ends now.ends e; nothings = eq_later before.nothings now.nothings n }

-- two calls that moved no bytes
pub still_two : (before mid now : Told) → IsStill before mid → IsStill mid now → IsStill before now
still_two before mid now a b = record { taken = b.taken ∙ a.taken; given = b.given ∙ a.given; later = later_two before.counts mid.counts now.counts a.later b.later }

-- ---- An entry

pub entry_tied : {first : Told} {old new : Recorded} {at : ℕ} {cause : Cause} {before mid now : Told} {stream behind : Stream} {idle less : ℕ} → IsUncounted cause → IsPlain cause → less ≤ idle → behind ≡ stream
    → IsEntered old at cause before new mid → IsStill mid now → Since Ties first old stream idle before → Since Ties first new behind less now
entry_tied {first} {old} {new} {at} {cause} {before} {mid} {now} {stream} {behind} {idle} {less} other plain fewer same h still since =
    subst (λ s. Since Ties first new s less now) (sym same)
    (still_on Ties first new stream less less mid now (omega arith) still (plain_on first old new at cause before mid stream idle less other plain fewer h since))

-- a connection's first
pub opening_tied : {first : Told} {old new : Recorded} {at : ℕ} {before mid later now : Told} {stream behind : Stream} {idle less : ℕ} → mid.taken ≡ option_map (λ ws. ws ++ [] ∷ []) before.taken
    → mid.given ≡ option_map (λ ws. ws ++ [] ∷ []) before.given → IsLater before.counts mid.counts → less ≤ 0 → behind ≡ fresh → IsEntered old at c.Opened mid new later → IsStill later now
    → Since Ties first old stream idle before → Since Ties first new behind less now
opening_tied {first} {old} {new} {at} {before} {mid} {later} {now} {stream} {behind} {idle} {less} took gave same none is h still since =
    subst (λ s. Since Ties first new s less now) (sym is)
    (still_on Ties first new fresh less less later now (omega arith) still (opened_on first old new at before mid later stream idle less none took gave same h since))

-- ---- Breaks

module _ {first : Told} {old new : Recorded} (at : ℕ) {before mid now : Told} {stream : Stream} {idle : ℕ} (took : mid.taken ≡ before.taken) (gave : mid.given ≡ before.given) (still : IsStill mid now) where
  pub fault_tied : mid.counts.faults ≡ raised before.counts.faults → mid.counts.ends ≡ before.counts.ends → mid.counts.nothings ≡ before.counts.nothings → new ≡ noted old at (c.Broke why.Fault)
      → Since Ties first old stream idle before → Since Ties first new stream idle now
  fault_tied f e n is =
      fault_on first old new at before now stream idle
      (still_two before mid now
      (record { taken = took; given = gave; later = record { faults = up_later before.counts.faults mid.counts.faults f; ends = eq_later before.counts.ends mid.counts.ends e; nothings = eq_later before.counts.nothings mid.counts.nothings n } })
      still) (rose_then before.counts.faults mid.counts.faults now.counts.faults (up_rose before.counts.faults mid.counts.faults f) still.later.faults) is

  pub end_tied : mid.counts.faults ≡ before.counts.faults → mid.counts.ends ≡ raised before.counts.ends → mid.counts.nothings ≡ before.counts.nothings → new ≡ noted old at (c.Broke why.End)
      → Since Ties first old stream idle before → Since Ties first new stream idle now
  end_tied f e n is =
      end_on first old new at before now stream idle
      (still_two before mid now
      (record { taken = took; given = gave; later = record { faults = eq_later before.counts.faults mid.counts.faults f; ends = up_later before.counts.ends mid.counts.ends e; nothings = eq_later before.counts.nothings mid.counts.nothings n } })
      still) (rose_then before.counts.ends mid.counts.ends now.counts.ends (up_rose before.counts.ends mid.counts.ends e) still.later.ends) is

  pub nothing_tied : {behind : Stream} {less : ℕ} → mid.counts.faults ≡ before.counts.faults → mid.counts.ends ≡ before.counts.ends → mid.counts.nothings ≡ raised before.counts.nothings → behind ≡ stream → less ≡ one_more idle
      → new ≡ idled old (one_more idle) at → Since Ties first old stream idle before → Since Ties first new behind less now
  nothing_tied {behind} {less} f e n same one is since =
      subst (λ s. Since Ties first new s less now) (sym same)
      (subst (λ k. Since Ties first new stream k now) (sym one)
      (nothing_on first old new at before mid now stream idle
      (record { taken = took; given = gave; later = record { faults = eq_later before.counts.faults mid.counts.faults f; ends = eq_later before.counts.ends mid.counts.ends e; nothings = up_later before.counts.nothings mid.counts.nothings n } })
      (up_rose before.counts.nothings mid.counts.nothings n) still is since))

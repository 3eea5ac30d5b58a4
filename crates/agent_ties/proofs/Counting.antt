-- A link's counts, by an entry more and by a call of the link more.
use Rattle.std.proofs.Common.{◌≡◌, ℕ, ◌+◌, ◌*◌, ◌≤◌, Bool, true, false, cond, List, ◌∷◌, Some, refl, sym, ap, ◌∙◌, subst, arith, inl, inr}
use Rattle.std.specs.Prelude.{nat_le}
use Rattle.std.proofs.lemmas.Bool.{leb-false}
use Rattle.std.proofs.lemmas.Int.{clamps}
use Rattle.agent_link.specs.Counts.{raised, with_fault, with_end, Rose, RoseBy, LinkCounts}
use Rattle.agent_journal.specs.declared.entry.Cause.{Cause}
use Rattle.agent_journal.specs.declared.entry.Cause.TheVariants as c
use Rattle.agent_journal.specs.declared.entry.Entry.{Entry}
use Rattle.agent_journal.specs.declared.entry.Why.{Why}
use Rattle.agent_journal.specs.declared.entry.Why.TheVariants as why
use Rattle.agent_journal.specs.declared.setup.Setup.{Setup}
use Rattle.agent_journal.specs.Wires.{is_opened}
use Rattle.agent_table.specs.Histories.{phase_of, phase_by, readings, row}
use Rattle.agent_table.specs.Readings.{Readings, at_most}
use Rattle.agent_table.specs.Rows.{Row}
use Rattle.agent_table.specs.Sizes.{Sizes}
use Rattle.agent_table.specs.Ties.{listens, is_bad_bytes, is_fault, is_end, is_idle, is_break_for, breaks_for, IsCounted}
use Rattle.agent_ties.specs.Counting.{IsLater, HasCounted, IsUncounted, waited}
use Rattle.agent_ties.specs.Seen.{entry}
use Rattle.agent_ties.proofs.Dues.{IsDue}
use Rattle.agent_ties.proofs.Listening.{idle_away}
use Rattle.agent_ties.proofs.Rows.{in_time}
use Rattle.agent_ties.proofs.Sends.{away_stays}

-- ---- Counts

rose_on : (n m first before now : ℕ) → n ≤ m → RoseBy 0 before now → RoseBy m first before → RoseBy n first now
rose_on n m first before now fewer later h = omega (arith, clamps, fewer, later, h)

rose_more : (n first before now : ℕ) → Rose before now → RoseBy n first before → RoseBy (n + 1) first now
rose_more n first before now rose h = omega (arith, clamps, rose, h)

-- a count is no less than itself, and one more is no less
pub no_less : (count : ℕ) → RoseBy 0 count count
no_less count = omega (arith, clamps)

pub raised_later : (count : ℕ) → RoseBy 0 count (raised count)
raised_later count = omega (arith, clamps)

rose_two : (before mid now : ℕ) → RoseBy 0 before mid → RoseBy 0 mid now → RoseBy 0 before now
rose_two before mid now a b = omega (arith, clamps, a, b)

pub same_later : (counts : LinkCounts) → IsLater counts counts
same_later counts = record { faults = no_less counts.faults; ends = no_less counts.ends; nothings = no_less counts.nothings }

pub later_two : (before mid now : LinkCounts) → IsLater before mid → IsLater mid now → IsLater before now
later_two before mid now a b =
    record {
      faults = rose_two before.faults mid.faults now.faults a.faults b.faults;
      ends = rose_two before.ends mid.ends now.ends a.ends b.ends;
      nothings = rose_two before.nothings mid.nothings now.nothings a.nothings b.nothings;
    }

-- a rise, and no fall behind it
pub rose_then : (before mid now : ℕ) → Rose before mid → RoseBy 0 mid now → Rose before now
rose_then before mid now a b = omega (arith, clamps, a, b)

rose_raised : (n first count : ℕ) → RoseBy n first count → RoseBy n first (raised count)
rose_raised n first count h = omega (arith, clamps, h)

-- ---- Causes with which nothing is counted

pub bad_uncounted : (reason : Why) → is_bad_bytes reason ≡ true → IsUncounted (c.Broke reason)
bad_uncounted why.Fault bad = absurd (cc bad)
bad_uncounted why.End bad = absurd (cc bad)
bad_uncounted why.Idle bad = absurd (cc bad)
bad_uncounted (why.Bad offset) bad = record { opened = refl; fault = refl; end = refl; idle = refl }
bad_uncounted (why.TooLong size) bad = record { opened = refl; fault = refl; end = refl; idle = refl }
bad_uncounted why.KeepAlive bad = absurd (cc bad)
bad_uncounted why.InFull bad = absurd (cc bad)

pub due_uncounted : (found : Cause → Bool) (cause : Cause) → IsDue found cause → IsUncounted cause
due_uncounted found cause (inl h) = subst IsUncounted (sym h.0) (record { opened = refl; fault = refl; end = refl; idle = refl })
due_uncounted found cause (inr (inl h)) = subst IsUncounted (sym h.0) (record { opened = refl; fault = refl; end = refl; idle = refl })
due_uncounted found cause (inr (inr (inl h))) = subst IsUncounted (sym h.0) (record { opened = refl; fault = refl; end = refl; idle = refl })
due_uncounted found cause (inr (inr (inr (inl h)))) = subst IsUncounted (sym h.0) (record { opened = refl; fault = refl; end = refl; idle = refl })
due_uncounted found cause (inr (inr (inr (inr h)))) = subst IsUncounted (sym h.0) (record { opened = refl; fault = refl; end = refl; idle = refl })

-- ---- How long was waited

same_breaks : (test : Why → Bool) (e : Entry) (past : List Entry) → is_break_for test e.cause ≡ false → breaks_for test (e ∷ past) ≡ breaks_for test past
same_breaks test e past none = ap (λ b. cond b (breaks_for test past + 1) (breaks_for test past)) none

fewer_waited : (before behind : Bool) (idle : ℕ) → (before ≡ false → behind ≡ false) → cond behind idle 0 ≤ cond before idle 0
fewer_waited true true idle off = omega arith
fewer_waited true false idle off = omega arith
fewer_waited false true idle off = absurd (cc (off refl))
fewer_waited false false idle off = omega arith

less_waited : (on : Bool) (less idle : ℕ) → less ≤ idle → cond on less 0 ≤ cond on idle 0
less_waited true less idle fewer = fewer
less_waited false less idle fewer = omega arith

one_waited : (on : Bool) (idle : ℕ) → cond on (at_most 10000 (idle + 1)) 0 ≤ cond on idle 0 + 1
one_waited true idle = by (nat_le (idle + 1) 10000) refl
  where
    by : (b : Bool) → nat_le (idle + 1) 10000 ≡ b → cond b (idle + 1) 10000 ≤ idle + 1
    by true e = omega arith
    by false e = let more = leb-false (idle + 1) 10000 e in omega (arith, more)
one_waited false idle = omega arith

none_waited : (on : Bool) → cond on 0 0 ≤ 0
none_waited true = omega arith
none_waited false = omega arith

module _ (s : Setup) (l : Sizes) (past : List Entry) (first : LinkCounts) where
  abbrev nothings_by : ℕ → ℕ
  nothings_by idle = 10000 * breaks_for is_idle past + waited (phase_of s l past) idle

  -- ---- Calls of the link

  -- no count fell, and no longer was waited
  pub later_counted : (idle less : ℕ) (before now : LinkCounts) → less ≤ idle → IsLater before now → HasCounted s l past idle first before → HasCounted s l past less first now
  later_counted idle less before now fewer later h =
      let waits = less_waited (listens (phase_of s l past)) less idle fewer in
      record {
        faults = rose_on (breaks_for is_fault past) (breaks_for is_fault past) first.faults before.faults now.faults (omega arith) later.faults h.faults;
        ends = rose_on (breaks_for is_end past) (breaks_for is_end past) first.ends before.ends now.ends (omega arith) later.ends h.ends;
        nothings = rose_on (nothings_by less) (nothings_by idle) first.nothings before.nothings now.nothings (omega (arith, waits)) later.nothings h.nothings;
      }

  -- a call failed, and nothing says so
  pub failed_counted : (idle : ℕ) (now : LinkCounts) → HasCounted s l past idle first now → HasCounted s l past idle first (with_fault now)
  failed_counted idle now h = record { faults = rose_raised (breaks_for is_fault past) first.faults now.faults h.faults; ends = h.ends; nothings = h.nothings }

  -- the connection has ended, and nothing says so
  pub ended_counted : (idle : ℕ) (now : LinkCounts) → HasCounted s l past idle first now → HasCounted s l past idle first (with_end now)
  ended_counted idle now h = record { faults = h.faults; ends = rose_raised (breaks_for is_end past) first.ends now.ends h.ends; nothings = h.nothings }

  -- a receive heard nothing
  pub nothing_counted : (idle : ℕ) (before now : LinkCounts) → RoseBy 0 before.faults now.faults → RoseBy 0 before.ends now.ends → Rose before.nothings now.nothings → HasCounted s l past idle first before
      → HasCounted s l past (at_most 10000 (idle + 1)) first now
  nothing_counted idle before now faults ends rose h =
      let one = one_waited (listens (phase_of s l past)) idle in
      record {
        faults = rose_on (breaks_for is_fault past) (breaks_for is_fault past) first.faults before.faults now.faults (omega arith) faults h.faults;
        ends = rose_on (breaks_for is_end past) (breaks_for is_end past) first.ends before.ends now.ends (omega arith) ends h.ends;
        nothings =
            rose_on (nothings_by (at_most 10000 (idle + 1))) (nothings_by idle + 1) first.nothings now.nothings now.nothings (omega (arith, one)) (no_less now.nothings)
            (rose_more (nothings_by idle) first.nothings before.nothings now.nothings rose h.nothings);
      }

  -- what the counts are at the end
  pub is_counted : (idle : ℕ) (now : LinkCounts) → HasCounted s l past idle first now → IsCounted past first now
  is_counted idle now h =
      record {
        faults = h.faults;
        ends = h.ends;
        nothings = rose_on (10000 * breaks_for is_idle past) (nothings_by idle) first.nothings now.nothings now.nothings (omega arith) (no_less now.nothings) h.nothings;
      }

  -- ---- Entries

  module _ (at : ℕ) (cause : Cause) (found : Row) (e : row s l past at cause ≡ Some found) where
    abbrev r : Readings
    r = readings s l past

    abbrev more : List Entry
    more = entry at cause found ∷ past

    phase_is : phase_of s l more ≡ found.phase
    phase_is = ap (λ q. phase_by q (phase_of s l past)) e

    stays_away : is_opened cause ≡ false → listens (phase_of s l past) ≡ false → listens (phase_of s l more) ≡ false
    stays_away other off = ap listens phase_is ∙ away_stays s l r at cause found (in_time s l r at cause found e) other off

    waits_on : is_opened cause ≡ false → (idle : ℕ) → waited (phase_of s l more) idle ≤ waited (phase_of s l past) idle
    waits_on other idle = fewer_waited (listens (phase_of s l past)) (listens (phase_of s l more)) idle (stays_away other)

    same_count : (test : Why → Bool) (before now : ℕ) → is_break_for test cause ≡ false → RoseBy (breaks_for test past) before now → RoseBy (breaks_for test more) before now
    same_count test before now none h = subst (λ n. RoseBy n before now) (sym (same_breaks test (entry at cause found) past none)) h

    -- where the agent has waited no longer behind it
    same_nothings : (idle : ℕ) (before now : ℕ) → RoseBy 0 before now → is_break_for is_idle cause ≡ false → waited (phase_of s l more) idle ≤ waited (phase_of s l past) idle → RoseBy (nothings_by idle) first.nothings before
        → RoseBy (10000 * breaks_for is_idle more + waited (phase_of s l more) idle) first.nothings now
    same_nothings idle before now later none fewer h =
        let same = same_breaks is_idle (entry at cause found) past none in
        rose_on (10000 * breaks_for is_idle more + waited (phase_of s l more) idle) (nothings_by idle) first.nothings before now (omega (arith, same, fewer)) later h

    pub plain_counted : (idle : ℕ) (now : LinkCounts) → IsUncounted cause → HasCounted s l past idle first now → HasCounted s l more idle first now
    plain_counted idle now other h =
        record {
          faults = same_count is_fault first.faults now.faults other.fault h.faults;
          ends = same_count is_end first.ends now.ends other.end h.ends;
          nothings = same_nothings idle now.nothings now.nothings (no_less now.nothings) other.idle (waits_on other.opened idle) h.nothings;
        }

  -- a call failed
  pub fault_counted : (at : ℕ) (found : Row) → row s l past at (c.Broke why.Fault) ≡ Some found → (idle : ℕ) (before now : LinkCounts) → Rose before.faults now.faults → RoseBy 0 before.ends now.ends → RoseBy 0 before.nothings now.nothings
      → HasCounted s l past idle first before → HasCounted s l (entry at (c.Broke why.Fault) found ∷ past) idle first now
  fault_counted at found e idle before now rose ends nothings h =
      record {
        faults = rose_more (breaks_for is_fault past) first.faults before.faults now.faults rose h.faults;
        ends = rose_on (breaks_for is_end past) (breaks_for is_end past) first.ends before.ends now.ends (omega arith) ends h.ends;
        nothings = same_nothings at (c.Broke why.Fault) found e idle before.nothings now.nothings nothings refl (waits_on at (c.Broke why.Fault) found e refl idle) h.nothings;
      }

  -- the connection has ended
  pub end_counted : (at : ℕ) (found : Row) → row s l past at (c.Broke why.End) ≡ Some found → (idle : ℕ) (before now : LinkCounts) → RoseBy 0 before.faults now.faults → Rose before.ends now.ends → RoseBy 0 before.nothings now.nothings → HasCounted s l past idle first before
      → HasCounted s l (entry at (c.Broke why.End) found ∷ past) idle first now
  end_counted at found e idle before now faults rose nothings h =
      record {
        faults = rose_on (breaks_for is_fault past) (breaks_for is_fault past) first.faults before.faults now.faults (omega arith) faults h.faults;
        ends = rose_more (breaks_for is_end past) first.ends before.ends now.ends rose h.ends;
        nothings = same_nothings at (c.Broke why.End) found e idle before.nothings now.nothings nothings refl (waits_on at (c.Broke why.End) found e refl idle) h.nothings;
      }

  -- nothing was heard ten thousand times in a row
  pub idle_counted : (at : ℕ) (found : Row) → row s l past at (c.Broke why.Idle) ≡ Some found → (idle : ℕ) (now : LinkCounts) → 10000 ≤ idle → HasCounted s l past idle first now
      → HasCounted s l (entry at (c.Broke why.Idle) found ∷ past) idle first now
  idle_counted at found e idle now long h =
      let away = idle_away s l (readings s l past) found (phase_of s l past) (in_time s l (readings s l past) at (c.Broke why.Idle) found e) in
      let before : waited (phase_of s l past) idle ≡ idle = ap (λ b. cond b idle 0) away.0 in
      let behind : waited (phase_of s l (entry at (c.Broke why.Idle) found ∷ past)) idle ≡ 0 = ap (λ b. cond b idle 0) (ap listens (phase_is at (c.Broke why.Idle) found e) ∙ away.1) in
      record {
        faults = h.faults;
        ends = h.ends;
        nothings =
            rose_on (10000 * (breaks_for is_idle past + 1) + waited (phase_of s l (entry at (c.Broke why.Idle) found ∷ past)) idle) (nothings_by idle) first.nothings now.nothings now.nothings
            (omega (arith, before, behind, long)) (no_less now.nothings) h.nothings;
      }

  -- a connection begins, on which nothing was waited for
  pub opened_counted : (at : ℕ) (found : Row) → row s l past at c.Opened ≡ Some found → (idle : ℕ) (now : LinkCounts) → HasCounted s l past idle first now → HasCounted s l (entry at c.Opened found ∷ past) 0 first now
  opened_counted at found e idle now h =
      let none = none_waited (listens (phase_of s l (entry at c.Opened found ∷ past))) in
      record {
        faults = h.faults;
        ends = h.ends;
        nothings =
            rose_on (10000 * breaks_for is_idle past + waited (phase_of s l (entry at c.Opened found ∷ past)) 0) (nothings_by idle) first.nothings now.nothings now.nothings (omega (arith, none)) (no_less now.nothings) h.nothings;
      }

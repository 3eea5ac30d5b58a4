-- Breaks, of which the link has counted what caused them.
use Rattle.std.proofs.Common.{◌≡◌, ℕ, Bool, true, false, cond, List, refl, sym, subst, arith}
use Rattle.std.specs.Prelude.{Option, Some, None, nat_le}
use Rattle.std.proofs.lemmas.Bool.{leb-true}
use Rattle.mqtt_packet.specs.declared.splitter.Next.TheVariants as answers
use Rattle.mqtt_packet.specs.Splitting.{Kept as Stream}
use Rattle.mqtt_packet.specs.Steps.{next_of}
use Rattle.agent_link.specs.Counts.{Rose}
use Rattle.agent_journal.specs.declared.entry.Cause.TheVariants as c
use Rattle.agent_journal.specs.declared.entry.Why.{Why}
use Rattle.agent_journal.specs.declared.entry.Why.TheVariants as why
use Rattle.agent_table.specs.Rows.{Row}
use Rattle.agent_table.specs.Ties.{Moment, arrived, listens, is_bad_bytes, Rejects}
use Rattle.agent_ties.specs.Counting.{HasCounted}
use Rattle.agent_ties.specs.Heard.{IsGoing}
use Rattle.agent_ties.specs.Seen.{Seen}
use Rattle.agent_ties.specs.Ties.{Ties, Handing}
use Rattle.agent_ties.proofs.Counting.{bad_uncounted, later_counted, nothing_counted, plain_counted, fault_counted, end_counted, idle_counted}
use Rattle.agent_ties.proofs.Handed.{next_bad, next_long}
use Rattle.agent_ties.proofs.Keeping.{broke_ties}
use Rattle.agent_ties.proofs.Rejecting.{rejected_there, rejected_ties}
use Rattle.agent_line.specs.Entered.{one_more, idled}
use Rattle.agent_line.specs.Recorded.{Recorded, phase_in, row_in, with_row, noted, noted_by}
use Rattle.agent_line.specs.Told.{Told, Follows, seen_in, Since}
use Rattle.agent_line.proofs.Since.{IsStill, still_on}

-- what becomes of ties and counts where there is no row for the break, or one
record Carries (P : Seen → Type 0) (old new : Recorded) (stream behind : Stream) (idle less : ℕ) (first before now : Told) : Type 0 where
  ties : (taken given : List (List ℕ)) → P (seen_in old stream taken given) → Ties (seen_in new behind taken given)
  counts : HasCounted old.setup old.sizes old.past idle first.counts before.counts → HasCounted new.setup new.sizes new.past less first.counts now.counts

module _ (P : Seen → Type 0) (first : Told) (old new : Recorded) (at : ℕ) (reason : Why) (before now : Told) (stream behind : Stream) (idle less : ℕ) (is : new ≡ noted old at (c.Broke reason))
    (took : now.taken ≡ before.taken) (gave : now.given ≡ before.given) (none : row_in old at (c.Broke reason) ≡ None → Carries P old old stream behind idle less first before now)
    (some : (found : Row) → row_in old at (c.Broke reason) ≡ Some found → Carries P old (with_row old at (c.Broke reason) found) stream behind idle less first before now) where
  carried : (r : Recorded) → Carries P old r stream behind idle less first before now → Since P first old stream idle before → Since Ties first r behind less now
  carried r c since =
      record {
        taken = since.taken;
        given = since.given;
        took = subst (Follows first.taken since.taken) (sym took) since.took;
        gave = subst (Follows first.given since.given) (sym gave) since.gave;
        ties = c.ties since.taken since.given since.ties;
        counts = c.counts since.counts;
      }

  by : (r : Option Row) → row_in old at (c.Broke reason) ≡ r → new ≡ noted_by old at (c.Broke reason) r → Since P first old stream idle before → Since Ties first new behind less now
  by None e same since = subst (λ r. Since Ties first r behind less now) (sym same) (carried old (none e) since)
  by (Some found) e one since = subst (λ r. Since Ties first r behind less now) (sym one) (carried (with_row old at (c.Broke reason) found) (some found e) since)

  broke_on : Since P first old stream idle before → Since Ties first new behind less now
  broke_on = by (row_in old at (c.Broke reason)) refl is

-- ---- A call failed, or the connection has ended

module _ (first : Told) (old new : Recorded) (at : ℕ) (before now : Told) (stream : Stream) (idle : ℕ) (still : IsStill before now) where
  unnoted : Carries Ties old old stream stream idle idle first before now
  unnoted = record { ties = λ taken given t. t; counts = later_counted old.setup old.sizes old.past first.counts idle idle before.counts now.counts (omega arith) still.later }

  pub fault_on : Rose before.counts.faults now.counts.faults → new ≡ noted old at (c.Broke why.Fault) → Since Ties first old stream idle before → Since Ties first new stream idle now
  fault_on rose is =
      broke_on Ties first old new at why.Fault before now stream stream idle idle is still.taken still.given (λ none. unnoted)
      (λ found e.
      record {
        ties = λ taken given t. broke_ties at (seen_in old stream taken given) why.Fault found e refl t;
        counts = fault_counted old.setup old.sizes old.past first.counts at found e idle before.counts now.counts rose still.later.ends still.later.nothings;
      })

  pub end_on : Rose before.counts.ends now.counts.ends → new ≡ noted old at (c.Broke why.End) → Since Ties first old stream idle before → Since Ties first new stream idle now
  end_on rose is =
      broke_on Ties first old new at why.End before now stream stream idle idle is still.taken still.given (λ none. unnoted)
      (λ found e.
      record {
        ties = λ taken given t. broke_ties at (seen_in old stream taken given) why.End found e refl t;
        counts = end_counted old.setup old.sizes old.past first.counts at found e idle before.counts now.counts still.later.faults rose still.later.nothings;
      })

  -- ---- Nothing was heard

  -- once more
  heard_none : Rose before.counts.nothings now.counts.nothings → Since Ties first old stream idle before → Since Ties first old stream (one_more idle) now
  heard_none rose since =
      record {
        taken = since.taken;
        given = since.given;
        took = subst (Follows first.taken since.taken) (sym still.taken) since.took;
        gave = subst (Follows first.given since.given) (sym still.given) since.gave;
        ties = since.ties;
        counts = nothing_counted old.setup old.sizes old.past first.counts idle before.counts now.counts still.later.faults still.later.ends rose since.counts;
      }

  long : nat_le 10000 idle ≡ true → new ≡ noted old at (c.Broke why.Idle) → Since Ties first old stream idle before → Since Ties first new stream idle now
  long e is =
      broke_on Ties first old new at why.Idle before now stream stream idle idle is still.taken still.given (λ none. unnoted)
      (λ found there.
      record {
        ties = λ taken given t. broke_ties at (seen_in old stream taken given) why.Idle found there refl t;
        counts =
            λ counts.
            idle_counted old.setup old.sizes old.past first.counts at found there idle now.counts (leb-true 10000 idle e)
            (later_counted old.setup old.sizes old.past first.counts idle idle before.counts now.counts (omega arith) still.later counts);
      })

  idled_on : new ≡ idled old idle at → Since Ties first old stream idle before → Since Ties first new stream idle now
  idled_on is = by (nat_le 10000 idle) refl is
    where
      by : (b : Bool) → nat_le 10000 idle ≡ b → new ≡ cond b (noted old at (c.Broke why.Idle)) old → Since Ties first old stream idle before → Since Ties first new stream idle now
      by true e is since = long e is since
      by false e is since = subst (λ r. Since Ties first r stream idle now) (sym is) (still_on Ties first old stream idle idle before now (omega arith) still since)

-- a receive that heard nothing, and what follows it
pub nothing_on : (first : Told) (old new : Recorded) (at : ℕ) (before mid now : Told) (stream : Stream) (idle : ℕ) → IsStill before mid → Rose before.counts.nothings mid.counts.nothings → IsStill mid now
    → new ≡ idled old (one_more idle) at → Since Ties first old stream idle before → Since Ties first new stream (one_more idle) now
nothing_on first old new at before mid now stream idle same rose still is since =
    idled_on first old new at mid now stream (one_more idle) still is (heard_none first old new at before mid stream idle same rose since)

-- ---- What came is no packet

module _ (first : Told) (old new : Recorded) (at : ℕ) (before now : Told) (stream behind : Stream) (idle : ℕ) (on : listens (phase_in old) ≡ true) (still : IsStill before now) where
  rejects_on : (reason : Why) → is_bad_bytes reason ≡ true → ((ms : List Moment) (bs : List ℕ) → IsGoing stream ms bs → Rejects bs (arrived ms) reason) → new ≡ noted old at (c.Broke reason)
      → Since (Handing at stream) first old stream idle before → Since Ties first new behind idle now
  rejects_on reason bad says is =
      broke_on (Handing at stream) first old new at reason before now stream behind idle idle is still.taken still.given
      (λ none.
      record {
        ties = λ taken given h. absurd (rejected_there at (seen_in old stream taken given) on h.time reason bad none);
        counts = later_counted old.setup old.sizes old.past first.counts idle idle before.counts now.counts (omega arith) still.later;
      })
      (λ found e.
      record {
        ties = λ taken given h. rejected_ties at (seen_in old stream taken given) behind on h.wired h.handing reason bad says found e;
        counts =
            λ counts.
            plain_counted old.setup old.sizes old.past first.counts at (c.Broke reason) found e idle now.counts (bad_uncounted reason bad)
            (later_counted old.setup old.sizes old.past first.counts idle idle before.counts now.counts (omega arith) still.later counts);
      })

  pub bad_on : (offset : ℕ) → (answers.Bad offset, behind) ≡ next_of stream → new ≡ noted old at (c.Broke (why.Bad offset)) → Since (Handing at stream) first old stream idle before → Since Ties first new behind idle now
  bad_on offset e = rejects_on (why.Bad offset) refl (λ ms bs g. next_bad stream behind ms bs g offset e)

  pub long_on : (offset size : ℕ) → (answers.TooLong offset size, behind) ≡ next_of stream → new ≡ noted old at (c.Broke (why.TooLong size)) → Since (Handing at stream) first old stream idle before → Since Ties first new behind idle now
  long_on offset size e = rejects_on (why.TooLong size) refl (λ ms bs g. next_long stream behind ms bs g offset size e)

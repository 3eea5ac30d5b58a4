-- What a step of an agent does.
use Rattle.std.proofs.Common.{◌≡◌, ◌⊎◌, ℕ, zero, suc, ◌+◌, ◌<◌, ◌≤◌, Bool, true, false, List, [], ◌∷◌, ◌++◌, length, Option, Some, None, refl, sym, ap, ◌∙◌, subst, arith, inl, inr, append_assoc, is_some}
use Rattle.std.specs.Prelude.{Contains}
use Rattle.std.proofs.lemmas.List.{length-append}
use Rattle.atomic_table.specs.Seated.{TableId}
use Rattle.agent_journal.specs.declared.entry.Cause.{Cause}
use Rattle.agent_journal.specs.declared.entry.Cause.TheVariants as c
use Rattle.agent_journal.specs.declared.entry.Why.TheVariants as why
use Rattle.agent_journal.specs.declared.entry.Entry.{Entry}
use Rattle.agent_journal.specs.declared.setup.Phase.TheVariants.{Spilled}
use Rattle.agent_journal.specs.Readings.{last_time_of}
use Rattle.agent_journal.specs.Wires.{AreReadings}
use Rattle.agent_table.specs.Histories.{readings}
use Rattle.agent_ties.proofs.Dues.{none_of}
use Rattle.agent_ties.proofs.Rows.{in_full_there}
use Rattle.agent_line.specs.Recorded.{Recorded, phase_in, row_in, due_in, Makes, MayMake, Enters, Grows}
use Rattle.agent_ties.specs.Seen.{entry}
use Rattle.agent_line.specs.Told.{Told, GaveMore}
use Rattle.agent_line.proofs.Growing.{both_read, grows_made, grows_entered, grows_on}
use Rattle.task_queues.specs.declared.submission.Submission.{Submission}
use Rattle.task_queues.specs.QueuePasses.{Receiving, WasEmpty}
use Rattle.agent_requests.specs.declared.answers.Popped.{Popped}
use Rattle.agent_requests.specs.declared.answers.Short.{Short}
use Rattle.agent_requests.specs.Takes.{take_of}
use Rattle.agent_requests.specs.Intake.{Taking, IsSameEnd, TakesOneAtMost, Works, WasBusy, FoundEmpty, LosesTake, AddsBefore, FallsShort}

-- ---- The journal is longer

pub longer_entered : (at : ℕ) (cause : Cause) (old new : Recorded) → Enters at cause old new → length old.past < length new.past
longer_entered at cause old new h =
    let all = ap length h.past in let parts = length-append h.more (h.first ∷ old.past) in omega (arith, all, parts)

pub longer_made : (at : ℕ) (cause : Cause) (old new : Recorded) → Makes old at cause new → length old.past < length new.past
longer_made at cause old new h = let all = ap (λ (r : Recorded). length r.past) h.newest in omega (arith, all)

pub no_shorter : (at : ℕ) (old new : Recorded) → Grows at old new → length old.past ≤ length new.past
no_shorter at old new h = let all = ap length h.past in let parts = length-append h.more old.past in omega (arith, all, parts)

works_longer : (at : ℕ) (old new : Taking) → Works at old new → length old.recorded.past ≤ length new.recorded.past
works_longer at old new h = let all = ap length h.past in let parts = length-append h.more old.recorded.past in omega (arith, all, parts)

-- no entry was added
pub same_grown : (at : ℕ) (old new : Recorded) → Grows at old new → length new.past ≤ length old.past → new ≡ old
same_grown at old new h short = by h.more h.past
  where
    by : (more : List Entry) → new.past ≡ more ++ old.past → new ≡ old
    by [] e = λ i. record { setup = h.setup i; sizes = h.sizes i; past = e i }
    by (x ∷ more) e = let all = ap length e in let parts = length-append more old.past in absurd (omega (arith, all, parts, short))

-- ---- Entries more

same_end : (old new : Receiving) → new ≡ old → IsSameEnd old new
same_end old new e = record { queue = ap (λ (r : Receiving). r.queue) e; senders = ap (λ (r : Receiving). r.senders) e; joined = ap (λ (r : Receiving). r.joined) e }

pub works_grown : (at : ℕ) (old new : Taking) → Grows at old.recorded new.recorded → new.receiver ≡ old.receiver → Works at old new
works_grown at old new h same =
    record { setup = h.setup; sizes = h.sizes; more = h.more; past = h.past; times = h.others.times; taken = inl (ap (λ (r : Receiving). r.taken) same); same_end = same_end old.receiver new.receiver same }

pub works_taken : (at : ℕ) (old new : Taking) (s : Submission) → Enters at (take_of s) old.recorded new.recorded → new.receiver ≡ record old.receiver { taken = old.receiver.taken ++ s ∷ [] } → Works at old new
works_taken at old new s h e =
    record {
      setup = h.setup;
      sizes = h.sizes;
      more = h.more ++ h.first ∷ [];
      past = h.past ∙ sym (append_assoc h.more (h.first ∷ []) old.recorded.past);
      times = both_read (at ∷ []) h.more (h.first ∷ []) h.others.times ((0, omega arith, sym h.time), tt);
      taken = inr (s, ap (λ (r : Receiving). r.taken) e);
      same_end = record { queue = ap (λ (r : Receiving). r.queue) e; senders = ap (λ (r : Receiving). r.senders) e; joined = ap (λ (r : Receiving). r.joined) e };
    }

-- a step behind entries that took no request
pub works_behind : (at : ℕ) (old mid new : Taking) → Grows at old.recorded mid.recorded → mid.receiver ≡ old.receiver → Works at mid new → Works at old new
works_behind at old mid new h same w =
    record {
      setup = w.setup ∙ h.setup;
      sizes = w.sizes ∙ h.sizes;
      more = w.more ++ h.more;
      past = w.past ∙ ap (λ xs. w.more ++ xs) h.past ∙ sym (append_assoc w.more h.more old.recorded.past);
      times = both_read (at ∷ []) w.more h.more w.times h.others.times;
      taken = subst (λ (r : Receiving). TakesOneAtMost r new.receiver) same w.taken;
      same_end = subst (λ (r : Receiving). IsSameEnd r new.receiver) same w.same_end;
    }

-- the queue was empty
pub works_empty : (at : ℕ) (board : TableId) (old new : Taking) → FoundEmpty board old.receiver new.receiver → new.recorded ≡ old.recorded → Works at old new
works_empty at board old new h same =
    record {
      setup = ap (λ (r : Recorded). r.setup) same;
      sizes = ap (λ (r : Recorded). r.sizes) same;
      more = [];
      past = ap (λ (r : Recorded). r.past) same;
      times = tt;
      taken = inl (ap (λ (r : Receiving). r.taken) h.counted);
      same_end = record { queue = ap (λ (r : Receiving). r.queue) h.counted; senders = ap (λ (r : Receiving). r.senders) h.counted; joined = ap (λ (r : Receiving). r.joined) h.counted };
    }

-- a connection was opened, or failed
pub grows_opened : (opened : Bool) (at : ℕ) (old new : Recorded) → (opened ≡ true → Enters at c.Opened old new) → (opened ≡ false → Makes old at (c.Broke why.Fault) new) → Grows at old new
grows_opened true at old new opens fails = grows_entered at c.Opened old new refl (opens refl)
grows_opened false at old new opens fails = grows_made at (c.Broke why.Fault) old new refl (fails refl)

pub longer_opened : (opened : Bool) (at : ℕ) (old new : Recorded) → (opened ≡ true → Enters at c.Opened old new) → (opened ≡ false → Makes old at (c.Broke why.Fault) new) → length old.past < length new.past
longer_opened true at old new opens fails = longer_entered at c.Opened old new (opens refl)
longer_opened false at old new opens fails = longer_made at (c.Broke why.Fault) old new (fails refl)

-- a request was taken, or there was none
pub works_took : (took : Option Popped) (at : ℕ) (board : TableId) (old new : Taking)
    → ((p : Popped) → took ≡ Some p → (s : Submission) × Enters at (take_of s) old.recorded new.recorded × (new.receiver ≡ record old.receiver { taken = old.receiver.taken ++ s ∷ [] }))
    → (took ≡ None → WasEmpty board old.receiver × (new ≡ record old { receiver = record old.receiver { empties = old.receiver.empties + 1 } })) → Works at old new
works_took (Some p) at board old new taken none = let t = taken p refl in works_taken at old new t.0 t.1 t.2
works_took None at board old new taken none =
    let n = none refl in
    works_empty at board old new (record { empty = n.0; counted = ap (λ (t : Taking). t.receiver) n.1 }) (ap (λ (t : Taking). t.recorded) n.1)

-- ---- Where memory ran out

-- no request was taken
pub short_none : (at : ℕ) (old new : Taking) (e : Short) → e.popped ≡ None → Grows at old.recorded new.recorded → new.receiver ≡ old.receiver → FallsShort at old new e
short_none at old new e none h same = subst (λ (p : Option Popped). AddsBefore at old new p) (sym none) (h, same)

pub short_taken : (at : ℕ) (old mid new : Taking) (p : Popped) → Grows at old.recorded mid.recorded → mid.receiver ≡ old.receiver → LosesTake at mid new p → FallsShort at old new (record { popped = Some p })
short_taken at old mid new p h same l = (mid, h, same, l)

pub short_behind : (at : ℕ) (old mid new : Taking) (e : Short) → Grows at old.recorded mid.recorded → mid.receiver ≡ old.receiver → FallsShort at mid new e → FallsShort at old new e
short_behind at old mid new e h same = by e.popped
  where
    by : (p : Option Popped) → AddsBefore at mid new p → AddsBefore at old new p
    by None f = (grows_on at old.recorded mid.recorded new.recorded h f.0, f.1 ∙ same)
    by (Some p) f = (f.0, grows_on at old.recorded mid.recorded f.0.recorded h f.1, f.2 ∙ same, f.3)

-- ---- What is due

-- In Spilled the break is due.
pub spilled_is_due : (r : Recorded) (at : ℕ) → last_time_of r.past ≤ at → due_in r at ≡ None → phase_in r ≡ Spilled → ⊥
spilled_is_due r at time none is =
    let found : Cause → Bool = λ cause. is_some (row_in r at cause) in
    let there = ap is_some (in_full_there r.setup r.sizes (readings r.setup r.sizes r.past) at time is) in
    absurd (cc (sym there ∙ (none_of (found c.Finish) (found (c.Broke why.KeepAlive)) (found c.Tick) (found c.GaveUp) (found (c.Broke why.InFull)) none).2))

-- ---- A step that found no memory

-- the entry of a request that was taken may stand there
pub works_lost : (at : ℕ) (old new : Taking) (p : Popped) → LosesTake at old new p → Works at old new
works_lost at old new p h = by h.made
  where
    end : IsSameEnd old.receiver new.receiver
    end = record { queue = ap (λ (r : Receiving). r.queue) h.taken; senders = ap (λ (r : Receiving). r.senders) h.taken; joined = ap (λ (r : Receiving). r.joined) h.taken }

    by : MayMake old.recorded at (take_of h.submission) new.recorded → Works at old new
    by (inl same) =
        record {
          setup = ap (λ (r : Recorded). r.setup) same;
          sizes = ap (λ (r : Recorded). r.sizes) same;
          more = [];
          past = ap (λ (r : Recorded). r.past) same;
          times = tt;
          taken = inr (h.submission, ap (λ (r : Receiving). r.taken) h.taken);
          same_end = end;
        }
    by (inr made) =
        record {
          setup = ap (λ (r : Recorded). r.setup) made.newest;
          sizes = ap (λ (r : Recorded). r.sizes) made.newest;
          more = entry at (take_of h.submission) made.found ∷ [];
          past = ap (λ (r : Recorded). r.past) made.newest;
          times = ((0, omega arith, refl), tt);
          taken = inr (h.submission, ap (λ (r : Receiving). r.taken) h.taken);
          same_end = end;
        }

-- ---- A receive, and a request behind it

-- entries of this time leave the journal's time within it
pub grows_time : (at : ℕ) (old new : Recorded) → Grows at old new → last_time_of old.past ≤ at → last_time_of new.past ≤ at
grows_time at old new h time = by h.more h.past h.others.times
  where
    by : (more : List Entry) → new.past ≡ more ++ old.past → AreReadings (at ∷ []) more → last_time_of new.past ≤ at
    by [] e all = subst (λ past. last_time_of past ≤ at) (sym e) time
    by (x ∷ more) e all = subst (λ past. last_time_of past ≤ at) (sym e) (one all.0)
      where
        one : Contains (at ∷ []) x.at → x.at ≤ at
        one (zero, within, there) = omega (arith, there)
        one (suc i, within, there) = absurd (omega (arith, within))

pub busy_behind : (at : ℕ) (old mid new : Taking) (before between now : Told) → WasBusy old before mid between → Works at mid new → (length mid.recorded.past < length new.recorded.past) ⊎ (now ≡ between)
    → length old.recorded.past ≤ length mid.recorded.past → WasBusy old before new now
busy_behind at old mid new before between now (inl longer) works more no_less = let w = works_longer at mid new works in inl (omega (arith, longer, w))
busy_behind at old mid new before between now (inr gave) works (inl longer) no_less = inl (omega (arith, longer, no_less))
busy_behind at old mid new before between now (inr gave) works (inr same) no_less = inr (subst (λ (t : Told). GaveMore before.given t.given) (sym same) gave)

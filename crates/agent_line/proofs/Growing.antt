-- A journal with an entry more, and perhaps a break behind it.
use Rattle.std.proofs.Common.{◌≡◌, ◌⊎◌, ℕ, Bool, true, false, cond, List, [], ◌∷◌, ◌++◌, refl, sym, ap, ◌∙◌, arith, append_assoc, inl, inr}
use Rattle.std.specs.Prelude.{Contains, Result, Ok, Err, OnOk, OnErr, Option, Some, None, is_some, nat_le}
use Rattle.std.proofs.lemmas.List.Folds.{list_any-append}
use Rattle.mqtt_packet.specs.declared.packet.Packet.{Packet}
use Rattle.agent_journal.specs.declared.entry.Cause.{Cause}
use Rattle.agent_journal.specs.declared.entry.Cause.TheVariants as c
use Rattle.agent_journal.specs.declared.entry.Entry.{Entry}
use Rattle.agent_journal.specs.declared.entry.Why.{Why}
use Rattle.agent_journal.specs.declared.entry.Why.TheVariants as why
use Rattle.agent_journal.specs.Wires.{AreReadings}
use Rattle.agent_table.specs.Rows.{Row}
use Rattle.agent_ties.specs.Seen.{entry}
use Rattle.agent_line.specs.Entered.{IsEntered, IsWhole, IsPart, Arrives, idled}
use Rattle.agent_line.specs.Recorded.{Recorded, row_in, noted, noted_by, is_take, AreOthers, Makes, MayMake, Grows, Enters}
use Rattle.agent_line.specs.Told.{Told}

-- this time
now_read : (at : ℕ) → Contains (at ∷ []) at
now_read at = (0, omega arith, refl)

pub both_read : (readings : List ℕ) (xs ys : List Entry) → AreReadings readings xs → AreReadings readings ys → AreReadings readings (xs ++ ys)
both_read readings [] ys h k = k
both_read readings (e ∷ xs) ys h k = (h.0, both_read readings xs ys h.1 k)

pub none_others : (at : ℕ) → AreOthers at []
none_others at = record { none_taken = refl; times = tt }

one_other : (at : ℕ) (cause : Cause) (found : Row) → is_take cause ≡ false → AreOthers at (entry at cause found ∷ [])
one_other at cause found other = record { none_taken = rw other refl; times = (now_read at, tt) }

more_others : (at : ℕ) (xs ys : List Entry) → AreOthers at xs → AreOthers at ys → AreOthers at (xs ++ ys)
more_others at xs ys a b =
    record {
      none_taken = list_any-append (λ (e : Entry). is_take e.cause) xs ys ∙ rw (a.none_taken, b.none_taken) refl;
      times = both_read (at ∷ []) xs ys a.times b.times;
    }

module _ (old new : Recorded) (at : ℕ) (cause : Cause) (before now : Told) (h : IsEntered old at cause before new now) where
  pub enters_one : Enters at cause old new
  enters_one = by h.sent
    where
      by : IsWhole old at cause h.found before new now ⊎ IsPart old at cause h.found before new now → Enters at cause old new
      by (inl whole) =
          record {
            setup = ap (λ (r : Recorded). r.setup) whole.newest;
            sizes = ap (λ (r : Recorded). r.sizes) whole.newest;
            more = [];
            first = entry at cause h.found;
            past = ap (λ (r : Recorded). r.past) whole.newest;
            is = refl;
            time = refl;
            others = none_others at;
          }
      by (inr part) =
          record {
            setup = ap (λ (r : Recorded). r.setup) part.newest;
            sizes = ap (λ (r : Recorded). r.sizes) part.newest;
            more = entry at (c.Broke why.Fault) part.second ∷ [];
            first = entry at cause h.found;
            past = ap (λ (r : Recorded). r.past) part.newest;
            is = refl;
            time = refl;
            others = one_other at (c.Broke why.Fault) part.second refl;
          }

-- an entry that takes no request
pub grows_entered : (at : ℕ) (cause : Cause) (old new : Recorded) → is_take cause ≡ false → Enters at cause old new → Grows at old new
grows_entered at cause old new other h =
    record {
      setup = h.setup;
      sizes = h.sizes;
      more = h.more ++ h.first ∷ [];
      past = h.past ∙ sym (append_assoc h.more (h.first ∷ []) old.past);
      others =
          more_others at h.more (h.first ∷ []) h.others (record { none_taken = rw (ap is_take h.is ∙ other) refl; times = ((0, omega arith, sym h.time), tt) });
    }

pub grows_none : (at : ℕ) (old new : Recorded) → new ≡ old → Grows at old new
grows_none at old new is =
    record { setup = ap (λ (r : Recorded). r.setup) is; sizes = ap (λ (r : Recorded). r.sizes) is; more = []; past = ap (λ (r : Recorded). r.past) is; others = none_others at }

pub grows_noted : (old new : Recorded) (at : ℕ) (reason : Why) → new ≡ noted old at (c.Broke reason) → Grows at old new
grows_noted old new at reason is = by (row_in old at (c.Broke reason)) is
  where
    by : (r : Option Row) → new ≡ noted_by old at (c.Broke reason) r → Grows at old new
    by None e = grows_none at old new e
    by (Some found) e =
        record {
          setup = ap (λ (r : Recorded). r.setup) e;
          sizes = ap (λ (r : Recorded). r.sizes) e;
          more = entry at (c.Broke reason) found ∷ [];
          past = ap (λ (r : Recorded). r.past) e;
          others = one_other at (c.Broke reason) found refl;
        }

pub grows_idled : (old new : Recorded) (idle at : ℕ) → new ≡ idled old idle at → Grows at old new
grows_idled old new idle at is = by (nat_le 10000 idle) is
  where
    by : (b : Bool) → new ≡ cond b (noted old at (c.Broke why.Idle)) old → Grows at old new
    by true e = grows_noted old new at why.Idle e
    by false e = grows_none at old new e

pub grows_on : (at : ℕ) (old mid new : Recorded) → Grows at old mid → Grows at mid new → Grows at old new
grows_on at old mid new a b =
    record {
      setup = b.setup ∙ a.setup;
      sizes = b.sizes ∙ a.sizes;
      more = b.more ++ a.more;
      past = b.past ∙ ap (λ xs. b.more ++ xs) a.past ∙ sym (append_assoc b.more a.more old.past);
      others = more_others at b.more a.more b.others a.others;
    }

pub grows_arrived : (old new : Recorded) (at : ℕ) (packet : Packet) (before now : Told) → Arrives old at packet before new now → Grows at old new
grows_arrived old new at packet before now (inl none) = grows_none at old new none.1
grows_arrived old new at packet before now (inr h) = grows_entered at (c.Arrived packet) old new refl (enters_one old new at (c.Arrived packet) before now h)

-- its packets bring nothing
pub given_arrived : (old new : Recorded) (at : ℕ) (packet : Packet) (before now : Told) → Arrives old at packet before new now → now.given ≡ before.given
given_arrived old new at packet before now (inl none) = ap (λ (t : Told). t.given) none.2
given_arrived old new at packet before now (inr h) = h.given

-- ---- What a call may leave that found no memory

pub grows_made : (at : ℕ) (cause : Cause) (old new : Recorded) → is_take cause ≡ false → Makes old at cause new → Grows at old new
grows_made at cause old new other h =
    record {
      setup = ap (λ (r : Recorded). r.setup) h.newest;
      sizes = ap (λ (r : Recorded). r.sizes) h.newest;
      more = entry at cause h.found ∷ [];
      past = ap (λ (r : Recorded). r.past) h.newest;
      others = one_other at cause h.found other;
    }

pub grows_maybe : (at : ℕ) (cause : Cause) (old new : Recorded) → is_take cause ≡ false → MayMake old at cause new → Grows at old new
grows_maybe at cause old new other (inl same) = grows_none at old new same
grows_maybe at cause old new other (inr made) = grows_made at cause old new other made

-- a break that may have found no memory
pub grows_broke : {T E : Type 0} (result : Result T E) (old new : Recorded) (at : ℕ) (reason : Why) → OnOk result (new ≡ noted old at (c.Broke reason)) → OnErr result (new ≡ old) → Grows at old new
grows_broke (Ok a) old new at reason ok err = grows_noted old new at reason ok
grows_broke (Err e) old new at reason ok err = grows_none at old new err

-- ---- A cause that has a row

pub noted_made : (old new : Recorded) (at : ℕ) (cause : Cause) → is_some (row_in old at cause) ≡ true → new ≡ noted old at cause → Makes old at cause new
noted_made old new at cause = by (row_in old at cause) refl
  where
    by : (r : Option Row) → row_in old at cause ≡ r → is_some r ≡ true → new ≡ noted_by old at cause r → Makes old at cause new
    by None e some is = absurd (cc some)
    by (Some found) e some is = record { found = found; is = e; newest = is }

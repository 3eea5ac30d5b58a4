-- What a change's document says, part by part.
use Rattle.std.proofs.Common.{◌≡◌, ℕ, List, [], ◌∷◌, true, false, Option, Some, None, Result, Err, refl, ap}
use Rattle.std.specs.Option.{option_and_then, option_map}
use Rattle.serde_json.specs.Data.{Data, Members}
use Rattle.serde_json.specs.Events.{members_len}
use Rattle.serde_json.specs.Find.{as_object}
use Rattle.serde_json.specs.View.{view}
use Rattle.device_docs.specs.declared.changes.Change.{Change}
use Rattle.device_docs.specs.declared.faults.ChangeFault.{ChangeFault}
use Rattle.device_docs.specs.declared.faults.ChangeFault.TheVariants as f
use Rattle.device_docs.specs.declared.faults.Unread.{Unread}
use Rattle.device_docs.specs.declared.faults.Unread.TheVariants as u
use Rattle.device_docs.specs.declared.keys.Key.TheVariants as k
use Rattle.device_docs.specs.Answers.{Reads, unread_change}
use Rattle.device_docs.specs.Checks.{absent, first, ◌>>=◌}
use Rattle.device_docs.specs.Members.{natural_of, object_of, at, document_of}
use Rattle.device_docs.specs.Changes.{version, state, desired, miscounted, is_counted, first_bad, first_fault, fault_by, fault_in, sets_of, change_of, change_in, Fails, Tells}
use Rattle.device_docs.specs.Laws.{FaultlessIsAChange}

first_one : {F : Type 0} (o : Option F) → first (o ∷ []) ≡ o
first_one None = refl
first_one (Some fault) = refl

pub miscounted_is : (d : Data) (n : ℕ) (s : Data) (ms : Members) (count : ℕ)
    → at natural_of k.Version d ≡ Some n → at object_of k.State d ≡ Some s → at as_object k.Desired s ≡ Some ms → count ≡ members_len ms → is_counted count ≡ false
    → first_fault d ≡ Some (f.Count count)
miscounted_is d n s ms count a b c e fails = rw (a, b, c, ← e, fails) refl

pub fault_is : (d : Data) (n : ℕ) (s : Data) (ms : Members) (count : ℕ)
    → at natural_of k.Version d ≡ Some n → at object_of k.State d ≡ Some s → at as_object k.Desired s ≡ Some ms → count ≡ members_len ms → is_counted count ≡ true
    → first_fault d ≡ option_map f.Value (first_bad ms)
fault_is d n s ms count a b c e passes = rw (a, b, c, ← e, passes) (first_one (option_map f.Value (first_bad ms)))

pub change_is : (d : Data) (n : ℕ) (s : Data) (ms : Members)
    → at natural_of k.Version d ≡ Some n → at object_of k.State d ≡ Some s → at as_object k.Desired s ≡ Some ms
    → change_of d ≡ Some (record { version = n; sets = sets_of ms })
change_is d n s ms a b c = rw (a, b, c) refl

pub object_tells : (text : List ℕ) (d : Data) (result : Result Change ChangeFault) → document_of text ≡ Some d → Tells (first_fault d) (change_of d) result → Tells (fault_in text) (change_in text) result
unfolding fault_in change_in
object_tells text d result e tells = rw e tells

pub unread_tells : (text : List ℕ) (unread : Unread) (fault : ChangeFault) → Reads view (Err unread) (document_of text) → fault ≡ unread_change unread → Fails (fault_in text) fault
unfolding fault_in
unread_tells text u.NotJson fault none e = rw e (ap fault_by none)
unread_tells text u.NoMemory fault none e = rw e tt

-- ---- Where no fault applies

abbrev Faultless : Option ℕ → Option Data → Option Members → List (Option ChangeFault) → Type 0
Faultless version state desired others =
    first (absent (f.Missing k.Version) version ∷ absent (f.Missing k.State) state ∷ absent (f.Missing k.Desired) desired ∷ others) ≡ None

parts_there : (version : Option ℕ) (state : Option Data) (desired : Option Members) (others : List (Option ChangeFault)) → Faultless version state desired others
    → (change : Change) × ((version >>= λ n. desired >>= λ ms. Some (record { version = n; sets = sets_of ms })) ≡ Some change)
parts_there None state desired others e = cc
parts_there (Some n) None desired others e = cc
parts_there (Some n) (Some d) None others e = cc
parts_there (Some n) (Some d) (Some ms) others e = (record { version = n; sets = sets_of ms }, refl)

by_document : (o : Option Data) → fault_by o ≡ None → (change : Change) × (option_and_then change_of o ≡ Some change)
by_document None e = cc
by_document (Some d) e = parts_there (version d) (state d) (desired d) (miscounted (desired d) ∷ option_map f.Value (option_and_then first_bad (desired d)) ∷ []) e

pub there_is_a_change : FaultlessIsAChange
unfolding fault_in change_in
there_is_a_change text e = by_document (document_of text) e

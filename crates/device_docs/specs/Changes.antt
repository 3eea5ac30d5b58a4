-- What a change of a shadow says: for each of its keys a value, or none.
use Rattle.std.specs.Prelude.{◌≡◌, ◌⊎◌, ℕ, nat_le, Bool, ◌&&◌, List, [], ◌∷◌, map, Option, Some, None, Result, Ok, Err, is_some, option_map, option_and_then, if◌then◌else◌}
use Rattle.std.specs.Cmp.Lexicographic.{slice_cmp}
use Rattle.std.specs.List.Sorted.{IsStrictlySortedBy}
use Rattle.std.specs.Ordering.{nat_cmp}
use Rattle.serde_json.specs.Data.{Data, null, boolean, number, string, array, object, Members, no_members, member}
use Rattle.serde_json.specs.Events.{members_len}
use Rattle.serde_json.specs.Find.{as_object, as_i64}
use Rattle.device_docs.specs.declared.changes.Change.{Change}
use Rattle.device_docs.specs.declared.changes.Scalar.{Scalar}
use Rattle.device_docs.specs.declared.changes.Scalar.TheVariants as v
use Rattle.device_docs.specs.declared.faults.ChangeFault.{ChangeFault}
use Rattle.device_docs.specs.declared.faults.ChangeFault.TheVariants as f
use Rattle.device_docs.specs.declared.keys.Key.TheVariants as k
use Rattle.device_docs.specs.Checks.{absent, first, join, ◌>>=◌}
use Rattle.device_docs.specs.Members.{object_of, natural_of, at, within, document_of}

-- ---- The parts of a document

abbrev pub version : Data → Option ℕ
version d = at natural_of k.Version d

abbrev pub state : Data → Option Data
state d = at object_of k.State d

-- its members stand in the order of their keys' bytes
abbrev pub desired : Data → Option Members
desired d = within (state d) as_object k.Desired

-- ---- What each must be

-- a scalar, or `null`, for which `None` stands
abbrev pub scalar_of : Data → Option (Option Scalar)
scalar_of null = Some None
scalar_of (boolean b) = Some (Some (v.Flag b))
scalar_of (number n) = option_map (λ z. Some (v.Int z)) (as_i64 n)
scalar_of (string s) = Some (Some (v.Word s))
scalar_of (array ds) = None
scalar_of (object ms) = None

-- how many members there may be
abbrev pub is_counted : ℕ → Bool
is_counted members = nat_le 1 members && nat_le members 64

-- the key of the first member that is neither
abbrev pub first_bad : Members → Option (List ℕ)
first_bad no_members = None
first_bad (member key d ms) = if is_some (scalar_of d) then first_bad ms else Some key

-- ---- The faults, in their order

abbrev pub miscounted : Option Members → Option ChangeFault
miscounted None = None
miscounted (Some ms) = if is_counted (members_len ms) then None else Some (f.Count (members_len ms))

-- each fault, where it applies
abbrev pub faults : Data → List (Option ChangeFault)
faults d =
    absent (f.Missing k.Version) (version d)
    ∷ absent (f.Missing k.State) (state d)
    ∷ absent (f.Missing k.Desired) (desired d)
    ∷ miscounted (desired d)
    ∷ option_map f.Value (option_and_then first_bad (desired d))
    ∷ []

-- why an object is no change, if it isn't one
abbrev pub first_fault : Data → Option ChangeFault
first_fault d = first (faults d)

-- why a text isn't one
abbrev pub fault_by : Option Data → Option ChangeFault
fault_by None = Some f.NotJson
fault_by (Some d) = first_fault d

unfoldable pub fault_in : List ℕ → Option ChangeFault
fault_in text = fault_by (document_of text)

-- ---- The change

abbrev pub sets_of : Members → List (List ℕ × Option Scalar)
sets_of no_members = []
sets_of (member key d ms) = (key, join (scalar_of d)) ∷ sets_of ms

abbrev pub change_of : Data → Option Change
change_of d = do
  version' ← version d
  members ← desired d
  Some (record { version = version'; sets = sets_of members })

unfoldable pub change_in : List ℕ → Option Change
change_in text = option_and_then change_of (document_of text)

-- each key once, in the order of their bytes
abbrev pub IsInOrder : List (List ℕ × Option Scalar) → Type 0
IsInOrder sets = IsStrictlySortedBy (slice_cmp nat_cmp) (map (λ set. set.0) sets)

-- The answer is the first fault, or where none applies what there is. Want of memory may be answered at any time.
abbrev pub Fails : Option ChangeFault → ChangeFault → Type 0
Fails fault f.NotJson = fault ≡ Some f.NotJson
Fails fault (f.Missing key) = fault ≡ Some (f.Missing key)
Fails fault (f.Count members) = fault ≡ Some (f.Count members)
Fails fault (f.Value key) = fault ≡ Some (f.Value key)
Fails fault f.NoMemory = Unit {0}

abbrev pub Tells : {X : Type 0} → Option ChangeFault → Option X → Result X ChangeFault → Type 0
Tells fault there (Ok x) = (fault ≡ None) × (there ≡ Some x)
Tells fault there (Err e) = Fails fault e

-- ---- One member

abbrev pub bad_value : List ℕ → Data → Option ChangeFault
bad_value key d = absent (f.Value key) (scalar_of d)

abbrev pub IsBadValue : List ℕ → ChangeFault → Type 0
IsBadValue key fault = ((fault ≡ f.Value key) ⊎ (fault ≡ f.NoMemory))

-- What a journal tells a task, and what of it still waits, from a place on. Entries stand here with the oldest first.
use Rattle.std.specs.Prelude.{◌≡◌, ℕ, ◌+◌, ◌≤◌, ◌<◌, List, [], ◌∷◌, ◌++◌, map, drop, length, Option, Some, None, slice_get, nat_lt, if◌then◌else◌}
use Rattle.std.specs.List.{flat_map}
use Rattle.agent_journal.specs.declared.entry.Entry.{Entry}
use Rattle.agent_journal.specs.declared.effect.Effect.{Effect}
use Rattle.agent_journal.specs.declared.effect.Effect.TheVariants as f
use Rattle.agent_journal.specs.Notes.{Note, Told, Completed, Passed, Ended, told_by, noted, notes_by}
use Rattle.agent_posts.specs.declared.place.Place.{Place}

-- A note of a journal, and the number of its entry, from 0.
pub record Placed : Type 0 where
  pub entry : ℕ
  pub note : Note

abbrev pub placed : ℕ → List Note → List Placed
placed entry notes = map (λ note. record { entry = entry; note = note }) notes

-- what task t is told by these entries, of which the first has this number
abbrev pub told_in : ℕ → ℕ → List Entry → List Placed
told_in t number [] = []
told_in t number (e ∷ entries) = placed number (notes_by t e) ++ told_in t (number + 1) entries

-- the same without what the first effects of the first entry, this many, tell
abbrev pub told_from : ℕ → ℕ → ℕ → List Entry → List Placed
told_from t number effects [] = []
told_from t number effects (e ∷ entries) = placed number (noted e.at (flat_map (told_by t) (drop effects e.effects))) ++ told_in t (number + 1) entries

-- what still waits for task t from a place on
abbrev pub waiting : ℕ → List Entry → Place → List Placed
waiting t entries place = told_from t place.entry place.effects (drop place.entry entries)

-- A place in a journal: before one of its entries, or within one, or behind all.
pub record IsPlaceIn (entries : List Entry) (place : Place) : Type 0 where
  pub within : place.entry ≤ length entries
  pub at_end : place.entry ≡ length entries → place.effects ≡ 0

-- ---- The next effect that tells a task

abbrev pub among : ℕ → ℕ → Option ℕ
among tasks task = if nat_lt task tasks then Some task else None

-- the task that is told of an effect, where it is one of the first, this many
abbrev pub addressee : ℕ → Effect → Option ℕ
addressee tasks (f.Send packet) = None
addressee tasks (f.Done task seq outcome) = among tasks task
addressee tasks (f.Pass task message) = among tasks task
addressee tasks (f.Closed task) = among tasks task

-- what it is told
abbrev pub told : Effect → List Told
told (f.Send packet) = []
told (f.Done task seq outcome) = Completed seq outcome ∷ []
told (f.Pass task message) = Passed message ∷ []
told (f.Closed task) = Ended ∷ []

-- The first of these effects, from one on, that tells one of the tasks: its place among them, and the task.
pub record IsNextIn (tasks : ℕ) (effects : List Effect) (from : ℕ) (next : ℕ × ℕ) : Type 0 where
  pub effect : Effect
  pub there : slice_get effects next.0 ≡ Some effect
  pub tells : addressee tasks effect ≡ Some next.1
  pub none_between : (t : ℕ) → t < tasks → flat_map (told_by t) (drop from effects) ≡ flat_map (told_by t) (drop next.0 effects)

-- none of them does
abbrev pub NoneIn : ℕ → List Effect → ℕ → Type 0
NoneIn tasks effects from = (t : ℕ) → t < tasks → flat_map (told_by t) (drop from effects) ≡ []

-- The effect at this place tells this task, which is one of them.
pub record IsTold (tasks : ℕ) (entries : List Entry) (place : Place) (task : ℕ) : Type 0 where
  pub entry : Entry
  pub effect : Effect
  pub entry_there : slice_get entries place.entry ≡ Some entry
  pub effect_there : slice_get entry.effects place.effects ≡ Some effect
  pub tells : addressee tasks effect ≡ Some task

-- for each of the tasks the same waits from both places on
abbrev pub WaitsAlike : ℕ → List Entry → Place → Place → Type 0
WaitsAlike tasks entries from to = (t : ℕ) → t < tasks → waiting t entries from ≡ waiting t entries to

-- for none of them anything waits
abbrev pub NoneWaits : ℕ → List Entry → Place → Type 0
NoneWaits tasks entries place = (t : ℕ) → t < tasks → waiting t entries place ≡ []

-- one effect further
abbrev pub behind : Place → Place
behind place = record place { effects = place.effects + 1 }

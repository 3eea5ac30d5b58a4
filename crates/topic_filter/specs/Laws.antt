-- Laws of the definitions, each the contract of a function that does nothing.
use Rattle.std.specs.Prelude.{◌≡◌, ℕ, ◌↔◌, List, ◌++◌, ◌⊎◌, IsTrue, false, Contains, codes}
use Rattle.topic_filter.specs.Levels.{hash}
use Rattle.topic_filter.specs.Texts.{is_name, is_filter}
use Rattle.topic_filter.specs.Fitting.{Fits, fits, begins_dollar}

-- The matcher over the lists of levels answers exactly the relation.
abbrev pub MatcherIsExact : Type 0
MatcherIsExact = (filter name : List ℕ) → IsTrue (fits filter name) ↔ Fits filter name

-- Each name is a filter.
abbrev pub NamesAreFilters : Type 0
NamesAreFilters = (name : List ℕ) → IsTrue (is_name name) → IsTrue (is_filter name)

-- A filter without wildcards, which is then a name, fits itself alone.
abbrev pub PlainFitsItself : Type 0
PlainFitsItself = (filter name : List ℕ) → IsTrue (is_name filter) → Fits filter name ↔ (name ≡ filter)

-- `#` fits exactly the names that don't begin with `$`.
abbrev pub HashFitsAll : Type 0
HashFitsAll = (name : List ℕ) → Fits hash name ↔ (begins_dollar name ≡ false)

-- a name some levels below one that the filter fits
abbrev pub FitsAbove : List ℕ → List ℕ → Type 0
FitsAbove filter name = (parent below : List ℕ) × (name ≡ parent ++ codes "/" ++ below) × Fits filter parent

-- `a/#` fits what `a` fits and every level below it.
abbrev pub HashFitsBelow : Type 0
HashFitsBelow = (filter name : List ℕ) → (Contains filter 35 → ⊥) → Fits (filter ++ codes "/#") name ↔ (Fits filter name ⊎ FitsAbove filter name)

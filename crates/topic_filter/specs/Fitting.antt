-- Which names a filter fits (OASIS MQTT 3.1.1, section 4.7).
use Rattle.std.specs.Prelude.{◌≡◌, ℕ, Bool, true, false, ◌&&◌, ◌||◌, not, ◌==◌, List, [], ◌∷◌, ◌⊎◌}
use Rattle.std.specs.Str.{bytes_eq}
use Rattle.topic_filter.specs.Levels.{levels_of, plus, hash}

-- `+` stands for one level, whatever it holds (section 4.7.1.3). Any other level stands for itself.
abbrev pub FitsLevel : List ℕ → List ℕ → Type 0
FitsLevel wanted level = (wanted ≡ plus) ⊎ (wanted ≡ level)

-- `#` in the last place stands for all levels that are left, also for none: `a/#` fits `a` (section 4.7.1.2).
abbrev pub IsRest : List ℕ → List (List ℕ) → Type 0
IsRest wanted filter = (wanted ≡ hash) × (filter ≡ [])

-- The levels of a filter fit those of a name: both end together, or `#` stands for what is left, or the first level
-- fits and so do the others.
abbrev pub FitsLevels : List (List ℕ) → List (List ℕ) → Type 0
FitsLevels [] [] = Unit {0}
FitsLevels [] (level ∷ name) = ⊥
FitsLevels (wanted ∷ filter) [] = IsRest wanted filter
FitsLevels (wanted ∷ filter) (level ∷ name) = IsRest wanted filter ⊎ (FitsLevel wanted level × FitsLevels filter name)

abbrev pub begins_with : ℕ → List ℕ → Bool
begins_with b [] = false
begins_with b (c ∷ text) = c == b

-- a filter that begins with `+` or `#`
abbrev pub begins_wild : List ℕ → Bool
begins_wild filter = begins_with 43 filter || begins_with 35 filter

-- a name of those that servers keep for purposes of their own
abbrev pub begins_dollar : List ℕ → Bool
begins_dollar name = begins_with 36 name

-- A filter fits a name, each given by its bytes: their levels do, and a filter that begins with a wildcard fits no
-- name that begins with `$` (section 4.7.2).
pub record Fits (filter name : List ℕ) : Type 0 where
  pub levels : FitsLevels (levels_of filter) (levels_of name)
  pub dollar : begins_wild filter ≡ true → begins_dollar name ≡ false

-- The same as a test that goes through both lists of levels. That it answers exactly `Fits` is a law.
abbrev pub fits_level : List ℕ → List ℕ → Bool
fits_level wanted level = bytes_eq wanted plus || bytes_eq wanted level

abbrev pub is_end : List (List ℕ) → Bool
is_end [] = true
is_end (level ∷ levels) = false

abbrev pub is_rest : List ℕ → List (List ℕ) → Bool
is_rest wanted filter = bytes_eq wanted hash && is_end filter

abbrev pub fits_levels : List (List ℕ) → List (List ℕ) → Bool
fits_levels [] [] = true
fits_levels [] (level ∷ name) = false
fits_levels (wanted ∷ filter) [] = is_rest wanted filter
fits_levels (wanted ∷ filter) (level ∷ name) = is_rest wanted filter || (fits_level wanted level && fits_levels filter name)

unfoldable pub fits : List ℕ → List ℕ → Bool
fits filter name = fits_levels (levels_of filter) (levels_of name) && not (begins_wild filter && begins_dollar name)

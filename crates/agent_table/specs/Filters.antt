-- Topic filters as lists, sets and in order.
use Rattle.std.specs.Prelude.{ℕ, Bool, true, false, ◌==◌, nat_lt, List, [], ◌∷◌, if◌then◌else◌}
use Rattle.std.specs.List.{list_any}
use Rattle.std.specs.Str.{bytes_eq}

abbrev pub is_one_of : List (List ℕ) → List ℕ → Bool
is_one_of filters filter = list_any (λ other. bytes_eq other filter) filters

-- in the order of their bytes, a front before what it is a front of
abbrev pub comes_before : List ℕ → List ℕ → Bool
comes_before [] [] = false
comes_before [] (c ∷ other) = true
comes_before (b ∷ bytes) [] = false
comes_before (b ∷ bytes) (c ∷ other) = if b == c then comes_before bytes other else nat_lt b c

-- a filter into increasing ones, where it isn't among them
abbrev pub sorted_with : List (List ℕ) → List ℕ → List (List ℕ)
sorted_with [] filter = filter ∷ []
sorted_with (other ∷ filters) filter =
    if bytes_eq other filter then other ∷ filters else if comes_before filter other then filter ∷ other ∷ filters else other ∷ sorted_with filters filter

-- each filter once, in increasing order
abbrev pub sorted : List (List ℕ) → List (List ℕ)
sorted [] = []
sorted (filter ∷ filters) = sorted_with (sorted filters) filter

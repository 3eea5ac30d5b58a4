-- The parts of a topic, taken off from its front.
use Rattle.std.specs.Prelude.{ℕ, List, [], ◌∷◌, Option, Some, None, if◌then◌else◌, ◌==◌}

-- what stands behind this front, where the text begins with it
unfoldable pub behind : List ℕ → List ℕ → Option (List ℕ)
behind [] text = Some text
behind (b ∷ front) [] = None
behind (b ∷ front) (c ∷ text) = if b == c then behind front text else None

abbrev pub onto_level : ℕ → List ℕ × Option (List ℕ) → List ℕ × Option (List ℕ)
onto_level b (level, below) = (b ∷ level, below)

-- the first level, and what stands behind its `/` where there is one
unfoldable pub first_level : List ℕ → List ℕ × Option (List ℕ)
first_level [] = ([], None)
first_level (b ∷ text) = if b == 47 then ([], Some text) else onto_level b (first_level text)

-- The words of a line, which are parted by one space.
use Rattle.std.specs.Prelude.{ℕ, Option, Some, None, List, [], ◌∷◌, if◌then◌else◌, ◌==◌}

abbrev pub onto_front : ℕ → List ℕ × Option (List ℕ) → List ℕ × Option (List ℕ)
onto_front b cut = (b ∷ cut.0, cut.1)

-- what stands before the first mark, and what behind it, where there is one
unfoldable pub cut : ℕ → List ℕ → List ℕ × Option (List ℕ)
cut mark [] = ([], None)
cut mark (b ∷ bytes) = if b == mark then ([], Some bytes) else onto_front b (cut mark bytes)

abbrev pub followed : List ℕ × Option (List ℕ) → Option (List ℕ × List ℕ)
followed (word, None) = None
followed (word, Some rest) = Some (word, rest)

abbrev pub alone : List ℕ × Option (List ℕ) → Option (List ℕ)
alone (word, None) = Some word
alone (word, Some rest) = None

-- the first word and the words behind it, where there are some
unfoldable pub word_at : List ℕ → Option (List ℕ × List ℕ)
word_at line = followed (cut 32 line)

-- the last word, where it is the only one left
unfoldable pub last_at : List ℕ → Option (List ℕ)
last_at line = alone (cut 32 line)

-- What a tape has to give.
use Rattle.std.specs.Prelude.{◌≡◌, ℕ, ◌<◌, List, [], ◌∷◌, ◌++◌, slice_index_or, if◌then◌else◌}
use Rattle.std.specs.List.{AllByRecursion}
use Rattle.broker_tape.specs.declared.tape.Item.{Item}
use Rattle.broker_tape.specs.Playing.{begins, bytes_of, is_opening}

-- each number that it gives is a byte
abbrev pub IsOfBytes : Item → Type 0
IsOfBytes item = (i : ℕ) → slice_index_or (bytes_of item) i 0 < 256

abbrev pub GivesBytes : List Item → Type 0
GivesBytes items = AllByRecursion IsOfBytes items

-- the bytes of these items up to the next opening
abbrev pub bytes_in : List Item → List ℕ
bytes_in [] = []
bytes_in (item ∷ rest) = if is_opening item then [] else bytes_of item ++ bytes_in rest

-- what each connection of a tape has to give
abbrev pub wires : List Item → List (List ℕ)
wires [] = []
wires (item ∷ rest) = if begins item then bytes_in rest ∷ wires rest else wires rest

abbrev pub IsFront : List ℕ → List ℕ → Type 0
IsFront front bytes = (rest : List ℕ) × (bytes ≡ front ++ rest)

-- each of these is a front of what stands in its place there
abbrev pub AreFronts : List (List ℕ) → List (List ℕ) → Type 0
AreFronts [] others = Unit {0}
AreFronts (front ∷ fronts) [] = ⊥
AreFronts (front ∷ fronts) (bytes ∷ others) = IsFront front bytes × AreFronts fronts others

-- Items by their keys.
use Rattle.std.specs.Prelude.{◌≡◌, ◌≢◌, ℕ, ◌%◌, Bool, true, false, not, ◌==◌, List, Option, Some, None, filter}
use Rattle.std.specs.List.{AllPairs}
use Rattle.ordered_cells.specs.Cells.{content}

-- whether the item has the key n
abbrev pub has_key : {X : Type 0} → (X → ℕ) → ℕ → X → Bool
has_key key n item = key item == n

-- the items of all other keys, in their order
abbrev pub others : {X : Type 0} → (X → ℕ) → ℕ → List X → List X
others key n xs = filter (λ item. not (has_key key n item)) xs

-- whether an item of the key n is there
abbrev pub is_of : {X : Type 0} → (X → ℕ) → ℕ → Option X → Bool
is_of key n None = false
is_of key n (Some item) = has_key key n item

-- whether what is in cell c isn't at home: in the cell of its key, of so many cells
abbrev pub strays_at : {X : Type 0} → (X → ℕ) → ℕ → ℕ → Option X → Bool
strays_at key cells c None = false
strays_at key cells c (Some item) = not (key item % cells == c)

-- no two items have one key
abbrev pub Differ : {X : Type 0} → (X → ℕ) → List X → Type 0
Differ key xs = AllPairs (λ one other. key one ≢ key other) xs

-- No two cells hold one key, and these are the cells of the order that aren't home.
pub record AreKeyed {X : Type 0} (key : X → ℕ) (n : ℕ) (cells : List (Option X)) (order away : List ℕ) : Type 0 where
  pub unique : (c d k : ℕ) → is_of key k (content cells c) ≡ true → is_of key k (content cells d) ≡ true → c ≡ d
  pub strays : away ≡ filter (λ c. strays_at key n c (content cells c)) order

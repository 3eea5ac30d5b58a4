-- One list is the other in another order.
use Rattle.std.specs.Prelude.{◌≡◌, ℕ, List}
use Rattle.std.specs.List.{sum_by}

-- Whatever weight each element has, both weigh the same. So each element stands in one as often as in the other.
abbrev pub IsReordered : {X : Type 0} → List X → List X → Type 0
IsReordered {X} xs ys = (weight : X → ℕ) → sum_by weight xs ≡ sum_by weight ys

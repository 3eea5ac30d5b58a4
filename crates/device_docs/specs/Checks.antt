-- Which fault a document has: the first of a list that applies.
use Rattle.std.specs.Prelude.{Bool, List, [], ◌∷◌, Option, Some, None, option_and_then, if◌then◌else◌}

-- this fault where the part isn't there
abbrev pub absent : {A F : Type 0} → F → Option A → Option F
absent fault None = Some fault
absent fault (Some x) = None

-- this fault where the part is there and doesn't pass
abbrev pub outside : {A F : Type 0} → F → (A → Bool) → Option A → Option F
outside fault test None = None
outside fault test (Some x) = if test x then None else Some fault

-- the first that applies
abbrev pub first : {F : Type 0} → List (Option F) → Option F
first [] = None
first (None ∷ others) = first others
first (Some fault ∷ others) = Some fault

-- ---- Parts that are all there

abbrev pub join : {A : Type 0} → Option (Option A) → Option A
join o = option_and_then (λ x. x) o

infixl 10 ◌>>=◌
abbrev pub ◌>>=◌ : {A B : Type 0} → Option A → (A → Option B) → Option B
None >>= next = None
(Some x) >>= next = next x

-- Items in cells, and the order of the cells that are used.
use Rattle.std.specs.Prelude.{◌≡◌, ◌≤◌, ◌<◌, ◌*◌, ℕ, Bool, true, not, ◌&&◌, ◌==◌, List, [], ◌∷◌, length, get_or, Option, None, filter, option_to_list, is_some}
use denote.Ref.{Bor}
use Rattle.std.specs.List.{list_any, list_all, flat_map, count_by}
use Rattle.ordered_cells.specs.Words.{flag}

-- what is in cell c, and `None` past the cells
abbrev pub content : {X : Type 0} → List (Option X) → ℕ → Option X
content cells c = get_or cells c None

-- the items of these cells, in this order
abbrev pub items : {X : Type 0} → List (Option X) → List ℕ → List X
items cells order = flat_map (λ c. option_to_list (content cells c)) order

abbrev pub is_used : {X : Type 0} → List (Option X) → ℕ → Bool
is_used cells c = is_some (content cells c)

abbrev pub is_among : List ℕ → ℕ → Bool
is_among ns n = list_any (λ m. m == n) ns

-- the others, in their order
abbrev pub without : ℕ → List ℕ → List ℕ
without n ns = filter (λ m. not (m == n)) ns

-- whether no number stands twice
abbrev pub each_once : List ℕ → Bool
each_once [] = true
each_once (n ∷ ns) = not (is_among ns n) && each_once ns

-- The closure says of each item what p says.
abbrev pub Tests : {F X : Type 0} → (F → Bor X → Bool → Type 0) → F → (X → Bool) → Type 0
Tests Says f p = (x : Bor _) (answer : Bool) → Says f x answer → answer ≡ p x.now

-- The closure answers p.
abbrev pub Answers : {F X : Type 0} → (F → X → Option X → Type 0) → F → (X → Option X) → Type 0
Answers Gives f p = (x : _) (answer : Option _) → Gives f x answer → answer ≡ p x

-- There are n cells; the flags say which are used; and these are the cells of the order, each once.
pub record AreSlots {X : Type 0} (n : ℕ) (cells : List (Option X)) (words order : List ℕ) : Type 0 where
  pub some_cell : 0 < n
  pub few : n ≤ 65536
  pub all_cells : length cells ≡ n
  pub room : n ≤ 64 * length words
  pub few_words : length words ≤ 1024
  pub flags : (c : ℕ) → flag words c ≡ is_used cells c
  pub used : list_all (λ c. is_used cells c) order ≡ true
  pub ordered : (c : ℕ) → is_used cells c ≡ true → is_among order c ≡ true
  pub once : each_once order ≡ true
  pub count : count_by is_some cells ≡ length order

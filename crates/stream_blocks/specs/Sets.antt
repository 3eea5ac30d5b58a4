-- Which blocks are missing, kept as words of 64 bits: block i is missing where bit i mod 64 of word i div 64 is 1.
use Rattle.std.specs.Prelude.{◌≡◌, ℕ, zero, suc, ◌*◌, ◌/◌, ◌%◌, ◌^◌, ◌<◌, ◌≤◌, Bool, true, false, ◌==◌, List, [], ◌∷◌, length, get_or, Option, Some, None, if◌then◌else◌}
use Rattle.std.specs.List.{count_by, flat_map}

-- the lowest k bits of a word, the lowest first
abbrev pub bits : ℕ → ℕ → List Bool
bits zero word = []
bits (suc k) word = (word % 2 == 1) ∷ bits k (word / 2)

-- all bits of the words
abbrev pub all_bits : List ℕ → List Bool
all_bits words = flat_map (bits 64) words

-- how many blocks are missing
abbrev pub count : List Bool → ℕ
count flags = count_by (λ is_missing. is_missing) flags

-- the least block from `at` on that is missing
abbrev pub first_from : ℕ → List Bool → Option ℕ
first_from at [] = None
first_from at (is_missing ∷ flags) = if is_missing then Some at else first_from (suc at) flags

abbrev pub first : List Bool → Option ℕ
first flags = first_from 0 flags

-- The flag is set, and none before it.
abbrev pub IsFirst : ℕ → List Bool → Type 0
IsFirst i flags = (get_or flags i false ≡ true) × ((j : ℕ) → j < i → get_or flags j false ≡ false)

-- No flag is set.
abbrev pub HasNone : List Bool → Type 0
HasNone flags = (j : ℕ) → get_or flags j false ≡ false

-- Words have room for so many blocks, and no other bit is set.
abbrev pub IsKept : ℕ → List ℕ → Type 0
IsKept blocks words = (0 < blocks) × (blocks ≤ 64 * length words) × (blocks < 2 ^ 32) × ((i : ℕ) → blocks ≤ i → get_or (all_bits words) i false ≡ false)

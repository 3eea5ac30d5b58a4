-- The bytes of an image: those of a linear congruential generator modulo 2 ^ 64 (Knuth's MMIX), the high byte of each state.
use Rattle.std.specs.Prelude.{ℕ, zero, suc, ◌+◌, ◌*◌, ◌/◌, ◌%◌, ◌^◌, List, [], ◌∷◌}

-- the state behind a state
unfoldable pub next : ℕ → ℕ
next x = (6364136223846793005 * x + 1442695040888963407) % 2 ^ 64

-- the state so many steps behind the seed
unfoldable pub state : ℕ → ℕ → ℕ
state seed zero = seed
state seed (suc i) = next (state seed i)

-- byte i of the image of a seed
unfoldable pub byte : ℕ → ℕ → ℕ
byte seed i = state seed (suc i) / 2 ^ 56

-- n bytes of it from byte i on
unfoldable pub bytes : ℕ → ℕ → ℕ → List ℕ
bytes seed i zero = []
bytes seed i (suc n) = byte seed i ∷ bytes seed (suc i) n

-- an image of so many bytes
abbrev pub image : ℕ → ℕ → List ℕ
image seed size = bytes seed 0 size

-- An image in blocks: each has the block size, and the last one the rest.
use Rattle.std.specs.Prelude.{ℕ, zero, suc, ◌-◌, ◌*◌, ◌==◌, List, [], ◌∷◌, ◌++◌, length, min, Option, Some, None, if◌then◌else◌}
use Rattle.std.specs.Int.{div_ceil}

-- how many blocks an image of so many bytes has
abbrev pub blocks_in : ℕ → ℕ → ℕ
blocks_in size block = div_ceil size block

-- how many bytes block i has
abbrev pub len_of : ℕ → ℕ → ℕ → ℕ
len_of size block i = min block (size - i * block)

-- the payload of the first block of an index
abbrev pub first_payload : ℕ → List (ℕ × List ℕ) → Option (List ℕ)
first_payload i [] = None
first_payload i (b ∷ bs) = if b.0 == i then Some b.1 else first_payload i bs

-- a payload of the right length before the rest
abbrev pub before : ℕ → Option (List ℕ) → Option (List ℕ) → Option (List ℕ)
before len None rest = None
before len (Some payload) None = None
before len (Some payload) (Some rest) = if length payload == len then Some (payload ++ rest) else None

-- the next k blocks from index i on, joined
abbrev pub joined : List (ℕ × List ℕ) → ℕ → ℕ → ℕ → ℕ → Option (List ℕ)
joined bs size block i zero = Some []
joined bs size block i (suc k) = before (len_of size block i) (first_payload i bs) (joined bs size block (suc i) k)

-- The image of a list of blocks: the join, in order of index, of the first payload of each index. It is there only where
-- each block of the image stands in the list with its length.
abbrev pub image : List (ℕ × List ℕ) → ℕ → ℕ → Option (List ℕ)
image bs size block = joined bs size block 0 (blocks_in size block)

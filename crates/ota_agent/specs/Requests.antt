-- The request for the blocks that are missing, over a list of flags: whether each block is missing.
use Rattle.std.specs.Prelude.{ℕ, ◌+◌, ◌/◌, Bool, List, take, drop}
use Rattle.std.specs.List.{flat_map}
use Rattle.stream_blocks.specs.Sets.{bits}

-- the flags that a request can name, from its offset on
abbrev pub window : ℕ → List Bool → List Bool
window offset flags = take 256 (drop offset flags)

-- how many bytes have room for so many flags
abbrev pub bytes_for : ℕ → ℕ
bytes_for count = (count + 7) / 8

-- the flags of a bitmap: bit j mod 8, lowest first, of byte j div 8 is flag j
abbrev pub map_flags : List ℕ → List Bool
map_flags map = flat_map (bits 8) map

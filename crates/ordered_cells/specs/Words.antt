-- Flags that are the bits of words of 64 bits.
use Rattle.std.specs.Prelude.{ℕ, ◌/◌, ◌%◌, Bool, ◌==◌, List, get_or}
use Rattle.std.specs.Int.{bit_at}

-- flag i is bit i mod 64 of word i div 64; there are none past the words
abbrev pub flag : List ℕ → ℕ → Bool
flag words i = bit_at (get_or words (i / 64) 0) (i % 64) == 1

-- The one text that is written for a data message and for a request: shortest heads and definite lengths (RFC 8949,
-- sections 3 and 4.2.1), the keys in a fixed order.
use Rattle.std.specs.Prelude.{ℕ, ◌+◌, ◌*◌, List, [], ◌∷◌, ◌++◌, length, nat_lt, if◌then◌else◌, codes}
use Rattle.std.specs.Int.{to_be_bytes, w8, w16, w32, w64}
use Rattle.stream_blocks.specs.Grammar.{unsigned, byte_string, text_string, map}

-- the head of an item: its major type in the high three bits, and the argument in the shortest form (section 3)
unfoldable pub head : ℕ → ℕ → List ℕ
head major n =
    if nat_lt n 24 then (32 * major + n) ∷ []
    else if nat_lt n 256 then (32 * major + 24) ∷ to_be_bytes w8 n
    else if nat_lt n 65536 then (32 * major + 25) ∷ to_be_bytes w16 n
    else if nat_lt n 4294967296 then (32 * major + 26) ∷ to_be_bytes w32 n
    else (32 * major + 27) ∷ to_be_bytes w64 n

abbrev pub number : ℕ → List ℕ
number n = head unsigned n

abbrev pub bytes : List ℕ → List ℕ
bytes content = head byte_string (length content) ++ content

abbrev pub text : List ℕ → List ℕ
text content = head text_string (length content) ++ content

-- a key of one letter and a number
abbrev pub number_of : ℕ → ℕ → List ℕ
number_of letter n = text (letter ∷ []) ++ number n

abbrev pub bytes_of : ℕ → List ℕ → List ℕ
bytes_of letter content = text (letter ∷ []) ++ bytes content

-- a data message up to its payload: `f` the file, `i` the index, `l` the payload's length, and the head of `p`
abbrev pub block_front : ℕ → ℕ → ℕ → List ℕ
block_front file index len =
    head map 4 ++ (number_of 102 file ++ (number_of 105 index ++ (number_of 108 len ++ (text (112 ∷ []) ++ head byte_string len))))

-- a data message
abbrev pub block : ℕ → ℕ → List ℕ → List ℕ
block file index payload = block_front file index (length payload) ++ payload

-- a request: `c` the client token, `f` the file, `l` the block size, `o` the offset, `b` the bitmap, `n` the number of blocks
abbrev pub request : ℕ → ℕ → ℕ → ℕ → List ℕ → List ℕ
request file size offset count bitmap =
    head map 6
    ++ (text (codes "c") ++ text (codes "fetch")
    ++ (number_of 102 file ++ (number_of 108 size ++ (number_of 111 offset ++ (bytes_of 98 bitmap ++ number_of 110 count)))))

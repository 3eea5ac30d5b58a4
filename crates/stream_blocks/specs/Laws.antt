-- Laws of the definitions, each the contract of a function that does nothing.
use Rattle.std.specs.Prelude.{◌≡◌, ◌↔◌, ℕ, ◌<◌, ◌≤◌, ◌^◌, List, ◌++◌, length, Some, Ok}
use Rattle.stream_blocks.specs.Grammar.{AreBytes, IsHead, IsString, IsValue, IsBlock, IsRequest}
use Rattle.stream_blocks.specs.Spelling.{block, request}
use Rattle.stream_blocks.specs.Reading.{head_at, string_end, content_of, value_end, block_of, request_of}

-- A data message that is written is read back, where its payload has room.
abbrev pub BlocksAreReadBack : Type 0
BlocksAreReadBack =
    (file index room : ℕ) (payload : List ℕ) → file < 2 ^ 32 → index < 2 ^ 32 → length payload < 2 ^ 64 → length payload ≤ room
    → block_of room (block file index payload) ≡ Ok (file, index, payload)

-- A request that is written is read back.
abbrev pub RequestsAreReadBack : Type 0
RequestsAreReadBack =
    (file size offset count : ℕ) (bitmap : List ℕ) → file < 2 ^ 32 → size < 2 ^ 32 → offset < 2 ^ 32 → count < 2 ^ 32 → length bitmap ≤ 32
    → request_of (request file size offset count bitmap) ≡ Ok (file, size, offset, count, bitmap)

-- A head of the grammar is read as its argument, whatever stands behind it.
abbrev pub HeadsAreRead : Type 0
HeadsAreRead = (major n : ℕ) (bytes rest : List ℕ) → IsHead major bytes n → head_at major (bytes ++ rest) ≡ Some (n, rest)

-- A string of the grammar is read to its end, and a byte string as what it holds, whatever stands behind it.
abbrev pub StringsAreRead : Type 0
StringsAreRead =
    (major : ℕ) (bytes content rest : List ℕ) → major < 7 → IsString major bytes content
    → (string_end major (bytes ++ rest) ≡ Ok rest) × (major ≡ 2 → content_of (bytes ++ rest) ≡ content)

-- A value of the grammar is passed as a whole.
abbrev pub ValuesAreRead : Type 0
ValuesAreRead = (bytes rest : List ℕ) → IsValue bytes → value_end (bytes ++ rest) ≡ Ok rest

-- Bytes are the data message of this block exactly where they read as it, in a buffer that has room for the payload.
abbrev pub BlocksAreRead : Type 0
BlocksAreRead =
    (room file index : ℕ) (message payload : List ℕ) → AreBytes message
    → (block_of room message ≡ Ok (file, index, payload)) ↔ (IsBlock message file index payload × (length payload ≤ room))

-- Bytes are the request with these fields exactly where they read as it, and the fields are in their ranges.
abbrev pub RequestsAreRead : Type 0
RequestsAreRead =
    (file size offset count : ℕ) (message bitmap : List ℕ) → AreBytes message
    → (request_of message ≡ Ok (file, size, offset, count, bitmap))
    ↔ (IsRequest message file size offset count bitmap × (file < 2 ^ 32) × (size < 2 ^ 32) × (offset < 2 ^ 32) × (count < 2 ^ 32) × (length bitmap ≤ 32))

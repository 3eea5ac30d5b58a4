-- Payloads as one word: `-` where it is empty, else pairs of hexadecimal digits. They are written in
-- lower case and read in both.
use Rattle.std.specs.Prelude.{ℕ, Option, Some, None, List, [], ◌∷◌, if◌then◌else◌, Result, Ok, Err}
use Rattle.std.specs.Str.{bytes_eq}
use Rattle.hex.specs.Hex.{decode_of, encode_lower}
use Rattle.hex.specs.declared.FromHexError.{FromHexError}

-- how a payload is written
abbrev pub payload_text : List ℕ → List ℕ
payload_text [] = 45 ∷ []
payload_text (b ∷ bytes) = encode_lower (b ∷ bytes)

abbrev pub decoded : Result (List ℕ) FromHexError → Option (List ℕ)
decoded (Ok bytes) = Some bytes
decoded (Err e) = None

abbrev pub pairs_of : List ℕ → Option (List ℕ)
pairs_of [] = None
pairs_of (b ∷ word) = decoded (decode_of (b ∷ word))

-- the bytes that a word stands for
unfoldable pub payload_of : List ℕ → Option (List ℕ)
payload_of word = if bytes_eq word (45 ∷ []) then Some [] else pairs_of word

-- Which bytes are a data message or a request: the part of CBOR (RFC 8949) that is read, as relations between bytes and
-- what they say. They tell nothing of how bytes are read.
use Rattle.std.specs.Prelude.{◌≡◌, ◌⊎◌, ℕ, ◌+◌, ◌*◌, ◌^◌, ◌<◌, List, [], ◌∷◌, ◌++◌, length, get_or, if◌then◌else◌, codes, IsUtf8}
use Rattle.std.specs.Int.{to_be_bytes, Width, w8, w16, w32, w64}
use Rattle.std.specs.Str.{bytes_eq}

-- each is one byte
abbrev pub AreBytes : List ℕ → Type 0
AreBytes bytes = (i : ℕ) → get_or bytes i 0 < 256

-- ---- Heads (section 3)

-- the major types (section 3.1)
abbrev pub unsigned : ℕ
unsigned = 0

abbrev pub negative : ℕ
negative = 1

abbrev pub byte_string : ℕ
byte_string = 2

abbrev pub text_string : ℕ
text_string = 3

abbrev pub map : ℕ
map = 5

-- an argument in the bytes behind the first one
abbrev pub IsWide : ℕ → ℕ → Width → ℕ → List ℕ → ℕ → Type 0
IsWide major info w size bytes n = (n < 256 ^ size) × (bytes ≡ (32 * major + info) ∷ to_be_bytes w n)

-- A head: the major type in the high three bits of its first byte, and its argument in the low five or in 1, 2, 4 or 8
-- bytes behind. An argument needn't have its shortest form.
abbrev pub IsHead : ℕ → List ℕ → ℕ → Type 0
IsHead major bytes n =
    ((n < 24) × (bytes ≡ (32 * major + n) ∷ []))
    ⊎ (IsWide major 24 w8 1 bytes n
    ⊎ (IsWide major 25 w16 2 bytes n
    ⊎ (IsWide major 26 w32 4 bytes n
    ⊎ IsWide major 27 w64 8 bytes n)))

-- ---- Strings (sections 3.1 and 3.2.3)

-- text is UTF-8, each chunk by itself
abbrev pub IsContent : ℕ → List ℕ → Type 0
IsContent major content = (major ≡ text_string) → IsUtf8 content

-- a string of definite length
abbrev pub IsPiece : ℕ → List ℕ → List ℕ → Type 0
IsPiece major bytes content = (head : List ℕ) × (bytes ≡ head ++ content) × IsHead major head (length content) × IsContent major content

-- chunks of definite length, and what they hold
abbrev pub AreChunks : ℕ → List (List ℕ) → List ℕ → List ℕ → Type 0
AreChunks major [] bytes content = (bytes ≡ []) × (content ≡ [])
AreChunks major (chunk ∷ chunks) bytes content =
    (piece behind others : List ℕ) × (bytes ≡ chunk ++ behind) × (content ≡ piece ++ others) × IsPiece major chunk piece × AreChunks major chunks behind others

-- a string of indefinite length: its chunks, and a break
abbrev pub IsChunked : ℕ → List ℕ → List ℕ → Type 0
IsChunked major bytes content =
    (chunks : List (List ℕ)) × (inside : List ℕ) × (bytes ≡ (32 * major + 31) ∷ (inside ++ 255 ∷ [])) × AreChunks major chunks inside content

abbrev pub IsString : ℕ → List ℕ → List ℕ → Type 0
IsString major bytes content = IsPiece major bytes content ⊎ IsChunked major bytes content

-- ---- Values and maps

abbrev pub IsUnsigned : List ℕ → ℕ → Type 0
IsUnsigned bytes n = IsHead unsigned bytes n

abbrev pub IsNegative : List ℕ → Type 0
IsNegative bytes = (n : ℕ) × IsHead negative bytes n

abbrev pub IsBytes : List ℕ → List ℕ → Type 0
IsBytes bytes content = IsString byte_string bytes content

abbrev pub IsText : List ℕ → List ℕ → Type 0
IsText bytes content = IsString text_string bytes content

-- false, true and null (section 3.3)
abbrev pub IsSimple : List ℕ → Type 0
IsSimple bytes = (bytes ≡ 244 ∷ []) ⊎ ((bytes ≡ 245 ∷ []) ⊎ (bytes ≡ 246 ∷ []))

-- what may stand behind a key
abbrev pub IsValue : List ℕ → Type 0
IsValue bytes =
    ((n : ℕ) × IsUnsigned bytes n)
    ⊎ (IsNegative bytes
    ⊎ (((content : List ℕ) × IsBytes bytes content)
    ⊎ (((content : List ℕ) × IsText bytes content)
    ⊎ IsSimple bytes)))

-- A key, and the bytes of its value.
pub record Member : Type 0 where
  pub key : List ℕ
  pub value : List ℕ

-- keys, each a text of definite length, and their values, to the end of the bytes
abbrev pub AreMembers : List Member → List ℕ → Type 0
AreMembers [] bytes = bytes ≡ []
AreMembers (m ∷ members) bytes =
    (name behind : List ℕ) × (bytes ≡ name ++ (m.value ++ behind)) × IsPiece text_string name m.key × IsValue m.value × AreMembers members behind

-- a map: its length and the members, or the members and a break
abbrev pub IsMap : List Member → List ℕ → Type 0
IsMap members bytes =
    ((head inside : List ℕ) × (bytes ≡ head ++ inside) × IsHead map head (length members) × AreMembers members inside)
    ⊎ ((inside : List ℕ) × (bytes ≡ 191 ∷ (inside ++ 255 ∷ [])) × AreMembers members inside)

-- the values of a key
abbrev pub values : List ℕ → List Member → List (List ℕ)
values key [] = []
values key (m ∷ members) = if bytes_eq m.key key then m.value ∷ values key members else values key members

-- the key stands once, and its value is so
abbrev pub HasOne : List ℕ → List Member → (List ℕ → Type 0) → Type 0
HasOne key members Is = (value : List ℕ) × (values key members ≡ value ∷ []) × Is value

-- the key may stand once, and then its value is so
abbrev pub MayHaveOne : List ℕ → List Member → (List ℕ → Type 0) → Type 0
MayHaveOne key members Is = (values key members ≡ []) ⊎ HasOne key members Is

-- ---- Messages

-- A data message: file, index, size and payload. What `l` says of the size isn't used.
abbrev pub IsBlock : List ℕ → ℕ → ℕ → List ℕ → Type 0
IsBlock message file index payload =
    (members : List Member) × IsMap members message
    × HasOne (codes "f") members (λ value. IsUnsigned value file)
    × HasOne (codes "i") members (λ value. IsUnsigned value index)
    × HasOne (codes "l") members (λ value. (size : ℕ) × IsUnsigned value size)
    × HasOne (codes "p") members (λ value. IsBytes value payload)

-- A request: file, block size, offset, bitmap and number of blocks, and maybe a client token.
abbrev pub IsRequest : List ℕ → ℕ → ℕ → ℕ → ℕ → List ℕ → Type 0
IsRequest message file size offset count bitmap =
    (members : List Member) × IsMap members message
    × HasOne (codes "f") members (λ value. IsUnsigned value file)
    × HasOne (codes "l") members (λ value. IsUnsigned value size)
    × HasOne (codes "o") members (λ value. IsUnsigned value offset)
    × HasOne (codes "n") members (λ value. IsUnsigned value count)
    × HasOne (codes "b") members (λ value. IsBytes value bitmap)
    × MayHaveOne (codes "c") members (λ value. (token : List ℕ) × IsText value token)

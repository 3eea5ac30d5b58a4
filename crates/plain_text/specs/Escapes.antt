-- Texts as one word: each byte outside 21 to 7E hexadecimal, and each `%`, is written as `%` and
-- two upper-case hexadecimal digits. The reader takes any such pair.
use Rattle.std.specs.Prelude.{ℕ, ◌+◌, ◌-◌, ◌*◌, ◌/◌, ◌%◌, Bool, Option, Some, None, List, [], ◌∷◌, ◌&&◌, not, if◌then◌else◌, ◌==◌, nat_lt, nat_le}
use Rattle.std.specs.List.{flat_map}
use Rattle.std.specs.Str.{is_utf8}

-- a byte that stands for itself
abbrev pub is_plain : ℕ → Bool
is_plain b = nat_le 33 b && nat_le b 126 && not (b == 37)

-- 0 to 9, A to F
abbrev pub digit_of : ℕ → ℕ
digit_of n = if nat_lt n 10 then 48 + n else 55 + n

abbrev pub escaped_byte : ℕ → List ℕ
escaped_byte b = if is_plain b then b ∷ [] else 37 ∷ digit_of (b / 16) ∷ digit_of (b % 16) ∷ []

-- how a text is written
abbrev pub escaped : List ℕ → List ℕ
escaped bytes = flat_map escaped_byte bytes

-- what a digit stands for, where it is one
abbrev pub value_of : ℕ → Option ℕ
value_of b = if nat_le 48 b && nat_le b 57 then Some (b - 48) else if nat_le 65 b && nat_le b 70 then Some (b - 55) else None

abbrev pub onto : ℕ → Option (List ℕ) → Option (List ℕ)
onto b None = None
onto b (Some bytes) = Some (b ∷ bytes)

-- What stands before the byte that is read next: nothing that is still open, a `%`, or a `%` and its first digit.
pub data Before : Type 0 where
  Nothing : Before
  Percent : Before
  Digit : ℕ → Before

-- behind a `%` and this digit
abbrev pub behind_digit : ℕ → Option ℕ → Option (List ℕ) → Option (List ℕ)
behind_digit high None rest = None
behind_digit high (Some low) rest = onto (16 * high + low) rest

abbrev pub behind_percent : Option ℕ → (ℕ → Option (List ℕ)) → Option (List ℕ)
behind_percent None rest = None
behind_percent (Some high) rest = rest high

-- the bytes that a word stands for
unfoldable pub bytes_in : Before → List ℕ → Option (List ℕ)
bytes_in Nothing [] = Some []
bytes_in Percent [] = None
bytes_in (Digit high) [] = None
bytes_in Nothing (b ∷ word) = if b == 37 then bytes_in Percent word else if is_plain b then onto b (bytes_in Nothing word) else None
bytes_in Percent (b ∷ word) = behind_percent (value_of b) (λ high. bytes_in (Digit high) word)
bytes_in (Digit high) (b ∷ word) = behind_digit high (value_of b) (bytes_in Nothing word)

abbrev pub bytes_of : List ℕ → Option (List ℕ)
bytes_of word = bytes_in Nothing word

abbrev pub in_utf8 : Option (List ℕ) → Option (List ℕ)
in_utf8 None = None
in_utf8 (Some bytes) = if is_utf8 bytes then Some bytes else None

-- the text that a word stands for: its bytes, where they are UTF-8
unfoldable pub text_of : List ℕ → Option (List ℕ)
text_of word = in_utf8 (bytes_of word)

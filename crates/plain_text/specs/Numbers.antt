-- Numbers in decimal digits, without a sign and without leading zeros.
use Rattle.std.specs.Prelude.{ℕ, ◌+◌, ◌-◌, ◌*◌, Bool, true, false, ◌&&◌, not, ◌==◌, nat_le, List, [], ◌∷◌, Option, Some, None, if◌then◌else◌}
use Rattle.std.specs.List.{list_all}

abbrev pub is_digit : ℕ → Bool
is_digit b = nat_le 48 b && nat_le b 57

-- One digit, or several of which the first isn't 0.
abbrev pub is_number : List ℕ → Bool
is_number [] = false
is_number (b ∷ []) = is_digit b
is_number (b ∷ c ∷ word) = not (b == 48) && list_all is_digit (b ∷ c ∷ word)

-- the number that these digits are, behind those of n
abbrev pub value_in : ℕ → List ℕ → ℕ
value_in n [] = n
value_in n (b ∷ word) = value_in (10 * n + (b - 48)) word

-- the number from `least` to `most` that a word spells
unfoldable pub number_in : ℕ → ℕ → List ℕ → Option ℕ
number_in least most word = if is_number word && nat_le least (value_in 0 word) && nat_le (value_in 0 word) most then Some (value_in 0 word) else None

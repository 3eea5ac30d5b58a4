-- The classes of names that stand in topics.
use Rattle.std.specs.Prelude.{ℕ, Bool, ◌&&◌, ◌||◌, ◌==◌, nat_le, List, length}
use Rattle.std.specs.Char.{is_ascii_alphanumeric}
use Rattle.std.specs.List.{list_all}

-- `[a-zA-Z0-9_-]`
abbrev pub is_plain_byte : ℕ → Bool
is_plain_byte b = is_ascii_alphanumeric b || b == 95 || b == 45

-- `[a-zA-Z0-9:_-]`
abbrev pub is_name_byte : ℕ → Bool
is_name_byte b = is_plain_byte b || b == 58

abbrev pub has_length : ℕ → List ℕ → Bool
has_length most text = nat_le 1 (length text) && nat_le (length text) most

unfoldable pub is_thing : List ℕ → Bool
is_thing text = has_length 128 text && list_all is_name_byte text

unfoldable pub is_shadow_name : List ℕ → Bool
is_shadow_name text = has_length 64 text && list_all is_name_byte text

unfoldable pub is_job : List ℕ → Bool
is_job text = has_length 64 text && list_all is_plain_byte text

unfoldable pub is_stream : List ℕ → Bool
is_stream text = has_length 128 text && list_all is_plain_byte text

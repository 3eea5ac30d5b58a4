-- Which texts are topic names, and which are topic filters (OASIS MQTT 3.1.1, section 4.7).
use Rattle.std.specs.Prelude.{ℕ, Bool, true, ◌&&◌, ◌||◌, not, ◌==◌, nat_le, List, [], ◌∷◌, length}
use Rattle.std.specs.List.{list_all}
use Rattle.std.specs.Str.{bytes_eq}
use Rattle.topic_filter.specs.Levels.{levels_of, plus, hash}

-- 1 to 65,535 bytes (section 4.7.3)
abbrev pub has_length : List ℕ → Bool
has_length text = nat_le 1 (length text) && nat_le (length text) 65535

-- A byte that may stand in a name: not U+0000 (section 4.7.3), and neither `+` nor `#` (section 4.7.1).
abbrev pub is_name_byte : ℕ → Bool
is_name_byte b = not (b == 0) && not (b == 43) && not (b == 35)

unfoldable pub is_name : List ℕ → Bool
is_name text = has_length text && list_all is_name_byte text

-- A level of a filter is one that a name may have, or `+` alone (section 4.7.1.3).
abbrev pub is_filter_level : List ℕ → Bool
is_filter_level level = bytes_eq level plus || list_all is_name_byte level

-- The last level may also be `#` alone (section 4.7.1.2).
abbrev pub is_last_level : List ℕ → Bool
is_last_level level = bytes_eq level hash || is_filter_level level

abbrev pub are_filter_levels : List (List ℕ) → Bool
are_filter_levels [] = true
are_filter_levels (level ∷ []) = is_last_level level
are_filter_levels (level ∷ below ∷ levels) = is_filter_level level && are_filter_levels (below ∷ levels)

unfoldable pub is_filter : List ℕ → Bool
is_filter text = has_length text && are_filter_levels (levels_of text)

-- The levels of a topic name or filter: the parts between `/` (OASIS MQTT 3.1.1, section 4.7.1.1). A level may be
-- empty, and a text without `/` has one level. Texts are lists of bytes; in UTF-8 no other character has a byte `/`.
use Rattle.std.specs.Prelude.{ℕ, List, ◌==◌, codes}
use Rattle.std.specs.List.{slice_split}

abbrev pub levels_of : List ℕ → List (List ℕ)
levels_of text = slice_split (λ b. b == 47) text

-- The wildcards, each a whole level: `+` for one level, `#` for all that are left.
abbrev pub plus : List ℕ
plus = codes "+"

abbrev pub hash : List ℕ
hash = codes "#"

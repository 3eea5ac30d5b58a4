-- What a shadow's document is behind a list of changes.
use Rattle.std.specs.Prelude.{ℕ, nat_lt, Bool, not, List, [], Option, Some, None, option_map, filter, find, insert, fold, if◌then◌else◌}
use Rattle.std.specs.Cmp.Lexicographic.{slice_cmp}
use Rattle.std.specs.List.{position_or_len}
use Rattle.std.specs.Ordering.{nat_cmp, is_lt}
use Rattle.std.specs.Str.{bytes_eq}
use Rattle.device_docs.specs.declared.changes.Change.{Change}
use Rattle.device_docs.specs.declared.changes.Scalar.{Scalar}

-- a key, by its bytes, and its value
abbrev pub Entry : Type 0
Entry = List ℕ × Scalar

-- A version, and the keys with their values in the order of the keys' bytes.
pub record Doc : Type 0 where
  pub version : ℕ
  pub entries : List Entry

abbrev pub blank : Doc
blank = record { version = 0; entries = [] }

-- ---- The value of a key

abbrev pub has_key : List ℕ → Entry → Bool
has_key key entry = bytes_eq entry.0 key

abbrev pub value_in : List Entry → List ℕ → Option Scalar
value_in entries key = option_map (λ (entry : Entry). entry.1) (find (has_key key) entries)

abbrev pub value_of : Doc → List ℕ → Option Scalar
value_of d key = value_in d.entries key

-- ---- What a change makes of a document

-- the order of the keys' bytes
abbrev pub is_before : List ℕ → Entry → Bool
is_before key entry = is_lt (slice_cmp nat_cmp key entry.0)

abbrev pub without : List ℕ → List Entry → List Entry
without key entries = filter (λ (entry : Entry). not (has_key key entry)) entries

-- before the first key that comes behind it, or at the end
abbrev pub placed : List ℕ → Scalar → List Entry → List Entry
placed key value entries = insert entries (position_or_len (is_before key) entries) (key, value)

-- a key with `None` is removed
abbrev pub set_one : List Entry → List ℕ × Option Scalar → List Entry
set_one entries (key, None) = without key entries
set_one entries (key, Some value) = placed key value (without key entries)

abbrev pub set_all : List Entry → List (List ℕ × Option Scalar) → List Entry
set_all entries sets = fold set_one entries sets

-- A change whose version isn't above the document's is passed over.
abbrev pub changed : Doc → Change → Doc
changed d c = if nat_lt d.version c.version then record { version = c.version; entries = set_all d.entries c.sets } else d

-- The document of a list of changes.
abbrev pub doc : List Change → Doc
doc changes = fold changed blank changes

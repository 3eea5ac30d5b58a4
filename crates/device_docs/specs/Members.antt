-- What the documents ask of JSON (RFC 8259): the value of a text, and members of an object by key and kind.
use Rattle.std.specs.Prelude.{ℕ, List, Option, Some, None, option_map, option_and_then, if◌then◌else◌}
use Rattle.std.specs.Str.{is_utf8}
use Rattle.serde_json.specs.Data.{Num, unsigned, negative, float, Data, object}
use Rattle.serde_json.specs.Read.{read}
use Rattle.serde_json.specs.Find.{get, as_object, as_number, as_u64}
use Rattle.device_docs.specs.declared.keys.Key.{Key}
use Rattle.device_docs.specs.Keys.{key_text}

-- The value of a text in UTF-8. `read` takes arrays and objects that nest at most 127 deep, and keeps of the members
-- of one key the last.
unfoldable pub value_of : List ℕ → Option Data
value_of text = if is_utf8 text then read text else None

-- ---- Kinds

-- an object
abbrev pub object_of : Data → Option Data
object_of d = option_map object (as_object d)

-- a whole number that isn't negative: without fraction and exponent, and below 2^64
abbrev pub natural_of : Data → Option ℕ
natural_of d = option_and_then as_u64 (as_number d)

-- a whole number, without fraction and exponent, from -2^63 to 2^64 - 1; `None` stands for a negative one
abbrev pub whole : Num → Option (Option ℕ)
whole (unsigned n) = Some (Some n)
whole (negative z) = Some None
whole (float x) = None

abbrev pub whole_of : Data → Option (Option ℕ)
whole_of d = option_and_then whole (as_number d)

-- ---- Members

-- the member of this key, where it is there and of this kind
abbrev pub at : {A : Type 0} → (Data → Option A) → Key → Data → Option A
at kind key d = option_and_then kind (get (key_text key) d)

-- the same of an object that may not be there
abbrev pub within : {A : Type 0} → Option Data → (Data → Option A) → Key → Option A
within o kind key = option_and_then (at kind key) o

-- the object that a text is
abbrev pub document_of : List ℕ → Option Data
document_of text = option_and_then object_of (value_of text)

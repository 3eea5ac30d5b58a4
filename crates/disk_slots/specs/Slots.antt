-- A file of a gate and two slots. Byte 0 is the gate, which names the slot that counts. The first slot stands at 1, and the
-- second one behind it. A slot is a text with its length before it.
use Rattle.std.specs.Prelude.{◌≡◌, ◌⊎◌, ℕ, ◌+◌, ◌*◌, ◌%◌, ◌==◌, ◌≤◌, nat_le, List, ◌++◌, length, take, drop, slice_index, Option, Some, None, if◌then◌else◌}
use Rattle.std.specs.Int.{w32, to_be_bytes, from_be_bytes}
use Rattle.disk_slots.specs.declared.slot.Slot.{Slot}
use Rattle.disk_slots.specs.declared.slot.Slot.TheVariants.{First, Second}

-- how long a file is whose slots have n bytes
abbrev pub file_len : ℕ → ℕ
file_len n = 1 + 2 * n

-- ---- The gate

-- the gate that names a slot
abbrev pub gate_of : Slot → ℕ
gate_of First = 0
gate_of Second = 1

-- the slot that a gate names, by its lowest bit: each byte names one
abbrev pub named : ℕ → Slot
named gate = if gate % 2 == 0 then First else Second

abbrev pub named_in : List ℕ → Slot
named_in image = named (slice_index image 0)

abbrev pub other : Slot → Slot
other First = Second
other Second = First

-- ---- The slots

-- where a slot of n bytes begins
abbrev pub start : ℕ → Slot → ℕ
start n First = 1
start n Second = 1 + n

abbrev pub bytes_of : ℕ → Slot → List ℕ → List ℕ
bytes_of n slot image = take n (drop (start n slot) image)

-- a text with its length before it
abbrev pub framed : List ℕ → List ℕ
framed text = to_be_bytes w32 (length text) ++ text

abbrev pub text_with : ℕ → ℕ → List ℕ → Option (List ℕ)
text_with n len bytes = if nat_le (4 + len) n then Some (take len (drop 4 bytes)) else None

-- the text in the n bytes of a slot, where the length before it is one that fits
abbrev pub text_in : ℕ → List ℕ → Option (List ℕ)
text_in n bytes = text_with n (from_be_bytes w32 (take 4 bytes)) bytes

-- the text in the slot that counts
abbrev pub counting : ℕ → List ℕ → Option (List ℕ)
counting n image = text_in n (bytes_of n (named_in image) image)

-- ---- What a crash may leave

-- Each image counts as this text.
abbrev pub Holds : ℕ → List ℕ → (List ℕ → Type 0) → Type 0
Holds n text images = (image : List ℕ) → images image → counting n image ≡ Some text

-- Each image counts as the one text or as the other.
abbrev pub HoldsOneOf : ℕ → List ℕ → List ℕ → (List ℕ → Type 0) → Type 0
HoldsOneOf n old new images = (image : List ℕ) → images image → (counting n image ≡ Some old) ⊎ (counting n image ≡ Some new)

-- The text stands in this slot.
abbrev pub HasText : ℕ → Slot → List ℕ → List ℕ → Type 0
HasText n slot text image = text_in n (bytes_of n slot image) ≡ Some text

-- The gate names this slot, and the text stands in it.
abbrev pub Counts : ℕ → Slot → List ℕ → List ℕ → Type 0
Counts n slot text image = (named_in image ≡ slot) × HasText n slot text image

abbrev pub AllCount : ℕ → Slot → List ℕ → (List ℕ → Type 0) → Type 0
AllCount n slot text images = (image : List ℕ) → images image → Counts n slot text image

-- ---- The frame that is written into a slot

abbrev pub framed_text : List ℕ → List ℕ
framed_text frame = drop 4 frame

-- A text with its length before it, which fits a slot.
pub record IsFramed (n : ℕ) (frame : List ℕ) : Type 0 where
  pub fits : length frame ≤ n
  pub is : frame ≡ framed (framed_text frame)

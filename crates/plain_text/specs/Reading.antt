-- What a reader's answer says of the reading that a definition gives.
use Rattle.std.specs.Prelude.{◌≡◌, Option, Some, None, Result, Ok, Err}
use Rattle.plain_text.specs.declared.refusal.Refusal.{Refusal}
use Rattle.plain_text.specs.declared.refusal.Refusal.TheVariants as refusals

-- Seen by view, the answer is the reading, and Bad exactly where there is none. Want of memory says nothing.
abbrev pub Gives : {X Y : Type 0} → (X → Y) → Result X Refusal → Option Y → Type 0
Gives view (Ok x) read = read ≡ Some (view x)
Gives view (Err refusals.Bad) read = read ≡ None
Gives view (Err refusals.NoMemory) read = Unit {0}

-- what a reading leads to, where there is one
infixl 10 ◌>>=◌
abbrev pub ◌>>=◌ : {A B : Type 0} → Option A → (A → Option B) → Option B
None >>= next = None
(Some x) >>= next = next x

-- A bank keeps one image and may have a new one besides, which is written, tested, and then accepted or rejected.
use Rattle.std.specs.Prelude.{◌≡◌, ℕ, ◌+◌, ◌≤◌, Bool, true, false, List, length, replicate, Option, Some, None, Result, Ok, Err}
use Rattle.std.specs.Option.{option_map}
use Rattle.std.specs.List.{splice}
use Rattle.agent_link.specs.declared.fault.Fault.{Fault}

-- What is always told of the new image.
pub record Shape : Type 0 where
  pub size : ℕ
  -- its digest was right, and it waits to be accepted or rejected
  pub testing : Bool

-- What a bank that tells its contents tells.
pub record Contents : Type 0 where
  -- the bytes of the image that is kept, where there is one
  pub kept : Option (List ℕ)
  -- the bytes of the new image, where there is one
  pub fresh : Option (List ℕ)

abbrev pub size_of : Option Shape → Option ℕ
size_of shape = option_map (λ s. s.size) shape

abbrev pub is_testing : Option Shape → Bool
is_testing None = false
is_testing (Some s) = s.testing

-- The range is inside the new image, and there is one.
abbrev pub IsInside : ℕ → ℕ → Option Shape → Type 0
IsInside at len None = ⊥
IsInside at len (Some s) = at + len ≤ s.size

-- Shape and contents tell of one image.
abbrev pub Agree : Option Shape → Option Contents → Type 0
Agree shape None = Unit {0}
Agree shape (Some c) = size_of shape ≡ option_map length c.fresh

abbrev pub fresh_of : Option Contents → Option (List ℕ)
fresh_of None = None
fresh_of (Some c) = c.fresh

abbrev pub with_fresh : Option (List ℕ) → Contents → Contents
with_fresh fresh c = record c { fresh = fresh }

abbrev pub accepted_in : Contents → Contents
accepted_in c = record { kept = c.fresh; fresh = None }

-- these bytes at a place of the new image
abbrev pub written_in : ℕ → List ℕ → Contents → Contents
written_in at bytes c = with_fresh (option_map (λ old. splice old at (at + length bytes) bytes) c.fresh) c

abbrev pub tested : Shape → Shape
tested s = record s { testing = true }

-- ---- What the calls do, where they succeed. A fault leaves the bank as it was, but in a write.

abbrev pub after_create : Result (Unit {0}) Fault → ℕ → Option Shape → Option Shape
after_create (Ok _) size shape = Some (record { size = size; testing = false })
after_create (Err _) size shape = shape

abbrev pub created : Result (Unit {0}) Fault → ℕ → Option Contents → Option Contents
created (Ok _) size told = option_map (with_fresh (Some (replicate size 0))) told
created (Err _) size told = told

-- the contents with these bytes at a place of the new image
abbrev pub written : ℕ → List ℕ → Option Contents → Option Contents
written at bytes told = option_map (written_in at bytes) told

-- After a fault the range may hold any bytes.
abbrev pub Written : Result (Unit {0}) Fault → ℕ → List ℕ → Option Contents → Option Contents → Type 0
Written (Ok _) at bytes old new = new ≡ written at bytes old
Written (Err _) at bytes old new = (any : List ℕ) × (length any ≡ length bytes) × (new ≡ written at any old)

abbrev pub after_activate : Result (Unit {0}) Fault → Option Shape → Option Shape
after_activate (Ok _) shape = option_map tested shape
after_activate (Err _) shape = shape

-- behind `accept`, `reject` or `abort` there is no new image
abbrev pub after_end : Result (Unit {0}) Fault → Option Shape → Option Shape
after_end (Ok _) shape = None
after_end (Err _) shape = shape

abbrev pub accepted : Result (Unit {0}) Fault → Option Contents → Option Contents
accepted (Ok _) told = option_map accepted_in told
accepted (Err _) told = told

abbrev pub dropped : Result (Unit {0}) Fault → Option Contents → Option Contents
dropped (Ok _) told = option_map (with_fresh None) told
dropped (Err _) told = told

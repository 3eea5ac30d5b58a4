-- What a text leaves in a sink: all of it, or a front of it where a write failed.
use Rattle.std.specs.Prelude.{ℕ, ◌≤◌, List, length, take, Option, Result, Ok, Err}
use Rattle.std.specs.Io.KnownBytes.{Appends}
use Rattle.agent_link.specs.declared.fault.Fault.{Fault}

-- known bytes grow by a front of these
abbrev pub AppendsFront : Option (List ℕ) → Option (List ℕ) → List ℕ → Type 0
AppendsFront old new bytes = (k : ℕ) × (k ≤ length bytes) × Appends old new (take k bytes)

abbrev pub Writes : Option (List ℕ) → Option (List ℕ) → Result (Unit {0}) Fault → List ℕ → Type 0
Writes old new (Ok _) bytes = Appends old new bytes
Writes old new (Err _) bytes = AppendsFront old new bytes

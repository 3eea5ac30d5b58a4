-- What an answer says of the script that the definition gives.
use Rattle.std.specs.Prelude.{◌≡◌, ℕ, Result, Ok, Err}
use Rattle.thing_script.specs.declared.faults.LineFault.{LineFault}
use Rattle.thing_script.specs.declared.faults.LineFault.TheVariants as faults

-- The answer is the value, and Line exactly where that line has none. Want of memory says nothing.
abbrev pub Tells : {X : Type 0} → Result X LineFault → Result X ℕ → Type 0
Tells (Ok x) read = read ≡ Ok x
Tells (Err (faults.Line number)) read = read ≡ Err number
Tells (Err faults.NoMemory) read = Unit {0}

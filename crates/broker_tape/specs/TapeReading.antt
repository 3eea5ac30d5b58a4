-- What a reader's answer says of the tape that the definition reads.
use Rattle.std.specs.Prelude.{◌≡◌, ℕ, ◌≤◌, List, Result, Ok, Err}
use Rattle.broker_tape.specs.declared.tape.Item.{Item}
use Rattle.broker_tape.specs.declared.tape.TapeFault.{TapeFault}
use Rattle.broker_tape.specs.declared.tape.TapeFault.TheVariants as faults

-- The answer is the reading, and Line exactly where it is a bad line. Want of memory says nothing.
abbrev pub Tells : Result (List Item) TapeFault → Result (List Item) ℕ → Type 0
Tells (Ok tape) read = read ≡ Ok tape
Tells (Err (faults.Line n)) read = read ≡ Err n
Tells (Err faults.NoMemory) read = Unit {0}

-- The number of a bad line is at most n.
abbrev pub IsLineWithin : ℕ → Result (List Item) TapeFault → Type 0
IsLineWithin n (Ok tape) = Unit {0}
IsLineWithin n (Err (faults.Line line)) = line ≤ n
IsLineWithin n (Err faults.NoMemory) = Unit {0}

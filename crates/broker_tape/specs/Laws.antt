-- Laws of the definitions, each the contract of a function that does nothing.
use Rattle.std.specs.Prelude.{◌≡◌, ℕ, List, Ok}
use Rattle.broker_tape.specs.declared.tape.Item.{Item}
use Rattle.broker_tape.specs.Given.{GivesBytes}
use Rattle.broker_tape.specs.Tape.{tape_in}

-- A tape, as lines spell it, gives bytes.
abbrev pub ReadTapesGiveBytes : Type 0
ReadTapesGiveBytes = (lines : List (List ℕ)) (items : List Item) → tape_in lines ≡ Ok items → GivesBytes items

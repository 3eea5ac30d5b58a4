-- How a run of the whole table ends: by the entry behind which the phase was Off for the first time.
use Rattle.std.specs.Prelude.{List, [], ◌∷◌, Option, None}
use Rattle.agent_journal.specs.declared.entry.Entry.{Entry}
use Rattle.agent_journal.specs.declared.ending.Ending.{Ending}
use Rattle.agent_journal.specs.declared.setup.Setup.{Setup}
use Rattle.agent_journal.specs.Endings.{ending_behind}
use Rattle.agent_table.specs.Histories.{phase_of}
use Rattle.agent_table.specs.Sizes.{Sizes}

abbrev pub ending_of : Setup → Sizes → List Entry → Option Ending
ending_of s l [] = None
ending_of s l (entry ∷ past) = ending_behind (phase_of s l past) (phase_of s l (entry ∷ past)) entry.cause (ending_of s l past)

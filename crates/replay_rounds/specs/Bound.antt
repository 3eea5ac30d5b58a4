-- How many rounds a replay takes at most: what is left of its tape and its script, and the openings that may still fail.
use Rattle.std.specs.Prelude.{ℕ, ◌+◌, ◌-◌, ◌*◌, Bool, true, false, List, [], ◌∷◌, length, Option, Some, None}
use Rattle.broker_tape.specs.declared.tape.Item.{Item}
use Rattle.broker_tape.specs.declared.tape.Item.TheVariants as items
use Rattle.agent_journal.specs.declared.setup.Phase.{Phase}
use Rattle.agent_journal.specs.declared.setup.Phase.TheVariants.{Down, Opening, Up, Spilled, Off}
use Rattle.agent_journal.specs.Readings.{has_left, breaks_of}
use Rattle.agent_table.specs.Sessions.{ping_of}
use Rattle.replay_rounds.specs.World.{World, phase_in}
use Rattle.replay_rounds.specs.Rounds.{after}

-- how many receives an item takes at most
abbrev pub weight : Item → ℕ
weight (items.Hear bytes) = 1 + length bytes
weight (items.Quiet count) = 1 + count
weight _ = 1

abbrev pub weights : List Item → ℕ
weights [] = 0
weights (item ∷ rest) = weight item + weights rest

-- a PINGREQ may still be sent for want of others
abbrev pub ping_weight : Option ℕ → ℕ
ping_weight None = 1
ping_weight (Some time) = 0

-- the rounds that this connection, or the openings that may still fail, take besides
abbrev pub phase_weight : ℕ → ℕ → Option ℕ → Phase → ℕ
phase_weight reopen breaks ping Down = 2 + (reopen + 1 - breaks)
phase_weight reopen breaks ping Opening = 5 + reopen
phase_weight reopen breaks ping Up = 4 + reopen + ping_weight ping
phase_weight reopen breaks ping Spilled = 4 + reopen
phase_weight reopen breaks ping Off = 0

abbrev pub leave_weight : Bool → ℕ
leave_weight false = 1
leave_weight true = 0

abbrev pub bound : World → ℕ
bound w =
    (6 + w.setup.reopen) * weights w.items + phase_weight w.setup.reopen (breaks_of w.past) (ping_of w.past) (phase_in w) + length w.lines
    + leave_weight (has_left 0 w.past)

-- A replay that has gone through its rounds.
abbrev pub finished : World → World
finished w = after (bound w) w

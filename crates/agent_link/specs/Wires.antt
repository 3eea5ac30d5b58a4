-- The bytes of each connection of a link, the present connection last.
use Rattle.std.specs.Prelude.{◌≡◌, ℕ, ◌<◌, ◌≤◌, List, [], ◌∷◌, ◌++◌, length, take, Option, Result, Ok, Err}
use Rattle.std.specs.Option.{option_map}
use Rattle.agent_link.specs.Counts.{raised}
use Rattle.agent_link.specs.declared.fault.Fault.{Fault}
use Rattle.agent_link.specs.declared.link.Heard.{Heard}
use Rattle.agent_link.specs.declared.link.Heard.TheVariants as heard

-- these behind those of the present connection
abbrev pub onto_last : {X : Type 0} → List (List X) → List X → List (List X)
onto_last [] more = []
onto_last (wire ∷ []) more = (wire ++ more) ∷ []
onto_last (wire ∷ next ∷ wires) more = wire ∷ onto_last (next ∷ wires) more

-- An opening that succeeded begins the next connection.
abbrev pub after_open : Option (List (List ℕ)) → Result (Unit {0}) Fault → Option (List (List ℕ))
after_open wires (Ok _) = option_map (λ ws. ws ++ [] ∷ []) wires
after_open wires (Err _) = wires

-- A send moves the front that it took.
abbrev pub after_send : Option (List (List ℕ)) → Result ℕ Fault → List ℕ → Option (List (List ℕ))
after_send wires (Ok n) bytes = option_map (λ ws. onto_last ws (take n bytes)) wires
after_send wires (Err _) bytes = wires

-- A receive moves the bytes that it gave, which stand in the front of the buffer.
abbrev pub after_recv : Option (List (List ℕ)) → Result Heard Fault → List ℕ → Option (List (List ℕ))
after_recv wires (Ok (heard.Bytes n)) buffer = option_map (λ ws. onto_last ws (take n buffer)) wires
after_recv wires (Ok heard.Nothing) buffer = wires
after_recv wires (Ok heard.End) buffer = wires
after_recv wires (Err _) buffer = wires

-- the counts behind a receive: of ends, one more where it found the end, and of receives that heard nothing
abbrev pub ended : Result Heard Fault → ℕ → ℕ
ended (Ok heard.End) count = raised count
ended _ count = count

abbrev pub silent : Result Heard Fault → ℕ → ℕ
silent (Ok heard.Nothing) count = raised count
silent _ count = count

abbrev pub GivesSome : ℕ → List ℕ → Type 0
GivesSome n buffer = (0 < n) × (n ≤ length buffer)

-- A receive gives between one byte and as many as the buffer has room for.
abbrev pub FitsIn : Result Heard Fault → List ℕ → Type 0
FitsIn (Ok (heard.Bytes n)) buffer = GivesSome n buffer
FitsIn (Ok heard.Nothing) buffer = Unit {0}
FitsIn (Ok heard.End) buffer = Unit {0}
FitsIn (Err _) buffer = Unit {0}

-- The bytes that came stand in the front of the buffer, and are a front of these.
abbrev pub IsFrontOf : Heard → List ℕ → List ℕ → Type 0
IsFrontOf (heard.Bytes n) buffer bytes = take n buffer ≡ take n bytes
IsFrontOf heard.Nothing buffer bytes = Unit {0}
IsFrontOf heard.End buffer bytes = Unit {0}

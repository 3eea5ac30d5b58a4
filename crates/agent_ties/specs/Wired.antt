-- What each connection took, between two entries.
use Rattle.std.specs.Prelude.{◌≡◌, ℕ, List, [], ◌∷◌}
use Rattle.agent_journal.specs.declared.entry.Entry.{Entry}
use Rattle.agent_journal.specs.declared.setup.Phase.{Phase}
use Rattle.agent_journal.specs.declared.setup.Phase.TheVariants.{Down, Opening, Up, Spilled, Off}
use Rattle.agent_journal.specs.Wires.{connections, sent, Wired}
use Rattle.agent_ties.specs.Seen.{Seen, phase_seen}

-- Each connection is tied to its bytes, and the last one in another way.
abbrev pub TiedBut : {X : Type 0} → (List X → List ℕ → Type 0) → (List X → List ℕ → Type 0) → List (List X) → List (List ℕ) → Type 0
TiedBut Tie Last [] [] = Unit {0}
TiedBut Tie Last [] (w ∷ ws) = ⊥
TiedBut Tie Last (x ∷ xs) [] = ⊥
TiedBut Tie Last (x ∷ []) (w ∷ []) = Last x w
TiedBut Tie Last (x ∷ []) (w ∷ v ∷ ws) = ⊥
TiedBut Tie Last (x ∷ y ∷ xs) (w ∷ []) = ⊥
TiedBut Tie Last (x ∷ y ∷ xs) (w ∷ v ∷ ws) = Tie x w × TiedBut Tie Last (y ∷ xs) (v ∷ ws)

-- it took all that was sent
abbrev pub Whole : List Entry → List ℕ → Type 0
Whole entries bytes = bytes ≡ sent entries

-- While a connection is there, it took all that was sent.
abbrev pub LastWired : Phase → List Entry → List ℕ → Type 0
LastWired Down = Wired
LastWired Opening = Whole
LastWired Up = Whole
LastWired Spilled = Whole
LastWired Off = Wired

abbrev pub AreWired : Seen → Type 0
AreWired v = TiedBut Wired (LastWired (phase_seen v)) (connections v.past) v.taken

-- Packet identifiers (MQTT 3.1.1, section 2.3.1).
use Rattle.std.specs.Prelude.{ℕ, zero, suc, ◌+◌, ◌==◌, List, [], ◌∷◌, length, if◌then◌else◌}
use Rattle.agent_journal.specs.declared.entry.Entry.{Entry}
use Rattle.agent_table.specs.Deliveries.{is_among}
use Rattle.agent_table.specs.Sends.{drawn_in}

abbrev pub last_or : ℕ → List ℕ → ℕ
last_or other [] = other
last_or other (n ∷ ns) = last_or n ns

-- the identifier that was drawn last, 0 where none was
abbrev pub last_drawn_of : List Entry → ℕ
last_drawn_of [] = 0
last_drawn_of (e ∷ past) = last_or (last_drawn_of past) (drawn_in e.effects)

-- the one behind, cyclically in 1 to 65,535
abbrev pub behind : ℕ → ℕ
behind n = if n == 65535 then 1 else n + 1

-- the first that isn't in use, of k + 1 from n on
abbrev pub first_free : ℕ → ℕ → List ℕ → ℕ
first_free zero n used = n
first_free (suc k) n used = if is_among used n then first_free k (behind n) used else n

-- The first behind the last one drawn that isn't in use. At most as many are passed over as are in use.
unfoldable pub fresh : ℕ → List ℕ → ℕ
fresh last used = first_free (length used) (behind last) used

-- Laws of ties, each the contract of a function that does nothing.
use Rattle.std.specs.Prelude.{◌≡◌, ℕ, ◌<◌, false, [], length, take, Some}
use Rattle.agent_journal.specs.declared.entry.Cause.{Cause}
use Rattle.agent_journal.specs.declared.entry.Cause.TheVariants as c
use Rattle.agent_journal.specs.declared.entry.Why.TheVariants as why
use Rattle.agent_journal.specs.declared.setup.Setup.{Setup}
use Rattle.agent_journal.specs.Wires.{connections, is_opened, sent_in, Wired}
use Rattle.agent_table.specs.Rows.{Row}
use Rattle.agent_table.specs.Sizes.{Sizes}
use Rattle.agent_table.specs.Ties.{stages, EachTied, Heard}
use Rattle.agent_ties.specs.Heard.{IsPlain}
use Rattle.agent_ties.specs.Seen.{Seen, row_seen, with_entry, with_bytes, fresh}
use Rattle.agent_ties.specs.Ties.{Ties}

-- An empty journal is tied to no connection.
abbrev pub TiesBegin : Type 0
TiesBegin = (setup : Setup) (sizes : Sizes) → Ties (record { setup = setup; sizes = sizes; past = []; taken = []; given = []; stream = fresh })

-- Ties at a moment are those of each connection.
abbrev pub TiesAreWhole : Type 0
TiesAreWhole = (v : Seen) → Ties v → EachTied Wired (connections v.past) v.taken × EachTied Heard (stages v.setup v.sizes v.past) v.given

-- An entry of no packet and no connection keeps them, where all of its packets were taken.
abbrev pub EntriesKeepTies : Type 0
EntriesKeepTies =
    (now : ℕ) (v : Seen) (cause : Cause) (found : Row) → row_seen v now cause ≡ Some found → is_opened cause ≡ false → IsPlain cause → Ties v
    → Ties (with_bytes (with_entry v now cause found) (sent_in found.effects))

-- So does one of which less was taken, with the entry of the fault behind it.
abbrev pub FaultsKeepTies : Type 0
FaultsKeepTies =
    (now : ℕ) (v : Seen) (cause : Cause) (found : Row) → row_seen v now cause ≡ Some found → is_opened cause ≡ false → IsPlain cause → Ties v
    → (k : ℕ) (second : Row) → k < length (sent_in found.effects) → row_seen (with_entry v now cause found) now (c.Broke why.Fault) ≡ Some second
    → Ties (with_entry (with_bytes (with_entry v now cause found) (take k (sent_in found.effects))) now (c.Broke why.Fault) second)

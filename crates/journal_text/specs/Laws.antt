-- Laws of printed journals.
use Rattle.std.specs.Prelude.{◌≡◌, List, Some}
use Rattle.std.specs.List.{AllByRecursion}
use Rattle.agent_journal.specs.declared.ending.Ending.{Ending}
use Rattle.agent_journal.specs.declared.entry.Entry.{Entry}
use Rattle.agent_journal.specs.declared.setup.Setup.{Setup}
use Rattle.agent_journal.specs.Sound.{IsSoundEntry}
use Rattle.journal_text.specs.Texts.{journal_text}
use Rattle.agent_journal.specs.Worked.{journal}
use Rattle.journal_text.specs.Printed.{text}
use Rattle.agent_table.specs.Histories.{IsLegalPast}
use Rattle.agent_table.specs.Sizes.{Sizes}
use Rattle.agent_table.specs.Endings.{ending_of}
use Rattle.journal_text.specs.Statuses.{ending_told}
use Rattle.journal_text.specs.Typed.{IsTypedEntry}

-- Two journals whose packets have spellings are printed alike only where they are the same, so a text names one journal. The
-- requests needn't be valid.
abbrev pub TextsNameJournals : Type 0
TextsNameJournals =
    (one other : List Entry) → AllByRecursion IsSoundEntry one → AllByRecursion IsSoundEntry other → AllByRecursion IsTypedEntry one → AllByRecursion IsTypedEntry other → journal_text one ≡ journal_text other → one ≡ other

-- So the text of the first example names it.
abbrev pub ExampleIsNamed : Type 0
ExampleIsNamed = (other : List Entry) → AllByRecursion IsSoundEntry other → AllByRecursion IsTypedEntry other → journal_text other ≡ text → other ≡ journal

-- How a legal journal has ended is told by the journal alone.
abbrev pub EndingsAreTold : Type 0
EndingsAreTold = (s : Setup) (l : Sizes) (past : List Entry) (ending : Ending) → IsLegalPast s l past → ending_of s l past ≡ Some ending → ending_told past ≡ Some ending

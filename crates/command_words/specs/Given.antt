-- What a contract sees of words, of options and of a table.
use Rattle.std.specs.Prelude.{ℕ, List, map}
use Rattle.std.specs.Borrow.{Bor}
use Rattle.std.specs.Option.{option_copied}
use Rattle.command_words.specs.declared.given.Given as found
use Rattle.command_words.specs.declared.rows.Row as rows
use Rattle.command_words.specs.Options.{Given}
use Rattle.command_words.specs.Tables.{Row, Table}

abbrev pub texts : List (Bor (List ℕ)) → List (List ℕ)
texts = map (λ word. word.now)

abbrev pub given_of : found.Given → Given
given_of option = (option.name.now, option_copied option.value)

abbrev pub all_given : List found.Given → List Given
all_given = map given_of

abbrev pub row_seen : rows.Row → Row
row_seen row = (row.name.now, row.kind)

abbrev pub rows_seen : List rows.Row → Table
rows_seen = map row_seen

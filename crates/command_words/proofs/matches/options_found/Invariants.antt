-- What was found so far stands in the rows that were gone over.
use Rattle.std.proofs.Common.{◌≡◌, List, true, take}
use Rattle.command_words.specs.Given.{all_given, rows_seen}
use Rattle.command_words.specs.Matches.{HoldEach}
use Rattle.command_words.specs.Options.{Given}
use Rattle.command_words.specs.Tables.{in_rows, is_sound}
use Rattle.command_words.proofs.matches.options_found.Given as goal

abbrev pub invariant-loop-row : goal.invariant-loop-row
invariant-loop-row l = record {
  so_far : (options : List Given) → is_sound (rows_seen l.rows) ≡ true → HoldEach options l.matches (rows_seen l.rows)
      → all_given l.given.items ≡ in_rows options (rows_seen (take l.row-index l.rows));
}
